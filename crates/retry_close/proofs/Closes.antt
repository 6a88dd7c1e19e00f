-- What is accepted, taken and left where all seats are at rest and no step is done any more.
use Rattle.std.proofs.Common.{◌≡◌, ℕ, ◌≤◌, List, IsPermutation, flat_map, length, take, sym, ap, ◌∙◌, subst, arith}
use Rattle.std.proofs.lemmas.List.{length-take-le}
use Rattle.std.proofs.lemmas.List.Concat.{length-flat_map}
use Rattle.std.proofs.lemmas.List.Folds.{flat_map-map}
use Rattle.std.proofs.lemmas.List.Sorted.{IsPermutation-refl, IsPermutation-sym, IsPermutation-trans, length_permutation}
use Rattle.cursor_word.specs.Shape.{Grid}
use Rattle.cursor_word.specs.Cursor.{place_span}
use Rattle.rail.specs.Items.{IsRising, places}
use Rattle.rail.specs.Outcome.{IsAccepted, RetryOutcome}
use Rattle.rail.specs.declared.entry.Placed.{Placed}
use Rattle.rail.proofs.Dense.{dense_take}
use Rattle.rail.proofs.Rising.{rising_range}
use Rattle.machine.specs.declared.view.View.{View}
use Rattle.machine.specs.Table.{Table}
use Rattle.machine.specs.Invariant.{Fact}
use Rattle.put_side.specs.Gathered.{all_made, all_taken}
use Rattle.put_side.specs.Settled.{IsSettled}
use Rattle.machine.specs.Entries.{left_in}
use Rattle.call_steps.specs.Queue.{SeatedWith}
use Rattle.shared_seats.specs.Memory.{Knowledge}
use Rattle.shared_seats.specs.Seats.{StandStill, in_order, made_by_all, taken_by_all, views_of_all}
use Rattle.shared_seats.proofs.Alike.{views_moved}
use Rattle.shared_seats.proofs.Ordered.{ordered}
use Rattle.shared_seats.proofs.Parted.{parted_permuted}
use Rattle.shared_seats.proofs.Stepped.{few_places}
use Rattle.retry_close.specs.Closed.{first_taken}
use Rattle.retry_close.specs.Settles.{Settles}

module _ {P M : Type 0} (t : Table P) (Holds : Fact P) (Knows : Knowledge P M) (settles : Settles Holds) (g : Grid) (words : List ℕ) (seats : List (SeatedWith P M)) (still : StandStill t Holds Knows g words seats) where
  abbrev vs : List (View P)
  vs = still.views

  s : IsSettled g words vs
  s = settles g words vs still.stopped.limits still.stopped.holds still.stopped.rest

  -- what all views made and took, in order of their seats' numbers, is what all seats did
  moved : (f : View P → List Placed) → IsPermutation (flat_map f vs) (flat_map (λ (x : SeatedWith P M). f x.view) seats)
  moved f = subst (IsPermutation (flat_map f vs)) (flat_map-map f (λ (x : SeatedWith P M). x.view) seats) (parted_permuted f vs (views_of_all seats) (views_moved t Holds Knows g words seats still))

  made_moved : IsPermutation (all_made vs) (made_by_all seats)
  made_moved = moved (λ (v : View P). v.made)

  taken_moved : IsPermutation (all_taken vs) (taken_by_all seats)
  taken_moved = moved (λ (v : View P). v.taken)

  made_number : length (made_by_all seats) ≡ length (all_made vs)
  made_number = length_permutation (all_made vs) (made_by_all seats) made_moved

  taken_number : length (taken_by_all seats) ≡ length (all_taken vs)
  taken_number = length_permutation (all_taken vs) (taken_by_all seats) taken_moved

  accepted_by_all : IsAccepted (made_by_all seats) s.accepted
  accepted_by_all = record {
    all_made = IsPermutation-trans (made_by_all seats) (all_made vs) s.accepted (IsPermutation-sym (all_made vs) (made_by_all seats) made_moved) s.is_accepted.all_made;
    no_gap = s.is_accepted.no_gap;
  }

  in_order_is : in_order (made_by_all seats) ≡ s.accepted
  in_order_is = ordered (made_by_all seats) s.accepted accepted_by_all

  -- the number of taken items
  taken_count : length (taken_by_all seats) ≡ s.outcome.count
  taken_count = taken_number ∙ (sym (length_permutation (all_taken vs) (take s.outcome.count s.accepted) s.outcome.first_taken) ∙ length-take-le s.outcome.count s.accepted s.outcome.within)

  made_length : length (made_by_all seats) ≡ length s.accepted
  made_length = sym (length_permutation (made_by_all seats) s.accepted accepted_by_all.all_made)

  first_is : first_taken seats ≡ take s.outcome.count s.accepted
  first_is = ap (λ (n : ℕ). take n (in_order (made_by_all seats))) taken_count ∙ ap (take s.outcome.count) in_order_is

  pub few_made : length (made_by_all seats) ≤ place_span g
  few_made = let few = few_places t g vs still.stopped.all still.stopped.few in let n = made_number in let sum = length-flat_map (λ (v : View P). v.made) vs in omega arith

  pub fewer_taken : length (taken_by_all seats) ≤ length (made_by_all seats)
  fewer_taken = let e = taken_count in let m = made_length in let w = s.outcome.within in omega arith

  pub closed_accepted : IsAccepted (made_by_all seats) (in_order (made_by_all seats))
  closed_accepted = subst (IsAccepted (made_by_all seats)) (sym in_order_is) accepted_by_all

  pub closed_taken : IsPermutation (taken_by_all seats) (first_taken seats)
  closed_taken = subst (IsPermutation (taken_by_all seats)) (sym first_is)
      (IsPermutation-trans (taken_by_all seats) (all_taken vs) (take s.outcome.count s.accepted) (IsPermutation-sym (all_taken vs) (taken_by_all seats) taken_moved) s.outcome.first_taken)

  pub closed_order : IsRising (places (first_taken seats))
  closed_order = subst (λ (items : List Placed). IsRising (places items)) (sym first_is) (subst IsRising (sym (dense_take s.outcome.count s.accepted s.is_accepted.no_gap s.outcome.within)) (rising_range 0 s.outcome.count))

  -- what was read from the words is what is left
  pub closed_retry : (left : List Placed) → left ≡ left_in g words (length (taken_by_all seats)) (length (made_by_all seats)) → RetryOutcome (in_order (made_by_all seats)) (first_taken seats) left
  closed_retry left is = subst (λ (items : List Placed). RetryOutcome items (first_taken seats) left) (sym in_order_is) record {
    count = s.outcome.count;
    within = s.outcome.within;
    first_taken = subst (IsPermutation (first_taken seats)) first_is (IsPermutation-refl (first_taken seats));
    rest_left = is ∙ (ap (λ (n : ℕ). left_in g words n (length (made_by_all seats))) taken_number ∙ (ap (left_in g words (length (all_taken vs))) made_number ∙ s.outcome.rest_left));
  }
