-- What is accepted, taken and left where all seats are at rest and no step is done any more.
use Rattle.std.proofs.Common.{◌≡◌, ℕ, ◌≤◌, List, IsPermutation, Bool, true, length, sym, ap, ◌∙◌, subst, arith}
use Rattle.std.specs.Prelude.{Contains, filter, nat_eq, nat_le, not, ◌==◌, ◌&&◌}
use Rattle.std.specs.List.{All, IsDistinct, list_any}
use Rattle.std.proofs.lemmas.List.Elements.{All-contains}
use Rattle.std.proofs.lemmas.List.Sorted.{Contains-permutation, IsPermutation-sym, length_permutation}
use Rattle.cursor_word.specs.Shape.{Grid}
use Rattle.cursor_word.specs.Cursor.{low, place_span}
use Rattle.rail.specs.Items.{IsRising, places}
use Rattle.rail.specs.Outcome.{DropOutcome, IsAccepted, is_left}
use Rattle.rail.specs.declared.entry.Placed.{Placed}
use Rattle.rail.proofs.Rising.{rising_accepted, rising_distinct, rising_filter}
use Rattle.machine.specs.Invariant.{made_total}
use Rattle.put_side.specs.Gathered.{all_made, all_taken}
use Rattle.call_laws.specs.Left.{unreserved_in}
use Rattle.drop_core.specs.declared.phase.DropPhase.{DropPhase}
use Rattle.drop_core.specs.Types.{View}
use Rattle.drop_core.specs.Gathered.{IsSettled, left_in}
use Rattle.drop_core.specs.Sound.{IsSound}
use Rattle.drop_core.specs.Steps.{table}
use Rattle.drop_core.proofs.Settles.{left_is}
use Rattle.drop_core.proofs.Settles.{settled}
use Rattle.call_steps.specs.Queue.{SeatedWith}
use Rattle.shared_seats.specs.Seats.{HasStopped, in_order, made_by_all, taken_by_all, views_of_all}
use Rattle.shared_seats.proofs.Closes as closes
use Rattle.put_side.specs.Entries.{IsMade}
use Rattle.put_side.proofs.Gathers.{has_in}
use Rattle.std.specs.Prelude.{slice_get}
use Rattle.std.proofs.lemmas.Option.{slice_get-get_or}
use Rattle.std.proofs.Common.{get_or}
use Rattle.block_looks.specs.declared.looks.Looks.{Looks}
use Rattle.block_looks.specs.Looks.{LooksHold}
use Rattle.drop_rail.specs.Looking.{HasSeenAccepted}
use Rattle.drop_rail.specs.Closed.{is_taken, taken_in_order}
use Rattle.drop_rail.proofs.Taken.{any_of, any_same, distinct_same, eq_self, filter_alike, item_in, kept_by, of_filter, only_item, passes}

module _ (g : Grid) (words : List ℕ) (seats : List (SeatedWith DropPhase Looks)) (stopped : HasStopped table IsSound g words (views_of_all seats)) where
  abbrev vs : List View
  vs = views_of_all seats

  s : IsSettled g (record { words = words; views = vs })
  s = settled g (record { words = words; views = vs }) stopped.limits stopped.holds stopped.rest

  abbrev made : List Placed
  made = made_by_all seats

  abbrev taken : List Placed
  taken = taken_by_all seats

  in_order_is : in_order made ≡ s.accepted
  in_order_is = closes.in_order_is seats s.accepted s.is_accepted

  pub few_made : length made ≤ place_span g
  few_made = closes.few_made seats table IsSound g words stopped

  pub closed_accepted : IsAccepted made (in_order made)
  closed_accepted = closes.accepted_in_order seats s.accepted s.is_accepted

  -- the outcome, by the lists of the seats
  outcome : DropOutcome g (in_order made) taken (left_in g words taken (length made))
  outcome =
      let by_taken : DropOutcome g s.accepted taken (left_in g words taken (made_total vs)) = subst (λ (items : List Placed). DropOutcome g s.accepted items (left_in g words items (made_total vs))) (closes.taken_is seats) s.outcome in
      subst (λ (n : ℕ). DropOutcome g (in_order made) taken (left_in g words taken n)) (closes.made_sum seats)
      (subst (λ (items : List Placed). DropOutcome g items taken (left_in g words taken (made_total vs))) (sym in_order_is) by_taken)

  there : (z : Placed) → Contains taken z → Contains (taken_in_order seats) z
  there z c = kept_by (is_taken taken) (in_order made) z (All-contains (Contains (in_order made)) taken z outcome.taken_accepted c) (own_taken taken z c)
    where
      own_taken : (items : List Placed) (z : Placed) → Contains items z → is_taken items z ≡ true
      own_taken items z c = any_of (λ (t : Placed). t.place == z.place) items z c (eq_self z.place)

  back : (z : Placed) → Contains (taken_in_order seats) z → Contains taken z
  back z c =
      let k = of_filter (is_taken taken) (in_order made) z c in
      let t = passes (λ (t : Placed). t.place == z.place) taken k.1 in
      subst (Contains taken) (only_item (in_order made) closed_accepted.no_gap t.0 z (All-contains (Contains (in_order made)) taken t.0 outcome.taken_accepted t.1) k.0 t.2) t.1

  pub closed_order : IsRising (places (taken_in_order seats))
  closed_order = rising_filter (is_taken taken) (in_order made) (rising_accepted made (in_order made) closed_accepted)

  apart : IsDistinct nat_eq (places (taken_in_order seats))
  apart = rising_distinct (places (taken_in_order seats)) closed_order

  pub closed_taken : IsPermutation taken (taken_in_order seats)
  closed_taken = distinct_same taken (taken_in_order seats) outcome.taken_once apart there back

  -- the test that an item is left tells the same by the taken items in order
  left_same : (x : Placed) → is_left g (length (in_order made)) taken x ≡ is_left g (length (in_order made)) (taken_in_order seats) x
  left_same x = ap (λ (b : Bool). nat_le (low g (length (in_order made))) x.place && not b) (any_same (λ (t : Placed). t.place == x.place) taken (taken_in_order seats) there back)

  -- what was read from the words is what is left
  pub closed_drop : (left : List Placed) → low g (length made) ≤ length made → left ≡ unreserved_in g words (low g (length made)) (length made) → DropOutcome g (in_order made) (taken_in_order seats) left
  closed_drop left within is =
      let read : left ≡ left_in g words taken (length made) =
      is ∙ sym (subst (λ (n : ℕ). low g n ≤ n → left_in g words taken n ≡ unreserved_in g words (low g n) n) (closes.made_sum seats)
      (subst (λ (items : List Placed). low g (made_total vs) ≤ made_total vs → left_in g words items (made_total vs) ≡ unreserved_in g words (low g (made_total vs)) (made_total vs)) (closes.taken_is seats) (left_is g words vs stopped.limits stopped.holds stopped.rest)) within) in
      record {
        taken_accepted = λ i e h. (of_filter (is_taken taken) (in_order made) _ (item_in (taken_in_order seats) i e h)).0;
        taken_once = apart;
        rest_left = read ∙ outcome.rest_left ∙ filter_alike (is_left g (length (in_order made)) taken) (is_left g (length (in_order made)) (taken_in_order seats)) (in_order made) left_same;
      }

  -- each item that was looked at is accepted
  pub looked_accepted : All (λ (x : SeatedWith DropPhase Looks). LooksHold g words vs x.memory) seats → All (HasSeenAccepted (in_order made)) seats
  looked_accepted hold k d within i z inside =
      let looks = (get_or seats k d).memory in
      let item : Placed = get_or looks.looked i z in
      let is : IsMade vs item = (hold k d within).looked i item (slice_get-get_or looks.looked i z inside) in
      let stands : Contains made item = subst (λ (items : List Placed). Contains items item) (closes.made_is seats) (has_in (λ (v : View). v.made) vs is.seat is.number is.view item is.at is.there) in
      Contains-permutation made (in_order made) item closed_accepted.all_made stands
