-- What one seat that took in all others knows when no step is done any more.
use Rattle.std.specs.Prelude.{None, Some, slice_get}
use Rattle.std.proofs.lemmas.Option.{slice_get-get_or}
use Rattle.std.proofs.Common.{◌≡◌, ℕ, zero, suc, All, get_or, map, List, [], ◌∷◌, ◌++◌, IsPermutation, length, length-append, append-nil, refl, ap, ◌∙◌, subst, arith}
use Rattle.std.proofs.lemmas.List.{length-map}
use Rattle.std.proofs.lemmas.List.Sorted.{IsPermutation-sym, IsPermutation-trans, length_permutation}
use Rattle.cursor_word.specs.Shape.{Grid}
use Rattle.step_log.specs.Log.{Ends}
use Rattle.machine.specs.declared.view.View.{View}
use Rattle.machine.specs.Table.{Table}
use Rattle.machine.specs.Invariant.{Fact}
use Rattle.machine.specs.Steps.{AllRest}
use Rattle.call_steps.specs.Queue.{SeatedWith}
use Rattle.shared_seats.specs.declared.holding.Holding.{Holding}
use Rattle.shared_seats.specs.declared.holding.Numbered.{Numbered}
use Rattle.shared_seats.specs.Memory.{Knowledge}
use Rattle.shared_seats.specs.Holding.{AreInOrder, IsHeld, numbered, numbered_from, seats_of}
use Rattle.shared_seats.specs.Seats.{EachRests, StandStill, memories_of_all, numbered_of_all}
use Rattle.shared_seats.proofs.Held.{seats as held_seats}
use Rattle.shared_seats.proofs.Numbered.{length_numbered, stands, views_in_order}
use Rattle.shared_seats.proofs.Parted.{replaced}

empty_list : {A : Type 0} (xs : List A) → length xs ≡ 0 → xs ≡ []
empty_list [] e = refl
empty_list (x ∷ xs) e = absurd (omega arith)

of_map : {A B : Type 0} (f : A → B) (xs : List A) (k : ℕ) (y : B) → slice_get (map f xs) k ≡ Some y → (x : A) × (slice_get xs k ≡ Some x) × (f x ≡ y)
of_map f [] k y e = cc
of_map f (x ∷ xs) zero y e = (x, refl, cc)
of_map f (x ∷ xs) (suc k) y e = of_map f xs k y e

get_map : {A B : Type 0} (f : A → B) (xs : List A) (k : ℕ) (x : A) → slice_get xs k ≡ Some x → slice_get (map f xs) k ≡ Some (f x)
get_map f [] k x e = cc
get_map f (y ∷ ys) zero x e = let h : y ≡ x = cc in ap (λ z. Some (f z)) h
get_map f (y ∷ ys) (suc k) x e = get_map f ys k x e

module _ {P M : Type 0} (t : Table P) (Holds : Fact P) (Knows : Knowledge P M) (key g : Grid) (same : key ≡ g) (words : List ℕ) (all : Holding P M) (seats : List (SeatedWith P M)) (end : Ends (IsHeld t Holds Knows key) all words)
    (gathered : IsPermutation (numbered_of_all seats) all.seats) (long : length seats ≡ g.seats) (rest : EachRests all.seats) (kept : IsPermutation (memories_of_all seats) all.memories) where
  held : IsHeld t Holds Knows g words end.0
  held = subst (λ (k : Grid). IsHeld t Holds Knows k words end.0) same end.2

  long_seats : length (numbered_of_all seats) ≡ g.seats
  long_seats = length-map seats (λ (s : SeatedWith P M). numbered s.number s.view) ∙ long

  -- the seat stands for all seats that there are
  whole : IsPermutation (seats_of end.0) (numbered_of_all seats)
  whole =
      let q = replaced held_seats end.0 end.1 all end.3 in
      let n = length_permutation (seats_of end.0) (all.seats ++ q.rest) q.before in
      let m = length_permutation (numbered_of_all seats) all.seats gathered in
      let views = length_permutation (seats_of end.0) (numbered_from 0 held.views) held.in_order in
      let none : q.rest ≡ [] = empty_list q.rest (omega (arith, held.all, length_numbered 0 held.views, length-append all.seats q.rest, long_seats)) in
      let same : IsPermutation (seats_of end.0) all.seats = subst (IsPermutation (seats_of end.0)) (ap (λ (us : List (Numbered P)). all.seats ++ us) none ∙ append-nil all.seats) q.before in
      IsPermutation-trans (seats_of end.0) all.seats (numbered_of_all seats) same (IsPermutation-sym (numbered_of_all seats) all.seats gathered)

  own_order : AreInOrder (numbered_of_all seats) held.views
  own_order = IsPermutation-trans (numbered_of_all seats) (seats_of end.0) (numbered_from 0 held.views) (IsPermutation-sym (seats_of end.0) (numbered_of_all seats) whole) held.in_order

  -- the views of all are those of seats at rest
  views_rest : AllRest held.views
  views_rest j u e =
      let theirs = views_in_order all.seats held.views (IsPermutation-trans all.seats (numbered_of_all seats) (numbered_from 0 held.views) (IsPermutation-sym (numbered_of_all seats) all.seats gathered) own_order) in
      let i = stands (map (λ (x : Numbered P). x.view) all.seats) held.views j u theirs e in
      let x = of_map (λ (x : Numbered P). x.view) all.seats i.0 u i.1 in
      subst (λ (w : View P). w.phase ≡ None) x.2 (rest i.0 x.0 x.1)

  -- what each seat remembers holds
  remembered : All (λ (s : SeatedWith P M). Knows g words held.views s.memory) seats
  remembered k d within =
      let m : M = (get_or seats k d).memory in
      let own : slice_get (memories_of_all seats) k ≡ Some m = get_map (λ (s : SeatedWith P M). s.memory) seats k (get_or seats k d) (slice_get-get_or seats k d within) in
      let i = stands all.memories (memories_of_all seats) k m (IsPermutation-sym (memories_of_all seats) all.memories kept) own in
      held.memories m record { at = end.1; seat = all; stands = end.3; number = i.0; there = i.1 }

  pub stand_still : StandStill t Holds Knows g words seats
  stand_still = record {
    views = held.views;
    in_order = own_order;
    stopped = record { limits = held.limits; holds = held.holds; all = held.all; rest = views_rest; few = held.few };
    memories = remembered;
  }
