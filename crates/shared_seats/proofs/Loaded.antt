-- A load that only its seat's memory tells of keeps the rule.
use Rattle.std.proofs.Common.{◌≡◌, ℕ, zero, suc, List, [], ◌∷◌, ◌++◌, set, length, IsPermutation, refl, sym, ap, ◌∙◌, subst, ⊎_elim, arith}
use Rattle.std.specs.Prelude.{Some, slice_get, slice_index, slice_set}
use Rattle.std.proofs.lemmas.List.{set-get_or}
use Rattle.std.proofs.lemmas.List.Sorted.{IsPermutation-sym, IsPermutation-trans}
use mathlib.Core.Option.{some}
use lib.ListN.{get_elem?}
use Rattle.cursor_word.specs.Shape.{Grid}
use Rattle.step_log.proofs.Lists.{at_set}
use Rattle.step_log.specs.Log.{Keeps}
use Rattle.machine.specs.declared.view.View.{View}
use Rattle.machine.specs.Table.{Table}
use Rattle.machine.specs.Invariant.{Fact}
use Rattle.shared_seats.specs.declared.holding.Holding.{Holding}
use Rattle.shared_seats.specs.declared.holding.Numbered.{Numbered}
use Rattle.shared_seats.specs.Memory.{KeepsMemory, Knowledge}
use Rattle.shared_seats.specs.Holding.{AreInOrder, HasLoaded, IsHeld, holding, memory_in, numbered, numbered_from, seats_of, view_in}
use Rattle.shared_seats.proofs.Held.{seats}
use Rattle.shared_seats.proofs.Numbered.{at_number}
use Rattle.shared_seats.proofs.Parted.{replaced}
use Rattle.shared_seats.proofs.Stepped.{few_places}

-- an only element is the first
only_one : {A : Type 0} (x : A) (i : ℕ) (y : A) → slice_get (x ∷ []) i ≡ Some y → x ≡ y
only_one x zero y e = cc
only_one x (suc i) y e = cc

module _ {P M : Type 0} (t : Table P) (Holds : Fact P) (Knows : Knowledge P M) (none : M) (number : ℕ) (key : Grid) (h : Holding P M) (index : ℕ) (fact : Grid → View P → M → ℕ → M → Type 0) (sits : h ≡ holding h.shape (numbered number (view_in h) ∷ []) (memory_in none h ∷ []))
    (keeps : KeepsMemory Holds Knows h.shape (view_in h) (memory_in none h) index (fact h.shape (view_in h) (memory_in none h))) where
  v : View P
  v = view_in h

  m : M
  m = memory_in none h

  of_seats : h.seats ≡ numbered number (view_in h) ∷ []
  of_seats = ap (λ (x : Holding P M). x.seats) sits

  of_memories : h.memories ≡ memory_in none h ∷ []
  of_memories = ap (λ (x : Holding P M). x.memories) sits

  module _ (words : List ℕ) (hs : List (Holding P M)) (at : ℕ) (held : IsHeld t Holds Knows key words hs) (get : get_elem? hs at ≡ some h) where
    same_key : h.shape ≡ key
    same_key = held.shapes at h get (let n = ap length of_seats in omega arith)

    known : Knows key words held.views (memory_in none h)
    known = held.memories (memory_in none h) record { at = at; seat = h; stands = get; number = 0; there = ap (λ (l : List M). slice_get l 0) of_memories }

    stood : slice_get held.views number ≡ Some (view_in h)
    stood =
        let q = replaced seats hs at h get in
        let own : numbered number (view_in h) ∷ q.rest ≡ h.seats ++ q.rest = ap (λ (xs : List (Numbered P)). xs ++ q.rest) (sym of_seats) in
        at_number held.views (numbered number (view_in h)) q.rest (subst (λ (xs : List (Numbered P)). AreInOrder xs held.views) (sym own)
        (IsPermutation-trans (h.seats ++ q.rest) (seats_of hs) (numbered_from 0 held.views) (IsPermutation-sym (seats_of hs) (h.seats ++ q.rest) q.before) held.in_order))

    told : (next : M) × Knows key words held.views next × fact h.shape (view_in h) (memory_in none h) (slice_index words index) next
    told =
        subst (λ (k : Grid). KeepsMemory Holds Knows k (view_in h) (memory_in none h) index (fact h.shape (view_in h) (memory_in none h))) same_key keeps
        words held.views number held.limits held.holds (few_places t key held.views held.all held.few) stood known

    pub loaded : (next : Holding P M) × IsHeld t Holds Knows key (slice_set words index (slice_index words index)) (set hs at next) × HasLoaded none fact h (slice_index words index) next
    loaded =
        let next : M = told.0 in
        let w : Holding P M = holding h.shape h.seats (next ∷ []) in
        let q = replaced seats hs at h get in
        let moved : IsPermutation (seats_of hs) (seats_of (set hs at w)) = IsPermutation-trans (seats_of hs) (h.seats ++ q.rest) (seats_of (set hs at w)) q.before (IsPermutation-sym (seats_of (set hs at w)) (h.seats ++ q.rest) (q.after w)) in
        let kept : IsHeld t Holds Knows key words (set hs at w) = record {
          limits = held.limits;
          shapes = λ j x e some. ⊎_elim (λ u. ap (λ (z : Holding P M). z.shape) (sym u.1) ∙ same_key) (λ u. held.shapes j x u.1 some) (at_set hs at j w x e);
          views = held.views;
          in_order = IsPermutation-trans (seats_of (set hs at w)) (seats_of hs) (numbered_from 0 held.views) (IsPermutation-sym (seats_of hs) (seats_of (set hs at w)) moved) held.in_order;
          holds = held.holds;
          all = held.all;
          few = held.few;
          memories = λ z is. ⊎_elim
              (λ u. subst (Knows key words held.views) (only_one next is.number z (ap (λ (x : Holding P M). slice_get x.memories is.number) u.1 ∙ is.there)) told.1)
              (λ u. held.memories z record { at = is.at; seat = is.seat; stands = u.1; number = is.number; there = is.there })
              (at_set hs at is.at w is.seat is.stands);
        } in (
          w,
          subst (λ (l : List ℕ). IsHeld t Holds Knows key l (set hs at w)) (sym (set-get_or words index 0)) kept,
          record { memory = next; same = refl; tells = told.2 },
        )

  pub loads : Keeps (IsHeld t Holds Knows key) h index (λ n. n) (HasLoaded none fact h)
  loads words hs at held get fits = loaded words hs at held get
