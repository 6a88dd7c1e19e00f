-- What a drop outcome comes to: nothing but items of reused blocks is lost.
use Rattle.std.proofs.Common.{◌≡◌, ℕ, zero, suc, ◌+◌, ◌-◌, ◌*◌, ◌/◌, ◌<◌, ◌≤◌, ◌⊎◌, List, [], ◌∷◌, Bool, true, false, cond, length, get_or, refl, sym, ap, ◌∙◌, subst, inl, inr, ⊎_elim, arith}
use Rattle.std.specs.Prelude.{Some, slice_get, Contains, filter, not, nat_le, ◌==◌, ◌&&◌, ◌||◌}
use Rattle.std.specs.List.{list_any, range_with_len}
use Rattle.std.proofs.lemmas.Bool.{cases_lt}
use Rattle.std.proofs.lemmas.Bool.Decides.{nat_tests}
use Rattle.std.proofs.lemmas.List.Elements.{All-contains}
use Rattle.std.proofs.lemmas.Nat.{div-add-mod'}
use Rattle.std.proofs.lemmas.Option.{get_or_from_slice_get, slice_get-get_or, slice_get_within}
use Rattle.cursor_word.specs.Shape.{Grid, IsWithinLimits}
use Rattle.cursor_word.specs.Cursor.{low}
use Rattle.rail.specs.declared.entry.Placed.{Placed}
use Rattle.rail.specs.Items.{places}
use Rattle.rail.specs.Outcome.{DropOutcome, IsTakenOrLeft, KeepsNewest, is_left, numbers_below}
use Rattle.rail.proofs.Dense.{dense_only, dense_place}

either_way : (b : Bool) → (b ≡ true) ⊎ (b ≡ false)
either_way true = inl refl
either_way false = inr refl

-- an item that a filter keeps
keeps : (p : Placed → Bool) (xs : List Placed) (i : ℕ) (x : Placed) → slice_get xs i ≡ Some x → p x ≡ true → (j : ℕ) × (slice_get (filter p xs) j ≡ Some x)
keeps p [] i x at holds = cc
keeps p (y ∷ ys) zero x at holds =
    let is : y ≡ x = cc in
    let here : filter p (y ∷ ys) ≡ y ∷ filter p ys = ap (λ (b : Bool). cond b (y ∷ filter p ys) (filter p ys)) (ap p is ∙ holds) in
    (0, ap (λ (l : List Placed). slice_get l 0) here ∙ ap Some is)
keeps p (y ∷ ys) (suc i) x at holds =
    let r = keeps p ys i x at holds in
    ⊎_elim (λ t. (suc r.0, ap (λ (b : Bool). slice_get (cond b (y ∷ filter p ys) (filter p ys)) (suc r.0)) t ∙ r.1))
    (λ f. (r.0, ap (λ (b : Bool). slice_get (cond b (y ∷ filter p ys) (filter p ys)) r.0) f ∙ r.1)) (either_way (p y))

-- an item that passes a test
passes : (p : Placed → Bool) (xs : List Placed) → list_any p xs ≡ true → (j : ℕ) × (x : Placed) × (slice_get xs j ≡ Some x) × (p x ≡ true)
passes p [] holds = cc
passes p (y ∷ ys) holds =
    ⊎_elim (λ t. (0, y, refl, t))
    (λ f. let r = passes p ys (sym (ap (λ (b : Bool). b || list_any p ys) f) ∙ holds) in (suc r.0, r.1, r.2, r.3)) (either_way (p y))

contains_at : (xs : List Placed) (i : ℕ) (x : Placed) → slice_get xs i ≡ Some x → Contains xs x
contains_at xs i x at = (i, slice_get_within xs i x at, get_or_from_slice_get xs i x x at)

at_of : (xs : List Placed) (x : Placed) (c : Contains xs x) → slice_get xs c.0 ≡ Some x
at_of xs x c = slice_get-get_or xs c.0 x c.1 ∙ ap Some c.2

below_low : (a b : ℕ) → nat_le a b ≡ false → b < a
below_low a b e = grind (arith, nat_tests)

same_number : (a b : ℕ) → (a == b) ≡ true → a ≡ b
same_number a b e = grind (arith, nat_tests)

-- the places before the oldest block that isn't reused are at least a block of places before the last ones
low_far : (g : Grid) (n : ℕ) → IsWithinLimits g → (low g n ≡ 0) ⊎ (low g n + (g.blocks - 1) * g.size < n)
low_far g n limits =
    ⊎_elim (λ none. inl (let z : n ≡ 0 = omega arith in ap (low g) z))
    (λ some. let row : ℕ = (n - 1) / g.size in
    let is : low g n ≡ (row + 1 - g.blocks) * g.size = grind (arith, nat_tests) in
    let d = div-add-mod' (n - 1) g.size in
    let size = limits.size_from in
    let two = limits.blocks_from in
    ⊎_elim (λ few. inl (let z : row + 1 - g.blocks ≡ 0 = omega arith in is ∙ ap (λ (m : ℕ). m * g.size) z ∙ omega arith))
    (λ many. inr (let z : row ≡ (row + 1 - g.blocks) + (g.blocks - 1) = omega arith in
    let y : row * g.size ≡ ((row + 1 - g.blocks) + (g.blocks - 1)) * g.size = ap (λ (m : ℕ). m * g.size) z in omega arith))
    (cases_lt (row + 1) (g.blocks + 1)))
    (cases_lt n 1)

module _ (g : Grid) (accepted taken left : List Placed) (limits : IsWithinLimits g) (o : DropOutcome g accepted taken left) (gap : places accepted ≡ numbers_below (length accepted)) where
  -- a taken item at the place of an accepted one is that one
  is_taken : (item : Placed) → Contains accepted item → list_any (λ (t : Placed). t.place == item.place) taken ≡ true → Contains taken item
  is_taken item c holds =
      let r = passes (λ (t : Placed). t.place == item.place) taken holds in
      let t : Placed = r.1 in
      let d : Contains accepted t = All-contains (Contains accepted) taken t o.taken_accepted (contains_at taken r.0 t r.2) in
      let here = at_of accepted item c in
      let is : t ≡ item = dense_only c.0 item t accepted gap here d (same_number t.place item.place r.3 ∙ dense_place c.0 item accepted gap here) in
      subst (Contains taken) is (contains_at taken r.0 t r.2)

  lost_or_not : (item : Placed) → Contains accepted item → (item.place < low g (length accepted)) ⊎ IsTakenOrLeft taken left item
  lost_or_not item c =
      ⊎_elim
      (λ from. ⊎_elim (λ holds. inr (inl (is_taken item c holds)))
      (λ no. let test : is_left g (length accepted) taken item ≡ true = ap (λ (b : Bool). b && not (list_any (λ (t : Placed). t.place == item.place) taken)) from ∙ ap not no in
      let k = keeps (is_left g (length accepted) taken) accepted c.0 item (at_of accepted item c) test in
      inr (inr (subst (λ (l : List Placed). Contains l item) (sym o.rest_left) (contains_at _ k.0 item k.1))))
      (either_way (list_any (λ (t : Placed). t.place == item.place) taken)))
      (λ less. inl (below_low (low g (length accepted)) item.place less))
      (either_way (nat_le (low g (length accepted)) item.place))

  pub keeps_newest : KeepsNewest g accepted taken left
  keeps_newest = record {
    reused = lost_or_not;
    newest = λ item c near. ⊎_elim (λ less. absurd (⊎_elim (λ z. omega arith) (λ z. omega arith) (low_far g (length accepted) limits))) (λ x. x) (lost_or_not item c);
  }
