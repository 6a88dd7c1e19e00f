-- The items of all seats as one list, and where each stands.
use Rattle.std.proofs.Common.{◌≡◌, ℕ, zero, suc, ◌+◌, ◌≤◌, List, [], ◌∷◌, false, sym, refl, ap, ◌∙◌, subst, ⊎_elim, arith}
use Rattle.std.specs.Prelude.{Some, slice_get, Contains, flat_map, nat_eq}
use Rattle.std.specs.List.{AllByRecursion, IsDistinct, sum_by}
use Rattle.std.proofs.lemmas.Bool.Decides.{nat_tests}
use Rattle.std.proofs.lemmas.List.Concat.{flat_map-cons}
use Rattle.std.proofs.lemmas.List.Elements.{Contains-append_cases, Contains-append_left, Contains-append_right}
use Rattle.std.proofs.lemmas.List.Sums.{sum_by-cons}
use Rattle.std.proofs.lemmas.Option.{get_or_from_slice_get, slice_get-get_or, slice_get_within}
use Rattle.rail.specs.declared.entry.Placed.{Placed}
use Rattle.rail.specs.Items.{places}
use Rattle.machine.specs.declared.view.View.{View}
use Rattle.put_side.specs.Counts.{one_at, times}
use Rattle.put_side.specs.Gathered.{all_made, all_taken}
use Rattle.put_side.specs.Laws.{TakenIsMade}
use Rattle.put_side.proofs.Sums.{times-cons}
use Rattle.put_side.proofs.Orders.{places_append, times_append}

module _ {P : Type 0} where
  pub times_all : (f : View P → List Placed) (p : ℕ) (vs : List (View P)) → times p (places (flat_map f vs)) ≡ sum_by (λ (v : View P). times p (places (f v))) vs
  times_all f p [] = refl
  times_all f p (v ∷ vs) =
      let e = ap (λ (l : List Placed). times p (places l)) (flat_map-cons f v vs) ∙ ap (times p) (places_append (f v) (flat_map f vs)) ∙ times_append p (places (f v)) (places (flat_map f vs)) in
      let rest = times_all f p vs in omega (arith, sum_by-cons (λ (v : View P). times p (places (f v))) v vs)

  pub has_in : (f : View P → List Placed) (vs : List (View P)) (j i : ℕ) (u : View P) (x : Placed) → slice_get vs j ≡ Some u → slice_get (f u) i ≡ Some x → Contains (flat_map f vs) x
  has_in f [] j i u x at there = cc
  has_in f (v ∷ vs) zero i u x at there =
      let h : v ≡ u = cc in
      let here : Contains (f v) x = subst (λ (w : View P). Contains (f w) x) (sym h) (i, slice_get_within (f u) i x there, get_or_from_slice_get (f u) i x x there) in
      subst (λ (l : List Placed). Contains l x) (sym (flat_map-cons f v vs)) (Contains-append_left (f v) (flat_map f vs) x here)
  has_in f (v ∷ vs) (suc j) i u x at there = subst (λ (l : List Placed). Contains l x) (sym (flat_map-cons f v vs)) (Contains-append_right (f v) (flat_map f vs) x (has_in f vs j i u x at there))

  -- where an item of the lists of all views stands
  pub record StandsIn (f : View P → List Placed) (vs : List (View P)) (x : Placed) : Type 0 where
    pub seat : ℕ
    pub view : View P
    pub at : slice_get vs seat ≡ Some view
    pub number : ℕ
    pub there : slice_get (f view) number ≡ Some x

  later : (f : View P → List Placed) (v : View P) (vs : List (View P)) (x : Placed) → StandsIn f vs x → StandsIn f (v ∷ vs) x
  later f v vs x s = record { seat = suc s.seat; view = s.view; at = s.at; number = s.number; there = s.there }

  pub stands_in : (f : View P → List Placed) (vs : List (View P)) (x : Placed) → Contains (flat_map f vs) x → StandsIn f vs x
  stands_in f [] x c = absurd (let h = c.1 in omega arith)
  stands_in f (v ∷ vs) x c =
      ⊎_elim (λ k. record { seat = 0; view = v; at = refl; number = k.0; there = slice_get-get_or (f v) k.0 x k.1 ∙ ap Some k.2 })
      (λ k. later f v vs x (stands_in f vs x k)) (Contains-append_cases (f v) (flat_map f vs) x (subst (λ (l : List Placed). Contains l x) (flat_map-cons f v vs) c))

  -- what is taken is made, so it stands at its place among what is made
  pub taken_stands : (vs : List (View P)) → TakenIsMade vs → (x : Placed) → Contains (all_taken vs) x → Contains (all_made vs) x
  taken_stands vs made x c =
      let k = stands_in (λ (v : View P). v.taken) vs x c in
      let m = made k.seat k.view k.at k.number x k.there in
      has_in (λ (v : View P). v.made) vs m.seat m.number m.view x m.at m.there

-- a list in which nothing stands twice
apart_from : (x : ℕ) (ys : List ℕ) → times x ys ≡ 0 → AllByRecursion (λ y. nat_eq x y ≡ false) ys
apart_from x [] e = tt
apart_from x (y ∷ ys) e =
    let c = times-cons x y ys in
    let t : times x (y ∷ ys) ≡ one_at y x + times x ys = c in
    (let z : one_at y x ≡ 0 = omega arith in grind (arith, nat_tests), apart_from x ys (omega arith))

pub distinct : (xs : List ℕ) → ((p : ℕ) → times p xs ≤ 1) → IsDistinct nat_eq xs
unfolding IsDistinct
distinct [] h = tt
distinct (x ∷ xs) h =
    let t : (p : ℕ) → times p (x ∷ xs) ≡ one_at x p + times p xs = λ p. times-cons p x xs in
    let one : one_at x x ≡ 1 = grind (arith, nat_tests) in
    (apart_from x xs (let a = h x in let b = t x in omega arith), distinct xs (λ p. let a = h p in let b = t p in omega arith))
