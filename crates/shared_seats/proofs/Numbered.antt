-- Seats in order of their numbers, of which one gets another view.
use Rattle.std.proofs.Common.{◌≡◌, ◌≢◌, ℕ, zero, suc, ◌+◌, ◌<◌, ◌≤◌, List, [], ◌∷◌, length, map, sum_by, IsPermutation, refl, sym, ap, ◌∙◌, subst, ⊎_elim, arith}
use Rattle.std.specs.Prelude.{Some, slice_get, slice_set, if◌then◌else◌, ◌==◌}
use Rattle.std.proofs.lemmas.Bool.{cases_eq, cond-false, cond-true, eq-eqb, ne_eqb}
use Rattle.std.proofs.lemmas.List.Sums.{sum_by-cons}
use Rattle.std.proofs.lemmas.List.Sorted.{Contains-permutation, IsPermutation-map, IsPermutation-sym, sum_by-IsPermutation}
use Rattle.std.proofs.lemmas.Option.{slice_get-get_or, slice_get_within, get_or_from_slice_get}
use Rattle.machine.specs.declared.view.View.{View}
use Rattle.shared_seats.specs.declared.holding.Numbered.{Numbered}
use Rattle.shared_seats.specs.Holding.{AreInOrder, numbered, numbered_from}

-- what stands in a list stands in any order of it
pub stands : {A : Type 0} (xs ys : List A) (j : ℕ) (x : A) → IsPermutation xs ys → slice_get ys j ≡ Some x → (i : ℕ) × (slice_get xs i ≡ Some x)
stands xs ys j x p e = let c = Contains-permutation ys xs x (IsPermutation-sym xs ys p) (j, slice_get_within ys j x e, get_or_from_slice_get ys j x x e) in
    (c.0, slice_get-get_or xs c.0 x c.1 ∙ ap Some c.2)

module _ {P : Type 0} where
  number_at : (first : ℕ) (vs : List (View P)) (i : ℕ) (x : Numbered P) → slice_get (numbered_from first vs) i ≡ Some x → (x.number ≡ first + i) × (slice_get vs i ≡ Some x.view)
  number_at first [] i x e = cc
  number_at first (v ∷ vs) zero x e = let q : numbered first v ≡ x = cc in
      let z : first ≡ first + 0 = omega arith in
      (sym (ap (λ (y : Numbered P). y.number) q) ∙ z, ap (λ (y : Numbered P). Some y.view) q)
  number_at first (v ∷ vs) (suc i) x e = let r = number_at (first + 1) vs i x e in (let n = r.0 in omega arith, r.1)

  -- a view stands at its seat's number
  pub at_number : (vs : List (View P)) (x : Numbered P) (rest : List (Numbered P)) → AreInOrder (x ∷ rest) vs → slice_get vs x.number ≡ Some x.view
  at_number vs x rest p =
      let at = stands (numbered_from 0 vs) (x ∷ rest) 0 x (IsPermutation-sym (x ∷ rest) (numbered_from 0 vs) p) refl in
      let r = number_at 0 vs at.0 x at.1 in
      let e : x.number ≡ at.0 = let n = r.0 in omega arith in
      ap (slice_get vs) e ∙ r.1

  -- whether a seat has this number, as a count
  abbrev has_number : ℕ → Numbered P → ℕ
  has_number n x = if x.number == n then 1 else 0

  -- the seat of this number gets another view
  abbrev with_other : ℕ → View P → Numbered P → Numbered P
  with_other n w x = if x.number == n then numbered n w else x

  has_it : (n : ℕ) (x : Numbered P) → x.number ≡ n → has_number n x ≡ 1
  has_it n x e = cond-true (x.number == n) 1 0 (eq-eqb x.number n e)

  has_not : (n : ℕ) (x : Numbered P) → x.number ≢ n → has_number n x ≡ 0
  has_not n x ne = cond-false (x.number == n) 1 0 (ne_eqb x.number n ne)

  other_it : (n : ℕ) (w : View P) (x : Numbered P) → x.number ≡ n → with_other n w x ≡ numbered n w
  other_it n w x e = cond-true (x.number == n) (numbered n w) x (eq-eqb x.number n e)

  other_not : (n : ℕ) (w : View P) (x : Numbered P) → x.number ≢ n → with_other n w x ≡ x
  other_not n w x ne = cond-false (x.number == n) (numbered n w) x (ne_eqb x.number n ne)

  -- each number stands once at most
  none_later : (n first : ℕ) (vs : List (View P)) → n < first → sum_by (has_number n) (numbered_from first vs) ≡ 0
  none_later n first [] later = refl
  none_later n first (v ∷ vs) later =
      let rest = none_later n (first + 1) vs (omega arith) in
      let head = has_not n (numbered first v) (λ e. omega arith) in
      sum_by-cons (has_number n) (numbered first v) (numbered_from (first + 1) vs) ∙ (omega (arith, rest, head))

  once : (n first : ℕ) (vs : List (View P)) → sum_by (has_number n) (numbered_from first vs) ≤ 1
  once n first [] = omega arith
  once n first (v ∷ vs) =
      let whole = sum_by-cons (has_number n) (numbered first v) (numbered_from (first + 1) vs) in
      ⊎_elim
      (λ e. let head = has_it n (numbered first v) e in let rest = none_later n (first + 1) vs (omega arith) in omega arith)
      (λ ne. let head = has_not n (numbered first v) ne in let rest = once n (first + 1) vs in omega arith)
      (cases_eq first n)

  -- where no seat has the number, none gets another view
  none_other : (n : ℕ) (w : View P) (xs : List (Numbered P)) → sum_by (has_number n) xs ≡ 0 → map (with_other n w) xs ≡ xs
  none_other n w [] none = refl
  none_other n w (x ∷ xs) none =
      let whole = sum_by-cons (has_number n) x xs in
      let away : x.number ≢ n = λ e. (let head = has_it n x e in omega arith) in
      let head = other_not n w x away in
      let rest = none_other n w xs (let h = has_not n x away in omega arith) in
      λ i. head i ∷ rest i

  other_at : (n first : ℕ) (w : View P) (vs : List (View P)) (i : ℕ) → n ≡ first + i → map (with_other n w) (numbered_from first vs) ≡ numbered_from first (slice_set vs i w)
  other_at n first w [] i is = refl
  other_at n first w (v ∷ vs) zero is =
      let same : n ≡ first = omega arith in
      let head : with_other n w (numbered first v) ≡ numbered first w = other_it n w (numbered first v) (sym same) ∙ ap (λ (k : ℕ). numbered k w) same in
      let rest = none_other n w (numbered_from (first + 1) vs) (none_later n (first + 1) vs (omega arith)) in
      λ i. head i ∷ rest i
  other_at n first w (v ∷ vs) (suc i) is =
      let head = other_not n w (numbered first v) (λ e. omega arith) in
      let rest = other_at n (first + 1) w vs i (omega arith) in
      λ j. head j ∷ rest j

  -- one seat gets another view
  pub with_view_at : (vs : List (View P)) (n : ℕ) (v w : View P) (rest : List (Numbered P)) → AreInOrder (numbered n v ∷ rest) vs → AreInOrder (numbered n w ∷ rest) (slice_set vs n w)
  with_view_at vs n v w rest p =
      let moved = IsPermutation-map (with_other n w) (numbered n v ∷ rest) (numbered_from 0 vs) p in
      let sums = sum_by-IsPermutation (has_number n) (numbered n v ∷ rest) (numbered_from 0 vs) p in
      let whole = sum_by-cons (has_number n) (numbered n v) rest in
      let head = has_it n (numbered n v) refl in
      let most = once n 0 vs in
      let none : sum_by (has_number n) rest ≡ 0 = omega arith in
      let first = other_it n w (numbered n v) refl in
      let others = none_other n w rest none in
      let old : map (with_other n w) (numbered n v ∷ rest) ≡ numbered n w ∷ rest = λ i. first i ∷ others i in
      let new : map (with_other n w) (numbered_from 0 vs) ≡ numbered_from 0 (slice_set vs n w) = other_at n 0 w vs n (omega arith) in
      subst (λ (xs : List (Numbered P)). IsPermutation xs (numbered_from 0 (slice_set vs n w))) old
      (subst (IsPermutation (map (with_other n w) (numbered n v ∷ rest))) new moved)

  -- the views of seats in order are theirs
  pub views_in_order : (xs : List (Numbered P)) (vs : List (View P)) → AreInOrder xs vs → IsPermutation (map (λ (x : Numbered P). x.view) xs) vs
  views_in_order xs vs p = subst (IsPermutation (map (λ (x : Numbered P). x.view) xs)) (views_from 0 vs) (IsPermutation-map (λ (x : Numbered P). x.view) xs (numbered_from 0 vs) p)
    where
      views_from : (first : ℕ) (us : List (View P)) → map (λ (x : Numbered P). x.view) (numbered_from first us) ≡ us
      views_from first [] = refl
      views_from first (u ∷ us) = ap (λ (l : List (View P)). u ∷ l) (views_from (first + 1) us)

  pub length_numbered : (first : ℕ) (vs : List (View P)) → length (numbered_from first vs) ≡ length vs
  length_numbered first [] = refl
  length_numbered first (v ∷ vs) = ap suc (length_numbered (first + 1) vs)
