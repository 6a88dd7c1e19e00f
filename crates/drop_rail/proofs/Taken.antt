-- The taken items, in order of place.
use Rattle.std.proofs.Common.{◌≡◌, ℕ, zero, suc, ◌<◌, List, [], ◌∷◌, Bool, true, false, cond, get_or, length, refl, sym, ap, ◌∙◌, subst, inl, inr, ⊎_elim, arith}
use Rattle.std.specs.Prelude.{◌⊎◌, Some, filter, nat_eq, remove, slice_get, ◌==◌, ◌||◌, IsPermutation}
use Rattle.std.specs.List.{All, AllByRecursion, Contains, IsDistinct, list_any}
use Rattle.std.proofs.lemmas.Bool.Decides.{nat_tests}
use Rattle.std.proofs.lemmas.List.Elements.{All-contains}
use Rattle.std.proofs.lemmas.List.Sorted.{Contains-permutation, IsPermutation-cons, IsPermutation-map, IsPermutation-refl, IsPermutation-remove, IsPermutation-sym, IsPermutation-trans}
use Rattle.std.proofs.lemmas.Map.Keys.{IsDistinct-IsPermutation}
use Rattle.std.proofs.lemmas.Option.{get_or_from_slice_get, slice_get-get_or}
use Rattle.rail.specs.declared.entry.Placed.{Placed}
use Rattle.rail.specs.Items.{places}
use Rattle.rail.specs.Outcome.{numbers_below}
use Rattle.rail.proofs.Dense.{dense_only, dense_place}
use Rattle.rail.proofs.Rising.{head_or_rest, here, later}

-- an item of another place isn't the item
apart_from : (x : Placed) (xs : List Placed) → AllByRecursion (λ (q : ℕ). nat_eq x.place q ≡ false) (places xs) → Contains xs x → ⊥
apart_from x [] apart c = let l = c.1 in omega arith
apart_from x (y ∷ ys) apart c = ⊎_elim (λ e. let same = ap (λ (z : Placed). z.place) e in let other = apart.0 in grind (arith, nat_tests)) (λ r. apart_from x ys apart.1 r) (head_or_rest x y ys c)

behind : (x z : Placed) (xs ys : List Placed) → AllByRecursion (λ (q : ℕ). nat_eq x.place q ≡ false) (places xs) → Contains xs z → Contains (x ∷ ys) z → Contains ys z
behind x z xs ys apart own c = ⊎_elim (λ e. absurd (apart_from x xs apart (subst (Contains xs) (sym e) own))) (λ r. r) (head_or_rest z x ys c)

-- two lists in which no place stands twice and which have the same items are permutations of one another
pub distinct_same : (xs ys : List Placed) → IsDistinct nat_eq (places xs) → IsDistinct nat_eq (places ys) → ((z : Placed) → Contains xs z → Contains ys z) → ((z : Placed) → Contains ys z → Contains xs z) → IsPermutation xs ys
unfolding IsDistinct
distinct_same [] [] d e to from = IsPermutation-refl []
distinct_same [] (y ∷ ys) d e to from = absurd (let k = from y (here y ys) in let l = k.1 in omega arith)
distinct_same (x ∷ xs) ys d e to from =
    let k = to x (here x xs) in
    let zs : List Placed = remove ys k.0 in
    let moved : IsPermutation ys (x ∷ zs) = IsPermutation-remove ys k.0 x k.1 (sym k.2) in
    let apart : IsDistinct nat_eq (places (x ∷ zs)) = IsDistinct-IsPermutation nat_eq (λ a b. grind (arith, nat_tests)) (places ys) (places (x ∷ zs)) (IsPermutation-map (λ (i : Placed). i.place) ys (x ∷ zs) moved) e in
    let same = distinct_same xs zs d.1 apart.1
    (λ z c. behind x z xs zs d.0 c (Contains-permutation ys (x ∷ zs) z moved (to z (later x z xs c))))
    (λ z c. behind x z zs xs apart.0 c (from z (Contains-permutation (x ∷ zs) ys z (IsPermutation-sym ys (x ∷ zs) moved) (later x z zs c)))) in
    IsPermutation-trans (x ∷ xs) (x ∷ zs) ys (IsPermutation-cons x xs zs same) (IsPermutation-sym ys (x ∷ zs) moved)

-- what a filter keeps
pub kept_by : (p : Placed → Bool) (xs : List Placed) (z : Placed) → Contains xs z → p z ≡ true → Contains (filter p xs) z
kept_by p [] z c holds = absurd (let l = c.1 in omega arith)
kept_by p (x ∷ xs) z c holds =
    ⊎_elim
    (λ e. let is : p x ≡ true = ap p e ∙ holds in subst (λ (b : Bool). Contains (cond b (x ∷ filter p xs) (filter p xs)) z) (sym is) (subst (Contains (x ∷ filter p xs)) e (here x (filter p xs))))
    (λ r. either_kept p x xs z (p x) (kept_by p xs z r holds))
    (head_or_rest z x xs c)
  where
    either_kept : (p : Placed → Bool) (x : Placed) (xs : List Placed) (z : Placed) (b : Bool) → Contains (filter p xs) z → Contains (cond b (x ∷ filter p xs) (filter p xs)) z
    either_kept p x xs z true c = later x z (filter p xs) c
    either_kept p x xs z false c = c

pub of_filter : (p : Placed → Bool) (xs : List Placed) (z : Placed) → Contains (filter p xs) z → Contains xs z × (p z ≡ true)
of_filter p [] z c = absurd (let l = c.1 in omega arith)
of_filter p (x ∷ xs) z c = by_head (of_filter p xs z) (p x) refl c
  where
    by_head : (Contains (filter p xs) z → Contains xs z × (p z ≡ true)) → (b : Bool) → p x ≡ b → Contains (cond b (x ∷ filter p xs) (filter p xs)) z → Contains (x ∷ xs) z × (p z ≡ true)
    by_head rest true is c = ⊎_elim (λ e. (subst (Contains (x ∷ xs)) e (here x xs), ap p (sym e) ∙ is)) (λ r. let k = rest r in (later x z xs k.0, k.1)) (head_or_rest z x (filter p xs) c)
    by_head rest false is c = let k = rest c in (later x z xs k.0, k.1)

-- whether some item passes, where two lists have the same items
pub any_of : (p : Placed → Bool) (xs : List Placed) (z : Placed) → Contains xs z → p z ≡ true → list_any p xs ≡ true
any_of p [] z c holds = absurd (let l = c.1 in omega arith)
any_of p (x ∷ xs) z c holds = ⊎_elim (λ e. ap (λ (b : Bool). b || list_any p xs) (ap p e ∙ holds)) (λ r. ap (λ (b : Bool). p x || b) (any_of p xs z r holds) ∙ or_true (p x)) (head_or_rest z x xs c)
  where
    or_true : (b : Bool) → (b || true) ≡ true
    or_true true = refl
    or_true false = refl

pub passes : (p : Placed → Bool) (xs : List Placed) → list_any p xs ≡ true → (z : Placed) × Contains xs z × (p z ≡ true)
passes p [] holds = cc
passes p (x ∷ xs) holds = by_head (passes p xs) (p x) refl holds
  where
    by_head : (list_any p xs ≡ true → (z : Placed) × Contains xs z × (p z ≡ true)) → (b : Bool) → p x ≡ b → (b || list_any p xs) ≡ true → (z : Placed) × Contains (x ∷ xs) z × (p z ≡ true)
    by_head rest true is any = (x, here x xs, is)
    by_head rest false is any = let r = rest any in (r.0, later x r.0 xs r.1, r.2)

pub any_same : (p : Placed → Bool) (xs ys : List Placed) → ((z : Placed) → Contains xs z → Contains ys z) → ((z : Placed) → Contains ys z → Contains xs z) → list_any p xs ≡ list_any p ys
any_same p xs ys to from = by_both (list_any p xs) (list_any p ys) refl refl
  where
    by_both : (a b : Bool) → list_any p xs ≡ a → list_any p ys ≡ b → a ≡ b
    by_both true true x y = refl
    by_both false false x y = refl
    by_both true false x y = let r = passes p xs x in let s = any_of p ys r.0 (to r.0 r.1) r.2 in cc
    by_both false true x y = let r = passes p ys y in let s = any_of p xs r.0 (from r.0 r.1) r.2 in cc

pub eq_self : (n : ℕ) → (n == n) ≡ true
eq_self n = grind (arith, nat_tests)

eq_from : (a b : ℕ) → (a == b) ≡ true → a ≡ b
eq_from a b e = grind (arith, nat_tests)

-- accepted items of one place are one
pub only_item : (items : List Placed) → places items ≡ numbers_below (length items) → (t z : Placed) → Contains items t → Contains items z → (t.place == z.place) ≡ true → t ≡ z
only_item items no_gap t z c d same =
    let at : slice_get items d.0 ≡ Some z = slice_get-get_or items d.0 z d.1 ∙ ap Some d.2 in
    dense_only d.0 z t items no_gap at c (eq_from t.place z.place same ∙ dense_place d.0 z items no_gap at)

pub item_in : (items : List Placed) (i : ℕ) (d : Placed) → i < length items → Contains items (get_or items i d)
item_in items i d within = (i, within, get_or_from_slice_get items i (get_or items i d) (get_or items i d) (slice_get-get_or items i d within))

pub filter_alike : (p q : Placed → Bool) (xs : List Placed) → ((x : Placed) → p x ≡ q x) → filter p xs ≡ filter q xs
filter_alike p q [] same = refl
filter_alike p q (x ∷ xs) same = ap (λ (b : Bool). cond b (x ∷ filter p xs) (filter p xs)) (same x) ∙ ap (λ (l : List Placed). cond (q x) (x ∷ l) l) (filter_alike p q xs same)
