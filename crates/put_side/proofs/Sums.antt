-- Sums over a list of views, and how often a number stands in a list.
use Rattle.std.proofs.Common.{◌≡◌, ℕ, zero, suc, ◌+◌, ◌<◌, ◌≤◌, ◌≢◌, ◌⊎◌, List, [], ◌∷◌, ◌++◌, Bool, true, false, cond, length, refl, sym, ap, ◌∙◌, subst, inl, inr, ⊎_elim, lt_of_not-le, arith}
use Rattle.std.specs.Prelude.{Some, slice_get, slice_set, sum_by, ◌==◌, nat_lt, nat_le}
use Rattle.std.specs.List.{AllByRecursion}
use Rattle.std.proofs.lemmas.List.Sums.{sum_by-cons, sum_by-le-sum_by, sum_by_push}
use Rattle.std.proofs.lemmas.Bool.Decides.{leb_tells, nat_tests}
use Rattle.std.proofs.lemmas.Bool.{cases_lt}
use Rattle.rail.specs.Items.{IsRising}
use Rattle.machine.proofs.Lists.{one_le_sum, sum_set}
use Rattle.put_side.specs.Counts.{one_at, one_below, sum_below, times}

module _ {A : Type 0} where
  -- two views have no more than all
  pub two_le_sum : (f : A → ℕ) (xs : List A) (i j : ℕ) (a b : A) → slice_get xs i ≡ Some a → slice_get xs j ≡ Some b → j ≢ i → f a + f b ≤ sum_by f xs
  two_le_sum f [] i j a b e k n = cc
  two_le_sum f (x ∷ xs) zero zero a b e k n = absurd (n refl)
  two_le_sum f (x ∷ xs) zero (suc j) a b e k n = let h : x ≡ a = cc in let q = ap f h in omega (arith, sum_by-cons f x xs, one_le_sum f xs j b k)
  two_le_sum f (x ∷ xs) (suc i) zero a b e k n = let h : x ≡ b = cc in let q = ap f h in omega (arith, sum_by-cons f x xs, one_le_sum f xs i a e)
  two_le_sum f (x ∷ xs) (suc i) (suc j) a b e k n = omega (arith, sum_by-cons f x xs, two_le_sum f xs i j a b e k (λ h. n (ap suc h)))

  pub sum_same : (f : A → ℕ) (vs : List A) (id : ℕ) (v v' : A) → slice_get vs id ≡ Some v → f v' ≡ f v → sum_by f (slice_set vs id v') ≡ sum_by f vs
  sum_same f vs id v v' at e = let n = sum_set f vs id v v' at in omega arith

  -- between two sums there is at least what is between them at one view
  pub sum_gap : (f h : A → ℕ) → ((v : A) → f v ≤ h v) → (vs : List A) (id : ℕ) (v : A) → slice_get vs id ≡ Some v → sum_by f vs + h v ≤ sum_by h vs + f v
  sum_gap f h le [] id v at = cc
  sum_gap f h le (x ∷ xs) zero v at = let e : x ≡ v = cc in let a = ap f e in let b = ap h e in omega (arith, sum_by-cons f x xs, sum_by-cons h x xs, sum_by-le-sum_by f h xs le)
  sum_gap f h le (x ∷ xs) (suc id) v at = let r = sum_gap f h le xs id v at in let l = le x in omega (arith, sum_by-cons f x xs, sum_by-cons h x xs)

  -- each counts at most one more
  pub sum_more : (f h : A → ℕ) → ((v : A) → f v ≤ h v + 1) → (vs : List A) → sum_by f vs ≤ sum_by h vs + length vs
  sum_more f h le [] = omega arith
  sum_more f h le (v ∷ vs) = omega (arith, le v, sum_by-cons f v vs, sum_by-cons h v vs, sum_more f h le vs)

  -- sums whose terms are alike, or none
  pub sum_alike : (f h : A → ℕ) (vs : List A) → ((j : ℕ) (u : A) → slice_get vs j ≡ Some u → f u ≡ h u) → sum_by f vs ≡ sum_by h vs
  sum_alike f h [] e = refl
  sum_alike f h (v ∷ vs) e = let here = e 0 v refl in let rest = sum_alike f h vs (λ j u q. e (suc j) u q) in omega (arith, sum_by-cons f v vs, sum_by-cons h v vs)

  pub sum_none : (f : A → ℕ) (vs : List A) → ((j : ℕ) (u : A) → slice_get vs j ≡ Some u → f u ≡ 0) → sum_by f vs ≡ 0
  sum_none f [] e = refl
  sum_none f (v ∷ vs) e = let here = e 0 v refl in let rest = sum_none f vs (λ j u q. e (suc j) u q) in omega (arith, sum_by-cons f v vs)

  -- where a sum is not zero some view counts
  pub some_counts : (f : A → ℕ) (vs : List A) → 1 ≤ sum_by f vs → (j : ℕ) × (u : A) × (slice_get vs j ≡ Some u) × (1 ≤ f u)
  some_counts f [] h = absurd (omega arith)
  some_counts f (x ∷ xs) h = ⊎_elim (λ z. let r = some_counts f xs (omega (arith, sum_by-cons f x xs)) in (suc r.0, r.1, r.2, r.3)) (λ z. (0, x, refl, z)) (cases_lt (f x) 1)

  pub get_front : (xs : List A) (x : A) (i : ℕ) (y : A) → slice_get xs i ≡ Some y → slice_get (xs ++ x ∷ []) i ≡ Some y
  get_front [] x i y e = cc
  get_front (z ∷ xs) x zero y e = e
  get_front (z ∷ xs) x (suc i) y e = get_front xs x i y e

  pub get_push : (xs : List A) (x : A) (i : ℕ) (y : A) → slice_get (xs ++ x ∷ []) i ≡ Some y → (slice_get xs i ≡ Some y) ⊎ (x ≡ y)
  get_push [] x zero y e = inr cc
  get_push [] x (suc i) y e = cc
  get_push (z ∷ xs) x zero y e = inl e
  get_push (z ∷ xs) x (suc i) y e = get_push xs x i y e

-- a number beyond all of a rising list goes behind it
below_later : (y x : ℕ) (xs : List ℕ) → y < x → AllByRecursion (λ z. y < z) xs → AllByRecursion (λ z. y < z) (xs ++ x ∷ [])
below_later y x [] h a = (h, tt)
below_later y x (z ∷ zs) h a = (a.0, below_later y x zs h a.1)

pub one_le : (q p : ℕ) → one_at q p ≤ 1
one_le q p = grind (arith, nat_tests)

pub times-cons : (p y : ℕ) (xs : List ℕ) → times p (y ∷ xs) ≡ cond (y == p) 1 0 + times p xs
times-cons p y xs = sum_by-cons (λ q. cond (q == p) 1 0) y xs

pub times_push : (p y : ℕ) (xs : List ℕ) → times p (xs ++ y ∷ []) ≡ times p xs + one_at y p
times_push p y xs = sum_by_push (λ q. cond (q == p) 1 0) xs y

pub not_there : (y : ℕ) (ys : List ℕ) → cond (y == y) 1 0 + times y ys ≡ 0 → ⊥
not_there y ys e = let one : cond (y == y) 1 0 ≡ 1 = grind (arith, nat_tests) in
    let more : 1 + times y ys ≡ 0 = ap (λ (k : ℕ). k + times y ys) (sym one) ∙ e in omega arith

pub rising_push : (xs : List ℕ) (x : ℕ) → IsRising xs → ((q : ℕ) → x ≤ q → times q xs ≡ 0) → IsRising (xs ++ x ∷ [])
rising_push [] x r none = (tt, tt)
rising_push (y ∷ ys) x r none =
    let first : (q : ℕ) → x ≤ q → cond (y == q) 1 0 + times q ys ≡ 0 = λ q h. sym (times-cons q y ys) ∙ none q h in
    let below : y < x = lt_of_not-le (λ h. not_there y ys (first y h)) in
    (below_later y x ys below r.0, rising_push ys x r.1 (λ q h. let e = first q h in omega arith))

-- by what a test tells
pub by_test : (a b : ℕ) (P : Bool → Type 0) → (a < b → P true) → (b ≤ a → P false) → P (nat_lt a b)
by_test a b P hit miss = ⊎_elim (λ t. subst P (sym t.0) (hit t.1)) (λ t. let h = t.1 in subst P (sym t.0) (miss (omega arith))) (leb_tells (suc a) b)

pub by_test_le : (a b : ℕ) (P : Bool → Type 0) → (a ≤ b → P true) → (b < a → P false) → P (nat_le a b)
by_test_le a b P hit miss = ⊎_elim (λ t. subst P (sym t.0) (hit t.1)) (λ t. subst P (sym t.0) (miss t.1)) (leb_tells a b)

front : (x : ℕ) (xs ys : List ℕ) → AllByRecursion (λ y. x < y) (xs ++ ys) → AllByRecursion (λ y. x < y) xs
front x [] ys a = tt
front x (y ∷ xs) ys a = (a.0, front x xs ys a.1)

-- a rising list without its end rises
pub rising_front : (xs ys : List ℕ) → IsRising (xs ++ ys) → IsRising xs
rising_front [] ys r = tt
rising_front (x ∷ xs) ys r = (front x xs ys r.0, rising_front xs ys r.1)

pub upto_same : (n : ℕ) (f h : ℕ → ℕ) → ((o : ℕ) → o < n → f o ≡ h o) → sum_below n f ≡ sum_below n h
upto_same zero f h e = refl
upto_same (suc n) f h e = let a = upto_same n f h (λ o l. e o (omega arith)) in let b = e n (omega arith) in omega arith

pub none_from : (p a : ℕ) → a ≤ p → one_below p a ≡ 0
none_from p a h = grind (arith, nat_tests)

pub one_to : (p a : ℕ) → one_below p a ≤ 1
one_to p a = grind (arith, nat_tests)

pub one_in : (p a : ℕ) → p < a → one_below p a ≡ 1
one_in p a h = grind (arith, nat_tests)

-- counting over the numbers below n
pub upto_le : (n : ℕ) (f : ℕ → ℕ) → ((o : ℕ) → f o ≤ 1) → sum_below n f ≤ n
upto_le zero f h = omega arith
upto_le (suc n) f h = let a = upto_le n f h in let b = h n in omega arith

pub upto_misses : (n o : ℕ) (f : ℕ → ℕ) → ((q : ℕ) → f q ≤ 1) → o < n → f o ≡ 0 → sum_below n f + 1 ≤ n
upto_misses zero o f h l z = absurd (omega arith)
upto_misses (suc n) o f h l z = ⊎_elim (λ q. let a = upto_misses n o f h q z in let b = h n in omega arith) (λ q. let e : n ≡ o = omega arith in let a = upto_le n f h in let b = ap f e in omega arith) (cases_lt o n)

below_one : (o n : ℕ) → one_below o n + one_at o n ≡ one_below o (n + 1)
below_one o n = grind (arith, nat_tests)

pub upto_bump : (n o : ℕ) (f : ℕ → ℕ) → sum_below n (λ q. f q + one_at o q) ≡ sum_below n f + one_below o n
upto_bump zero o f = let z = none_from o 0 (omega arith) in omega arith
upto_bump (suc n) o f = let r = upto_bump n o f in let b = below_one o n in let s : one_below o (n + 1) ≡ one_below o (suc n) = ap (one_below o) (omega arith) in omega arith

pub upto_none : (n : ℕ) (f : ℕ → ℕ) → ((o : ℕ) → f o ≡ 0) → sum_below n f ≡ 0
upto_none zero f h = refl
upto_none (suc n) f h = let a = upto_none n f h in let b = h n in omega arith

-- counting where all below n count
pub upto_from : (m n : ℕ) (f : ℕ → ℕ) → n ≤ m → ((o : ℕ) → o < n → 1 ≤ f o) → n ≤ sum_below m f
upto_from zero n f l h = omega arith
upto_from (suc m) n f l h = ⊎_elim (λ q. let r = upto_from m n f (omega arith) h in omega arith) (λ q. let r = upto_from m m f (omega arith) (λ o k. h o (omega arith)) in let z = h m (omega arith) in omega arith) (cases_lt n (suc m))

-- and where none counts from n on
pub upto_cut : (m n : ℕ) (f : ℕ → ℕ) → n ≤ m → ((o : ℕ) → n ≤ o → f o ≡ 0) → sum_below m f ≡ sum_below n f
upto_cut zero n f l h = let e : zero ≡ n = omega arith in ap (λ (k : ℕ). sum_below k f) e
upto_cut (suc m) n f l h = ⊎_elim (λ q. let r = upto_cut m n f (omega arith) h in let z = h m (omega arith) in omega arith) (λ q. let e : suc m ≡ n = omega arith in ap (λ (k : ℕ). sum_below k f) e) (cases_lt n (suc m))

-- where all numbers below n count, each does
pub upto_all : (n o : ℕ) (f : ℕ → ℕ) → ((q : ℕ) → f q ≤ 1) → sum_below n f ≡ n → o < n → f o ≡ 1
upto_all n o f h e l = ⊎_elim (λ z. absurd (let m = upto_misses n o f h l (omega arith) in omega arith)) (λ z. let b = h o in omega arith) (cases_lt (f o) 1)

-- all below n count, and one beyond
pub upto_beyond : (m n o : ℕ) (f : ℕ → ℕ) → n ≤ o → o < m → ((i : ℕ) → i < n → 1 ≤ f i) → 1 ≤ f o → n + 1 ≤ sum_below m f
upto_beyond zero n o f a l h k = absurd (omega arith)
upto_beyond (suc m) n o f a l h k = ⊎_elim (λ q. let r = upto_beyond m n o f a q h k in omega arith) (λ q. let e : o ≡ m = omega arith in let z = ap f e in let r = upto_from m n f (omega arith) h in omega arith) (cases_lt o m)

pub upto_more : (n : ℕ) (f h : ℕ → ℕ) → ((o : ℕ) → f o ≤ h o) → sum_below n f ≤ sum_below n h
upto_more zero f h l = omega arith
upto_more (suc n) f h l = let a = upto_more n f h l in let b = l n in omega arith
