-- Sums over all views, how often a number was drawn, and what all drew as one list.
use Rattle.std.proofs.Common.{◌≡◌, ℕ, zero, suc, ◌+◌, ◌<◌, ◌≤◌, eqb, ◌≢◌, List, [], ◌∷◌, ◌++◌, set, get_or, remove, length, length-append, sum_by, flat_map, All, IsPermutation, sym, refl, ap, ◌∙◌, arith, eq-eqb, ne_eqb}
use Rattle.std.specs.List.{range_with_len}
use Rattle.std.specs.List.Sorted.{IsStrictlyIncreasing}
use Rattle.std.proofs.lemmas.List.Sums.{sum_by-cons, sum_by-append, sum_by-remove}
use Rattle.std.proofs.lemmas.List.Sorted.{IsPermutation-refl, IsPermutation-cons, IsPermutation-trans, IsPermutation-sym, IsPermutation-remove, sum_by-IsPermutation}
use Rattle.std.proofs.Math.ListN.{get_or-append}
use Rattle.std.proofs.Math.Seq.{get_or-append_seam}
use mathlib.Core.Option.{some, some-injective, some-ne-none}
use mathlib.Core.Logic.{dite}
use native.Mathlib.Decide.{dec_lt, ℕ_discrete}
use lib.ListN.{get_elem?}
use Rattle.claim_table.specs.declared.share.Share.{Share}
use Rattle.claim_table.specs.Claimed.{one_if}

-- how often a number stands in a list, and was drawn by a share
abbrev pub times : ℕ → List ℕ → ℕ
times n = sum_by (λ x. one_if (eqb x n))

abbrev pub drawn_times : ℕ → Share → ℕ
drawn_times n v = times n v.drawn

module _ {X : Type 0} (f : X → ℕ) where
  pub sum_by-put : (xs : List X) (i : ℕ) (v w : X) → get_elem? xs i ≡ some v → sum_by f (set xs i w) + f v ≡ sum_by f xs + f w
  sum_by-put [] i v w e = absurd (some-ne-none v (sym e))
  sum_by-put (x ∷ xs) zero v w e = let is : f x ≡ f v = ap f (some-injective x v e) in omega (arith, sum_by-cons f x xs, sum_by-cons f w xs)
  sum_by-put (x ∷ xs) (suc i) v w e = omega (arith, sum_by-put xs i v w e, sum_by-cons f x xs, sum_by-cons f x (set xs i w))

  pub sum_by-part : (xs : List X) (i : ℕ) (v : X) → get_elem? xs i ≡ some v → f v ≤ sum_by f xs
  sum_by-part [] i v e = absurd (some-ne-none v (sym e))
  sum_by-part (x ∷ xs) zero v e = let is : f x ≡ f v = ap f (some-injective x v e) in omega (arith, sum_by-cons f x xs)
  sum_by-part (x ∷ xs) (suc i) v e = omega (arith, sum_by-part xs i v e, sum_by-cons f x xs)

  pub sum_by-le-at : (g : X → ℕ) (xs : List X) → ((i : ℕ) (x : X) → get_elem? xs i ≡ some x → f x ≤ g x) → sum_by f xs ≤ sum_by g xs
  sum_by-le-at g [] le = omega arith
  sum_by-le-at g (x ∷ xs) le = omega (arith, le 0 x refl, sum_by-le-at g xs (λ i y e. le (suc i) y e), sum_by-cons f x xs, sum_by-cons g x xs)

pub hit : (m n : ℕ) → m ≡ n → one_if (eqb m n) ≡ 1
hit m n e = ap one_if (eq-eqb m n e)

pub miss : (m n : ℕ) → m ≢ n → one_if (eqb m n) ≡ 0
miss m n e = ap one_if (ne_eqb m n e)

pub times-cons : (n m : ℕ) (xs : List ℕ) → times n (m ∷ xs) ≡ one_if (eqb m n) + times n xs
times-cons n m xs = sum_by-cons (λ x. one_if (eqb x n)) m xs

pub times-append : (n : ℕ) (xs ys : List ℕ) → times n (xs ++ ys) ≡ times n xs + times n ys
times-append n xs ys = sum_by-append (λ x. one_if (eqb x n)) xs ys

pub times-snoc : (n m : ℕ) (xs : List ℕ) → times n (xs ++ m ∷ []) ≡ times n xs + one_if (eqb m n)
times-snoc n m xs = omega (arith, times-append n xs (m ∷ []), times-cons n m [])

-- where no number from n on stands in the list, all are below n
pub all_below : (n : ℕ) (xs : List ℕ) → ((d : ℕ) → n ≤ d → times d xs ≡ 0) → All (λ d. d < n) xs
all_below n (x ∷ xs) none zero d h = dite (dec_lt x n) (λ lt. lt) (λ ge. let one = hit x x refl in let no = none x (omega arith) in absurd (omega (arith, times-cons x x xs)))
all_below n (x ∷ xs) none (suc k) d h = all_below n xs (λ e le. let no = none e le in omega (arith, times-cons e x xs)) k d (omega arith)
all_below n [] none k d h = absurd (omega arith)

pub increasing-none : IsStrictlyIncreasing []
increasing-none k h = absurd (omega arith)

pub increasing-snoc : (n : ℕ) (xs : List ℕ) → All (λ d. d < n) xs → IsStrictlyIncreasing xs → IsStrictlyIncreasing (xs ++ n ∷ [])
increasing-snoc n xs below rises k h = let long = length-append xs (n ∷ []) in
    let here = get_or-append xs (n ∷ []) 0 k (omega arith) in
    dite (dec_lt (k + 1) (length xs))
    (λ lt. let next = get_or-append xs (n ∷ []) 0 (k + 1) lt in let r = rises k lt in omega arith)
    (λ ge. let e : k + 1 ≡ length xs = omega arith in
    let last = ap (λ (j : ℕ). get_or (xs ++ n ∷ []) j 0) e ∙ get_or-append_seam xs n [] 0 in let b = below k 0 (omega arith) in omega arith)

-- a number that stands in a list has a place there
stands : (x : ℕ) (ys : List ℕ) → 0 < times x ys → (i : ℕ) × (i < length ys) × (x ≡ get_or ys i x)
stands x [] h = absurd (omega arith)
stands x (y ∷ ys) h = dite (ℕ_discrete y x)
    (λ e. (0, omega arith, sym e))
    (λ n. let r = stands x ys (let m = miss y x n in omega (arith, times-cons x y ys)) in (suc r.0, (let lt = r.1 in omega arith), r.2))

-- lists in which each number stands equally often are one list in two orders
pub shuffled : (xs ys : List ℕ) → ((n : ℕ) → times n xs ≡ times n ys) → IsPermutation xs ys
shuffled [] [] same = IsPermutation-refl []
shuffled [] (y ∷ ys) same = let one = hit y y refl in let e = same y in absurd (omega (arith, times-cons y y ys))
shuffled (x ∷ xs) ys same = let one = hit x x refl in
    let at = stands x ys (omega (arith, same x, times-cons x x xs)) in
    let rest : (n : ℕ) → times n xs ≡ times n (remove ys at.0) = λ n. (
    let less = sum_by-remove (λ y. one_if (eqb y n)) ys at.0 x at.1 in
    let it : one_if (eqb x n) ≡ one_if (eqb (get_or ys at.0 x) n) = ap (λ y. one_if (eqb y n)) at.2 in omega (arith, same n, times-cons n x xs)) in
    IsPermutation-trans (x ∷ xs) (x ∷ remove ys at.0) ys (IsPermutation-cons x xs (remove ys at.0) (shuffled xs (remove ys at.0) rest)) (IsPermutation-sym ys (x ∷ remove ys at.0) (IsPermutation-remove ys at.0 x at.1 at.2))

-- the numbers from a on, one more
range_more : (a k : ℕ) → range_with_len a (suc k) ≡ range_with_len a k ++ (a + k) ∷ []
range_more a zero = let e : a ≡ a + 0 = omega arith in ap (λ (n : ℕ). n ∷ []) e
range_more a (suc k) = ap (λ (l : List ℕ). a ∷ l) (range_more (a + 1) k ∙ ap (λ (n : ℕ). range_with_len (a + 1) k ++ n ∷ []) (omega arith))

pub times-range : (n k : ℕ) → times n (range_with_len 0 (suc k)) ≡ times n (range_with_len 0 k) + one_if (eqb k n)
times-range n k = let e : 0 + k ≡ k = omega arith in ap (times n) (range_more 0 k ∙ ap (λ (j : ℕ). range_with_len 0 k ++ j ∷ []) e) ∙ times-snoc n k (range_with_len 0 k)

-- no number of a range stands beyond it
pub beyond : (n a k : ℕ) → a + k ≤ n → times n (range_with_len a k) ≡ 0
beyond n a zero h = refl
beyond n a (suc k) h = let m = miss a n (λ e. omega arith) in omega (arith, times-cons n a (range_with_len (a + 1) k), beyond n (a + 1) k (omega arith))

abbrev pub all_drawn : List Share → List ℕ
all_drawn = flat_map (λ v. v.drawn)

times-all : (n : ℕ) (vs : List Share) → times n (all_drawn vs) ≡ sum_by (drawn_times n) vs
times-all n [] = refl
times-all n (v ∷ vs) = omega (arith, times-append n v.drawn (all_drawn vs), times-all n vs, sum_by-cons (drawn_times n) v vs)

pub times-drawn : (n : ℕ) (vs : List Share) (numbers : List ℕ) → IsPermutation (all_drawn vs) numbers → sum_by (drawn_times n) vs ≡ times n numbers
times-drawn n vs numbers p = sym (times-all n vs) ∙ sym (sum_by-IsPermutation (λ x. one_if (eqb x n)) (all_drawn vs) numbers p)

pub draws-all : (vs : List Share) (numbers : List ℕ) → ((n : ℕ) → sum_by (drawn_times n) vs ≡ times n numbers) → IsPermutation (all_drawn vs) numbers
draws-all vs numbers same = shuffled (all_drawn vs) numbers (λ n. times-all n vs ∙ same n)
