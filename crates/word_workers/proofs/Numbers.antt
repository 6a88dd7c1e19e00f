-- Rising numbers below a bound, as a worker draws them.
use Rattle.std.proofs.Common.{◌≡◌, ℕ, zero, suc, ◌+◌, ◌-◌, ◌<◌, ◌≤◌, List, [], ◌∷◌, ◌++◌, length, get_or, sym, ap, subst, ◌∙◌, arith, inl, inr}
use Rattle.std.specs.Prelude.{sum_by}
use Rattle.std.specs.List.{All, AllByRecursion, range_with_len}
use Rattle.std.specs.List.Sorted.{IsStrictlyIncreasing}
use Rattle.std.proofs.lemmas.Bool.{cases_lt}
use Rattle.std.proofs.lemmas.Grind.{get_or_default_zero}
use Rattle.std.proofs.lemmas.List.{length-append, get_or_append_left}
use Rattle.std.proofs.lemmas.List.Elements.{All-append, All-from_recursion, recursion_from_All}
use Rattle.std.proofs.lemmas.List.Sums.{sum_by-cons}
use Rattle.std.proofs.Math.Seq.{get_or-append_seam}
use Rattle.rail.specs.Items.{IsRising}

rises_far : (xs : List ℕ) → IsStrictlyIncreasing xs → (d k : ℕ) → (k + d) + 1 < length xs → get_or xs k 0 < get_or xs ((k + d) + 1) 0
rises_far xs s zero k lt = let e : k + 0 ≡ k = omega arith in subst (λ (j : ℕ). get_or xs k 0 < get_or xs (j + 1) 0) (sym e) (s k (omega arith))
rises_far xs s (suc d) k lt =
    let e : (k + d) + 1 ≡ k + suc d = omega arith in
    let far : get_or xs k 0 < get_or xs (k + suc d) 0 = subst (λ (j : ℕ). get_or xs k 0 < get_or xs j 0) e (rises_far xs s d k (omega arith)) in
    let next : get_or xs (k + suc d) 0 < get_or xs ((k + suc d) + 1) 0 = s (k + suc d) lt in
    omega arith

-- the last number is above all earlier ones
above_last : (xs : List ℕ) (n : ℕ) → IsStrictlyIncreasing (xs ++ n ∷ []) → All (λ j. j < n) xs
above_last xs n s k e lt =
    let all : List ℕ = xs ++ n ∷ [] in
    let len = length-append xs (n ∷ []) in
    let d : ℕ = length xs - (k + 1) in
    let i : (k + d) + 1 ≡ length xs = omega arith in
    let here : get_or all k 0 ≡ get_or xs k 0 = get_or_append_left xs (n ∷ []) 0 k lt in
    let last : get_or all ((k + d) + 1) 0 ≡ n = ap (λ (j : ℕ). get_or all j 0) i ∙ get_or-append_seam xs n [] 0 in
    let far = rises_far all s d k (omega arith) in
    let zero_is = get_or_default_zero xs k e lt in
    omega arith

-- a drawn number is above those that were drawn before
pub above_drawn : (mine drawn more : List ℕ) (n : ℕ) → mine ≡ drawn → more ≡ drawn ++ n ∷ [] → IsStrictlyIncreasing more → All (λ j. j < n) mine
above_drawn mine drawn more n same e s = subst (All (λ j. j < n)) (sym same) (above_last drawn n (subst IsStrictlyIncreasing e s))

pub below_more : (drawn more : List ℕ) (n most : ℕ) → All (λ j. j < most) drawn → n < most → more ≡ drawn ++ n ∷ [] → All (λ j. j < most) more
below_more drawn more n most a lt e =
    let P : ℕ → Type 0 = λ j. j < most in
    subst (All P) (sym e) (All-append P drawn (n ∷ []) a (All-from_recursion P (n ∷ []) (lt, tt)))

weaker : (P Q : ℕ → Type 0) → ((q : ℕ) → P q → Q q) → (xs : List ℕ) → AllByRecursion P xs → AllByRecursion Q xs
weaker P Q f [] a = tt
weaker P Q f (x ∷ xs) a = (f x a.0, weaker P Q f xs a.1)

-- rising numbers of a range are no more than the range, and have no greater sum
rising_within : (f : ℕ → ℕ) (m a : ℕ) (xs : List ℕ) → IsRising xs → AllByRecursion (λ (q : ℕ). a ≤ q) xs → AllByRecursion (λ (q : ℕ). q < a + m) xs
    → (length xs ≤ m) × (sum_by f xs ≤ sum_by f (range_with_len a m))
rising_within f m a [] r low high = (omega arith, omega arith)
rising_within f zero a (x ∷ xs) r low high = absurd (let l = low.0 in let h = high.0 in omega arith)
rising_within f (suc m) a (x ∷ xs) r low high =
    let all : sum_by f (range_with_len a (suc m)) ≡ f a + sum_by f (range_with_len (a + 1) m) = sum_by-cons f a (range_with_len (a + 1) m) in
    let mine : sum_by f (x ∷ xs) ≡ f x + sum_by f xs = sum_by-cons f x xs in
    let above : AllByRecursion (λ (q : ℕ). a + 1 ≤ q) xs = let l = low.0 in weaker (λ (q : ℕ). x < q) (λ (q : ℕ). a + 1 ≤ q) (λ q h. omega arith) xs r.0 in
    let under : AllByRecursion (λ (q : ℕ). q < (a + 1) + m) xs = weaker (λ (q : ℕ). q < a + suc m) (λ (q : ℕ). q < (a + 1) + m) (λ q h. omega arith) xs high.1 in
    elim (cases_lt a x) [
      | inl lt ↦
          let h = high.0 in
          let rest = rising_within f m (a + 1) (x ∷ xs) r (omega arith, above) (omega arith, under) in (omega (arith, rest.0), omega (arith, rest.1))
      | inr le ↦
          let l = low.0 in
          let same : f x ≡ f a = let e : x ≡ a = omega arith in ap f e in
          let rest = rising_within f m (a + 1) xs r.1 above under in (omega (arith, rest.0), omega (arith, rest.1))
    ]

module _ (m : ℕ) (xs : List ℕ) (rises : IsRising xs) (below : All (λ j. j < m) xs) where
  within_all : (f : ℕ → ℕ) → (length xs ≤ m) × (sum_by f xs ≤ sum_by f (range_with_len 0 m))
  within_all f =
      let high = recursion_from_All (λ (j : ℕ). j < m) xs below in
      rising_within f m 0 xs rises (weaker (λ (j : ℕ). j < m) (λ (j : ℕ). 0 ≤ j) (λ q h. omega arith) xs high) (weaker (λ (j : ℕ). j < m) (λ (j : ℕ). j < 0 + m) (λ q h. omega arith) xs high)

  -- no more numbers are drawn than there are
  pub few_drawn : length xs ≤ m
  few_drawn = (within_all (λ _. 0)).0

  pub sum_by-drawn : (f : ℕ → ℕ) → sum_by f xs ≤ sum_by f (range_with_len 0 m)
  sum_by-drawn f = (within_all f).1
