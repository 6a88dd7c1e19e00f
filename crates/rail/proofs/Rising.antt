-- Lists of items whose places rise.
use Rattle.std.proofs.Common.{◌≡◌, ℕ, zero, suc, ◌+◌, ◌<◌, ◌≤◌, List, [], ◌∷◌, ◌++◌, length, get_or, take, drop, refl, sym, ap, subst, ◌∙◌, arith}
use Rattle.std.specs.Prelude.{Bool, true, false, cond, filter, nat_eq, IsPermutation}
use Rattle.std.specs.List.{All, AllByRecursion, Contains, IsDistinct, range_with_len}
use Rattle.std.specs.List.Sorted.{IsNonDecreasingBy}
use Rattle.std.proofs.lemmas.Bool.Decides.{nat_tests}
use Rattle.std.proofs.lemmas.Map.Keys.{IsDistinct-IsPermutation}
use Rattle.std.proofs.lemmas.List.{map-append}
use Rattle.std.proofs.lemmas.List.Sorted.{Contains-permutation, IsPermutation-map, IsPermutation-sym}
use Rattle.std.proofs.lemmas.List.Elements.{recursion_from_All}
use mathlib.Core.Logic.{◌⊎◌, inl, inr}
use Rattle.rail.specs.declared.entry.Placed.{Placed}
use Rattle.rail.specs.Rail.{Gains}
use Rattle.rail.specs.Items.{IsRising, places}
use Rattle.rail.specs.Outcome.{IsAccepted}

above_push : (n p : ℕ) (ps : List ℕ) → AllByRecursion (λ (q : ℕ). n < q) ps → n < p → AllByRecursion (λ (q : ℕ). n < q) (ps ++ p ∷ [])
above_push n p [] a h = (h, tt)
above_push n p (q ∷ qs) a h = (a.0, above_push n p qs a.1 h)

rising_push-recursion : (ps : List ℕ) (p : ℕ) → IsRising ps → AllByRecursion (λ (q : ℕ). q < p) ps → IsRising (ps ++ p ∷ [])
rising_push-recursion [] p r a = (tt, tt)
rising_push-recursion (q ∷ qs) p r a = (above_push q p qs r.0 a.0, rising_push-recursion qs p r.1 a.1)

-- a number above all of them keeps a list rising
pub rising_push : (ps : List ℕ) (p : ℕ) → IsRising ps → All (λ q. q < p) ps → IsRising (ps ++ p ∷ [])
rising_push ps p r a = rising_push-recursion ps p r (recursion_from_All (λ (q : ℕ). q < p) ps a)

pub rising_gains : (old new : List Placed) (item : Placed) → IsRising (places old) → Gains old new item → IsRising (places new)
rising_gains old new item r g =
    let e : places new ≡ places old ++ item.place ∷ [] = ap places g.at_end ∙ map-append (λ (i : Placed). i.place) old (item ∷ []) in
    subst IsRising (sym e) (rising_push (places old) item.place r g.beyond)

above_range : (n a m : ℕ) → n < a → AllByRecursion (λ (q : ℕ). n < q) (range_with_len a m)
above_range n a zero lt = tt
above_range n a (suc m) lt = (lt, above_range n (a + 1) m (omega arith))

pub rising_range : (a n : ℕ) → IsRising (range_with_len a n)
rising_range a zero = tt
rising_range a (suc n) = (above_range a (a + 1) n (omega arith), rising_range (a + 1) n)

pub rising_accepted : (made accepted : List Placed) → IsAccepted made accepted → IsRising (places accepted)
rising_accepted made accepted a = subst IsRising (sym a.no_gap) (rising_range 0 (length accepted))

above_filter : (n : ℕ) (p : Placed → Bool) (xs : List Placed) → AllByRecursion (λ (q : ℕ). n < q) (places xs) → AllByRecursion (λ (q : ℕ). n < q) (places (filter p xs))
above_filter n p [] a = tt
above_filter n p (x ∷ xs) a =
    let rest = above_filter n p xs a.1 in
    elim (p x) as (λ b. AllByRecursion (λ (q : ℕ). n < q) (places (cond b (x ∷ filter p xs) (filter p xs)))) [ true ↦ (a.0, rest) | false ↦ rest ]

pub rising_filter : (p : Placed → Bool) (xs : List Placed) → IsRising (places xs) → IsRising (places (filter p xs))
rising_filter p [] r = tt
rising_filter p (x ∷ xs) r =
    let rest = rising_filter p xs r.1 in
    elim (p x) as (λ b. IsRising (places (cond b (x ∷ filter p xs) (filter p xs)))) [ true ↦ (above_filter x.place p xs r.0, rest) | false ↦ rest ]

above_take : (n k : ℕ) (xs : List Placed) → AllByRecursion (λ (q : ℕ). n < q) (places xs) → AllByRecursion (λ (q : ℕ). n < q) (places (take k xs))
above_take n zero xs a = tt
above_take n (suc k) [] a = tt
above_take n (suc k) (x ∷ xs) a = (a.0, above_take n k xs a.1)

pub rising_take : (k : ℕ) (xs : List Placed) → IsRising (places xs) → IsRising (places (take k xs))
rising_take zero xs r = tt
rising_take (suc k) [] r = tt
rising_take (suc k) (x ∷ xs) r = (above_take x.place k xs r.0, rising_take k xs r.1)

pub rising_drop : (k : ℕ) (xs : List Placed) → IsRising (places xs) → IsRising (places (drop k xs))
rising_drop zero xs r = r
rising_drop (suc k) [] r = tt
rising_drop (suc k) (x ∷ xs) r = rising_drop k xs r.1

-- an element of a list with a head is the head or in the rest
pub head_or_rest : (x y : Placed) (ys : List Placed) → Contains (y ∷ ys) x → (y ≡ x) ⊎ Contains ys x
head_or_rest x y ys (zero, lt, is) = inl is
head_or_rest x y ys (suc k, lt, is) = inr (k, omega arith, is)

pub here : (x : Placed) (xs : List Placed) → Contains (x ∷ xs) x
here x xs = (0, omega arith, refl)

pub later : (x z : Placed) (xs : List Placed) → Contains xs z → Contains (x ∷ xs) z
later x z xs (k, lt, is) = (suc k, omega arith, is)

above_of : (n : ℕ) (xs : List Placed) (x : Placed) → AllByRecursion (λ (q : ℕ). n < q) (places xs) → Contains xs x → n < x.place
above_of n [] x a (k, lt, is) = absurd (omega arith)
above_of n (y ∷ ys) x a h =
    elim (head_or_rest x y ys h) as (λ _. n < x.place) [
      | inl e ↦ subst (λ (z : Placed). n < z.place) e a.0
      | inr k ↦ above_of n ys x a.1 k
    ]

head_same : (x y : Placed) (xs ys : List Placed) → IsRising (places (x ∷ xs)) → IsRising (places (y ∷ ys)) → (y ≡ x) ⊎ Contains ys x → (x ≡ y) ⊎ Contains xs y → y ≡ x
head_same x y xs ys r s (inl e) k = e
head_same x y xs ys r s (inr h) (inl e) = sym e
head_same x y xs ys r s (inr h) (inr k) = absurd (let p = above_of y.place ys x s.0 h in let q = above_of x.place xs y r.0 k in omega arith)

tail_in : (x y z : Placed) (ys : List Placed) → y ≡ x → x.place < z.place → (y ≡ z) ⊎ Contains ys z → Contains ys z
tail_in x y z ys e lt (inl k) = absurd (let a = ap (λ (p : Placed). p.place) e in let b = ap (λ (p : Placed). p.place) k in omega arith)
tail_in x y z ys e lt (inr h) = h

-- two rising lists with the same elements are one list
pub rising_same : (xs ys : List Placed) → IsRising (places xs) → IsRising (places ys) → ((x : Placed) → Contains xs x → Contains ys x) → ((x : Placed) → Contains ys x → Contains xs x) → xs ≡ ys
rising_same [] [] r s f b = refl
rising_same [] (y ∷ ys) r s f b = absurd (let h : 0 < 0 = let k = b y (here y ys) in let l = k.1 in omega arith in omega arith)
rising_same (x ∷ xs) [] r s f b = absurd (let h : 0 < 0 = let k = f x (here x xs) in let l = k.1 in omega arith in omega arith)
rising_same (x ∷ xs) (y ∷ ys) r s f b =
    let e : y ≡ x = head_same x y xs ys r s (head_or_rest x y ys (f x (here x xs))) (head_or_rest y x xs (b y (here y ys))) in
    let t : xs ≡ ys = rising_same xs ys r.1 s.1
    (λ z h. tail_in x y z ys e (above_of x.place xs z r.0 h) (head_or_rest z y ys (f z (later x z xs h))))
    (λ z h. tail_in y x z xs (sym e) (above_of y.place ys z s.0 h) (head_or_rest z x xs (b z (later y z ys h)))) in
    ap (λ (z : Placed). z ∷ xs) (sym e) ∙ ap (λ (l : List Placed). y ∷ l) t

-- two rising lists that are permutations of one another are one list
pub same_by_permutation : (xs ys : List Placed) → IsRising (places xs) → IsRising (places ys) → IsPermutation xs ys → xs ≡ ys
same_by_permutation xs ys r s p = rising_same xs ys r s (λ x. Contains-permutation xs ys x p) (λ x. Contains-permutation ys xs x (IsPermutation-sym xs ys p))

apart_from_above : (n : ℕ) (ps : List ℕ) → AllByRecursion (λ (q : ℕ). n < q) ps → AllByRecursion (λ (q : ℕ). nat_eq n q ≡ false) ps
apart_from_above n [] a = tt
apart_from_above n (p ∷ ps) a = (let lt = a.0 in grind (arith, nat_tests), apart_from_above n ps a.1)

pub rising_distinct : (ps : List ℕ) → IsRising ps → IsDistinct nat_eq ps
unfolding IsDistinct
rising_distinct [] r = tt
rising_distinct (p ∷ ps) r = (apart_from_above p ps r.0, rising_distinct ps r.1)

-- a list whose items are together those of a rising one has no place twice
pub distinct_by_permutation : (xs ys : List Placed) → IsRising (places ys) → IsPermutation xs ys → IsDistinct nat_eq (places xs)
distinct_by_permutation xs ys r p =
    IsDistinct-IsPermutation nat_eq (λ a b. grind (arith, nat_tests)) (places ys) (places xs) (IsPermutation-sym (places xs) (places ys) (IsPermutation-map (λ (i : Placed). i.place) xs ys p)) (rising_distinct (places ys) r)

above_by_order : (x : Placed) (xs : List Placed) → ((j : ℕ) (d : Placed) → j < length xs → x.place ≤ (get_or xs j d).place) → AllByRecursion (λ (q : ℕ). nat_eq x.place q ≡ false) (places xs) → AllByRecursion (λ (q : ℕ). x.place < q) (places xs)
above_by_order x [] h a = tt
above_by_order x (y ∷ ys) h a =
    let le : x.place ≤ y.place = h 0 y (omega arith) in let other = a.0 in
    (grind (arith, nat_tests), above_by_order x ys (λ j d lt. h (suc j) d (omega arith)) a.1)

-- sorted by place, and no place twice
pub rising_sorted : (xs : List Placed) → IsNonDecreasingBy (λ (i : Placed). i.place) xs → IsDistinct nat_eq (places xs) → IsRising (places xs)
unfolding IsDistinct
rising_sorted [] h d = tt
rising_sorted (x ∷ xs) h d = (
  above_by_order x xs (λ j e lt. h 0 (suc j) e (omega arith) (omega arith)) d.0,
  rising_sorted xs (λ i j e le lt. h (suc i) (suc j) e (omega arith) (omega arith)) d.1,
)
