-- Lists whose places have no gap.
use Rattle.std.proofs.Common.{◌≡◌, ℕ, zero, suc, ◌+◌, ◌<◌, ◌≤◌, List, [], ◌∷◌, ◌++◌, length, take, refl, sym, ap, subst, ◌∙◌, arith}
use Rattle.std.specs.Prelude.{Some, slice_get}
use Rattle.std.specs.List.{All, AllByRecursion, Contains, range_with_len}
use Rattle.std.proofs.lemmas.List.{map-append, map-id, length_push}
use Rattle.std.proofs.lemmas.List.FromFn.{map-range_with_len_more}
use Rattle.std.proofs.lemmas.List.Elements.{All-from_recursion}
use Rattle.std.proofs.lemmas.Option.{none-some, same_Some, slice_get-get_or}
use Rattle.rail.specs.declared.entry.Placed.{Placed}
use Rattle.rail.specs.Items.{placed, places}
use Rattle.rail.specs.Outcome.{numbers_below}

pub range_head : (a n : ℕ) (x : Placed) (xs : List Placed) → places (x ∷ xs) ≡ range_with_len a (suc n) → x.place ≡ a
range_head a n x xs e = cc

pub range_tail : (a n : ℕ) (x : Placed) (xs : List Placed) → places (x ∷ xs) ≡ range_with_len a (suc n) → places xs ≡ range_with_len (a + 1) n
range_tail a n x xs e = cc

below_range : (m a n : ℕ) → a + n ≤ m → AllByRecursion (λ (q : ℕ). q < m) (range_with_len a n)
below_range m a zero le = tt
below_range m a (suc n) le = (omega arith, below_range m (a + 1) n (omega arith))

pub dense_below : (xs : List Placed) (m : ℕ) → places xs ≡ numbers_below m → All (λ p. p < m) (places xs)
dense_below xs m e = subst (All (λ (p : ℕ). p < m)) (sym e) (All-from_recursion (λ (p : ℕ). p < m) (numbers_below m) (below_range m 0 m (omega arith)))

range_more : (n : ℕ) → range_with_len 0 (n + 1) ≡ range_with_len 0 n ++ n ∷ []
range_more n = sym (map-id (range_with_len 0 (n + 1))) ∙ map-range_with_len_more (λ (k : ℕ). k) 0 n n (omega arith) ∙ ap (λ (xs : List ℕ). xs ++ n ∷ []) (map-id (range_with_len 0 n))

pub dense_push : (xs : List Placed) (words : List ℕ) → places xs ≡ numbers_below (length xs) → places (xs ++ placed (length xs) words ∷ []) ≡ numbers_below (length (xs ++ placed (length xs) words ∷ []))
dense_push xs words e =
    map-append (λ (i : Placed). i.place) xs (placed (length xs) words ∷ []) ∙ ap (λ (ps : List ℕ). ps ++ length xs ∷ []) e ∙ sym (range_more (length xs))
    ∙ sym (ap numbers_below (length_push xs (placed (length xs) words)))

take_range : (a k : ℕ) (xs : List Placed) → places xs ≡ range_with_len a (length xs) → k ≤ length xs → places (take k xs) ≡ range_with_len a k
take_range a zero xs e le = refl
take_range a (suc k) [] e le = absurd (omega arith)
take_range a (suc k) (x ∷ xs) e le =
    let h = range_head a (length xs) x xs e in
    let t = take_range (a + 1) k xs (range_tail a (length xs) x xs e) (omega arith) in
    ap (λ (p : ℕ). p ∷ places (take k xs)) h ∙ ap (λ (ps : List ℕ). a ∷ ps) t

pub dense_take : (k : ℕ) (xs : List Placed) → places xs ≡ numbers_below (length xs) → k ≤ length xs → places (take k xs) ≡ numbers_below k
dense_take k xs e le = take_range 0 k xs e le

place_in_range : (a i : ℕ) (x : Placed) (xs : List Placed) → places xs ≡ range_with_len a (length xs) → slice_get xs i ≡ Some x → x.place ≡ a + i
place_in_range a i x [] e s = absurd (none-some x s)
place_in_range a zero x (y ∷ ys) e s = let k = same_Some y x s in let h = range_head a (length ys) y ys e in let p = ap (λ (z : Placed). z.place) k in omega arith
place_in_range a (suc i) x (y ∷ ys) e s = let h = place_in_range (a + 1) i x ys (range_tail a (length ys) y ys e) s in omega arith

-- in such a list an item stands at its place
pub dense_place : (i : ℕ) (x : Placed) (xs : List Placed) → places xs ≡ numbers_below (length xs) → slice_get xs i ≡ Some x → x.place ≡ i
dense_place i x xs e s = place_in_range 0 i x xs e s ∙ omega arith

pub dense_only : (i : ℕ) (x y : Placed) (xs : List Placed) → places xs ≡ numbers_below (length xs) → slice_get xs i ≡ Some x → Contains xs y → y.place ≡ i → y ≡ x
dense_only i x y xs e s c same =
    let at : slice_get xs c.0 ≡ Some y = slice_get-get_or xs c.0 y c.1 ∙ ap Some c.2 in
    let k : c.0 ≡ i = sym (dense_place c.0 y xs e at) ∙ same in
    same_Some y x (sym at ∙ ap (slice_get xs) k ∙ s)
