-- Going over handles that have a seat each: what holds of those so far.
use Rattle.std.proofs.Common.{◌≡◌, ◌≢◌, ◌∙◌, ℕ, ◌+◌, ◌<◌, ◌≤◌, ◌++◌, ◌∷◌, [], List, IsPermutation, None, Option, Some, ap, eq-or-lt_of_le, flat_map, get_or, length, map, subst, sym, take, ⊎_elim, arith}
use Rattle.std.proofs.lemmas.Grind.{flat_map-append}
use Rattle.std.proofs.lemmas.List.{append-nil, get_or-map, length-append, take_more}
use Rattle.std.proofs.lemmas.List.FromFn.{length-range_with_len}
use Rattle.std.proofs.lemmas.List.Sorted.{length_permutation}
use Rattle.rail.specs.Outcome.{numbers_below}
use Rattle.zemuschida_c.proofs.Dealing.{handles_counted}

-- the handle at an index has the seat at that index
pub record IsNext {S V : Type 0} (own : S → V) (seats : List S) (i : ℕ) (here : V) : Type 0 where
  pub seat : S
  pub has : here ≡ own seat
  pub more : take (i + 1) seats ≡ take i seats ++ seat ∷ []

pub next_seat : {H S V : Type 0} (value : H → V) (own : S → V) (first : List H) (seats : List S) (i : ℕ) (h : H) → i < length first → map value first ≡ map own seats → IsNext own seats i (value (get_or first i h))
next_seat value own first [] i h within same = let n = handles_counted value own first [] same in absurd (omega arith)
next_seat value own first (d ∷ others) i h within same =
    let seats = d ∷ others in
    let n : length first ≡ length seats = handles_counted value own first seats same in
    record {
      seat = get_or seats i d;
      has = sym (get_or-map value first i h (own d) within) ∙ ap (λ vs. get_or vs i (own d)) same ∙ get_or-map own seats i d (own d) (omega arith);
      more = take_more seats i d (omega arith);
    }

-- where all handles have what they had, so has each
pub same_here : {H V : Type 0} (value : H → V) (now first : List H) (i : ℕ) (h : H) → map value now ≡ map value first → i < length now → value (get_or now i h) ≡ value (get_or first i h)
same_here value now first i h same within =
    let n : length now ≡ length first = handles_counted value value now first same in
    sym (get_or-map value now i h (value h) within) ∙ ap (λ vs. get_or vs i (value h)) same ∙ get_or-map value first i h (value h) (omega arith)

-- none of the handles before an index is empty, and that at the index isn't
pub full_on : {H X : Type 0} (value : H → Option X) (now first : List H) (i : ℕ) (h : H) → map value now ≡ map value first → i < length now → value (get_or now i h) ≢ None
    → ((k : ℕ) (d : Option X) → k < i → get_or (map value first) k d ≢ None) → (k : ℕ) (d : Option X) → k < i + 1 → get_or (map value first) k d ≢ None
full_on value now first i h same within here before k d below =
    let near : k ≤ i = omega arith in
    ⊎_elim
    (λ e. subst (λ j. get_or (map value first) j d ≢ None) (sym e) (subst (λ v. v ≢ None) (sym (get_or-map value now i h d within) ∙ ap (λ vs. get_or vs i d) same) here))
    (λ l. before k d l)
    (eq-or-lt_of_le near)

-- how many items the seats so far have, and the seat at the index
pub items_on : {S X : Type 0} (items : S → List X) (seats : List S) (i : ℕ) (s : S) → take (i + 1) seats ≡ take i seats ++ s ∷ [] → length (flat_map items (take (i + 1) seats)) ≡ length (flat_map items (take i seats)) + length (items s)
items_on items seats i s more =
    let all = ap (λ xs. length (flat_map items xs)) more in
    let parts = ap length (flat_map-append items (take i seats) (s ∷ [])) in
    let long = length-append (flat_map items (take i seats)) (flat_map items (s ∷ [])) in
    let one = length-append (items s) [] in
    omega (arith, all, parts, long, one)

pub of_some : {X : Type 0} (x y : X) → Some x ≡ Some y → x ≡ y
of_some x y e = ap (λ o. in_some x o) e
  where
    in_some : {X : Type 0} → X → Option X → X
    in_some x None = x
    in_some x (Some y) = y

-- as many numbers as a queue has seats are all of them
pub all_here : (numbers elsewhere : List ℕ) (n : ℕ) → length numbers ≡ n → IsPermutation (numbers ++ elsewhere) (numbers_below n) → IsPermutation numbers (numbers_below n)
all_here numbers [] n long apart = subst (λ xs. IsPermutation xs (numbers_below n)) (append-nil numbers) apart
all_here numbers (x ∷ others) n long apart =
    let a = length_permutation (numbers ++ x ∷ others) (numbers_below n) apart in
    let b = length-append numbers (x ∷ others) in
    let c = length-range_with_len 0 n in
    absurd (omega (arith, a, b, c))
