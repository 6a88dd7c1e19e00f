-- Numbers that are added to numbers, entry by entry.
use Rattle.std.proofs.Common.{◌≡◌, ℕ, ◌+◌, ◌<◌, Bool, true, false, cond, Some, None, Option, List, [], ◌∷◌, ◌++◌, sym, refl, ap, ◌∙◌, subst, inl, inr, unwrap_or, arith}
use Rattle.std.specs.Prelude.{sum, sum_by, count_by, flat_map, ◌⊎◌, IsPermutation}
use Rattle.std.specs.declared.cmp.Ordering.{Ordering}
use Rattle.std.specs.Str.{bytes_eq}
use Rattle.std.specs.Ordering.{nat_cmp, eq_by_cmp}
use Rattle.std.specs.Cmp.{eq_by_cmp_equiv}
use Rattle.std.specs.Cmp.Lexicographic.{slice_cmp, bytes_decides, nat_list_cmp_total, texts_ties}
use Rattle.std.specs.List.{AllByRecursion, IsDistinct}
use Rattle.std.specs.Map.{keys_of, values_of}
use Rattle.std.specs.FinMap.{get, find, from_entries, entries, empty, get-insert, get-empty, get-from_entries, get-entries, entries_sorted, same_map, slice_cmp-IsAntisymmetric, nat_cmp-IsAntisymmetric}
use Rattle.std.proofs.lemmas.List.Sums.{sum_by-cons, sum_by-append}
use Rattle.std.proofs.lemmas.List.Sorted.{sum_by-IsPermutation}
use Rattle.std.proofs.lemmas.Map.Keys.{IsDistinct-head, IsDistinct-tail, IsDistinct-from_sorted}
use Rattle.word_text.specs.Counts.{Numbers, count_in, add_number, add_numbers, add_all, merged, total, IsCounted}
use Rattle.word_text.proofs.Totals.{strictly_sorted, total-add_number, total-empty, positive-add_number}
use Rattle.word_text.proofs.Occurrences.{count_in-add_all}

abbrev R : List ℕ → List ℕ → Ordering
R = slice_cmp nat_cmp

abbrev E : List ℕ → List ℕ → Bool
E = eq_by_cmp R

abbrev Entries : Type 0
Entries = List (List ℕ × ℕ)

-- these entries are of words that differ
abbrev pub AreApart : Entries → Type 0
AreApart es = IsDistinct E (keys_of es)

-- all their numbers together
abbrev pub sum_of : Entries → ℕ
sum_of es = sum (values_of es)

same_words : (q w : List ℕ) → E q w ≡ true → q ≡ w
same_words q w e = (bytes_decides q w).0 (texts_ties q w ∙ e)

-- ---- what a word finds in a list
find_none : (q : List ℕ) (es : Entries) → AllByRecursion (λ y. E q y ≡ false) (keys_of es) → find R q es ≡ None
find_none q [] h = refl
find_none q (e ∷ es) h = ap (λ b. cond b (Some e.1) (find R q es)) h.0 ∙ find_none q es h.1

find_front : (q : List ℕ) (n : ℕ) (es fs : Entries) → find R q es ≡ Some n → find R q (es ++ fs) ≡ Some n
find_front q n [] fs h = absurd cc
find_front q n (e ∷ es) fs h =
    elim (E q e.0) as (λ b. cond b (Some e.1) (find R q es) ≡ Some n → cond b (Some e.1) (find R q (es ++ fs)) ≡ Some n) [ true ↦ λ k. k | false ↦ λ k. find_front q n es fs k ] h

apart_from_last : (x : List ℕ) (es : Entries) (e : List ℕ × ℕ) (fs : Entries) → AllByRecursion (λ y. E x y ≡ false) (keys_of (es ++ e ∷ fs)) → E x e.0 ≡ false
apart_from_last x [] e fs h = h.0
apart_from_last x (f ∷ es) e fs h = apart_from_last x es e fs h.1

-- an entry finds its own number
pub find_entry : (es : Entries) (e : List ℕ × ℕ) (fs : Entries) → AreApart (es ++ e ∷ fs) → find R e.0 (es ++ e ∷ fs) ≡ Some e.1
find_entry [] e fs d = ap (λ b. cond b (Some e.1) (find R e.0 fs)) ((eq_by_cmp_equiv nat_list_cmp_total).refl e.0)
find_entry (f ∷ es) e fs d =
    let other : E e.0 f.0 ≡ false = (eq_by_cmp_equiv nat_list_cmp_total).symm e.0 f.0 ∙ apart_from_last f.0 es e fs (IsDistinct-head E f.0 (keys_of (es ++ e ∷ fs)) d) in
    ap (λ b. cond b (Some f.1) (find R e.0 (es ++ e ∷ fs))) other ∙ find_entry es e fs (IsDistinct-tail E f.0 (keys_of (es ++ e ∷ fs)) d)

front_apart_from : (x : List ℕ) (es fs : Entries) → AllByRecursion (λ y. E x y ≡ false) (keys_of (es ++ fs)) → AllByRecursion (λ y. E x y ≡ false) (keys_of es)
front_apart_from x [] fs h = tt
front_apart_from x (e ∷ es) fs h = (h.0, front_apart_from x es fs h.1)

front_apart : (es fs : Entries) → AreApart (es ++ fs) → AreApart es
unfolding IsDistinct
front_apart [] fs d = tt
front_apart (e ∷ es) fs d = (front_apart_from e.0 es fs d.0, front_apart es fs d.1)

entries_apart : (m : Numbers) → AreApart (entries m)
entries_apart m = IsDistinct-from_sorted R (keys_of (entries m)) (strictly_sorted R (entries m) (entries_sorted m))

-- ---- what a word finds after entries were added
abbrev plus : Option ℕ → Option ℕ → Option ℕ
plus o None = o
plus o (Some n) = Some (unwrap_or o 0 + n)

get-add_numbers : (m : Numbers) (es : Entries) → AreApart es → (q : List ℕ) → get (add_numbers m es) q ≡ plus (get m q) (find R q es)
get-add_numbers m [] d q = refl
get-add_numbers m (e ∷ es) d q =
    let c = count_in m e.0 + e.1 in
    get-add_numbers (add_number m e.0 e.1) es (IsDistinct-tail E e.0 (keys_of es) d) q
    ∙ ap (λ o. plus o (find R q es)) (get-insert nat_list_cmp_total m e.0 c q)
    ∙ elim (E q e.0) as (λ b. E q e.0 ≡ b → plus (cond b (Some c) (get m q)) (find R q es) ≡ plus (get m q) (cond b (Some e.1) (find R q es))) [
      | true ↦ λ t.
          let same : q ≡ e.0 = same_words q e.0 t in
          let gone : find R q es ≡ None = find_none q es (subst (λ x. AllByRecursion (λ y. E x y ≡ false) (keys_of es)) (sym same) (IsDistinct-head E e.0 (keys_of es) d)) in
          ap (plus (Some c)) gone ∙ ap (λ x. Some (count_in m x + e.1)) (sym same)
      | false ↦ λ _. refl
    ] refl

same_numbers : (m n : Numbers) → ((q : List ℕ) → get m q ≡ get n q) → m ≡ n
same_numbers m n = same_map nat_list_cmp_total (slice_cmp-IsAntisymmetric nat_cmp-IsAntisymmetric) m n

-- the order of the entries makes no difference
pub add_numbers-merged : (m : Numbers) (es : Entries) → AreApart es → add_numbers m es ≡ merged m (from_entries es)
add_numbers-merged m es d = same_numbers (add_numbers m es) (merged m (from_entries es)) (λ q.
    get-add_numbers m es d q
    ∙ ap (plus (get m q)) (sym (get-from_entries nat_list_cmp_total es q) ∙ get-entries (from_entries es) q)
    ∙ sym (get-add_numbers m (entries (from_entries es)) (entries_apart (from_entries es)) q))

plus_none : (o : Option ℕ) → plus None o ≡ o
plus_none None = refl
plus_none (Some n) = ap Some (omega arith)

from_entries-add_numbers : (es : Entries) → AreApart es → add_numbers empty es ≡ from_entries es
from_entries-add_numbers es d = same_numbers (add_numbers empty es) (from_entries es) (λ q.
    get-add_numbers empty es d q ∙ ap (λ o. plus o (find R q es)) (get-empty R q) ∙ plus_none (find R q es) ∙ sym (get-from_entries nat_list_cmp_total es q))

-- ---- sums
sum_of-cons : (e : List ℕ × ℕ) (es : Entries) → sum_of (e ∷ es) ≡ e.1 + sum_of es
sum_of-cons e es = sum_by-cons (λ x. x) e.1 (values_of es)

pub total-add_numbers : (m : Numbers) (es : Entries) → total (add_numbers m es) ≡ total m + sum_of es
total-add_numbers m [] = omega arith
total-add_numbers m (e ∷ es) = omega (arith, total-add_numbers (add_number m e.0 e.1) es, total-add_number m e.0 e.1, sum_of-cons e es)

total-from_entries : (es : Entries) → AreApart es → total (from_entries es) ≡ sum_of es
total-from_entries es d = ap total (sym (from_entries-add_numbers es d)) ∙ omega (arith, total-add_numbers empty es, total-empty)

sum_of-append : (es : Entries) (e : List ℕ × ℕ) (fs : Entries) → sum_of (es ++ e ∷ fs) ≡ sum_of es + e.1 + sum_of fs
sum_of-append [] e fs = omega (arith, sum_of-cons e fs)
sum_of-append (f ∷ es) e fs = omega (arith, sum_of-cons f (es ++ e ∷ fs), sum_of-append es e fs, sum_of-cons f es)

-- ---- while entries are added one by one: some are done, one comes next, and the rest is left
pub next_some : (done : Entries) (e : List ℕ × ℕ) (left all : Entries) → done ++ e ∷ left ≡ all → AreApart all → IsCounted (from_entries all) → 0 < e.1
next_some done e left all is d counted =
    let found : get (from_entries {R = R} all) e.0 ≡ Some e.1 = get-from_entries nat_list_cmp_total all e.0 ∙ ap (find R e.0) (sym is) ∙ find_entry done e left (subst AreApart (sym is) d) in
    subst (λ o. 0 < unwrap_or o 1) found (counted.positive e.0)

pub next_room : (m : Numbers) (done : Entries) (e : List ℕ × ℕ) (left all : Entries) → done ++ e ∷ left ≡ all → AreApart all → total (add_numbers m done) + e.1 + sum_of left ≡ total m + total (from_entries all)
next_room m done e left all is d = omega (arith, total-add_numbers m done, sum_of-append done e left, ap sum_of is, total-from_entries all d)

-- then each word has its number added in full, or not at all
pub all_or_nothing : (m : Numbers) (done left all : Entries) → done ++ left ≡ all → AreApart all → (q : List ℕ)
    → (count_in (add_numbers m done) q ≡ count_in m q + count_in (from_entries all) q) ⊎ (count_in (add_numbers m done) q ≡ count_in m q)
all_or_nothing m done left all is d q =
    let apart : AreApart done = front_apart done left (subst AreApart (sym is) d) in
    let now : count_in (add_numbers m done) q ≡ unwrap_or (plus (get m q) (find R q done)) 0 = ap (λ o. unwrap_or o 0) (get-add_numbers m done apart q) in
    elim (find R q done) as (λ o. find R q done ≡ o → (count_in (add_numbers m done) q ≡ count_in m q + count_in (from_entries all) q) ⊎ (count_in (add_numbers m done) q ≡ count_in m q)) [
      | None ↦ λ e. inr (now ∙ ap (λ o. unwrap_or (plus (get m q) o) 0) e)
      | Some n ↦ λ e.
          let there : count_in (from_entries all) q ≡ n = ap (λ o. unwrap_or o 0) (get-from_entries nat_list_cmp_total all q ∙ ap (find R q) (sym is) ∙ find_front q n done left e) in
          inl (now ∙ ap (λ o. unwrap_or (plus (get m q) o) 0) e ∙ ap (λ k. count_in m q + k) (sym there))
    ] refl

-- ---- merged counts
pub count_in-merged : (m n : Numbers) (q : List ℕ) → count_in (merged m n) q ≡ count_in m q + count_in n q
count_in-merged m n q =
    ap (λ o. unwrap_or o 0) (get-add_numbers m (entries n) (entries_apart n) q ∙ ap (plus (get m q)) (sym (get-entries n q)))
    ∙ elim (get n q) as (λ o. unwrap_or (plus (get m q) o) 0 ≡ count_in m q + unwrap_or o 0) [ None ↦ omega arith | Some k ↦ refl ]

-- ---- numbers of at least one are told by the count of each word
abbrev IsPositive : Numbers → Type 0
IsPositive m = (q : List ℕ) → 0 < unwrap_or (get m q) 1

same_number : (o p : Option ℕ) → 0 < unwrap_or o 1 → 0 < unwrap_or p 1 → unwrap_or o 0 ≡ unwrap_or p 0 → o ≡ p
same_number None None a b e = refl
same_number None (Some n) a b e = absurd (omega arith)
same_number (Some n) None a b e = absurd (omega arith)
same_number (Some n) (Some k) a b e = ap Some e

same_counts : (m n : Numbers) → IsPositive m → IsPositive n → ((q : List ℕ) → count_in m q ≡ count_in n q) → m ≡ n
same_counts m n a b same = same_numbers m n (λ q. same_number (get m q) (get n q) (a q) (b q) (same q))

positive-add_all : (m : Numbers) (ws : List (List ℕ)) → IsPositive m → IsPositive (add_all m ws)
positive-add_all m [] h = h
positive-add_all m (w ∷ ws) h = positive-add_all (add_number m w 1) ws (positive-add_number m w 1 (omega arith) h)

positive-empty : IsPositive empty
positive-empty q = rw (get-empty R q) (omega arith)

positive-plus : (o p : Option ℕ) → 0 < unwrap_or o 1 → 0 < unwrap_or p 1 → 0 < unwrap_or (plus o p) 1
positive-plus o None a b = a
positive-plus o (Some n) a b = omega arith

positive-merged : (m n : Numbers) → IsPositive m → IsPositive n → IsPositive (merged m n)
positive-merged m n a b q = subst (λ o. 0 < unwrap_or o 1) (sym (get-add_numbers m (entries n) (entries_apart n) q ∙ ap (plus (get m q)) (sym (get-entries n q)))) (positive-plus (get m q) (get n q) (a q) (b q))

abbrev counted : List (List ℕ) → Numbers
counted ws = add_all empty ws

count_in-counted : (ws : List (List ℕ)) (q : List ℕ) → count_in (counted ws) q ≡ count_by (bytes_eq q) ws
count_in-counted ws q = count_in-add_all empty ws q ∙ rw (get-empty R q) (omega arith)

pub merged-counted : (ws vs : List (List ℕ)) → merged (add_all empty ws) (add_all empty vs) ≡ add_all empty (ws ++ vs)
merged-counted ws vs =
    same_counts (merged (counted ws) (counted vs)) (counted (ws ++ vs))
    (positive-merged (counted ws) (counted vs) (positive-add_all empty ws positive-empty) (positive-add_all empty vs positive-empty)) (positive-add_all empty (ws ++ vs) positive-empty)
    (λ q. omega (arith, count_in-merged (counted ws) (counted vs) q, count_in-counted ws q, count_in-counted vs q, count_in-counted (ws ++ vs) q, sum_by-append (λ w. cond (bytes_eq q w) 1 0) ws vs))

-- each word stands as often in both
counted-alike : (ws vs : List (List ℕ)) → ((q : List ℕ) → count_by (bytes_eq q) ws ≡ count_by (bytes_eq q) vs) → add_all empty ws ≡ add_all empty vs
counted-alike ws vs same =
    same_counts (counted ws) (counted vs) (positive-add_all empty ws positive-empty) (positive-add_all empty vs positive-empty)
    (λ q. count_in-counted ws q ∙ same q ∙ sym (count_in-counted vs q))

pub counted-permutation : (ws vs : List (List ℕ)) → IsPermutation ws vs → add_all empty ws ≡ add_all empty vs
counted-permutation ws vs p = counted-alike ws vs (λ q. sym (sum_by-IsPermutation (λ w. cond (bytes_eq q w) 1 0) ws vs p))

module _ {X : Type 0} (f : X → List (List ℕ)) where
  count_by-parts : (p : List ℕ → Bool) (xs : List X) → count_by p (flat_map f xs) ≡ sum_by (λ x. count_by p (f x)) xs
  count_by-parts p [] = refl
  count_by-parts p (x ∷ xs) = omega (arith, sum_by-append (λ w. cond (p w) 1 0) (f x) (flat_map f xs), count_by-parts p xs, sum_by-cons (λ y. count_by p (f y)) x xs)

  -- parts that are counted in another order
  pub counted-parts : (xs ys : List X) → IsPermutation xs ys → add_all empty (flat_map f xs) ≡ add_all empty (flat_map f ys)
  counted-parts xs ys p =
      counted-alike (flat_map f xs) (flat_map f ys)
      (λ q. count_by-parts (bytes_eq q) xs ∙ sym (sum_by-IsPermutation (λ x. count_by (bytes_eq q) (f x)) xs ys p) ∙ sym (count_by-parts (bytes_eq q) ys))

-- ---- the loop over a table
pub add_numbers-push : (m : Numbers) (es : Entries) (e : List ℕ × ℕ) → add_numbers m (es ++ e ∷ []) ≡ add_number (add_numbers m es) e.0 e.1
add_numbers-push m [] e = refl
add_numbers-push m (f ∷ es) e = add_numbers-push (add_number m f.0 f.1) es e

pub stopped : (m new other : Numbers) (done left all : Entries) → new ≡ add_numbers m done → from_entries all ≡ other → done ++ left ≡ all → AreApart all
    → (q : List ℕ) → (count_in new q ≡ count_in m q + count_in other q) ⊎ (count_in new q ≡ count_in m q)
stopped m new other done left all e f is d q =
    subst (λ (n : Numbers). (count_in n q ≡ count_in m q + count_in other q) ⊎ (count_in n q ≡ count_in m q)) (sym e)
    (subst (λ (o : Numbers). (count_in (add_numbers m done) q ≡ count_in m q + count_in o q) ⊎ (count_in (add_numbers m done) q ≡ count_in m q)) f (all_or_nothing m done left all is d q))
