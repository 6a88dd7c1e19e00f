-- The entries of a table, sorted, are those of the map that it tells.
use Rattle.std.proofs.Common.{◌≡◌, ℕ, ◌+◌, ◌<◌, Bool, true, false, Some, None, Option, List, [], ◌∷◌, length, get_or, map, sym, refl, ap, ◌∙◌, subst, arith, Vec, Bor}
use Rattle.std.specs.Prelude.{T, ◌&&◌, cond, is_some, IsPermutation, IsSorted}
use Rattle.std.specs.declared.cmp.Ordering.{Ordering}
use Rattle.std.specs.declared.cmp.Ordering.TheVariants.{Less, Equal, Greater}
use Rattle.std.specs.Ordering.{nat_cmp, eq_by_cmp, is_lt, is_eq, ordering_then, ordering_reverse}
use Rattle.std.specs.Cmp.{IsEquivalence, eq_by_cmp_equiv}
use Rattle.std.specs.Cmp.Lexicographic.{slice_cmp, nat_list_cmp_total, texts_ties}
use Rattle.std.specs.List.{AllByRecursion, IsDistinct}
use Rattle.std.specs.List.Sorted.{IsStrictlySortedBy}
use Rattle.std.specs.Map.{lookup, keys_of}
use Rattle.std.specs.FinMap.{contains_key, is_sorted, entries, entries_sorted, get, get-entries, get-from_entries, from_entries, len, len-empty, len-insert}
use Rattle.std.specs.FinMap.Entries.{below_all, same_entries}
use Rattle.std.proofs.lemmas.Bool.{false≢true}
use Rattle.std.proofs.lemmas.List.{get_or-map, length-map}
use Rattle.std.proofs.lemmas.List.Sorted.{IsPermutation-map, IsPermutation-sym, Contains-permutation}
use Rattle.std.proofs.lemmas.Map.Keys.{IsDistinct-IsPermutation, apart_from_distinct, sorted_from_all_adjacent}
use Rattle.std.proofs.lemmas.Map.Lookups.{exact_bytes}
use Rattle.std.proofs.lemmas.Map.Views.{tells_apart, Contains-from_lookup, lookup-from_Contains}
use Rattle.word_text.specs.Counts.{shown, told, pair_of}
use Rattle.word_text.proofs.Tables.{same_bytes}
use Rattle.word_text.proofs.Totals.{find_is}

abbrev R : List ℕ → List ℕ → Ordering
R = slice_cmp nat_cmp

abbrev E : List ℕ → List ℕ → Bool
E = eq_by_cmp R

laws : IsEquivalence E
laws = eq_by_cmp_equiv nat_list_cmp_total

-- ---- keys that differ
apart_shown : {Z : Type 0} (x : List ℕ) (es : List (Vec ℕ Z × ℕ)) (k : Vec ℕ Z) → k.items ≡ x → AllByRecursion (λ y. same_bytes k y ≡ false) (keys_of es) → AllByRecursion (λ y. E x y ≡ false) (keys_of (shown es))
apart_shown x [] k e h = tt
apart_shown x (p ∷ es) k e h = (ap (λ z. E z p.0.items) (sym e) ∙ sym (texts_ties k.items p.0.items) ∙ h.0, apart_shown x es k e h.1)

pub distinct_shown : {Z : Type 0} (es : List (Vec ℕ Z × ℕ)) → IsDistinct same_bytes (keys_of es) → IsDistinct E (keys_of (shown es))
unfolding IsDistinct
distinct_shown [] h = tt
distinct_shown (e ∷ es) h = (apart_shown e.0.items es e.0 refl h.0, distinct_shown es h.1)

-- a map of entries with different keys has as many
not_found : (x : List ℕ) (es : List (List ℕ × ℕ)) → AllByRecursion (λ y. E x y ≡ false) (keys_of es) → lookup (E x) es ≡ None
not_found x [] h = refl
not_found x (e ∷ es) h = ap (λ b. cond b (Some e.1) (lookup (E x) es)) h.0 ∙ not_found x es h.1

as_many : (es : List (List ℕ × ℕ)) → IsDistinct E (keys_of es) → len (from_entries {R = R} es) ≡ length es
unfolding IsDistinct
as_many [] h = len-empty R ℕ
as_many (e ∷ es) h =
    let m = from_entries {R = R} es in
    let absent : get m e.0 ≡ None = get-from_entries nat_list_cmp_total es e.0 ∙ find_is R e.0 es ∙ not_found e.0 es h.0 in
    len-insert nat_list_cmp_total m e.0 e.1 ∙ ap (λ o. cond (is_some o) (len m) (len m + 1)) absent ∙ omega (arith, as_many es h.1)

pub told_as_many : {Z : Type 0} (es : List (Vec ℕ Z × ℕ)) → IsDistinct same_bytes (keys_of es) → len (told es) ≡ length es
told_as_many es unique = as_many (shown es) (distinct_shown es unique) ∙ length-map es (λ e. (e.0.items, e.1))

-- ---- a list of entries in another order finds the same
into : (es qs : List (List ℕ × ℕ)) → IsDistinct E (keys_of qs) → IsPermutation es qs → (q : List ℕ) (v : ℕ) → lookup (E q) es ≡ Some v → lookup (E q) qs ≡ Some v
into es qs d p q v h = lookup-from_Contains laws q v qs d (Contains-permutation es qs (q, v) p (Contains-from_lookup (tells_apart exact_bytes) q v es h))

same_found : (es qs : List (List ℕ × ℕ)) → IsDistinct E (keys_of es) → IsDistinct E (keys_of qs) → IsPermutation es qs → (q : List ℕ) → lookup (E q) es ≡ lookup (E q) qs
same_found es qs d d' p q = by_cases (lookup (E q) es) (lookup (E q) qs) refl refl
  where
    by_cases : (a b : Option ℕ) → lookup (E q) es ≡ a → lookup (E q) qs ≡ b → lookup (E q) es ≡ lookup (E q) qs
    by_cases (Some v) b h h' = h ∙ sym (into es qs d' p q v h)
    by_cases None (Some w) h h' = into qs es d (IsPermutation-sym es qs p) q w h' ∙ sym h'
    by_cases None None h h' = h ∙ sym h'

-- ---- in strict order
both : (a b : Bool) → T a → T b → T (a && b)
both true b p q = q
both false b p q = p

below_from : (x : List ℕ) (es : List (List ℕ × ℕ)) → AllByRecursion (λ y. R x y ≡ Less) (keys_of es) → T (below_all R x es)
below_from x [] h = tt
below_from x (e ∷ es) h = both _ _ (subst (λ o. T (is_lt o)) (sym h.0) tt) (below_from x es h.1)

is_sorted_from : (es : List (List ℕ × ℕ)) → IsStrictlySortedBy R (keys_of es) → T (is_sorted R es)
unfolding IsStrictlySortedBy
is_sorted_from [] h = tt
is_sorted_from (e ∷ es) h = both _ _ (below_from e.0 es h.0) (is_sorted_from es h.1)

-- the entries in strict order are those of the map
pub entries_are : (es qs : List (List ℕ × ℕ)) → IsDistinct E (keys_of es) → IsPermutation es qs → IsStrictlySortedBy R (keys_of qs) → qs ≡ entries (from_entries {R = R} es)
entries_are es qs d p s =
    let d' : IsDistinct E (keys_of qs) = IsDistinct-IsPermutation E laws.symm (keys_of es) (keys_of qs) (IsPermutation-map (λ e. e.0) es qs p) d in
    same_entries R nat_list_cmp_total exact_bytes qs (entries (from_entries {R = R} es)) (is_sorted_from qs s) (entries_sorted (from_entries es)) (λ q.
    find_is R q qs ∙ sym (same_found es qs d d' p q) ∙ sym (find_is R q es) ∙ sym (get-from_entries nat_list_cmp_total es q) ∙ get-entries (from_entries es) q)

-- ---- what a sort of pairs ensures
abbrev Pair : Type 0
Pair = Bor (List ℕ) × ℕ

abbrev pub pair_cmp : Bor (List ℕ) × ℕ → Bor (List ℕ) × ℕ → Ordering
pair_cmp x y = ordering_then (slice_cmp nat_cmp x.0.now y.0.now) (nat_cmp x.1 y.1)

not_less : (a b : Ordering) → is_lt (ordering_then a b) ≡ false → is_lt a ≡ false
not_less Less b h = absurd (false≢true (sym h))
not_less Equal b h = refl
not_less Greater b h = refl

rises : (x y : List ℕ) → E x y ≡ false → is_lt (R y x) ≡ false → R x y ≡ Less
rises x y apart h = by_cases (R y x) refl h
  where
    turned : R x y ≡ ordering_reverse (R y x)
    turned = nat_list_cmp_total.antisymm x y

    by_cases : (o : Ordering) → R y x ≡ o → is_lt o ≡ false → R x y ≡ Less
    by_cases Less e l = absurd (false≢true (sym l))
    by_cases Equal e l = absurd (false≢true (sym apart ∙ ap is_eq (turned ∙ ap ordering_reverse e)))
    by_cases Greater e l = turned ∙ ap ordering_reverse e

key_at : (ps : List Pair) (k : ℕ) → k < length ps → get_or (keys_of (map pair_of ps)) k [] ≡ (get_or ps k (record { ref_ptr = (0, 0); now = [] }, 0)).0.now
key_at ps k lt =
    get_or-map (λ e. e.0) (map pair_of ps) k ([], 0) [] (rw (length-map ps pair_of) lt)
    ∙ ap (λ e. e.0) (get_or-map pair_of ps k (record { ref_ptr = (0, 0); now = [] }, 0) ([], 0) lt)

length_keys : (ps : List Pair) → length (keys_of (map pair_of ps)) ≡ length ps
length_keys ps = length-map (map pair_of ps) (λ e. e.0) ∙ length-map ps pair_of

pub strict_from_sort : (ps : List Pair) → IsDistinct E (keys_of (map pair_of ps)) → IsSorted pair_cmp ps → IsStrictlySortedBy R (keys_of (map pair_of ps))
strict_from_sort ps d s = sorted_from_all_adjacent nat_list_cmp_total (keys_of (map pair_of ps)) [] (λ k h.
    let more : k + 1 < length ps = omega (arith, length_keys ps) in
    let here : k < length ps = omega arith in
    let e = key_at ps k here in
    let e' = key_at ps (k + 1) more in
    let apart = apart_from_distinct E (keys_of (map pair_of ps)) k (k + 1) [] d (omega arith) h in
    let pad : Pair = (record { ref_ptr = (0, 0); now = [] }, 0) in
    let late = not_less _ _ (s k pad (omega arith) more) in
    rises (get_or (keys_of (map pair_of ps)) k []) (get_or (keys_of (map pair_of ps)) (k + 1) []) apart (ap (λ x. is_lt (R x (get_or (keys_of (map pair_of ps)) k []))) e' ∙ ap (λ x. is_lt (R (get_or ps (k + 1) pad).0.now x)) e ∙ late))

-- the pairs of a table, sorted
pub sorted_pairs : {Z : Type 0} (es : List (Vec ℕ Z × ℕ)) (ps qs : List Pair) → IsDistinct same_bytes (keys_of es) → map pair_of ps ≡ shown es → IsPermutation ps qs → IsSorted pair_cmp qs
    → map pair_of qs ≡ entries (told es)
sorted_pairs es ps qs unique all p s =
    let d : IsDistinct E (keys_of (shown es)) = distinct_shown es unique in
    let moved : IsPermutation (shown es) (map pair_of qs) = subst (λ l. IsPermutation l (map pair_of qs)) all (IsPermutation-map pair_of ps qs p) in
    let d' : IsDistinct E (keys_of (map pair_of qs)) = IsDistinct-IsPermutation E laws.symm (keys_of (shown es)) (keys_of (map pair_of qs)) (IsPermutation-map (λ e. e.0) (shown es) (map pair_of qs) moved) d in
    entries_are (shown es) (map pair_of qs) d moved (strict_from_sort qs d' s)
