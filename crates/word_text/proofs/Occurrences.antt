-- The number of a word is how often it is among the words, and only words have a number.
use Rattle.std.proofs.Common.{◌≡◌, ℕ, ◌+◌, ◌⊎◌, ◌↔◌, inl, inr, Bool, true, false, cond, Option, Some, None, List, [], ◌∷◌, length, sym, refl, ap, ◌∙◌, subst, unwrap_or, arith}
use Rattle.std.specs.Prelude.{count_by, flat_map, Contains, IsSome}
use Rattle.std.specs.Str.{bytes_eq}
use Rattle.std.specs.Ordering.{nat_cmp}
use Rattle.std.specs.Cmp.Lexicographic.{slice_cmp, bytes_decides, nat_list_cmp_total, texts_ties}
use Rattle.std.specs.FinMap.{get, get-insert, get-empty, empty}
use Rattle.std.proofs.lemmas.List.Elements.{Contains-append_cases, Contains-append_right, Contains-push_cases}
use Rattle.std.proofs.lemmas.List.Sums.{sum_by-cons}
use Rattle.word_text.specs.Words.{words_of}
use Rattle.word_text.specs.Counts.{Numbers, count_in, add_one, add_all, counts_of_all, total}
use Rattle.word_text.proofs.Totals.{total-add_all, total-empty}

get-add_one : (m : Numbers) (w q : List ℕ) → get (add_one m w) q ≡ cond (bytes_eq q w) (Some (count_in m w + 1)) (get m q)
get-add_one m w q = get-insert nat_list_cmp_total m w (count_in m w + 1) q ∙ ap (λ b. cond b (Some (count_in m w + 1)) (get m q)) (sym (texts_ties q w))

count_in-add_one : (m : Numbers) (w q : List ℕ) → count_in (add_one m w) q ≡ count_in m q + cond (bytes_eq q w) 1 0
count_in-add_one m w q = ap (λ o. unwrap_or o 0) (get-add_one m w q) ∙ by_cases (bytes_eq q w) refl
  where
    by_cases : (b : Bool) → bytes_eq q w ≡ b → unwrap_or (cond b (Some (count_in m w + 1)) (get m q)) 0 ≡ count_in m q + cond b 1 0
    by_cases true e = ap (λ x. count_in m x + 1) (sym ((bytes_decides q w).0 e))
    by_cases false e = omega arith

pub count_in-add_all : (m : Numbers) (ws : List (List ℕ)) (q : List ℕ) → count_in (add_all m ws) q ≡ count_in m q + count_by (bytes_eq q) ws
count_in-add_all m [] q = omega arith
count_in-add_all m (w ∷ ws) q = omega (arith, count_in-add_all (add_one m w) ws q, count_in-add_one m w q, sum_by-cons (λ x. cond (bytes_eq q x) 1 0) w ws)

pub count_in-counts_of_all : (texts : List (List ℕ)) (q : List ℕ) → count_in (counts_of_all texts) q ≡ count_by (bytes_eq q) (flat_map words_of texts)
count_in-counts_of_all texts q = count_in-add_all empty (flat_map words_of texts) q ∙ rw (get-empty (slice_cmp nat_cmp) q) (omega arith)

pub total-counts_of_all : (texts : List (List ℕ)) → total (counts_of_all texts) ≡ length (flat_map words_of texts)
total-counts_of_all texts = omega (arith, total-add_all empty (flat_map words_of texts), total-empty)

-- ---- which words have a number
some_before : (m : Numbers) (w q : List ℕ) → IsSome (get (add_one m w) q) → IsSome (get m q) ⊎ (w ≡ q)
some_before m w q h = by_cases (bytes_eq q w) refl (subst IsSome (get-add_one m w q) h)
  where
    by_cases : (b : Bool) → bytes_eq q w ≡ b → IsSome (cond b (Some (count_in m w + 1)) (get m q)) → IsSome (get m q) ⊎ (w ≡ q)
    by_cases true e s = inr (sym ((bytes_decides q w).0 e))
    by_cases false e s = inl s

some_kept : (m : Numbers) (w q : List ℕ) → IsSome (get m q) → IsSome (get (add_one m w) q)
some_kept m w q h = subst IsSome (sym (get-add_one m w q)) (elim (bytes_eq q w) as (λ b. IsSome (cond b (Some (count_in m w + 1)) (get m q))) [ true ↦ refl | false ↦ h ])

some_new : (m : Numbers) (w q : List ℕ) → w ≡ q → IsSome (get (add_one m w) q)
some_new m w q e = subst IsSome (sym (get-add_one m w q)) (subst (λ b. IsSome (cond b (Some (count_in m w + 1)) (get m q))) (sym ((bytes_decides q w).1 (sym e))) refl)

some_after : (m : Numbers) (ws : List (List ℕ)) (q : List ℕ) → IsSome (get (add_all m ws) q) → IsSome (get m q) ⊎ Contains ws q
some_after m [] q h = inl h
some_after m (w ∷ ws) q h = elim (some_after (add_one m w) ws q h) [
  | inl s ↦ elim (some_before m w q s) [ inl t ↦ inl t | inr e ↦ inr (0, omega arith, e) ]
  | inr c ↦ inr (Contains-append_right (w ∷ []) ws q c)
]

only : (w q : List ℕ) → Contains (w ∷ []) q → w ≡ q
only w q c = elim (Contains-push_cases [] w q c) [ inl none ↦ absurd (omega (arith, none.1)) | inr e ↦ e ]

counted_after : (m : Numbers) (ws : List (List ℕ)) (q : List ℕ) → IsSome (get m q) ⊎ Contains ws q → IsSome (get (add_all m ws) q)
counted_after m [] q (inl h) = h
counted_after m [] q (inr c) = absurd (omega (arith, c.1))
counted_after m (w ∷ ws) q (inl h) = counted_after (add_one m w) ws q (inl (some_kept m w q h))
counted_after m (w ∷ ws) q (inr c) = elim (Contains-append_cases (w ∷ []) ws q c) [
  | inl o ↦ counted_after (add_one m w) ws q (inl (some_new m w q (only w q o)))
  | inr r ↦ counted_after (add_one m w) ws q (inr r)
]

none_at_first : (q : List ℕ) (P : Type 0) → IsSome (get (empty {X = ℕ} {R = slice_cmp nat_cmp}) q) → P
none_at_first q P h =
    let none : Option ℕ = None in
    let no : IsSome none = subst IsSome (get-empty (slice_cmp nat_cmp) q) h in
    let impossible : ⊥ = cc no in absurd impossible

pub word_counted : (texts : List (List ℕ)) (q : List ℕ) → IsSome (get (counts_of_all texts) q) ↔ Contains (flat_map words_of texts) q
word_counted texts q = (
  λ h. elim (some_after empty (flat_map words_of texts) q h) [ inl s ↦ none_at_first q _ s | inr c ↦ c ],
  λ c. counted_after empty (flat_map words_of texts) q (inr c),
)
