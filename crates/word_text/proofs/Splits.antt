-- The words of a text, from where its first word begins and ends.
use Rattle.std.proofs.Common.{◌≡◌, ℕ, ◌+◌, ◌<◌, ◌≤◌, true, false, cond, List, [], ◌∷◌, ◌++◌, length, get_or, take, drop, refl, sym, ap, ◌∙◌, arith, suc, zero, length-take-le, get_or-take, drop-cons, take-append-drop, drop_of_length-le, take_all, get_or-drop, add-zero, length-drop, ⊎_elim}
use Rattle.std.proofs.lemmas.List.Elements.{All-from_get_or}
use Rattle.std.proofs.lemmas.Bool.{cases_lt, false≢true}
use Rattle.std.specs.List.{slice_split, onto_first, filter, All}
use Rattle.std.proofs.lemmas.List.Splits.{slice_split-cons_yes, slice_split_none, slice_split_at}
use Rattle.word_text.specs.Words.{is_separator, is_nonempty, words_of}

abbrev Gap : List ℕ → ℕ → Type 0
Gap text n = (k : ℕ) → k < n → is_separator (get_or text k 0) ≡ true

abbrev Unbroken : List ℕ → ℕ → Type 0
Unbroken text n = (k : ℕ) → k < n → is_separator (get_or text k 0) ≡ false

-- a separator at the front is skipped
pub words_of-gap : (b : ℕ) (bs : List ℕ) → is_separator b ≡ true → words_of (b ∷ bs) ≡ words_of bs
words_of-gap b bs e = ap (filter is_nonempty) (slice_split-cons_yes is_separator b bs e)

-- separators at the front are skipped
pub words_of-drop : (text : List ℕ) (n : ℕ) → n ≤ length text → Gap text n → words_of text ≡ words_of (drop n text)
words_of-drop text zero h gap = refl
words_of-drop [] (suc n) h gap = absurd (omega arith)
words_of-drop (b ∷ bs) (suc n) h gap =
    words_of-gap b bs (gap 0 (omega arith)) ∙ words_of-drop bs n (omega arith) (λ k l. gap (suc k) (omega arith))

-- nothing but one word
words_of-alone : (w : List ℕ) → 0 < length w → All (λ b. is_separator b ≡ false) w → words_of w ≡ w ∷ []
words_of-alone [] h all = absurd (omega arith)
words_of-alone (b ∷ bs) h all = ap (filter is_nonempty) (slice_split_none is_separator (b ∷ bs) all)

-- a word and what stands behind it
words_of-before : (w : List ℕ) (s : ℕ) (rest : List ℕ) → 0 < length w → All (λ b. is_separator b ≡ false) w → is_separator s ≡ true → words_of (w ++ s ∷ rest) ≡ w ∷ words_of (s ∷ rest)
words_of-before [] s rest h all e = absurd (omega arith)
words_of-before (b ∷ bs) s rest h all e =
    ap (filter is_nonempty) (slice_split_at is_separator (b ∷ bs) s rest all e) ∙ ap (λ ws. (b ∷ bs) ∷ ws) (sym (words_of-gap s rest e))

All-unbroken : (text : List ℕ) (n : ℕ) → n ≤ length text → Unbroken text n → All (λ b. is_separator b ≡ false) (take n text)
All-unbroken text n within unbroken =
    All-from_get_or (λ b. is_separator b ≡ false) (take n text) 0 (λ k h. let lt : k < n = omega (arith, length-take-le n text within) in rw get_or-take (unbroken k lt))

-- the first word of a text that begins with one
pub words_of-word : (text : List ℕ) (n : ℕ) → 0 < n → n ≤ length text → Unbroken text n → (n < length text → is_separator (get_or text n 0) ≡ true)
    → words_of text ≡ take n text ∷ words_of (drop n text)
words_of-word text n some within unbroken stop = ⊎_elim goes_on ended (cases_lt n (length text))
  where
    word : List ℕ
    word = take n text

    some_bytes : 0 < length (take n text)
    some_bytes = omega (arith, length-take-le n text within)

    goes_on : n < length text → words_of text ≡ take n text ∷ words_of (drop n text)
    goes_on lt =
        let cut : drop n text ≡ get_or text n 0 ∷ drop (suc n) text = drop-cons text n 0 lt in
        let whole : take n text ++ (get_or text n 0 ∷ drop (suc n) text) ≡ text = ap (λ r. take n text ++ r) (sym cut) ∙ take-append-drop n text in
        ap words_of (sym whole) ∙ words_of-before (take n text) _ _ some_bytes (All-unbroken text n within unbroken) (stop lt)
        ∙ ap (λ r. take n text ∷ words_of r) (sym cut)

    ended : length text ≤ n → words_of text ≡ take n text ∷ words_of (drop n text)
    ended ge =
        let none : drop n text ≡ [] = drop_of_length-le text ge in
        let all : take n text ≡ text = take_all n text ge in
        ap words_of (sym all) ∙ words_of-alone (take n text) some_bytes (All-unbroken text n within unbroken) ∙ ap (λ r. take n text ∷ words_of r) (sym none)

-- separators, the first word, and what stands behind it
pub words_of-first : (text from rest : List ℕ) (g n : ℕ) → from ≡ drop g text → rest ≡ drop n from → g ≤ length text → Gap text g → 0 < n → n ≤ length from → Unbroken from n → (n < length from → is_separator (get_or from n 0) ≡ true)
    → words_of text ≡ take n from ∷ words_of rest
words_of-first text from rest g n f r within gap some fits unbroken stop =
    words_of-drop text g within gap ∙ ap words_of (sym f) ∙ words_of-word from n some fits unbroken stop ∙ ap (λ l. take n from ∷ words_of l) (sym r)

-- no word is left
pub words_of-none : (text from : List ℕ) (g n : ℕ) → from ≡ drop g text → g ≤ length text → Gap text g → (g < length text → is_separator (get_or text g 0) ≡ false) → n ≡ 0 → (n < length from → is_separator (get_or from n 0) ≡ true)
    → words_of text ≡ []
words_of-none text from g n f within gap starts none stop = words_of-drop text g within gap ∙ ap words_of (drop_of_length-le text ended)
  where
    first : get_or from n 0 ≡ get_or text g 0
    first = ap (λ k. get_or from k 0) none ∙ ap (λ l. get_or l 0 0) f ∙ get_or-drop g text 0 0 ∙ ap (λ i. get_or text i 0) (add-zero g)

    some : g < length text → n < length from
    some lt = omega (arith, none, ap length f, length-drop g text)

    ended : length text ≤ g
    ended = ⊎_elim (λ lt. absurd (false≢true (sym (starts lt) ∙ ap is_separator (sym first) ∙ stop (some lt)))) (λ ge. ge) (cases_lt g (length text))

longer_first : (b : ℕ) (parts : List (List ℕ)) → length (filter is_nonempty (onto_first b parts)) ≤ length (filter is_nonempty parts) + 1
longer_first b [] = omega arith
longer_first b ([] ∷ parts) = omega arith
longer_first b ((x ∷ xs) ∷ parts) = omega arith

-- a text has no more words than bytes
pub words_within_bytes : (text : List ℕ) → length (words_of text) ≤ length text
words_within_bytes [] = omega arith
words_within_bytes (b ∷ bs) = elim (is_separator b) as (λ s. length (filter is_nonempty (cond s ([] ∷ slice_split is_separator bs) (onto_first b (slice_split is_separator bs)))) ≤ length (b ∷ bs)) [
  | true ↦ omega (arith, words_within_bytes bs)
  | false ↦ omega (arith, words_within_bytes bs, longer_first b (slice_split is_separator bs))
]
