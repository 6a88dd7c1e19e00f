-- The words of the generated text, its length, and that its words come again.
use Rattle.std.proofs.Common.{◌≡◌, ℕ, ◌+◌, ◌*◌, ◌/◌, ◌%◌, ◌<◌, ◌≤◌, Bool, true, false, List, [], ◌∷◌, ◌++◌, length, map, filter, refl, sym, ap, ◌∙◌, arith, length-append, append_assoc, ap₂, append-nil, zero, suc, min, add-zero}
use Rattle.std.specs.Prelude.{codes, decimal, flat_map, ◌==◌, ◌||◌, if◌then◌else◌}
use Rattle.std.specs.List.{All, range_with_len}
use Rattle.std.specs.Str.{all_ascii_digits}
use Rattle.std.proofs.lemmas.Bool.Decides.{nat_tests}
use Rattle.std.proofs.lemmas.Fmt.{digits_decimal, length-decimal-le}
use Rattle.std.proofs.lemmas.Grind.{flat_map-append}
use Rattle.std.proofs.lemmas.List.Folds.{flat_map-map}
use Rattle.std.proofs.lemmas.List.Elements.{All-nil, All-cons}
use Rattle.std.proofs.lemmas.List.FromFn.{length-map-range_with_len, length-range_with_len, map-range_with_len_more}
use Rattle.std.proofs.lemmas.List.Splits.{slice_split_at}
use Rattle.std.proofs.lemmas.Str.Parse.{numerals_by_value, tells_all_ascii_digits}
use Rattle.word_text.specs.Counts.{counts_of_all, total}
use Rattle.word_text.specs.Words.{is_nonempty, is_separator, words_of}
use Rattle.word_text.proofs.Occurrences.{total-counts_of_all}
use Rattle.generated_words.specs.Generated.{byte_after, first_words, generated_text, word_and_byte, word_of}

-- ---- what a word and the byte after it are

digit_parts : (d : ℕ) → 48 ≤ d → is_separator d ≡ false
digit_parts d low = grind arith

digits_unbroken : (ds : List ℕ) → all_ascii_digits ds ≡ true → All (λ d. is_separator d ≡ false) ds
digits_unbroken [] digits = All-nil _
digits_unbroken (d ∷ ds) digits =
    let parts = tells_all_ascii_digits.parts d ds digits in
    All-cons (λ (b : ℕ). is_separator b ≡ false) d ds (digit_parts d parts.0.0) (digits_unbroken ds parts.1)

three_digits : (m : ℕ) → m % 1000 < 1000
three_digits m = omega arith

word_unbroken : (n i : ℕ) → All (λ d. is_separator d ≡ false) (word_of n i)
word_unbroken n i =
    All-cons (λ (b : ℕ). is_separator b ≡ false) 119 _ refl (digits_unbroken _ (digits_decimal (numerals_by_value _ tells_all_ascii_digits) ((i * i + n) % 1000) (let few = three_digits (i * i + n) in omega (arith, few))))

byte_separates : (b : Bool) → is_separator (if b then 10 else 32) ≡ true
byte_separates true = refl
byte_separates false = refl

short_word : (n i : ℕ) → length (word_and_byte n i) ≤ 5
short_word n i =
    let few = three_digits (i * i + n) in
    let digits = length-decimal-le 3 ((i * i + n) % 1000) (omega arith) few (omega (arith, few)) in
    let all = length-append (word_of n i) (byte_after n i ∷ []) in
    omega (arith, digits, all)

-- ---- the whole text

one_word_more : (n i : ℕ) → first_words n (i + 1) ≡ first_words n i ++ word_and_byte n i
one_word_more n i =
    let parts : List ℕ → List (List ℕ) = map (word_and_byte n) in
    let same : List ℕ → List ℕ = λ part. part in
    sym (flat_map-map same (word_and_byte n) (range_with_len 0 (i + 1)))
    ∙ ap (flat_map same) (map-range_with_len_more (word_and_byte n) 0 i i (omega arith))
    ∙ flat_map-append same (parts (range_with_len 0 i)) (word_and_byte n i ∷ [])
    ∙ ap₂ (λ (front back : List ℕ). front ++ back) (flat_map-map same (word_and_byte n) (range_with_len 0 i)) (append-nil (word_and_byte n i))

-- what was pushed so far, and one word more
pub pushed_more : (n i : ℕ) (old new : List ℕ) → old ≡ first_words n i → new ≡ old ++ word_and_byte n i → new ≡ first_words n (i + 1)
pushed_more n i old new before more =
    more ∙ ap (λ (bytes : List ℕ). bytes ++ word_and_byte n i) before ∙ sym (one_word_more n i)

words_are : (n : ℕ) (is : List ℕ) → words_of (flat_map (word_and_byte n) is) ≡ map (word_of n) is
words_are n [] = refl
words_are n (i ∷ is) =
    let rest = flat_map (word_and_byte n) is in
    ap words_of (append_assoc (word_of n i) (byte_after n i ∷ []) rest)
    ∙ ap (filter is_nonempty) (slice_split_at is_separator (word_of n i) (byte_after n i) rest (word_unbroken n i) (byte_separates (i + 1 == n || (i + 1) % 10 == 0)))
    ∙ ap (λ (ws : List (List ℕ)). word_of n i ∷ ws) (words_are n is)

pub words_of_generated : (n : ℕ) → words_of (generated_text n) ≡ map (word_of n) (range_with_len 0 n)
words_of_generated n = words_are n (range_with_len 0 n)

pub counted_words : (n : ℕ) → total (counts_of_all (generated_text n ∷ [])) ≡ n
counted_words n =
    let all = total-counts_of_all (generated_text n ∷ []) in
    let none = length-append (words_of (generated_text n)) [] in
    let words = ap length (words_of_generated n) in
    let number = length-map-range_with_len (word_of n) 0 n in
    omega (arith, all, none, words, number)

small_parts : (n : ℕ) (is : List ℕ) → length (flat_map (word_and_byte n) is) ≤ 5 * length is
small_parts n [] = omega arith
small_parts n (i ∷ is) =
    let one = short_word n i in
    let more = small_parts n is in
    let all = length-append (word_and_byte n i) (flat_map (word_and_byte n) is) in
    omega (arith, one, more, all)

pub small_text : (n : ℕ) → length (generated_text n) ≤ 5 * n
small_text n =
    let parts = small_parts n (range_with_len 0 n) in
    let number = length-range_with_len 0 n in
    omega (arith, parts, number)

-- ---- the words come again after 1,000

same_square : (n k i : ℕ) → ((k * 1000 + i) * (k * 1000 + i) + n) % 1000 ≡ (i * i + n) % 1000
same_square n k i =
    let whole : (k * 1000 + i) * (k * 1000 + i) ≡ 1000 * (1000 * (k * k) + 2 * (k * i)) + i * i = grind arith in
    omega (arith, whole)

same_byte : (n k i : ℕ) → i < 1000 → k < n / 1000 → byte_after n (k * 1000 + i) ≡ byte_after n i
same_byte n k i short whole = grind (arith, nat_tests)

same_word : (n k i : ℕ) → i < 1000 → k < n / 1000 → word_and_byte n (k * 1000 + i) ≡ word_and_byte n i
same_word n k i short whole =
    ap₂ (λ (digits byte : ℕ). codes "w" ++ decimal digits ++ byte ∷ []) (same_square n k i) (same_byte n k i short whole)

words_again : (n k count : ℕ) → count ≤ 1000 → k < n / 1000 → first_words n (k * 1000 + count) ≡ first_words n (k * 1000) ++ first_words n count
words_again n k zero short whole = rw add-zero (sym (append-nil (first_words n (k * 1000))))
words_again n k (suc count) short whole =
    let before = words_again n k count (omega arith) whole in
    let word = same_word n k count (omega arith) whole in
    let far = one_word_more n (k * 1000 + count) in
    let near = one_word_more n count in
    let joined = append_assoc (first_words n (k * 1000)) (first_words n count) (word_and_byte n count) in
    let next : k * 1000 + suc count ≡ k * 1000 + count + 1 = omega arith in
    let one : suc count ≡ count + 1 = omega arith in
    ap (first_words n) next
    ∙ far
    ∙ ap₂ (λ (front back : List ℕ). front ++ back) before word
    ∙ joined
    ∙ ap (λ (back : List ℕ). first_words n (k * 1000) ++ back) (sym near ∙ ap (first_words n) (sym one))

-- what was copied so far, and the first 1,000 words once more
pub copied_more : (n k : ℕ) (period old new : List ℕ) → k < n / 1000 → period ≡ first_words n (min 1000 n) → old ≡ first_words n (k * 1000) → new ≡ old ++ period → new ≡ first_words n ((k + 1) * 1000)
copied_more n k period old new whole made before more =
    let all : min 1000 n ≡ 1000 = omega arith in
    let next : k * 1000 + 1000 ≡ (k + 1) * 1000 = omega arith in
    more
    ∙ ap₂ (λ (front back : List ℕ). front ++ back) before (made ∙ ap (first_words n) all)
    ∙ sym (words_again n k 1000 (omega arith) whole)
    ∙ ap (first_words n) next
