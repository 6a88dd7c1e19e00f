-- How often each word stands in a text, as a finite map.
use Rattle.std.specs.Prelude.{ℕ, ◌+◌, ◌<◌, ◌^◌, List, [], ◌∷◌, ◌++◌, length, map, sum, flat_map, codes, decimal, Vec}
use Rattle.std.specs.Borrow.{Bor}
use Rattle.std.specs.Option.{unwrap_or}
use Rattle.std.specs.Ordering.{nat_cmp}
use Rattle.std.specs.Cmp.Lexicographic.{slice_cmp}
use Rattle.std.specs.FinMap as map_of
use Rattle.std.specs.FinMap.{FinMap}
use Rattle.std.specs.Map.{values_of}
use Rattle.word_text.specs.Words.{words_of}

-- numbers for byte lists
abbrev pub Numbers : Type 0
Numbers = FinMap (slice_cmp nat_cmp) ℕ

-- the number of a word, 0 where it has none
abbrev pub count_in : Numbers → List ℕ → ℕ
count_in counts word = unwrap_or (map_of.get counts word) 0

-- with so many more for a word
abbrev pub add_number : Numbers → List ℕ → ℕ → Numbers
add_number counts word number = map_of.insert counts word (count_in counts word + number)

-- with one more for a word
abbrev pub add_one : Numbers → List ℕ → Numbers
add_one counts word = add_number counts word 1

-- with one more for each of these words
abbrev pub add_all : Numbers → List (List ℕ) → Numbers
add_all counts [] = counts
add_all counts (word ∷ words) = add_all (add_one counts word) words

-- each word's number in several texts
abbrev pub counts_of_all : List (List ℕ) → Numbers
counts_of_all texts = add_all map_of.empty (flat_map words_of texts)

-- with so many more for each of these words
abbrev pub add_numbers : Numbers → List (List ℕ × ℕ) → Numbers
add_numbers counts [] = counts
add_numbers counts (entry ∷ entries) = add_numbers (add_number counts entry.0 entry.1) entries

-- with the number of each word in other counts added to its own
abbrev pub merged : Numbers → Numbers → Numbers
merged counts other = add_numbers counts (map_of.entries other)

-- all numbers together
abbrev pub total : Numbers → ℕ
total counts = sum (map_of.values counts)

-- each number is at least one, and together they are below 2^63
pub record IsCounted (counts : Numbers) : Type 0 where
  pub positive : (word : List ℕ) → 0 < unwrap_or (map_of.get counts word) 1
  pub small : total counts < 2 ^ 63

-- what a table of byte vectors tells
abbrev pub shown : {Z : Type 0} → List (Vec ℕ Z × ℕ) → List (List ℕ × ℕ)
shown {Z} es = map {B = List ℕ × ℕ} (λ (e : Vec ℕ Z × ℕ). (e.0.items, e.1)) es

-- the numbers that a table of byte vectors tells
abbrev pub told : {Z : Type 0} → List (Vec ℕ Z × ℕ) → Numbers
told es = map_of.from_entries (shown es)

-- what a pair of a borrowed word and a number tells
abbrev pub pair_of : Bor (List ℕ) × ℕ → List ℕ × ℕ
pair_of p = (p.0.now, p.1)

-- the line of a word: its number, a space, its bytes
abbrev pub line_of : List ℕ × ℕ → List ℕ
line_of e = decimal e.1 ++ 32 ∷ e.0 ++ 10 ∷ []

-- the first line
abbrev pub head_of : ℕ → ℕ → List ℕ
head_of words distinct =
    codes "words " ++ decimal words ++ codes " distinct " ++ decimal distinct ++ 10 ∷ []

-- the counts text of these words with their numbers
abbrev pub text_of_entries : List (List ℕ × ℕ) → List ℕ
text_of_entries es = head_of (sum (values_of es)) (length es) ++ flat_map line_of es

-- the counts text
abbrev pub counts_text_of : Numbers → List ℕ
counts_text_of counts = text_of_entries (map_of.entries counts)
