-- The generated text of n words.
use Rattle.std.specs.Prelude.{ℕ, ◌+◌, ◌*◌, ◌%◌, ◌==◌, ◌||◌, List, [], ◌∷◌, ◌++◌, codes, decimal, flat_map, if◌then◌else◌}
use Rattle.std.specs.List.{range_with_len}

-- word i: the letter w, and the last three digits of i * i + n without leading zeros
abbrev pub word_of : ℕ → ℕ → List ℕ
word_of n i = codes "w" ++ decimal ((i * i + n) % 1000)

-- what stands after word i: a newline where it is the last or a tenth one, else a space
abbrev pub byte_after : ℕ → ℕ → ℕ
byte_after n i = if i + 1 == n || (i + 1) % 10 == 0 then 10 else 32

abbrev pub word_and_byte : ℕ → ℕ → List ℕ
word_and_byte n i = word_of n i ++ byte_after n i ∷ []

-- of the text of n words the first so many in order, each with what stands after it
abbrev pub first_words : ℕ → ℕ → List ℕ
first_words n count = flat_map (word_and_byte n) (range_with_len 0 count)

abbrev pub generated_text : ℕ → List ℕ
generated_text n = first_words n n
