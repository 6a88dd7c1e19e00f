-- What a word of a text is, and how often it stands there.
use Rattle.std.specs.Prelude.{◌≡◌, ℕ, ◌+◌, ◌-◌, ◌<◌, ◌≤◌, Bool, true, false, ◌&&◌, ◌||◌, ◌⊎◌, List, [], ◌∷◌, length, take, drop, slice_index, nat_le, ◌==◌, filter}
use Rattle.std.specs.List.{slice_split, AllByRecursion}

-- tab, line feed, vertical tab, form feed, carriage return and space
abbrev pub is_separator : ℕ → Bool
is_separator b = b == 32 || (nat_le 9 b && nat_le b 13)

-- the bytes from i to j are a word: a run without a separator that can be made no longer
pub record IsWord (text : List ℕ) (i j : ℕ) : Type 0 where
  pub nonempty : i < j
  pub within : j ≤ length text
  pub unbroken : (k : ℕ) → i ≤ k → k < j → is_separator (slice_index text k) ≡ false
  pub begins : (k : ℕ) → k + 1 ≡ i → is_separator (slice_index text k) ≡ true
  pub ends : j < length text → is_separator (slice_index text j) ≡ true

abbrev pub is_nonempty : List ℕ → Bool
is_nonempty [] = false
is_nonempty (x ∷ xs) = true

-- the words in order
abbrev pub words_of : List ℕ → List (List ℕ)
words_of text = filter is_nonempty (slice_split is_separator text)

-- the bytes of a range
abbrev pub cut : List ℕ → ℕ × ℕ → List ℕ
cut text r = take (r.1 - r.0) (drop r.0 text)

-- r is one of these ranges
abbrev pub HasRange : ℕ × ℕ → List (ℕ × ℕ) → Type 0
HasRange r [] = ⊥
HasRange r (q ∷ qs) = (r ≡ q) ⊎ HasRange r qs

-- from n on, each range ends before the next begins
abbrev pub InOrder : ℕ → List (ℕ × ℕ) → Type 0
InOrder n [] = Unit {0}
InOrder n (r ∷ rs) = (n ≤ r.0) × InOrder (r.1 + 1) rs

-- these ranges are all words of the text, in order
pub record AreWords (text : List ℕ) (ranges : List (ℕ × ℕ)) : Type 0 where
  pub sound : AllByRecursion (λ r. IsWord text r.0 r.1) ranges
  pub complete : (i j : ℕ) → IsWord text i j → HasRange (i, j) ranges
  pub order : InOrder 0 ranges
