-- How a text is cut into pieces, and the pieces of several texts.
use Rattle.std.specs.Prelude.{◌≡◌, ℕ, zero, suc, ◌+◌, ◌<◌, ◌≤◌, min, true, false, List, [], ◌∷◌, ◌++◌, length, drop, slice_index, slice_index_or, slice_range}
use Rattle.std.specs.List.{position_or_len}
use Rattle.word_text.specs.Words.{is_separator, words_of}
use Rattle.word_text.specs.declared.plan.Piece.{Piece}

-- the piece that starts at a ends at the least place from min (a + k) (length text) on that is the
-- text's end or before a separator
pub record EndsAt (text : List ℕ) (k a e : ℕ) : Type 0 where
  pub long : min (a + k) (length text) ≤ e
  pub within : e ≤ length text
  pub stops : e < length text → is_separator (slice_index text e) ≡ true
  pub least : (i : ℕ) → min (a + k) (length text) ≤ i → i < e
      → is_separator (slice_index text i) ≡ false

-- these are the pieces of a text from place a on, each from where the one before it ends
abbrev pub ArePieces : List ℕ → ℕ → ℕ → ℕ → List Piece → Type 0
ArePieces text file k a [] = a ≡ length text
ArePieces text file k a (p ∷ ps) =
    (a < length text) × (p.file ≡ file) × (p.start ≡ a) × EndsAt text k a p.end
    × ArePieces text file k p.end ps

-- how long the first piece of what is left of a text is
abbrev pub piece_len : ℕ → List ℕ → ℕ
piece_len k rest =
    min k (length rest) + position_or_len is_separator (drop (min k (length rest)) rest)

-- the pieces of what is left of a text from place a on, n at most
abbrev pub pieces_from : ℕ → ℕ → ℕ → ℕ → List ℕ → List Piece
pieces_from zero file k a rest = []
pieces_from (suc n) file k a [] = []
pieces_from (suc n) file k a (b ∷ bs) =
    let e = a + piece_len k (b ∷ bs) in
    record { file = file; start = a; end = e }
    ∷ pieces_from n file k e (drop (piece_len k (b ∷ bs)) (b ∷ bs))

-- the pieces of a text in order; there are no more than it has bytes
abbrev pub pieces_of : List ℕ → ℕ → ℕ → List Piece
pieces_of text file k = pieces_from (length text) file k 0 text

-- the bytes of a piece of a text
abbrev pub piece_bytes : List ℕ → Piece → List ℕ
piece_bytes text p = slice_range text p.start p.end

-- the piece is of one of these texts, and its bytes are there
pub record LiesIn (texts : List (List ℕ)) (p : Piece) : Type 0 where
  pub file : p.file < length texts
  pub order : p.start ≤ p.end
  pub within : p.end ≤ length (slice_index_or texts p.file [])

-- the bytes of a piece of one of these texts
abbrev pub plan_bytes : List (List ℕ) → Piece → List ℕ
plan_bytes texts p = piece_bytes (slice_index_or texts p.file []) p

-- how many words a piece of one of these texts has
abbrev pub word_number : List (List ℕ) → Piece → ℕ
word_number texts p = length (words_of (plan_bytes texts p))

-- the pieces of several texts, of which the first has this number
abbrev pub plan_from : ℕ → ℕ → List (List ℕ) → List Piece
plan_from file k [] = []
plan_from file k (text ∷ texts) = pieces_of text file k ++ plan_from (file + 1) k texts

-- the pieces of text 0, then those of text 1, and so on
abbrev pub plan_of : List (List ℕ) → ℕ → List Piece
plan_of texts k = plan_from 0 k texts
