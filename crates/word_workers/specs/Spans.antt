-- What a worker counts and notes, by the numbers of its pieces.
use Rattle.std.specs.Prelude.{◌≡◌, ℕ, ◌+◌, ◌*◌, ◌<◌, ◌≤◌, List, [], ◌∷◌, ◌++◌, length, map, take, flat_map, sum_by, slice_index, slice_index_or, Option, IfSome}
use Rattle.std.specs.List.{All, enumerate_from}
use Rattle.std.specs.FinMap as map_of
use Rattle.flow_io.specs.Clock.{Ticks, last_reading, reading_at}
use Rattle.span_words.specs.declared.span.SpanKind.TheVariants.{Worker, Piece as PieceKind}
use Rattle.span_words.specs.declared.span.SpanEvent.{SpanEvent}
use Rattle.span_words.specs.Span.{duration}
use Rattle.word_text.specs.declared.plan.Piece.{Piece}
use Rattle.word_text.specs.Counts.{Numbers, add_all}
use Rattle.word_text.specs.Words.{words_of}
use Rattle.word_text.specs.Pieces.{LiesIn, plan_bytes}

-- each piece lies in its text
abbrev pub AllLieIn : List (List ℕ) → List Piece → Type 0
AllLieIn texts plan = All (LiesIn texts) plan

-- the piece of this number
abbrev pub piece_at : List Piece → ℕ → Piece
piece_at plan n = slice_index_or plan n (record { file = 0; start = 0; end = 0 })

-- the words of the piece of this number
abbrev pub words_at : List Piece → List (List ℕ) → ℕ → List (List ℕ)
words_at plan texts n = words_of (plan_bytes texts (piece_at plan n))

-- the words of all pieces, in order
abbrev pub plan_words : List Piece → List (List ℕ) → List (List ℕ)
plan_words plan texts = flat_map (λ (p : Piece). words_of (plan_bytes texts p)) plan

-- the counts of the pieces of these numbers
abbrev pub counts_at : List Piece → List (List ℕ) → List ℕ → Numbers
counts_at plan texts drawn = add_all map_of.empty (flat_map (words_at plan texts) drawn)

-- how many words the pieces of these numbers have together
abbrev pub word_total : List Piece → List (List ℕ) → List ℕ → ℕ
word_total plan texts drawn = sum_by (λ n. length (words_at plan texts n)) drawn

-- so many readings of a hand: those that it tells, or where it tells none, any up to the greatest
pub record AreReadings (ticks : Option Ticks) (readings : List ℕ) (count : ℕ) : Type 0 where
  pub number : length readings ≡ count
  pub most : All (λ r. r ≤ last_reading) readings
  pub told : IfSome ticks (λ t. (j : ℕ) → j < count → slice_index readings j ≡ reading_at t j)

-- the span of a piece that this worker counted between two readings, with the total of its words
-- up to that piece
abbrev pub piece_span : List Piece → List (List ℕ) → ℕ → ℕ → ℕ → ℕ → ℕ → SpanEvent
piece_span plan texts worker n total before after =
    record {
      kind = PieceKind;
      tid = worker + 1;
      ts = before;
      dur = duration before after;
      file = (piece_at plan n).file;
      piece = n;
      words = length (words_at plan texts n);
      depth = 1;
      total = total;
    }

-- the span of a worker that counted these pieces between two readings
abbrev pub worker_span : List Piece → List (List ℕ) → ℕ → List ℕ → ℕ → ℕ → SpanEvent
worker_span plan texts worker drawn before after =
    let words = word_total plan texts drawn in
    record {
      kind = Worker;
      tid = worker + 1;
      ts = before;
      dur = duration before after;
      file = 0;
      piece = length drawn;
      words = words;
      depth = 0;
      total = words;
    }

-- the span of the i-th piece that a worker counted, by its readings
abbrev pub span_at : List Piece → List (List ℕ) → ℕ → List ℕ → List ℕ → ℕ × ℕ → SpanEvent
span_at plan texts worker drawn readings e =
    piece_span plan texts worker e.1 (word_total plan texts (take (e.0 + 1) drawn))
    (slice_index readings (2 * e.0 + 1)) (slice_index readings (2 * e.0 + 2))

-- the spans of a worker that counted these pieces, by its readings: one of each piece, and its own
-- between the first reading and the last
abbrev pub spans_of : List Piece → List (List ℕ) → ℕ → List ℕ → List ℕ → List SpanEvent
spans_of plan texts worker drawn readings =
    map (span_at plan texts worker drawn readings) (enumerate_from 0 drawn)
    ++ worker_span plan texts worker drawn
    (slice_index readings 0) (slice_index readings (2 * length drawn + 1)) ∷ []
