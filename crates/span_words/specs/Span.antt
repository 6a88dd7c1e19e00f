-- How a span is spelled as numbers.
use Rattle.std.specs.Prelude.{◌≡◌, ℕ, ◌+◌, ◌-◌, ◌*◌, ◌/◌, ◌%◌, ◌≤◌, ◌==◌, ◌⊎◌, if◌then◌else◌, List, [], ◌∷◌, ◌++◌, length}
use Rattle.span_words.specs.declared.span.SpanKind.{SpanKind}
use Rattle.span_words.specs.declared.span.SpanKind.TheVariants.{Worker, Piece}
use Rattle.span_words.specs.declared.span.SpanEvent.{SpanEvent}
use Rattle.span_words.specs.declared.span.TheConstants.{SPAN_WORDS, SHORT_SPAN_WORDS, MOST_WORKERS}

-- the number of a kind
abbrev pub kind_number : SpanKind → ℕ
kind_number Worker = 0
kind_number Piece = 1

-- the numbers that spell a span
abbrev pub spelling : SpanEvent → List ℕ
spelling span =
    (kind_number span.kind + 256 * span.tid) ∷ span.ts ∷ span.dur ∷ span.file ∷ span.piece
    ∷ span.words ∷ span.depth ∷ span.total ∷ []

-- a worker has this number
abbrev pub IsTid : ℕ → Type 0
IsTid n = (1 ≤ n) × (n ≤ MOST_WORKERS)

-- these numbers spell a span of a worker: all its numbers, or the first six where depth and total
-- are 0
abbrev pub Spells : List ℕ → SpanEvent → Type 0
Spells words span =
    IsTid span.tid × ((spelling span ≡ words) ⊎ (spelling span ≡ words ++ 0 ∷ 0 ∷ []))

-- so many numbers can spell a span
abbrev pub HasSpanWidth : List ℕ → Type 0
HasSpanWidth words = (length words ≡ SPAN_WORDS) ⊎ (length words ≡ SHORT_SPAN_WORDS)

-- the kind that has this number
abbrev pub kind_of : ℕ → SpanKind
kind_of n = if n == 0 then Worker else Piece

-- the span that numbers spell, where they spell one
unfoldable pub event_of : List ℕ → SpanEvent
event_of (first ∷ ts ∷ dur ∷ file ∷ piece ∷ words ∷ depth ∷ total ∷ []) =
    record {
      kind = kind_of (first % 256);
      tid = first / 256;
      ts = ts;
      dur = dur;
      file = file;
      piece = piece;
      words = words;
      depth = depth;
      total = total;
    }
event_of _ =
    record {
      kind = Worker;
      tid = 0;
      ts = 0;
      dur = 0;
      file = 0;
      piece = 0;
      words = 0;
      depth = 0;
      total = 0;
    }

-- how long it was from one reading of a clock to another, 0 where the clock ran backwards
abbrev pub duration : ℕ → ℕ → ℕ
duration earlier later = later - earlier
