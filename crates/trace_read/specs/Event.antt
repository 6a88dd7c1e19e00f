-- How an event of a trace is read as a span.
use Rattle.std.specs.Prelude.{ℕ, ◌&&◌, nat_le, if◌then◌else◌, List, codes, Option, Some, None, option_and_then}
use Rattle.std.specs.Str.{bytes_eq}
use Rattle.serde_json.specs.Data.{Data}
use Rattle.serde_json.specs.Find.{get, as_number, as_str, as_u64}
use Rattle.span_words.specs.declared.span.SpanKind.{SpanKind}
use Rattle.span_words.specs.declared.span.SpanKind.TheVariants.{Worker, Piece}
use Rattle.span_words.specs.declared.span.SpanEvent.{SpanEvent}
use Rattle.span_words.specs.declared.span.TheConstants.{MOST_WORKERS}

infixl 10 ◌>>=◌
-- what comes next, where there is something
abbrev pub ◌>>=◌ : {A B : Type 0} → Option A → (A → Option B) → Option B
found >>= next = option_and_then next found

-- the whole number that is the member of a name
unfoldable pub whole_at : List ℕ → Data → Option ℕ
whole_at name holder = option_and_then as_u64 (option_and_then as_number (get name holder))

-- the same, or 0 where there is no member of that name
abbrev pub whole_or_none : Option Data → Option ℕ
whole_or_none None = Some 0
whole_or_none (Some found) = option_and_then as_u64 (as_number found)

unfoldable pub whole_or_absent : List ℕ → Data → Option ℕ
whole_or_absent name holder = whole_or_none (get name holder)

-- the text that is the member of a name
unfoldable pub text_at : List ℕ → Data → Option (List ℕ)
text_at name holder = option_and_then as_str (get name holder)

-- a worker's number
unfoldable pub tid_in : Data → Option ℕ
tid_in event = do
  tid ← whole_at (codes "tid") event
  if nat_le 1 tid && nat_le tid MOST_WORKERS then Some tid else None

-- a worker's span has file 0, and the number of its pieces stands where a piece has its own
unfoldable pub file_in : SpanKind → Data → Option ℕ
file_in Worker args = Some 0
file_in Piece args = whole_at (codes "file") args

unfoldable pub piece_in : SpanKind → Data → Option ℕ
piece_in Worker args = whole_at (codes "pieces") args
piece_in Piece args = whole_at (codes "piece") args

-- the span of this kind that an event is, where no member that it needs is missing or wrong
unfoldable pub span_of : SpanKind → Data → Option SpanEvent
span_of kind event = do
  tid ← tid_in event
  ts ← whole_at (codes "ts") event
  dur ← whole_at (codes "dur") event
  args ← get (codes "args") event
  file ← file_in kind args
  piece ← piece_in kind args
  words ← whole_at (codes "words") args
  depth ← whole_or_absent (codes "depth") args
  total ← whole_or_absent (codes "total") args
  Some (record {
    kind = kind;
    tid = tid;
    ts = ts;
    dur = dur;
    file = file;
    piece = piece;
    words = words;
    depth = depth;
    total = total;
  })

-- the kind of span that is written so
abbrev pub kind_named : List ℕ → Option SpanKind
kind_named cat =
    if bytes_eq cat (codes "piece") then Some Piece
    else (if bytes_eq cat (codes "worker") then Some Worker else None)

-- the kind of span that an event is, if it is one: its `ph` is "X", and its `cat` is a kind
unfoldable pub span_kind : List ℕ → Data → Option SpanKind
span_kind ph event =
    if bytes_eq ph (codes "X") then option_and_then kind_named (text_at (codes "cat") event)
    else None
