-- How long each stack took by itself, which is what flame graphs are drawn of. A stack is a worker,
-- or a worker with one of its files.
use Rattle.std.specs.Prelude.{ℕ, ◌-◌, ◌==◌, List, [], ◌∷◌, ◌++◌, map, flat_map, fold, sum_by, codes, decimal, Option, Some, None}
use Rattle.std.specs.BTreeSet.{insert_key}
use Rattle.std.specs.declared.cmp.Ordering.{Ordering}
use Rattle.std.specs.List.{filter}
use Rattle.std.specs.Option.{option_cmp}
use Rattle.std.specs.Ordering.{nat_cmp, ordering_then}
use Rattle.span_words.specs.declared.span.SpanKind.{SpanKind}
use Rattle.span_words.specs.declared.span.SpanKind.TheVariants.{Worker, Piece}
use Rattle.span_words.specs.declared.span.SpanEvent.{SpanEvent}
use Rattle.span_words.specs.Workers.{spans_of}
use Rattle.span_fold.specs.declared.folded.Line.{Line}

-- the number of the worker, and of its file
abbrev pub Stack : Type 0
Stack = ℕ × Option ℕ

-- a piece stands in its file, a worker's own span in none
abbrev pub stack_of_kind : SpanKind → SpanEvent → Stack
stack_of_kind Worker span = (span.tid, None)
stack_of_kind Piece span = (span.tid, Some span.file)

abbrev pub stack_of : SpanEvent → Stack
stack_of span = stack_of_kind span.kind span

-- by workers, and of each worker the one without a file first
abbrev pub stack_cmp : Stack → Stack → Ordering
stack_cmp a b = ordering_then (nat_cmp a.0 b.0) (option_cmp nat_cmp a.1 b.1)

-- the stacks of these spans, each once, in rising order
abbrev pub stacks_of : List SpanEvent → List Stack
stacks_of spans = fold (insert_key stack_cmp) [] (map stack_of spans)

-- how long these spans took together
abbrev pub dur_of : List SpanEvent → ℕ
dur_of spans = sum_by (λ (s : SpanEvent). s.dur) spans

-- how long the spans of a stack took: those of a worker's own, or those of its pieces of a file
abbrev pub whole_time : List SpanEvent → ℕ → Option ℕ → ℕ
whole_time spans tid None = dur_of (spans_of Worker tid spans)
whole_time spans tid (Some file) =
    dur_of (filter (λ (s : SpanEvent). s.file == file) (spans_of Piece tid spans))

-- how long what lies within them took: within a worker's own spans its pieces, within pieces nothing
abbrev pub inner_time : List SpanEvent → ℕ → Option ℕ → ℕ
inner_time spans tid None = dur_of (spans_of Piece tid spans)
inner_time spans tid (Some file) = 0

-- how long they took without it, and 0 where it took longer
abbrev pub self_time : List SpanEvent → ℕ → Option ℕ → ℕ
self_time spans tid file = whole_time spans tid file - inner_time spans tid file

abbrev pub line_of : List SpanEvent → Stack → Line
line_of spans stack = record {
  tid = stack.0;
  file = stack.1;
  time = self_time spans stack.0 stack.1;
}

-- a line for each stack
abbrev pub folded : List SpanEvent → List Line
folded spans = map (line_of spans) (stacks_of spans)

-- the text of a line, and of all
abbrev pub file_text : Option ℕ → List ℕ
file_text None = []
file_text (Some file) = codes ";file " ++ decimal file

abbrev pub line_text : Line → List ℕ
line_text line =
    codes "worker " ++ decimal line.tid ++ file_text line.file ++ codes " " ++ decimal line.time
    ++ 10 ∷ []

abbrev pub folded_text : List Line → List ℕ
folded_text lines = flat_map line_text lines
