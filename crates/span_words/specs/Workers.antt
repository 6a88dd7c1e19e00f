-- The spans of a list by their workers.
use Rattle.std.specs.Prelude.{ℕ, ◌==◌, ◌&&◌, Bool, true, false, List, [], map, fold}
use Rattle.std.specs.BTreeSet.{insert_key}
use Rattle.std.specs.List.{filter}
use Rattle.std.specs.Ordering.{nat_cmp}
use Rattle.span_words.specs.declared.span.SpanKind.{SpanKind}
use Rattle.span_words.specs.declared.span.SpanKind.TheVariants.{Worker, Piece}
use Rattle.span_words.specs.declared.span.SpanEvent.{SpanEvent}

-- the numbers of the workers of these spans, each once, in rising order
abbrev pub tids_of : List SpanEvent → List ℕ
tids_of spans = fold (insert_key nat_cmp) [] (map (λ (s : SpanEvent). s.tid) spans)

abbrev pub is_kind : SpanKind → SpanKind → Bool
is_kind Worker Worker = true
is_kind Worker Piece = false
is_kind Piece Worker = false
is_kind Piece Piece = true

-- the spans of this kind of a worker
abbrev pub spans_of : SpanKind → ℕ → List SpanEvent → List SpanEvent
spans_of kind tid spans = filter (λ (s : SpanEvent). is_kind kind s.kind && s.tid == tid) spans
