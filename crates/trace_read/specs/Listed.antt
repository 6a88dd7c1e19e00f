-- The spans that a profile lists, and the trace that their text is.
use Rattle.std.specs.Prelude.{◌≡◌, ℕ, ◌<◌, ◌^◌, List, length}
use Rattle.span_words.specs.Span.{IsTid}
use Rattle.span_words.specs.declared.span.SpanKind.TheVariants.{Worker}
use Rattle.span_words.specs.declared.span.SpanEvent.{SpanEvent}
use Rattle.trace_json.specs.Trace.{HasFile}
use Rattle.trace_read.specs.declared.reading.ReadTrace.{ReadTrace}

-- a number of 64 bits
abbrev pub IsWord : ℕ → Type 0
IsWord n = n < 2 ^ 64

-- a span of a worker that has a number, with numbers of 64 bits: a worker's span has file 0, and
-- a piece's file is one of so many
pub record IsListed (files : ℕ) (span : SpanEvent) : Type 0 where
  pub tid : IsTid span.tid
  pub ts : IsWord span.ts
  pub dur : IsWord span.dur
  pub file : IsWord span.file
  pub piece : IsWord span.piece
  pub words : IsWord span.words
  pub depth : IsWord span.depth
  pub total : IsWord span.total
  pub of_worker : span.kind ≡ Worker → span.file ≡ 0
  pub of_piece : HasFile files span

-- the trace of these spans, of so many that were accepted
abbrev pub trace_of_spans : ℕ → List SpanEvent → ReadTrace
trace_of_spans accepted spans = record { accepted = accepted; kept = length spans; spans = spans }
