-- A spelling is read back.
use Rattle.std.proofs.Common.{◌≡◌, ℕ, ◌+◌, ◌*◌, ◌/◌, ◌%◌, refl, ap, ◌∙◌, arith}
use Rattle.span_words.specs.Span.{event_of, spelling, kind_of, kind_number}
use Rattle.span_words.specs.declared.span.SpanKind.{SpanKind}
use Rattle.span_words.specs.declared.span.SpanKind.TheVariants.{Worker, Piece}
use Rattle.span_words.specs.declared.span.SpanEvent.{SpanEvent}

number_rem : (k : SpanKind) (tid : ℕ) → (kind_number k + 256 * tid) % 256 ≡ kind_number k
number_rem Worker tid = omega arith
number_rem Piece tid = omega arith

number_quotient : (k : SpanKind) (tid : ℕ) → (kind_number k + 256 * tid) / 256 ≡ tid
number_quotient Worker tid = omega arith
number_quotient Piece tid = omega arith

kind_of_number : (k : SpanKind) → kind_of (kind_number k) ≡ k
kind_of_number Worker = refl
kind_of_number Piece = refl

pub event_of-spelling : (e : SpanEvent) → event_of (spelling e) ≡ e
unfolding event_of
event_of-spelling e =
    let kind = ap kind_of (number_rem e.kind e.tid) ∙ kind_of_number e.kind in
    let tid = number_quotient e.kind e.tid in
    λ i. record { kind = kind i; tid = tid i; ts = e.ts; dur = e.dur; file = e.file; piece = e.piece; words = e.words; depth = e.depth; total = e.total }
