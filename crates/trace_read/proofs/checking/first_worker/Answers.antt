use Rattle.std.proofs.Common.{◌≡◌, ◌&&◌, ◌==◌, true, get_or, sym, rules}
use Rattle.std.proofs.lemmas.Bool.{eq-eqb}
use Rattle.span_words.specs.declared.span.SpanKind.TheVariants.{Worker}
use Rattle.span_words.specs.declared.span.SpanEvent.{SpanEvent}
use Rattle.span_words.specs.Workers.{is_kind}
use Rattle.trace_read.proofs.Tallies.{first_passing}
use Rattle.trace_read.proofs.checking.first_worker.Goals as goal

-- what a span reads as past the end
abbrev none : SpanEvent
none = record { kind = Worker; tid = 0; ts = 0; dur = 0; file = 0; piece = 0; words = 0; depth = 0; total = 0 }

pub returns-then-span-tid : goal.returns-then-span-tid
returns-then-span-tid c =
    let span : SpanEvent = get_or c.args.spans.now c.loop-span.span-index none in
    let kind : span.kind ≡ Worker = search rules in
    let passes : (is_kind Worker span.kind && span.tid == c.args.tid) ≡ true = λ i. is_kind Worker (kind i) && eq-eqb span.tid c.args.tid c.if-span-tid.true i in
    sym (first_passing (λ (s : SpanEvent). is_kind Worker s.kind && s.tid == c.args.tid) c.args.spans.now c.loop-span.span-index none c.loop-span-test.true c.loop-span.invariant passes)
