use Rattle.std.proofs.Common.{◌≡◌, [], take}
use Rattle.span_words.specs.declared.span.SpanKind.TheVariants.{Worker}
use Rattle.span_words.specs.Workers.{spans_of}
use Rattle.trace_read.proofs.checking.first_worker.Given as goal

abbrev pub invariant-loop-span : goal.invariant-loop-span
invariant-loop-span l = spans_of Worker l.tid (take l.span-index l.spans) ≡ []
