use Rattle.std.proofs.Common.{◌≡◌, ◌*◌, ◌≤◌, take}
use Rattle.span_words.specs.declared.span.SpanKind.TheVariants.{Piece}
use Rattle.span_words.specs.Workers.{spans_of}
use Rattle.trace_read.specs.Totals.{words_of}
use Rattle.trace_read.proofs.checking.words_of.Given as goal

abbrev pub invariant-loop-span : goal.invariant-loop-span
invariant-loop-span l = record {
  words : l.words ≡ words_of (spans_of Piece l.tid (take l.span-index l.spans));
  few : l.words ≤ 18446744073709551615 * l.span-index;
}
