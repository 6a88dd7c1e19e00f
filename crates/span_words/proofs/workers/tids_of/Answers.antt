use Rattle.std.proofs.Common.{List, ℕ, get_or, ◌∙◌, ap, sym, arith}
use Rattle.std.specs.BTreeSet.{insert_key}
use Rattle.std.specs.Ordering.{nat_cmp}
use Rattle.std.proofs.lemmas.List.{take_all}
use Rattle.span_words.specs.declared.span.SpanEvent.{SpanEvent}
use Rattle.span_words.specs.declared.span.SpanKind.TheVariants.{Worker}
use Rattle.span_words.specs.Workers.{tids_of}
use Rattle.span_words.proofs.Tids.{tids_of-more}
use Rattle.span_words.proofs.workers.tids_of.Goals as goal

-- what an span reads as past the end
abbrev none : SpanEvent
none = record { kind = Worker; tid = 0; ts = 0; dur = 0; file = 0; piece = 0; words = 0; depth = 0; total = 0 }

pub loop-span-preserved : goal.loop-span-preserved
loop-span-preserved c =
    let spans = c.args.spans.now in
    let i = c.loop-span.span-index in
    c.in_ok-insert.ensures.keys
    ∙ ap (λ (keys : List ℕ). insert_key nat_cmp keys (get_or spans i none).tid) c.loop-span.invariant
    ∙ sym (tids_of-more spans i none c.loop-span-test.true)

pub returns : goal.returns
returns c = c.loop-span.invariant ∙ ap tids_of (take_all c.loop-span.span-index c.args.spans.now (omega arith))
