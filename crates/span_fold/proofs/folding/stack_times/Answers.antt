use Rattle.std.proofs.Common.{◌≡◌, ℕ, ◌+◌, cond, List, get_or, take, sum_by, unwrap_or, sym, ap, ◌∙◌, subst, arith}
use Rattle.std.specs.BTreeMap.{get}
use Rattle.std.specs.BTreeSet.{insert_key}
use Rattle.std.specs.Ordering.{is_eq}
use Rattle.std.proofs.lemmas.List.{take_all}
use Rattle.std.proofs.lemmas.List.Sums.{sum_by_more}
use Rattle.span_words.specs.declared.span.SpanKind.TheVariants.{Worker}
use Rattle.span_words.specs.declared.span.SpanEvent.{SpanEvent}
use Rattle.span_fold.specs.Folded.{Stack, stack_cmp, stack_of, stacks_of}
use Rattle.span_fold.proofs.Stacks.{stack_total, stacks_more}
use Rattle.span_fold.proofs.Times.{added, time_in, time_most, whole_sum}
use Rattle.span_fold.proofs.folding.stack_times.Goals as goal

-- what a span reads as past the end
abbrev none : SpanEvent
none = record { kind = Worker; tid = 0; ts = 0; dur = 0; file = 0; piece = 0; words = 0; depth = 0; total = 0 }

pub loop-span-preserved : goal.loop-span-preserved
loop-span-preserved c =
    let spans = c.args.spans.now in
    let i = c.loop-span.span-index in
    let s : SpanEvent = get_or spans i none in
    let add = c.in_ok-add.ensures in
    let more : (q : Stack) → unwrap_or (get stack_cmp c.add.new.times q) 0 ≡ unwrap_or (get stack_cmp c.loop-span.times q) 0 + time_in q s =
    λ q. added stack_cmp stack_total c.loop-span.times c.add.new.times c.stack_of.result q s.dur add.updates ∙ ap (λ k. unwrap_or (get stack_cmp c.loop-span.times q) 0 + cond (is_eq (stack_cmp k q)) s.dur 0) c.stack_of.ensures in
    record {
      keys = add.keys ∙ ap (λ k. insert_key stack_cmp k c.stack_of.result) c.loop-span.invariant.keys ∙ ap (insert_key stack_cmp (stacks_of (take i spans))) c.stack_of.ensures ∙ sym (stacks_more spans i none c.loop-span-test.true);
      times = λ q. more q ∙ ap (λ n. n + time_in q s) (c.loop-span.invariant.times q) ∙ sym (sum_by_more (time_in q) spans i none c.loop-span-test.true);
      few = λ q. omega (arith, more q, time_most q s, c.loop-span.invariant.few q);
    }

pub returns-clause-keys : goal.returns-clause-keys
returns-clause-keys c = c.loop-span.invariant.keys ∙ ap stacks_of (take_all c.loop-span.span-index c.args.spans.now (omega arith))

pub returns-clause-times : goal.returns-clause-times
returns-clause-times c = λ q. c.loop-span.invariant.times q ∙ ap (sum_by (time_in q)) (take_all c.loop-span.span-index c.args.spans.now (omega arith)) ∙ sym (whole_sum c.args.spans.now q.0 q.1)
