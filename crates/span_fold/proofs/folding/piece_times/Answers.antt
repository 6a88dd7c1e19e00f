use Rattle.std.proofs.Common.{◌≡◌, ℕ, ◌+◌, cond, List, get_or, take, sum_by, unwrap_or, sym, ap, ◌∙◌, subst, arith}
use Rattle.std.specs.BTreeMap.{get}
use Rattle.std.specs.Ordering.{is_eq, nat_cmp}
use Rattle.std.proofs.lemmas.Cmp.{nat_cmp_total}
use Rattle.std.proofs.lemmas.List.{take_all}
use Rattle.std.proofs.lemmas.List.Sums.{sum_by_more}
use Rattle.span_words.specs.declared.span.SpanKind.TheVariants.{Worker}
use Rattle.span_words.specs.declared.span.SpanEvent.{SpanEvent}
use Rattle.span_fold.proofs.Times.{added, time_of_piece, cond_most, piece_added, pieces_sum}
use Rattle.span_fold.proofs.folding.piece_times.Goals as goal

-- what a span reads as past the end
abbrev none : SpanEvent
none = record { kind = Worker; tid = 0; ts = 0; dur = 0; file = 0; piece = 0; words = 0; depth = 0; total = 0 }

pub loop-span-preserved : goal.loop-span-preserved
loop-span-preserved c =
    let spans = c.args.spans.now in
    let i = c.loop-span.span-index in
    let s : SpanEvent = get_or spans i none in
    let more : (tid : ℕ) → unwrap_or (get nat_cmp c.add.new.times tid) 0 ≡ unwrap_or (get nat_cmp c.loop-span.times tid) 0 + cond (is_eq (nat_cmp s.tid tid)) c.piece_time.result 0 =
    λ tid. added nat_cmp nat_cmp_total c.loop-span.times c.add.new.times s.tid tid c.piece_time.result c.in_ok-add.ensures.updates in
    let same : (tid : ℕ) → cond (is_eq (nat_cmp s.tid tid)) c.piece_time.result 0 ≡ time_of_piece tid s =
    λ tid. ap (λ n. cond (is_eq (nat_cmp s.tid tid)) n 0) c.piece_time.ensures ∙ piece_added tid s in
    record {
      times = λ tid. more tid ∙ ap (λ n. unwrap_or (get nat_cmp c.loop-span.times tid) 0 + n) (same tid) ∙ ap (λ n. n + time_of_piece tid s) (c.loop-span.invariant.times tid) ∙ sym (sum_by_more (time_of_piece tid) spans i none c.loop-span-test.true);
      few = λ tid. omega (arith, more tid, cond_most (is_eq (nat_cmp s.tid tid)) c.piece_time.result, c.loop-span.invariant.few tid);
    }

pub returns : goal.returns
returns c = λ tid. c.loop-span.invariant.times tid ∙ ap (sum_by (time_of_piece tid)) (take_all c.loop-span.span-index c.args.spans.now (omega arith)) ∙ sym (pieces_sum tid c.args.spans.now)
