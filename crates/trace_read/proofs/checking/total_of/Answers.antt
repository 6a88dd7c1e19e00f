use Rattle.std.proofs.Common.{◌∙◌, Err, ap, sym}
use Rattle.span_words.specs.declared.span.SpanKind.TheVariants.{Worker, Piece}
use Rattle.span_words.specs.Workers.{spans_of}
use Rattle.trace_read.specs.declared.checking.CheckError.TheVariants.{Workers}
use Rattle.trace_read.specs.Totals.{total_of}
use Rattle.trace_read.proofs.Tallies.{one_own, none_own, not_one}
use Rattle.trace_read.proofs.checking.total_of.Goals as goal

pub returns-in-Some : goal.returns-in-Some
unfolding total_of
returns-in-Some c =
    c.agreed.ensures ∙ sym (one_own c.args.tid (spans_of Worker c.args.tid c.args.spans.now) (spans_of Piece c.args.tid c.args.spans.now) c.in-Some.worker
    (sym c.number_of-found.ensures ∙ c.if-found-eq1.true) (sym c.first_worker.ensures ∙ c.in-Some.is))

pub returns-in_default : goal.returns-in_default
unfolding total_of
returns-in_default c =
    ap (λ n. Err (Workers c.args.tid n)) c.number_of-found.ensures
    ∙ sym (not_one c.args.tid (spans_of Worker c.args.tid c.args.spans.now) (spans_of Piece c.args.tid c.args.spans.now) (λ one. c.if-found-eq1.false (c.number_of-found.ensures ∙ one)))

pub returns-in_default-2 : goal.returns-in_default-2
unfolding total_of
returns-in_default-2 c =
    ap (λ n. Err (Workers c.args.tid n)) c.number_of-found.ensures
    ∙ sym (none_own c.args.tid (spans_of Worker c.args.tid c.args.spans.now) (spans_of Piece c.args.tid c.args.spans.now) (sym c.first_worker.ensures ∙ c.in_default.is))
