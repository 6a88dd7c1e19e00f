use Rattle.std.proofs.Common.{ap, subst, sym}
use Rattle.flight_view.specs.Schedules.{start_moment}
use Rattle.flight_view.specs.Viewers.{StandsFor}
use Rattle.flight_view.proofs.States.{on_way, starts_for, viewing}
use Rattle.flight_view.proofs.schedule.ViewState.new.Goals as goal

pub invariant_of-result : goal.invariant_of-result
invariant_of-result c = record {
  shape_is = ap (λ q. q.shape) c.in_ok-queue.ensures.start;
  all = c.in_ok-viewers.ensures.long;
  each = on_way c.args.shape c.in_ok-viewers.viewers.items c.in_ok-viewers.ensures.none;
}

pub returns-clause-start : goal.returns-clause-start
returns-clause-start c =
    subst (λ q. StandsFor (viewing c.args.shape q.state c.in_ok-viewers.viewers.items) (start_moment c.args.shape)) (sym c.in_ok-queue.ensures.start)
    (starts_for c.args.shape c.in_ok-viewers.viewers.items c.in_ok-viewers.ensures.long c.in_ok-viewers.ensures.none)
