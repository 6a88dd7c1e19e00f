use Rattle.std.proofs.Common.{◌≡◌, take}
use Rattle.flight_view.specs.Schedules.{Moment, RunsTo, start_moment}
use Rattle.flight_view.specs.Viewers.{StandsFor}
use Rattle.flight_view.proofs.schedule.view_run.Given as goal

abbrev pub invariant-loop-event : goal.invariant-loop-event
invariant-loop-event l = (l.state.shape ≡ l.fn.shape) × (moment : Moment) × RunsTo l.fn.shape (start_moment l.fn.shape) (take l.event-index l.events) moment × StandsFor l.state moment
