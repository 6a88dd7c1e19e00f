use Rattle.std.proofs.Common.{◌≤◌, length}
use Rattle.rail_tests.specs.ListRail.{IsSeatOf}
use Rattle.call_steps.specs.Queue.{IsSeatOf as IsSoloSeatOf}
use Rattle.rail_tests.proofs.one_seat.answers_as_a_list.Given as goal

abbrev pub invariant-loop-step : goal.invariant-loop-step
invariant-loop-step g l = IsSoloSeatOf l.rail l.seat × IsSeatOf l.list.shape l.list_seat × (length l.seat.view.made ≤ l.step-counter) × (length l.list_seat.made.items ≤ l.step-counter)
