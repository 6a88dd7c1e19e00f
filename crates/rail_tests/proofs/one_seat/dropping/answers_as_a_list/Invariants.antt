use Rattle.std.proofs.Common.{◌≤◌, length}
use Rattle.call_steps.specs.Queue.{IsSeatOf}
use Rattle.rail_tests.proofs.one_seat.dropping.answers_as_a_list.Given as goal

abbrev pub invariant-loop-step : goal.invariant-loop-step
invariant-loop-step g l = IsSeatOf l.rail-inside.queue l.seat × (length l.seat.view.made ≤ l.step-counter)
