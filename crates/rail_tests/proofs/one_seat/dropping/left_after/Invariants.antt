use Rattle.std.proofs.Common.{◌≡◌, ◌≤◌, length}
use Rattle.call_steps.specs.Queue.{IsSeatOf}
use Rattle.rail_tests.proofs.one_seat.dropping.left_after.Given as goal

abbrev pub invariant-loop-place : goal.invariant-loop-place
invariant-loop-place g l = IsSeatOf l.rail l.seat × (l.rail.shape.seats ≡ 1) × (length l.seat.view.made ≤ l.place)
