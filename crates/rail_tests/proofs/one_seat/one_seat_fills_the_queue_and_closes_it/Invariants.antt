use Rattle.std.proofs.Common.{◌≡◌, ◌≤◌, length}
use Rattle.call_steps.specs.Queue.{IsSeatOf}
use Rattle.rail_tests.proofs.one_seat.one_seat_fills_the_queue_and_closes_it.Given as goal

abbrev pub invariant-loop-word : goal.invariant-loop-word
invariant-loop-word g l = IsSeatOf l.rail l.seat × (l.rail.shape.seats ≡ 1) × (length l.seat.view.made ≤ l.word-index)
