use Rattle.std.proofs.Common.{◌≡◌, ◌≤◌, length}
use Rattle.call_steps.specs.Queue.{IsSeatOf}
use Rattle.rail_tests.proofs.one_seat.takes_end_at_the_next_place.Given as goal

abbrev pub invariant-loop-word : goal.invariant-loop-word
invariant-loop-word g l = IsSeatOf l.rail l.seat × (l.rail.shape.seats ≡ 1) × (length l.seat.view.made ≤ l.word-index)
