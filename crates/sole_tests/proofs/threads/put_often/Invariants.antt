use Rattle.std.proofs.Common.{◌≡◌}
use Rattle.call_steps.specs.Queue.{IsSeatOf}
use Rattle.sole_tests.proofs.threads.put_often.Given as goal

abbrev pub invariant-loop-turn : goal.invariant-loop-turn
invariant-loop-turn l = IsSeatOf l.queue l.seat × (l.seat.number ≡ l.initial.seat.number)
