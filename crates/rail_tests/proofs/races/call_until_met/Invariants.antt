use Rattle.call_steps.specs.Queue.{IsSeatOf}
use Rattle.rail_tests.proofs.races.call_until_met.Given as goal

abbrev pub invariant-loop-turn : goal.invariant-loop-turn
invariant-loop-turn l = IsSeatOf l.queue l.seat
