use Rattle.call_steps.specs.Queue.{IsSeatOf}
use Rattle.rail_tests.proofs.looks.look_beside.Given as goal

abbrev pub invariant-loop-round : goal.invariant-loop-round
invariant-loop-round l = IsSeatOf l.queue l.seat
