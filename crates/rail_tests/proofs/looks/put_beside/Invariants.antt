use Rattle.call_steps.specs.Queue.{IsSeatOf}
use Rattle.rail_tests.proofs.looks.put_beside.Given as goal

abbrev pub invariant-loop-count : goal.invariant-loop-count
invariant-loop-count l = IsSeatOf l.queue l.seat
