use Rattle.call_steps.specs.Queue.{IsSeatOf}
use Rattle.rail_tests.proofs.looks.put.Given as goal

abbrev pub invariant-loop-word : goal.invariant-loop-word
invariant-loop-word g l = IsSeatOf l.queue l.seat
