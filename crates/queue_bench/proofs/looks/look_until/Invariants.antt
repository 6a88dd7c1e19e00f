use Rattle.call_steps.specs.Queue.{IsSeatOf}
use Rattle.queue_bench.proofs.looks.look_until.Given as goal

abbrev pub invariant-loop : goal.invariant-loop
invariant-loop g l = IsSeatOf l.queue l.seat
