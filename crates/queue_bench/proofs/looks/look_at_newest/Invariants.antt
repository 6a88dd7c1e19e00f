use Rattle.call_steps.specs.Queue.{IsSeatOf}
use Rattle.queue_bench.proofs.looks.look_at_newest.Given as goal

abbrev pub invariant-loop-block : goal.invariant-loop-block
invariant-loop-block l = IsSeatOf l.queue l.seat
