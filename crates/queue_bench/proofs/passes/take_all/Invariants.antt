use Rattle.queue_bench.proofs.passes.take_all.Given as goal

abbrev pub invariant-loop : goal.invariant-loop
invariant-loop g l = g.Q.Rail.TakesFrom l.queue l.seat
