use Rattle.queue_bench.proofs.takes.timed_takes.Given as goal

abbrev pub invariant-loop : goal.invariant-loop
invariant-loop g l = let m = g.Q.Rail in m.PutsInto l.rail l.seat × m.TakesFrom l.rail l.seat
