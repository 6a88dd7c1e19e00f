use Rattle.queue_bench.proofs.takes.fill.Given as goal

abbrev pub invariant-loop-turn : goal.invariant-loop-turn
invariant-loop-turn g l = let m = g.Q.Rail in m.PutsInto l.rail l.seat × m.TakesFrom l.rail l.seat
