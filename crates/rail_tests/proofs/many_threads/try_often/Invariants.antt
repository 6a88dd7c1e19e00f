use Rattle.std.proofs.Common.{◌≡◌}
use Rattle.rail_tests.proofs.many_threads.try_often.Given as goal

abbrev pub invariant-loop-turn : goal.invariant-loop-turn
invariant-loop-turn g l = let m = g.Q.Rail in m.PutsInto l.queue l.seat × m.TakesFrom l.queue l.seat × (m.number_of l.seat ≡ m.number_of l.initial.seat)
