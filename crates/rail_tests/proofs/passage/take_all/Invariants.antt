use Rattle.std.proofs.Common.{◌≡◌, ◌<◌}
use Rattle.rail.specs.Told.{IsTake}
use Rattle.rail_tests.proofs.passage.take_all.Given as goal

abbrev pub invariant-loop : goal.invariant-loop
invariant-loop g l =
    g.Q.Rail.TakesFrom l.rail l.seat
    × (g.Q.Rail.PutsInto l.rail l.fn.seat → g.Q.Rail.PutsInto l.rail l.seat)
    × (g.Q.Rail.number_of l.seat ≡ g.Q.Rail.number_of l.fn.seat)
    × (g.Q.Rail.made l.seat ≡ g.Q.Rail.made l.fn.seat)
    × (l.taken.items ≡ g.Q.Rail.taken l.seat)
    × (0 < l.counter → IsTake (g.Q.Rail.told l.seat).answer)
