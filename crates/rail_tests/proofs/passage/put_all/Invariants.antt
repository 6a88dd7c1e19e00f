use Rattle.std.proofs.Common.{◌≡◌, ◌+◌, ◌<◌, ◌≤◌, length}
use Rattle.rail.specs.Told.{IsPut}
use Rattle.rail_tests.proofs.passage.put_all.Given as goal

abbrev pub invariant-loop-entry : goal.invariant-loop-entry
invariant-loop-entry g l =
    g.Q.Rail.PutsInto l.rail l.seat
    × (g.Q.Rail.TakesFrom l.rail l.fn.seat → g.Q.Rail.TakesFrom l.rail l.seat)
    × (g.Q.Rail.number_of l.seat ≡ g.Q.Rail.number_of l.fn.seat)
    × (g.Q.Rail.taken l.seat ≡ g.Q.Rail.taken l.fn.seat)
    × (length (g.Q.Rail.made l.seat) ≤ length (g.Q.Rail.made l.fn.seat) + l.entry-index)
    × (l.put.items ≡ g.Q.Rail.made l.seat)
    × (0 < l.entry-index → IsPut (g.Q.Rail.told l.seat).answer)
