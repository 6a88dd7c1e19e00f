use Rattle.std.proofs.Common.{◌+◌, ◌≤◌, length}
use Rattle.queue_bench.proofs.passes.put_all.Given as goal

abbrev pub invariant-loop-turn : goal.invariant-loop-turn
invariant-loop-turn g l = let m = g.Q.Rail in m.PutsInto l.queue l.seat × (length (m.made l.seat) ≤ length (m.made l.initial.seat) + l.turn)
