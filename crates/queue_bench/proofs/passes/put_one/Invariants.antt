use Rattle.std.proofs.Common.{◌≡◌}
use Rattle.queue_bench.proofs.passes.put_one.Given as goal

abbrev pub invariant-loop : goal.invariant-loop
invariant-loop g l = let m = g.Q.Rail in m.PutsInto l.queue l.seat × (m.made l.seat ≡ m.made l.initial.seat)
