use Rattle.std.proofs.Common.{◌≤◌}
use Rattle.queue_bench.proofs.kit.kit_pairs.Given as goal

abbrev pub invariant-loop-turn : goal.invariant-loop-turn
invariant-loop-turn g l = l.kept ≤ l.turn
