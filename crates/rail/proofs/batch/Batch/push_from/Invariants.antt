use Rattle.std.proofs.Common.{◌≡◌, ◌+◌, ◌++◌, take, drop}
use Rattle.rail.proofs.batch.Batch.push_from.Given as goal

abbrev pub invariant-loop-item : goal.invariant-loop-item
invariant-loop-item l =
    (l.self.items ≡ l.fn.self.items ++ take l.item-index (drop l.fn.from l.fn.other.items))
    × (l.self.spare + l.item-index ≡ l.fn.self.spare)
