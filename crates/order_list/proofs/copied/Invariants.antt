use Rattle.std.proofs.Common.{◌≡◌, take}
use Rattle.std.specs.Prelude.{flat_map}
use Rattle.rail.specs.Batch.{Gathered}
use Rattle.order_list.proofs.copied.Given as goal

abbrev pub invariant-loop-batch : goal.invariant-loop-batch
invariant-loop-batch l = l.items.items ≡ flat_map (λ (b : Gathered). b.items) (take l.batch-index l.batches)
