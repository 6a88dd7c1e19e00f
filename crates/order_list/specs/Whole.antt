-- All items that are gathered.
use Rattle.std.specs.Prelude.{List, ◌++◌, flat_map}
use Rattle.rail.specs.Batch.{Gathered}
use Rattle.rail.specs.declared.entry.Placed.{Placed}

abbrev pub all_items : List Gathered → Gathered → List Placed
all_items batches left = flat_map (λ (b : Gathered). b.items) batches ++ left.items
