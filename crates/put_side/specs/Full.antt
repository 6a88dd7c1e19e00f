-- When a queue that refuses when full is full.
use Rattle.std.specs.Prelude.{◌≡◌, ℕ, ◌+◌, ◌-◌, ◌<◌, ◌≤◌}
use Rattle.std.specs.List.{sum_by}
use Rattle.cursor_word.specs.Shape.{Grid}
use Rattle.cursor_word.specs.Cursor.{IsBefore, cursor, first_of, unpacked}
use Rattle.cursor_word.specs.declared.cursor.Cursor.{Cursor}
use Rattle.machine.specs.declared.view.View.{View}
use Rattle.machine.specs.Steps.{MachineState}
use Rattle.put_side.specs.Counts.{claims}
use Rattle.put_side.specs.Cursors.{committed_word, consumed_word}
use Rattle.put_side.specs.Stages.{PutStage}

-- The queue is full up to a block, as x shows: all places up to the end of the block are made or
-- held, the next one is not opened, and x is the consumed cursor in its physical block, where an
-- older block lies that is not wholly consumed.
pub record FullAt {P : Type 0} (stage : View P → PutStage) (shape : Grid) (w : MachineState P)
    (block : ℕ) (x : Cursor) : Type 0 where
  pub from : shape.blocks ≤ block
  pub allocated : (p : ℕ) → p < first_of shape (block + 1)
      → 1 ≤ sum_by (claims stage shape p) w.views
  pub not_opened : (unpacked (committed_word shape w.words (block + 1))).block < block + 1
  pub consumed : unpacked (consumed_word shape w.words (block + 1)) ≡ x
  pub not_consumed : IsBefore x (cursor (block + 1 - shape.blocks) shape.size)
