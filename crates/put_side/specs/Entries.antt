-- Where the words of made entries, and of those that are being written, stand.
use Rattle.std.specs.Prelude.{◌≡◌, ℕ, ◌+◌, ◌*◌, ◌%◌, ◌<◌, List, Some, length, slice_get, slice_index}
use Rattle.cursor_word.specs.Shape.{Grid}
use Rattle.cursor_word.specs.Cursor.{cursor_of, offset_span}
use Rattle.cursor_word.specs.Layout.{entry_index}
use Rattle.cursor_word.specs.declared.cursor.Cursor.{Cursor}
use Rattle.rail.specs.declared.entry.Placed.{Placed}
use Rattle.machine.specs.declared.view.View.{View}
use Rattle.put_side.specs.Stages.{PutStage}
use Rattle.put_side.specs.declared.put_phase.PutPhase.TheVariants.{Write, Commit}
use Rattle.put_side.specs.Stages.{At}

-- the item stands in the made list of some seat
pub record IsMade {P : Type 0} (views : List (View P)) (item : Placed) : Type 0 where
  pub seat : ℕ
  pub view : View P
  pub at : slice_get views seat ≡ Some view
  pub number : ℕ
  pub there : slice_get view.made number ≡ Some item

-- the first words of this entry stand at a cursor
abbrev pub HasWords : Grid → List ℕ → Cursor → List ℕ → ℕ → Type 0
HasWords shape words at entry count = (w : ℕ) → w < count
    → slice_index words (entry_index shape (at.block % shape.blocks) at.offset w)
    ≡ slice_index entry w

-- A block has not made way: the allocated cursor of its physical block is of no later block. So its
-- entries still stand there, also while the put that opened the next block in its place hasn't yet
-- opened the allocated cursor.
abbrev pub IsPresent : (ℕ → ℕ) → ℕ → Type 0
IsPresent allocated block = allocated block < (block + 1) * offset_span

-- what a put has written of the entry in hand
abbrev pub HoldsWords : Grid → List ℕ → List ℕ → PutStage → Type 0
HoldsWords shape words entry (At (Write at next)) = HasWords shape words at entry next
HoldsWords shape words entry (At (Commit at)) = HasWords shape words at entry shape.width
HoldsWords shape words entry stage = Unit {0}

-- the entries of one seat: the one in hand as far as it is written, and those made, while their
-- blocks haven't made way
pub record HasEntries {P : Type 0} (stage : View P → PutStage) (shape : Grid)
    (allocated : ℕ → ℕ) (words : List ℕ) (view : View P) : Type 0 where
  pub wide : length view.entry ≡ shape.width
  pub held_words : HoldsWords shape words view.entry (stage view)
  pub made_wide : (i : ℕ) (item : Placed) → slice_get view.made i ≡ Some item
      → length item.words ≡ shape.width
  pub made_words : (i : ℕ) (item : Placed) → slice_get view.made i ≡ Some item
      → IsPresent allocated (cursor_of shape item.place).block
      → HasWords shape words (cursor_of shape item.place) item.words shape.width
