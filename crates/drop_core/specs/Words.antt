-- The words of the queue as cursors, by block number.
-- A physical block has at a time the cursors of one of its block numbers.
use Rattle.std.specs.Prelude.{◌≡◌, ℕ, ◌+◌, ◌*◌, ◌/◌, ◌%◌, ◌<◌, ◌≤◌, ◌⊎◌, List, slice_index}
use Rattle.std.specs.List.{sum_by}
use Rattle.cursor_word.specs.Shape.{Grid}
use Rattle.cursor_word.specs.Cursor.{offset_span}
use Rattle.put_side.specs.Cursors.{PutCursors, place, put_cursors, reserved_word}
use Rattle.put_side.specs.Counts.{makes}
use Rattle.drop_core.specs.Types.{View}

-- the cursors that puts move, the consumer head, and each block number's reserved cursor
pub record Cursors : Type 0 where
  pub puts : PutCursors
  pub consumer : ℕ
  pub reserved : ℕ → ℕ

abbrev pub cursors : Grid → List ℕ → Cursors
cursors shape words =
    record {
      puts = put_cursors shape words;
      consumer = slice_index words 1;
      reserved = reserved_word shape words;
    }

-- a block is passed: it holds no entries, or was reused, or all its places are reserved
abbrev pub IsPassed : Grid → ℕ → Cursors → ℕ → Type 0
IsPassed shape last cursors block =
    (block < shape.blocks)
    ⊎ ((block + shape.blocks ≤ last)
    ⊎ (block * offset_span + shape.size ≤ cursors.reserved block))

-- The reserved cursor of a block's physical block stands above an offset of the block. So the place
-- there was reserved, or takes left it behind when they opened the reserved cursor of a later
-- block.
abbrev pub IsGone : Cursors → ℕ → ℕ → Type 0
IsGone cursors block offset = block * offset_span + offset < cursors.reserved block

-- the cursors that takes move
pub record TakeWords (shape : Grid) (last : ℕ) (cursors : Cursors)
    (views : List View) : Type 0 where
  -- each reserved cursor is of a block of its physical block that was opened
  pub same : (block : ℕ)
      → (cursors.reserved block / offset_span) % shape.blocks ≡ block % shape.blocks
  pub to : (block : ℕ) → cursors.reserved block / offset_span ≤ last
  pub most : (block : ℕ) → cursors.reserved block % offset_span ≤ shape.size
  -- only made places are reserved
  pub made : (block offset : ℕ) → shape.blocks ≤ block → offset < shape.size
      → IsGone cursors block offset → cursors.reserved block / offset_span ≡ block
      → 1 ≤ sum_by (makes (place shape block offset)) views
  -- the blocks before that of a reserved cursor are passed
  pub passed : (block earlier : ℕ) → earlier < cursors.reserved block / offset_span
      → IsPassed shape last cursors earlier
  -- the reserved cursor of the consumer head's block was opened
  pub head_from : shape.blocks ≤ cursors.consumer
  pub head : cursors.consumer * offset_span ≤ cursors.reserved cursors.consumer
