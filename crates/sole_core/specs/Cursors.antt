-- The words that takes move, and those that no step moves. The cursors that puts move are the side
-- of puts' own.
use Rattle.std.specs.Prelude.{◌≡◌, ℕ, ◌+◌, ◌*◌, ◌<◌, ◌≤◌, List, slice_index}
use Rattle.cursor_word.specs.Shape.{Grid}
use Rattle.cursor_word.specs.Cursor.{cursor_of, offset_span, packed}
use Rattle.machine.specs.Steps.{start_words}
use Rattle.put_side.specs.Cursors.{reserved_word}

-- the consumer head and the reserved cursors stay as they start
pub record IsUnmoved (shape : Grid) (words : List ℕ) : Type 0 where
  pub head : slice_index words 1 ≡ slice_index (start_words shape) 1
  pub reserved : (block : ℕ)
      → reserved_word shape words block ≡ reserved_word shape (start_words shape) block

-- where the places below this one are taken: a block is behind the next place exactly where its
-- physical block's consumed cursor shows it wholly consumed, and none is beyond the next place
pub record TakeWords (shape : Grid) (next : ℕ) (consumed : ℕ → ℕ) : Type 0 where
  pub passed : (block : ℕ) → block * offset_span + shape.size ≤ consumed block
      → block < (cursor_of shape next).block
  pub shown : (block : ℕ) → block < (cursor_of shape next).block
      → block * offset_span + shape.size ≤ consumed block
  pub most : (block : ℕ) → consumed block ≤ packed (cursor_of shape next)
