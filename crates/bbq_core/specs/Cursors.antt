-- The cursors that takes move, by block number. Those that puts move are the side of puts' own.
use Rattle.std.specs.Prelude.{◌≡◌, ℕ, ◌+◌, ◌/◌, ◌%◌, ◌<◌, ◌≤◌, ◌⊎◌, List, slice_index}
use Rattle.cursor_word.specs.Shape.{Grid}
use Rattle.cursor_word.specs.Cursor.{offset_span}
use Rattle.put_side.specs.Cursors.{Front, consumed_word, place, reserved_word}

-- the consumer head, and the two cursors of each block number's physical block
pub record TakeCursors : Type 0 where
  pub consumer : ℕ
  pub reserved : ℕ → ℕ
  pub consumed : ℕ → ℕ

abbrev pub take_cursors : Grid → List ℕ → TakeCursors
take_cursors shape words = record {
  consumer = slice_index words 1;
  reserved = reserved_word shape words;
  consumed = consumed_word shape words;
}

-- Takes have come so far: the last block that they opened, and the next place to be reserved.
-- The reserved cursor of the last block is of that block, and the next place is the one at it
pub record IsOpen (shape : Grid) (back : Front) (top : ℕ) : Type 0 where
  pub block : top / offset_span ≡ back.last
  pub within : top % offset_span ≤ shape.size
  pub at : back.next ≡ place shape back.last (top % offset_span)

-- or it is still that of the spent block before it in the same physical block, and the next place
-- is
-- the first of the last block, while the take that opened that block goes on
pub record IsHalfOpen (shape : Grid) (back : Front) (consumer top : ℕ) : Type 0 where
  pub older : top / offset_span + shape.blocks ≡ back.last
  pub spent : top % offset_span ≡ shape.size
  pub behind : consumer < back.last
  pub at : back.next ≡ place shape back.last 0

-- the cursors of the newest blocks that takes opened, as many as there are physical ones, where
-- opened is the last block opened to puts: takes are at most one round behind
pub record TakeWords (shape : Grid) (opened : ℕ) (back : Front) (cursors : TakeCursors)
    : Type 0 where
  pub from : shape.blocks ≤ back.last
  pub behind : back.last ≤ opened
  pub near : opened ≤ back.last + shape.blocks
  pub head_from : shape.blocks ≤ cursors.consumer
  pub head_to : cursors.consumer ≤ back.last
  pub consumed : (block : ℕ) → block ≤ back.last → back.last < block + shape.blocks
      → (cursors.consumed block / offset_span ≡ block)
      × (cursors.consumed block % offset_span ≤ shape.size)
  -- a block whose physical block puts opened again is wholly consumed
  pub reused : (block : ℕ) → block ≤ back.last → back.last < block + shape.blocks
      → block + shape.blocks ≤ opened → cursors.consumed block % offset_span ≡ shape.size
  pub passed : (block : ℕ) → block < back.last → back.last < block + shape.blocks
      → (cursors.reserved block / offset_span ≡ block)
      × (cursors.reserved block % offset_span ≡ shape.size)
  pub newest : IsOpen shape back (cursors.reserved back.last)
      ⊎ IsHalfOpen shape back cursors.consumer (cursors.reserved back.last)
