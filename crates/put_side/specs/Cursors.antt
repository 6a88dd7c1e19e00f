-- The cursors that puts move, by block number.
-- A physical block has at a time the cursors of one of its block numbers.
use Rattle.std.specs.Prelude.{◌≡◌, ℕ, ◌+◌, ◌-◌, ◌*◌, ◌/◌, ◌%◌, ◌<◌, ◌≤◌, ◌⊎◌, min, List, slice_index}
use Rattle.cursor_word.specs.Shape.{Grid}
use Rattle.cursor_word.specs.Cursor.{offset_span}

-- the allocated and the committed cursor's word of a block
abbrev pub allocated_word : Grid → List ℕ → ℕ → ℕ
allocated_word shape words block = slice_index words (2 + 4 * (block % shape.blocks))

abbrev pub committed_word : Grid → List ℕ → ℕ → ℕ
committed_word shape words block = slice_index words (3 + 4 * (block % shape.blocks))

-- the same of the two cursors that takes move
abbrev pub reserved_word : Grid → List ℕ → ℕ → ℕ
reserved_word shape words block = slice_index words (4 + 4 * (block % shape.blocks))

abbrev pub consumed_word : Grid → List ℕ → ℕ → ℕ
consumed_word shape words block = slice_index words (5 + 4 * (block % shape.blocks))

-- the producer head, and the two cursors of each block number's physical block
pub record PutCursors : Type 0 where
  pub producer : ℕ
  pub allocated : ℕ → ℕ
  pub committed : ℕ → ℕ

abbrev pub put_cursors : Grid → List ℕ → PutCursors
put_cursors shape words = record {
  producer = slice_index words 0;
  allocated = allocated_word shape words;
  committed = committed_word shape words;
}

-- how far puts have come: the last block that was opened, and the next place to be allocated
pub record Front : Type 0 where
  pub last : ℕ
  pub next : ℕ

-- the place at an offset of a block
abbrev pub place : Grid → ℕ → ℕ → ℕ
place shape block offset = (block - shape.blocks) * shape.size + offset

-- the allocated cursor of the last block: it is of that block, and the next place is the one at it
pub record IsOpen (shape : Grid) (front : Front) (top : ℕ) : Type 0 where
  pub block : top / offset_span ≡ front.last
  pub at : front.next ≡ place shape front.last (min (top % offset_span) shape.size)

-- or it is still that of the filled block before it in the same physical block, and the next place
-- is the first of the last block, while the put that opened that block goes on
pub record IsHalfOpen (shape : Grid) (front : Front) (producer top : ℕ) : Type 0 where
  pub older : top / offset_span + shape.blocks ≡ front.last
  pub filled : shape.size ≤ top % offset_span
  pub behind : producer < front.last
  pub at : front.next ≡ place shape front.last 0

-- the cursors of the newest blocks, as many as there are physical ones: each committed cursor is
-- its block's own, and the blocks before the last are wholly allocated
pub record PutWords (shape : Grid) (front : Front) (cursors : PutCursors) : Type 0 where
  pub from : shape.blocks ≤ front.last
  pub head_from : shape.blocks ≤ cursors.producer
  pub head_to : cursors.producer ≤ front.last
  pub committed : (block : ℕ) → block ≤ front.last → front.last < block + shape.blocks
      → cursors.committed block / offset_span ≡ block
  pub full : (block : ℕ) → block < front.last → front.last < block + shape.blocks
      → (cursors.allocated block / offset_span ≡ block)
      × (shape.size ≤ cursors.allocated block % offset_span)
  pub newest : IsOpen shape front (cursors.allocated front.last)
      ⊎ IsHalfOpen shape front cursors.producer (cursors.allocated front.last)
