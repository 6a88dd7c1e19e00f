-- What holds in each such queue at each moment of each schedule, whatever its takes do.
use Rattle.std.specs.Prelude.{◌≡◌, ℕ, ◌+◌, ◌/◌, ◌%◌, ◌<◌, ◌≤◌, List, Some, slice_get, slice_index}
use Rattle.std.specs.List.{sum_by}
use Rattle.cursor_word.specs.Shape.{Grid}
use Rattle.cursor_word.specs.Cursor.{block_span, offset_span}
use Rattle.rail.specs.declared.entry.Placed.{Placed}
use Rattle.rail.specs.Items.{IsRising, places}
use Rattle.machine.specs.declared.view.View.{View}
use Rattle.put_side.specs.Counts.{claims, one_below}
use Rattle.put_side.specs.Cursors.{allocated_word, committed_word, reserved_word}
use Rattle.put_side.specs.Entries.{IsMade}
use Rattle.put_side.specs.PutTable.{stage_of}
use Rattle.put_side.specs.Stages.{PutStage}

-- each place below some number is made or held by one seat, once, and no other place is
pub record PlacesAreDense {P : Type 0} (stage : P → PutStage) (shape : Grid)
    (views : List (View P)) : Type 0 where
  pub count : ℕ
  pub once : (p : ℕ) → sum_by (claims (stage_of stage) shape p) views ≡ one_below p count

module _ {P : Type 0} (views : List (View P)) where
  -- each seat's made places rise
  abbrev pub MadeRises : Type 0
  MadeRises = (seat : ℕ) (view : View P) → slice_get views seat ≡ Some view
      → IsRising (places view.made)

  -- each seat's taken places rise
  abbrev pub TakenRises : Type 0
  TakenRises = (seat : ℕ) (view : View P) → slice_get views seat ≡ Some view
      → IsRising (places view.taken)

  -- each taken item is a made item
  abbrev pub TakenIsMade : Type 0
  TakenIsMade = (seat : ℕ) (view : View P) → slice_get views seat ≡ Some view
      → (i : ℕ) (item : Placed) → slice_get view.taken i ≡ Some item → IsMade views item

-- the block number of this cursor word of each block is below the limit
abbrev pub BlocksAreSmall : Grid → (ℕ → ℕ) → Type 0
BlocksAreSmall shape cursor_word =
    (block : ℕ) → block < shape.blocks → cursor_word block / offset_span < block_span

-- no cursor word overflows: an allocated offset passes the size at most once for each seat, and
-- block numbers are small
pub record WordsAreSmall (shape : Grid) (words : List ℕ) : Type 0 where
  pub offsets : (block : ℕ) → block < shape.blocks
      → allocated_word shape words block % offset_span ≤ shape.size + shape.seats
  pub allocated : BlocksAreSmall shape (allocated_word shape words)
  pub committed : BlocksAreSmall shape (committed_word shape words)
  pub reserved : BlocksAreSmall shape (reserved_word shape words)
  pub heads : (slice_index words 0 < block_span) × (slice_index words 1 < block_span)
