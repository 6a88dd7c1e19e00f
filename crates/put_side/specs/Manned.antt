-- Who is at work where the allocated cursor or the producer head lags behind the last block that
-- was opened, or where that block is still empty.
use Rattle.std.specs.Prelude.{◌≡◌, ℕ, ◌+◌, ◌/◌, ◌<◌, ◌≤◌, ◌⊎◌, List, if◌then◌else◌, ◌==◌}
use Rattle.std.specs.List.{sum_by}
use Rattle.cursor_word.specs.Shape.{Grid}
use Rattle.cursor_word.specs.Cursor.{offset_span}
use Rattle.cursor_word.specs.declared.cursor.Cursor.{Cursor}
use Rattle.machine.specs.declared.view.View.{View}
use Rattle.put_side.specs.Cursors.{Front, PutCursors, place}
use Rattle.put_side.specs.Counts.{one_at}
use Rattle.put_side.specs.Stages.{PutStage}
use Rattle.put_side.specs.declared.put_phase.PutPhase.TheVariants.{HeadP, SeeA, AddA, OpenA, RaiseP}
use Rattle.put_side.specs.Stages.{At}

-- 1 for a put that is about to open the allocated cursor of a block, else 0
abbrev pub opens_allocated : ℕ → PutStage → ℕ
opens_allocated block (At (OpenA full)) = one_at (full.block + 1) block
opens_allocated block stage = 0

-- 1 for a put that is on its way to raise the producer head to a block
abbrev pub raises_producer : ℕ → PutStage → ℕ
raises_producer block (At (OpenA full)) = one_at (full.block + 1) block
raises_producer block (At (RaiseP full)) = one_at (full.block + 1) block
raises_producer block stage = 0

-- 1 in the second turn, of a put that found the block before this one filled
abbrev pub second_in : ℕ → ℕ → Cursor → ℕ
second_in block turn first = if turn == 1 then 0 else one_at (first.block + 1) block

-- 1 for a put that is on its way into a block
abbrev pub enters : ℕ → PutStage → ℕ
enters block (At (OpenA full)) = one_at (full.block + 1) block
enters block (At (RaiseP full)) = one_at (full.block + 1) block
enters block (At (HeadP turn first)) = second_in block turn first
enters block (At (SeeA turn first head)) = second_in block turn first
enters block (At (AddA turn first head)) = second_in block turn first
enters block stage = 0

module _ {P : Type 0} (stage : View P → PutStage) where
  abbrev pub in_all : (PutStage → ℕ) → List (View P) → ℕ
  in_all f views = sum_by (λ (view : View P). f (stage view)) views

  -- the last block's allocated cursor is its own, the head stands at it, and a place of it is
  -- allocated (the first block may be empty): or some put is at work on it
  pub record IsManned (shape : Grid) (front : Front) (cursors : PutCursors)
      (views : List (View P)) : Type 0 where
    pub allocated : (cursors.allocated front.last / offset_span ≡ front.last)
        ⊎ (1 ≤ in_all (opens_allocated front.last) views)
    pub producer : (cursors.producer ≡ front.last) ⊎ (1 ≤ in_all (raises_producer front.last) views)
    pub entered : ((front.last ≡ shape.blocks) ⊎ (place shape front.last 0 < front.next))
        ⊎ (1 ≤ in_all (enters front.last) views)
