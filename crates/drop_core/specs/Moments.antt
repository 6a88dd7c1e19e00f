-- The facts of one moment that license an answer.
use Rattle.std.specs.Prelude.{◌≡◌, ℕ, ◌+◌, ◌/◌, ◌<◌, ◌≤◌, ◌⊎◌, List}
use Rattle.std.specs.List.{sum_by}
use Rattle.cursor_word.specs.Shape.{Grid}
use Rattle.cursor_word.specs.Cursor.{offset_span, place_at, unpacked}
use Rattle.cursor_word.specs.declared.cursor.Cursor.{Cursor}
use Rattle.machine.specs.Steps.{MachineState}
use Rattle.put_side.specs.Cursors.{allocated_word, committed_word, place}
use Rattle.put_side.specs.Counts.{makes}
use Rattle.drop_core.specs.declared.phase.DropPhase.{DropPhase}
use Rattle.drop_core.specs.Words.{IsGone, cursors}
use Rattle.drop_core.specs.Counts.{fetches}

-- block k was reused: a later block was opened in its physical block
abbrev pub IsReused : Grid → List ℕ → ℕ → Type 0
IsReused shape words k = k + shape.blocks ≤ committed_word shape words k / offset_span

-- No entry stands at place p, the next for a take: p is not made, each place below p is taken or
-- being read or lies in a reused block, and no place from p on was ever reserved.
pub record EmptyAt (shape : Grid) (w : MachineState DropPhase) (p : ℕ) : Type 0 where
  pub not_made : sum_by (makes p) w.views ≡ 0
  pub reserved : (q : ℕ) → q < p
      → (1 ≤ sum_by (fetches shape q) w.views)
      ⊎ IsReused shape w.words (shape.blocks + q / shape.size)
  pub not_reserved : (k o : ℕ) → shape.blocks ≤ k → o < shape.size → p ≤ place shape k o
      → IsGone (cursors shape w.words) k o → ⊥

-- A take has reserved the place of this cursor, and the allocated cursor of its physical block is
-- that one, of a later block.
pub record OverrunAt (shape : Grid) (w : MachineState DropPhase) (at now : Cursor) : Type 0 where
  pub reserved : 1 ≤ sum_by (fetches shape (place_at shape at)) w.views
  pub found : unpacked (allocated_word shape w.words at.block) ≡ now
  pub later : at.block < now.block
