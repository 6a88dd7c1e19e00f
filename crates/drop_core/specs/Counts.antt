-- How often places are read and taken, as sums over the views of all seats, so that the order of
-- seats is of no matter.
use Rattle.std.specs.Prelude.{ℕ, ◌+◌, ◌/◌, ◌<◌, ◌≤◌, ◌⊎◌, List, [], ◌∷◌, ◌++◌, Option, Some}
use Rattle.std.specs.List.{sum_by}
use Rattle.cursor_word.specs.Shape.{Grid}
use Rattle.cursor_word.specs.Cursor.{offset_span, place_at}
use Rattle.rail.specs.Items.{places}
use Rattle.put_side.specs.Cursors.{place}
use Rattle.put_side.specs.Counts.{one_at, times}
use Rattle.drop_core.specs.declared.phase.DropPhase.{DropPhase}
use Rattle.drop_core.specs.declared.phase.DropPhase.TheVariants.{Take}
use Rattle.drop_core.specs.declared.take_phase.DropTake.{DropTake}
use Rattle.drop_core.specs.declared.take_phase.DropTake.TheVariants.{RaiseC, Read, Verify}
use Rattle.drop_core.specs.Types.{View}
use Rattle.drop_core.specs.Words.{Cursors, IsGone}

-- the place that a take has reserved and not yet answered
abbrev pub reading_in : Grid → DropTake → List ℕ
reading_in shape (Read at next) = place_at shape at ∷ []
reading_in shape (Verify at) = place_at shape at ∷ []
reading_in shape take = []

abbrev pub reading : Grid → Option DropPhase → List ℕ
reading shape (Some (Take take)) = reading_in shape take
reading shape phase = []

-- the places that a seat has taken or is reading: their list, and how often one is among them
abbrev pub fetched : Grid → View → List ℕ
fetched shape view = places view.taken ++ reading shape view.phase

abbrev pub fetches : Grid → ℕ → View → ℕ
fetches shape p view = times p (fetched shape view)

-- 1 for a take that is about to raise the consumer head to a block, else 0
abbrev pub raises_consumer : ℕ → Option DropPhase → ℕ
raises_consumer block (Some (Take (RaiseC from to))) = one_at to block
raises_consumer block phase = 0

abbrev pub raising : ℕ → View → ℕ
raising block view = raises_consumer block view.phase

-- where a reserved cursor is of a block beyond the consumer head, some take is about to raise the
-- head to it
abbrev pub IsAttended : Cursors → List View → Type 0
IsAttended cursors views = (block : ℕ)
    → (cursors.reserved block / offset_span ≤ cursors.consumer)
    ⊎ (1 ≤ sum_by (raising (cursors.reserved block / offset_span)) views)

-- Each place is taken or read at most once, and only where it was reserved. In a block that isn't
-- reused each reserved place is taken or read; in a reused one a take may have given it up.
pub record TakeCounts (shape : Grid) (last : ℕ) (cursors : Cursors)
    (views : List View) : Type 0 where
  pub once : (p : ℕ) → sum_by (fetches shape p) views ≤ 1
  pub gone : (block offset : ℕ) → shape.blocks ≤ block → offset < shape.size
      → 1 ≤ sum_by (fetches shape (place shape block offset)) views → IsGone cursors block offset
  pub kept : (block offset : ℕ) → shape.blocks ≤ block → last < block + shape.blocks
      → offset < shape.size → IsGone cursors block offset
      → 1 ≤ sum_by (fetches shape (place shape block offset)) views
