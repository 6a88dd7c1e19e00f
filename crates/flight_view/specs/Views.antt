-- What a view shows, and what taking it does to its seat.
use Rattle.std.specs.Prelude.{◌≡◌, ◌≢◌, ℕ, ◌<◌, ◌≤◌, ◌⊎◌, List, ◌++◌, Contains, Result, IfOk, map}
use Rattle.std.specs.declared.alloc.AllocError.{AllocError}
use Rattle.cursor_word.specs.Shape.{Grid}
use Rattle.cursor_word.specs.Cursor.{cursor_of}
use Rattle.rail.specs.declared.entry.Placed.{Placed}
use Rattle.step_log.specs.declared.log.Step.{Step}
use Rattle.drop_rail.specs.Looking.{Looker}
use Rattle.flight_view.specs.declared.gaps.Gap.{Gap}
use Rattle.flight_view.specs.declared.walking.View.{View}
use Rattle.flight_view.specs.Walks.{HasEnded, IsWalk, Walk, first_block, walk_gaps, walk_items, walk_loads}

-- Looks change nothing that puts and takes know of their seat: it did exactly these loads, and
-- looked at exactly these items besides.
pub record HasSeen (old new : Looker) (loads : List Step) (items : List Placed)
    : Type 0 where
  pub of : new.of ≡ old.of
  pub number : new.number ≡ old.number
  pub view : new.view ≡ old.view
  pub looked : new.memory.looked ≡ old.memory.looked ++ items
  pub log : new.log ≡ old.log ++ loads

abbrev pub gap_blocks : List Gap → List ℕ
gap_blocks gaps = map (λ (gap : Gap). gap.block) gaps

-- an item is among these, or its block is among the gaps
abbrev pub IsShown : Grid → List Placed → List Gap → Placed → Type 0
IsShown shape items gaps item =
    Contains items item ⊎ Contains (gap_blocks gaps) (cursor_of shape item.place).block

-- so is each that was made from the one block on, before the other
abbrev pub ShowsBetween : Grid → ℕ → ℕ → List Placed → List Placed → List Gap → Type 0
ShowsBetween shape first end made items gaps =
    (item : Placed) → Contains made item → first ≤ (cursor_of shape item.place).block
    → (cursor_of shape item.place).block < end → IsShown shape items gaps item

abbrev pub ShowsFrom : Grid → ℕ → List Placed → List Placed → List Gap → Type 0
ShowsFrom shape first made items gaps =
    (item : Placed) → Contains made item → first ≤ (cursor_of shape item.place).block
    → IsShown shape items gaps item

-- why a block is a gap: the two cursors differ, or are of another block
abbrev pub IsCaused : Gap → Type 0
IsCaused gap = (gap.committed ≢ gap.allocated) ⊎ (gap.committed.block ≢ gap.block)

-- the view of a walk that came to its end, where the own seat has made these items
pub record IsViewOf (shape : Grid) (walk : Walk) (made : List Placed) (view : View)
    : Type 0 where
  pub ended : HasEnded shape walk
  pub items : view.items.items ≡ walk_items shape walk
  pub gaps : view.gaps ≡ walk_gaps walk
  pub own : ShowsFrom shape (first_block shape walk.newest) made view.items.items view.gaps

-- The log gained exactly the loads of a walk; the answer is the view of this walk, or for want of
-- memory the walk stopped before one of its looks.
pub record HasWalked (shape : Grid) (old new : Looker) (answer : Result View AllocError)
    : Type 0 where
  pub walk : Walk
  pub is : IsWalk shape walk
  pub seen : HasSeen old new (walk_loads shape walk) (walk_items shape walk)
  pub view : IfOk answer (IsViewOf shape walk new.view.made)
