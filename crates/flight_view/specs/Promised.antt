-- What a view shows of the queue, in each schedule.
use Rattle.std.specs.Prelude.{◌≡◌, ℕ, ◌+◌, ◌-◌, ◌*◌, ◌/◌, ◌<◌, ◌≤◌, ◌⊎◌, Contains, List, Option, Some, None, slice_get}
use Rattle.std.specs.List.{All}
use Rattle.cursor_word.specs.Shape.{Grid}
use Rattle.cursor_word.specs.Cursor.{offset_span}
use Rattle.rail.specs.declared.entry.Placed.{Placed}
use Rattle.put_side.specs.Cursors.{committed_word}
use Rattle.put_side.specs.Entries.{IsMade}
use Rattle.put_side.specs.Gathered.{all_made}
use Rattle.put_side.specs.Laws.{PlacesAreDense}
use Rattle.drop_core.specs.Stage.{stage}
use Rattle.drop_core.specs.Moments.{IsReused}
use Rattle.drop_core.specs.Types.{MachineState}
use Rattle.flight_view.specs.declared.gaps.Gap.{Gap}
use Rattle.flight_view.specs.declared.walking.View.{View}
use Rattle.flight_view.specs.Views.{IsShown, ShowsFrom}
use Rattle.flight_view.specs.Schedules.{Moment, Viewer}

-- each item of the view is accepted, with the words that it has there
abbrev pub IsAccepted : MachineState → View → Type 0
IsAccepted queue view = All (IsMade queue.views) view.items.items

-- the last block that was opened
pub record IsLastOpened (shape : Grid) (words : List ℕ) (last : ℕ) : Type 0 where
  pub opened : committed_word shape words last / offset_span ≡ last
  pub latest : (block : ℕ) → committed_word shape words block / offset_span ≤ last

-- what was accepted then, in the last blocks to be opened, as many as there are physical ones
pub record ShowsNewest (shape : Grid) (then : MachineState) (view : View) : Type 0 where
  pub last : ℕ
  pub is_last : IsLastOpened shape then.words last
  pub shows : ShowsFrom shape (last + 1 - shape.blocks) (all_made then.views) view.items.items
      view.gaps
  -- so too what was accepted at the last places, as many as all blocks but one hold, of those that
  -- were allocated then
  pub allocated : PlacesAreDense stage shape then.views
  pub shows_last : (item : Placed) → Contains (all_made then.views) item
      → allocated.count ≤ item.place + (shape.blocks - 1) * shape.size
      → IsShown shape view.items.items view.gaps item

abbrev pub ShowsThen : Grid → Option MachineState → View → Type 0
ShowsThen shape None view = ⊥
ShowsThen shape (Some then) view = ShowsNewest shape then view

-- a cursor of a greater block shows that the gap's block was reused
abbrev pub IsReusedGap : Grid → MachineState → Gap → Type 0
IsReusedGap shape queue gap =
    (gap.block < gap.committed.block) ⊎ (gap.block < gap.allocated.block)
    → IsReused shape queue.words gap.block

-- it holds of the last ended view of each seat
abbrev pub OfEachView : Moment → (Viewer → View → Type 0) → Type 0
OfEachView moment Holds =
    (seat : ℕ) (viewer : Viewer) (view : View)
    → slice_get moment.viewers seat ≡ Some viewer → viewer.view ≡ Some view
    → Holds viewer view
