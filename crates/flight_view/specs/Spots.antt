-- Where the walk of a view stands between two of its loads.
use Rattle.std.specs.Prelude.{◌≡◌, ℕ, ◌+◌, ◌<◌, ◌≤◌, List, [], ◌∷◌, ◌++◌, Option, Some, None, flat_map, length, map}
use Rattle.std.specs.List.{All, range_with_len}
use Rattle.cursor_word.specs.Shape.{Grid}
use Rattle.cursor_word.specs.Cursor.{block_span, cursor}
use Rattle.cursor_word.specs.declared.cursor.Cursor.{Cursor}
use Rattle.rail.specs.declared.entry.Placed.{Placed}
use Rattle.rail.specs.Outcome.{numbers_below}
use Rattle.step_log.specs.declared.log.Step.{Step}
use Rattle.step_log.specs.Log.{loaded}
use Rattle.block_looks.specs.declared.look.LookPhase.{LookPhase}
use Rattle.block_looks.specs.declared.look.LookPhase.TheVariants.{Head, HeadA, Com, All as AllOf, Word, Check}
use Rattle.block_looks.specs.declared.look.LookAfter.TheVariants as after
use Rattle.block_looks.specs.declared.look.Look.{Look}
use Rattle.block_looks.specs.declared.look.Look.TheVariants as look
use Rattle.block_looks.specs.declared.look.Seen.TheVariants as seen
use Rattle.block_looks.specs.Shown.{LookLeads, look_loads}
use Rattle.block_looks.specs.Table.{look_after, look_want}
use Rattle.flight_view.specs.declared.gaps.Gap.{Gap}
use Rattle.flight_view.specs.declared.spot.Shown.{Shown}
use Rattle.flight_view.specs.declared.spot.Shown.TheVariants as shown
use Rattle.flight_view.specs.declared.spot.Spot.{Spot}
use Rattle.flight_view.specs.Walks.{EntryLook, HasEnded, IsBlockLook, IsPassed, IsWalk, Walk, end_block, entry_items, entry_loads, first_block, walk_gaps, walk_items, walk_loads}

-- what a load adds to a view
abbrev pub items_of : Shown → List Placed
items_of shown.Nothing = []
items_of (shown.Item item) = item ∷ []
items_of (shown.Gap gap) = []

abbrev pub gaps_of : Shown → List Gap
gaps_of shown.Nothing = []
gaps_of (shown.Item item) = []
gaps_of (shown.Gap gap) = gap ∷ []

-- a view so far: its loads, and the items and gaps that they showed
pub record SoFar : Type 0 where
  pub loads : List Step
  pub items : List Placed
  pub gaps : List Gap

abbrev pub so_far : List Step → List Placed → List Gap → SoFar
so_far loads items gaps = record { loads = loads; items = items; gaps = gaps }

-- these are the loads of this walk, and what it shows
pub record IsOf (shape : Grid) (walk : Walk) (view : SoFar) : Type 0 where
  pub loads : view.loads ≡ walk_loads shape walk
  pub items : view.items ≡ walk_items shape walk
  pub gaps : view.gaps ≡ walk_gaps walk

-- the walk has passed the blocks before this one, and ends before that one
pub record HavePassed (shape : Grid) (end block : ℕ) (view : SoFar) : Type 0 where
  pub walk : Walk
  pub of : IsOf shape walk view
  pub head : LookLeads shape (after.Next Head) walk.found (after.Head walk.newest)
  pub looks : All (IsBlockLook shape) walk.blocks
  pub passed : All IsPassed walk.blocks
  pub order : map (λ looks. looks.block) walk.blocks
      ≡ range_with_len (first_block shape walk.newest) (length walk.blocks)
  pub at : first_block shape walk.newest + length walk.blocks ≡ block
  pub end_is : end ≡ end_block shape walk.newest
  pub within : block ≤ end

-- its look at a block has found the committed cursor
pub record IsAtAllocated (shape : Grid) (end block : ℕ) (committed : Cursor) (view : SoFar)
    : Type 0 where
  pub before : List Step
  pub passed : HavePassed shape end block (so_far before view.items view.gaps)
  pub more : block < end
  pub found : ℕ
  pub loads : view.loads ≡ before ++ loaded (look_want shape (Com block)) found ∷ []
  pub follows : look_after shape (Com block) found ≡ after.Next (AllOf block committed)
  pub within : committed.offset ≤ shape.size
  pub fits : committed.block < block_span

-- it looks at an entry of a whole block, and has read these words of it
pub record IsAtEntry (shape : Grid) (spot : Spot) (at : Cursor) (read : List ℕ)
    (phase : LookPhase) (view : SoFar) : Type 0 where
  pub before : SoFar
  pub passed : HavePassed shape spot.end at.block before
  pub more : at.block < spot.end
  pub found : List ℕ
  pub allocated : Cursor
  pub look : LookLeads shape (after.Next (Com at.block)) found
      (after.Block (look.Whole spot.count spot.committed allocated))
  pub entries : List EntryLook
  pub entry_leads : All
      (λ entry. LookLeads shape (after.Next (Word entry.at 0)) entry.found
      (after.Entry entry.answer)) entries
  pub order : map (λ entry. entry.at) entries
      ≡ map (cursor at.block) (numbers_below (length entries))
  pub whole : All (λ entry. entry.answer ≡ seen.Whole) entries
  pub long : length entries ≡ at.offset
  pub within : at.offset < spot.count
  pub short : spot.count ≤ shape.size
  pub fits : at.block < block_span
  pub leads : LookLeads shape (after.Next (Word at 0)) read (after.Next phase)
  pub loads : view.loads
      ≡ before.loads
      ++ (look_loads shape (after.Next (Com at.block)) found
      ++ flat_map (entry_loads shape) entries)
      ++ look_loads shape (after.Next (Word at 0)) read
  pub items : view.items ≡ before.items ++ flat_map (entry_items shape) entries
  pub gaps : view.gaps ≡ before.gaps

abbrev pub IsInPhase : Grid → Spot → List ℕ → SoFar → LookPhase → Type 0
IsInPhase shape spot read view Head = view ≡ so_far [] [] []
IsInPhase shape spot read view (HeadA head) =
    view ≡ so_far (loaded (look_want shape Head) head ∷ []) [] []
IsInPhase shape spot read view (Com block) =
    HavePassed shape spot.end block view × (block < spot.end)
IsInPhase shape spot read view (AllOf block committed) =
    IsAtAllocated shape spot.end block committed view
IsInPhase shape spot read view (Word at next) =
    IsAtEntry shape spot at read (Word at next) view × (next < shape.width)
    × (length read ≡ next)
IsInPhase shape spot read view (Check at) =
    IsAtEntry shape spot at read (Check at) view × (length read ≡ shape.width)

abbrev pub IsAt : Grid → Spot → List ℕ → SoFar → Type 0
IsAt shape spot read view = IsInPhase shape spot read view spot.phase

-- the view of a walk that came to its end
pub record IsWhole (shape : Grid) (view : SoFar) : Type 0 where
  pub walk : Walk
  pub is : IsWalk shape walk
  pub ended : HasEnded shape walk
  pub of : IsOf shape walk view

-- after a load the walk stands there, or it has ended
abbrev pub Leaves : Grid → List ℕ → SoFar → Option Spot → Type 0
Leaves shape read view None = IsWhole shape view
Leaves shape read view (Some spot) = IsAt shape spot read view

-- the view so far with what a load adds
abbrev pub with_load : Grid → LookPhase → ℕ → Shown → SoFar → SoFar
with_load shape phase found shown view =
    so_far (view.loads ++ loaded (look_want shape phase) found ∷ [])
    (view.items ++ items_of shown) (view.gaps ++ gaps_of shown)

-- the words of an entry that were read so far
abbrev pub read_after : LookPhase → List ℕ → ℕ → List ℕ
read_after (Word at next) read found = read ++ found ∷ []
read_after phase read found = []

-- a committed cursor that was found counts no more than a block
abbrev pub IsCount : Grid → LookPhase → Cursor → Type 0
IsCount shape (Com block) found = block ≤ found.block → found.offset ≤ shape.size
IsCount shape phase found = Unit {0}

-- a look at a block that counts no more than a block, by a cursor that fits its word
abbrev pub IsFit : Grid → Look → Type 0
IsFit shape (look.Whole count committed allocated) =
    (count ≤ shape.size) × (committed.block < block_span)
IsFit shape answer = Unit {0}

-- the view with a look at a block, and what that shows
abbrev pub with_look : Grid → ℕ → List ℕ → Shown → SoFar → SoFar
with_look shape block found shown view =
    so_far (view.loads ++ look_loads shape (after.Next (Com block)) found)
    (view.items ++ items_of shown) (view.gaps ++ gaps_of shown)
