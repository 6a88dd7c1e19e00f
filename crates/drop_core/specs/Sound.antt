-- The invariant: what holds between any two steps, of the words and the views of all seats.
use Rattle.std.specs.Prelude.{◌≡◌, ℕ, ◌+◌, ◌*◌, ◌%◌, ◌<◌, ◌≤◌, ◌⊎◌, List, [], Option, Some, length, slice_get, take}
use Rattle.std.specs.List.{sum_by}
use Rattle.cursor_word.specs.Shape.{Grid}
use Rattle.cursor_word.specs.Cursor.{offset_span, packed, place_at}
use Rattle.cursor_word.specs.declared.cursor.Cursor.{Cursor}
use Rattle.rail.specs.declared.entry.Placed.{Placed}
use Rattle.rail.specs.Items.{IsRising, placed, places}
use Rattle.put_side.specs.Cursors.{Front, committed_word, place, put_cursors}
use Rattle.put_side.specs.Counts.{makes, times}
use Rattle.put_side.specs.Entries.{IsMade, IsPresent}
use Rattle.put_side.specs.PutSide.{PutSide}
use Rattle.put_side.specs.Manned.{IsManned}
use Rattle.put_side.specs.PutTable.{stage_of}
use Rattle.put_side.specs.declared.put_phase.PutPhase.TheVariants.{OpenM}
use Rattle.drop_core.specs.declared.phase.DropPhase.{DropPhase}
use Rattle.drop_core.specs.declared.phase.DropPhase.TheVariants.{Put, Take}
use Rattle.drop_core.specs.declared.take_phase.DropTake.{DropTake}
use Rattle.drop_core.specs.declared.take_phase.DropTake.TheVariants.{HeadC, SeeRes, SeeCom, SeeAll, Reserve, Read, Verify, NextCom, Jump, OpenR, RaiseC}
use Rattle.drop_core.specs.Types.{View}
use Rattle.put_side.specs.PutSteps.{IsTurn, older_full}
use Rattle.drop_core.specs.Stage.{stage}
use Rattle.drop_core.specs.Words.{Cursors, IsPassed, TakeWords, cursors}
use Rattle.drop_core.specs.Counts.{IsAttended, TakeCounts, fetched, reading_in}

-- none of these items has a place from this one on
abbrev pub AreBelow : List Placed → ℕ → Type 0
AreBelow items bound = (p : ℕ) → bound ≤ p → times p (places items) ≡ 0

-- in the second turn of a take: the cursor of the first turn, of a block below this
abbrev pub TakeTurn : Grid → ℕ → Cursor → ℕ → Type 0
TakeTurn shape turn first bound =
    (turn ≡ 1) ⊎ ((turn ≡ 2) × (shape.blocks ≤ first.block) × (first.block < bound))

-- a consumer head that was found, and all that the seat has taken lies in its block or before
pub record IsHead (shape : Grid) (cursors : Cursors) (taken : List Placed) (head : ℕ) : Type 0 where
  pub from : shape.blocks ≤ head
  pub to : head ≤ cursors.consumer
  pub opened : head * offset_span ≤ cursors.reserved head
  pub above : AreBelow taken (place shape (head + 1) 0)

-- a reserved cursor with room that was found, and all that the seat has taken lies below it
pub record IsFound (shape : Grid) (cursors : Cursors) (taken : List Placed)
    (r : Cursor) : Type 0 where
  pub from : shape.blocks ≤ r.block
  pub to : r.block ≤ cursors.consumer
  pub within : r.offset < shape.size
  pub known : packed r ≤ cursors.reserved r.block
  pub above : AreBelow taken (place_at shape r)

-- a committed cursor above it that was found
pub record IsAhead (shape : Grid) (cursors : Cursors) (r m : Cursor) : Type 0 where
  pub same : m.block ≡ r.block
  pub above : r.offset < m.offset
  pub within : m.offset < shape.size
  pub known : packed m ≤ cursors.puts.committed r.block

-- a spent cursor that was found
pub record IsSpent (shape : Grid) (cursors : Cursors) (spent : Cursor) : Type 0 where
  pub from : shape.blocks ≤ spent.block
  pub full : spent.offset ≡ shape.size
  pub known : packed spent ≤ cursors.reserved spent.block

-- a block to go on in: all blocks before it are passed, and it was opened
pub record IsNextLive (shape : Grid) (last : ℕ) (cursors : Cursors) (from to : ℕ) : Type 0 where
  pub later : from < to
  pub first : shape.blocks ≤ from
  pub passed : (block : ℕ) → block < to → IsPassed shape last cursors block
  pub opened : to ≤ last

-- A place that was reserved, and the words that were read of it so far: while its block has not
-- made way, they are those of the item that was made there.
pub record IsReading (shape : Grid) (cursors : Cursors) (views : List View) (at : Cursor)
    (count : ℕ) (read : List ℕ) : Type 0 where
  pub from : shape.blocks ≤ at.block
  pub to : at.block ≤ cursors.consumer
  pub within : at.offset < shape.size
  pub words : List ℕ
  pub made : IsMade views (placed (place_at shape at) words)
  pub long : length read ≡ count
  pub front : IsPresent cursors.puts.allocated at.block → read ≡ take count words

-- what a seat in a take remembers, by its phase
abbrev pub TakeKnows : Grid → ℕ → Cursors → List View → List Placed → List ℕ → DropTake → Type 0
TakeKnows shape last cursors views taken read (HeadC turn first) =
    TakeTurn shape turn first cursors.consumer
TakeKnows shape last cursors views taken read (SeeRes turn first head) =
    TakeTurn shape turn first head × IsHead shape cursors taken head
TakeKnows shape last cursors views taken read (SeeCom turn r) =
    IsTurn turn × IsFound shape cursors taken r
TakeKnows shape last cursors views taken read (SeeAll r m) =
    IsFound shape cursors taken r × IsAhead shape cursors r m
TakeKnows shape last cursors views taken read (Reserve r) =
    IsFound shape cursors taken r × (1 ≤ sum_by (makes (place_at shape r)) views)
TakeKnows shape last cursors views taken read (Read at next) =
    IsReading shape cursors views at next read × (next < shape.width)
TakeKnows shape last cursors views taken read (Verify at) =
    IsReading shape cursors views at shape.width read
TakeKnows shape last cursors views taken read (NextCom spent) = IsSpent shape cursors spent
TakeKnows shape last cursors views taken read (Jump from) =
    IsNextLive shape last cursors from.block (from.block + 1)
TakeKnows shape last cursors views taken read (OpenR from to) =
    IsNextLive shape last cursors from.block to
TakeKnows shape last cursors views taken read (RaiseC from to) =
    (shape.blocks ≤ from.block) × (from.block < to) × (to * offset_span ≤ cursors.reserved to)

-- what a seat remembers beyond what the side of puts does: before the next block is opened, that
-- the block which it takes the place of was found wholly committed
abbrev pub DropKnows : Grid → ℕ → Cursors → List View → List Placed → List ℕ
    → Option DropPhase → Type 0
DropKnows shape last cursors views taken read (Some (Put (OpenM full))) =
    older_full shape full.block ≤ cursors.puts.committed (full.block + 1)
DropKnows shape last cursors views taken read (Some (Take take)) =
    TakeKnows shape last cursors views taken read take
DropKnows shape last cursors views taken read phase = Unit {0}

-- a seat on the side of takes
pub record TakeFits (shape : Grid) (last : ℕ) (cursors : Cursors) (views : List View)
    (view : View) : Type 0 where
  pub knows : DropKnows shape last cursors views view.taken view.read view.phase
  pub rising : IsRising (fetched shape view)
  pub items : (i : ℕ) (item : Placed) → slice_get view.taken i ≡ Some item → IsMade views item
  pub to_head : AreBelow view.taken (place shape (cursors.consumer + 1) 0)
  -- a take that has reserved no place yet has read nothing
  pub unread : (take : DropTake) → view.phase ≡ Some (Take take) → reading_in shape take ≡ []
      → view.read ≡ []

-- the invariant, where puts have come this far
pub record IsSoundAt (shape : Grid) (front : Front) (words : List ℕ)
    (views : List View) : Type 0 where
  pub puts : PutSide (stage_of stage) shape front words views
  -- the block numbers before the first hold no entries, and count as wholly committed
  pub before : (block : ℕ) → block < shape.blocks → front.last < block + shape.blocks
      → shape.size ≤ committed_word shape words block % offset_span
  -- who is at work where the last opened block, or the producer head, isn't ready
  pub manned : IsManned (stage_of stage) shape front (put_cursors shape words) views
  pub takes : TakeWords shape front.last (cursors shape words) views
  pub counts : TakeCounts shape front.last (cursors shape words) views
  -- and where the consumer head lags
  pub attended : IsAttended (cursors shape words) views
  pub each : (seat : ℕ) (view : View) → slice_get views seat ≡ Some view
      → TakeFits shape front.last (cursors shape words) views view

pub record IsSound (shape : Grid) (words : List ℕ) (views : List View) : Type 0 where
  pub front : Front
  pub at : IsSoundAt shape front words views
