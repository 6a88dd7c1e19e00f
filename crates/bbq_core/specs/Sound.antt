-- The invariant: what holds between any two steps, of the words and the views of all seats.
use Rattle.std.specs.Prelude.{◌≡◌, ℕ, ◌+◌, ◌*◌, ◌/◌, ◌<◌, ◌≤◌, ◌⊎◌, List, [], Option, Some, slice_get, take}
use Rattle.std.specs.List.{AllByRecursion, sum_by}
use Rattle.cursor_word.specs.Shape.{Grid}
use Rattle.cursor_word.specs.Cursor.{offset_span, packed, place_at}
use Rattle.cursor_word.specs.declared.cursor.Cursor.{Cursor}
use Rattle.rail.specs.declared.entry.Placed.{Placed}
use Rattle.rail.specs.Items.{IsRising, placed, places}
use Rattle.put_side.specs.Cursors.{Front, committed_word, consumed_word, place, put_cursors, reserved_word}
use Rattle.put_side.specs.Counts.{makes, one_at}
use Rattle.put_side.specs.Places.{IsCurrent}
use Rattle.put_side.specs.Entries.{IsMade}
use Rattle.put_side.specs.PutSide.{PutSide}
use Rattle.put_side.specs.Manned as puts
use Rattle.bbq_core.specs.declared.phase.Phase.{Phase}
use Rattle.bbq_core.specs.declared.phase.Phase.TheVariants.{Put, SeeR, Take}
use Rattle.put_side.specs.declared.put_phase.PutPhase.TheVariants.{OpenM}
use Rattle.put_side.specs.PutSteps.{older_full}
use Rattle.bbq_core.specs.declared.take_phase.TakePhase.{TakePhase}
use Rattle.bbq_core.specs.declared.take_phase.TakePhase.TheVariants.{HeadC, SeeRes, SeeCom, SeeAll, Reserve, Read, Consume, NextCom, OpenX, OpenR, RaiseC}
use Rattle.bbq_core.specs.Types.{View}
use Rattle.bbq_core.specs.Stage.{stage_of}
use Rattle.bbq_core.specs.Cursors.{TakeCursors, TakeWords, take_cursors}
use Rattle.bbq_core.specs.Counts.{TakeCounts, fetched, reading_in}

-- what a seat may remember something of: the last block opened to takes, the cursors that takes
-- move, the committed cursors, and what all seats have made
pub record Scene : Type 0 where
  pub passed : ℕ
  pub cursors : TakeCursors
  pub committed : ℕ → ℕ
  pub views : List View

abbrev pub scene : Grid → Front → List ℕ → List View → Scene
scene shape back words views = record {
  passed = back.last;
  cursors = take_cursors shape words;
  committed = committed_word shape words;
  views = views;
}

-- a reserved cursor that was found
pub record IsReserved (shape : Grid) (cursors : TakeCursors) (r : Cursor) : Type 0 where
  pub from : shape.blocks ≤ r.block
  pub within : r.offset < shape.size
  pub known : packed r ≤ cursors.reserved r.block

-- a committed cursor beyond it that was found
pub record IsAhead (shape : Grid) (committed : ℕ → ℕ) (r m : Cursor) : Type 0 where
  pub same : m.block ≡ r.block
  pub above : r.offset < m.offset
  pub within : m.offset < shape.size
  pub known : packed m ≤ committed r.block

-- a spent cursor that was found
pub record IsPassed (shape : Grid) (cursors : TakeCursors) (spent : Cursor) : Type 0 where
  pub from : shape.blocks ≤ spent.block
  pub full : spent.offset ≡ shape.size
  pub known : packed spent ≤ cursors.reserved spent.block

-- all places of a block up to an offset are made
abbrev pub MadeTo : Grid → List View → ℕ → ℕ → Type 0
MadeTo shape views block last = (offset : ℕ) → offset ≤ last
    → 1 ≤ sum_by (makes (place shape block offset)) views

-- the first words of an item that was made at this place
pub record IsReadOf (shape : Grid) (views : List View) (p count : ℕ) (read : List ℕ) : Type 0 where
  pub words : List ℕ
  pub made : IsMade views (placed p words)
  pub front : read ≡ take count words

-- in the second turn of a take: the cursor that was found spent in the first, of a block below the
-- head
pub record IsSecondTake (shape : Grid) (turn : ℕ) (first : Cursor) (head : ℕ) : Type 0 where
  pub is : turn ≡ 2
  pub from : shape.blocks ≤ first.block
  pub full : first.offset ≡ shape.size
  pub below : first.block < head

abbrev pub TakeTurn : Grid → ℕ → Cursor → ℕ → Type 0
TakeTurn shape turn first head = (turn ≡ 1) ⊎ IsSecondTake shape turn first head

-- the block after a spent one was opened, as this cursor of it tells
abbrev pub IsOpened : Cursor → (ℕ → ℕ) → Type 0
IsOpened spent cursor = (spent.block + 1) * offset_span ≤ cursor (spent.block + 1)

-- what a seat in a take remembers, where these are the words that it has read
abbrev pub TakeKnows : Grid → Scene → List ℕ → TakePhase → Type 0
TakeKnows shape s read (HeadC turn first) = TakeTurn shape turn first s.cursors.consumer
TakeKnows shape s read (SeeRes turn first head) =
    TakeTurn shape turn first head × (shape.blocks ≤ head) × (head ≤ s.cursors.consumer)
TakeKnows shape s read (SeeCom r) = IsReserved shape s.cursors r
TakeKnows shape s read (SeeAll r m) =
    IsReserved shape s.cursors r × IsAhead shape s.committed r m
TakeKnows shape s read (Reserve r) =
    IsReserved shape s.cursors r × MadeTo shape s.views r.block r.offset
TakeKnows shape s read (Read at next) =
    IsCurrent shape s.passed at × (next < shape.width)
    × IsReadOf shape s.views (place_at shape at) next read
TakeKnows shape s read (Consume at) =
    IsCurrent shape s.passed at × IsMade s.views (placed (place_at shape at) read)
TakeKnows shape s read (NextCom spent) = IsPassed shape s.cursors spent
TakeKnows shape s read (OpenX spent) =
    IsPassed shape s.cursors spent × IsOpened spent s.committed
TakeKnows shape s read (OpenR spent) =
    IsPassed shape s.cursors spent × IsOpened spent s.cursors.consumed
TakeKnows shape s read (RaiseC spent) =
    IsPassed shape s.cursors spent × IsOpened spent s.cursors.reserved

-- What a seat remembers besides what the side of puts says. A put that found a filled block: the
-- older block in the next one's place was found wholly consumed, or not, and then all that the seat
-- made lies up to the filled one.
abbrev pub Knows : Grid → Scene → List Placed → List ℕ → Option Phase → Type 0
Knows shape s made read (Some (SeeR full x)) =
    (packed x < older_full shape full.block)
    × AllByRecursion (λ q. q < place shape (full.block + 1) 0) (places made)
Knows shape s made read (Some (Put (OpenM full))) =
    older_full shape full.block ≤ s.cursors.consumed (full.block + 1)
Knows shape s made read (Some (Take q)) = TakeKnows shape s read q
Knows shape s made read phase = Unit {0}

-- one seat: what it remembers, the places that it has taken or reads rise, and what it took was
-- made
pub record TakeFits (shape : Grid) (s : Scene) (view : View) : Type 0 where
  pub knows : Knows shape s view.made view.read view.phase
  pub rising : IsRising (fetched shape view)
  pub items : (i : ℕ) (item : Placed)
      → slice_get view.taken i ≡ Some item → IsMade s.views item
  -- a take that has reserved no place yet has read nothing
  pub unread : (q : TakePhase) → view.phase ≡ Some (Take q)
      → reading_in shape q ≡ [] → view.read ≡ []

-- puts and takes, where they have come this far
pub record IsSoundAt (shape : Grid) (front back : Front) (words : List ℕ) (views : List View)
    : Type 0 where
  pub puts : PutSide stage_of shape front words views
  pub takes : TakeWords shape front.last back (take_cursors shape words)
  pub counts : TakeCounts shape back (take_cursors shape words) views
  pub each : (seat : ℕ) (view : View) → slice_get views seat ≡ Some view
      → TakeFits shape (scene shape back words views) view

-- 1 for a take that is about to open the reserved cursor of a block, else 0
abbrev pub opens_reserved : ℕ → Option Phase → ℕ
opens_reserved block (Some (Take (OpenR spent))) = one_at (spent.block + 1) block
opens_reserved block phase = 0

-- 1 for a take that is on its way to raise the consumer head to a block
abbrev pub raises_consumer : ℕ → Option Phase → ℕ
raises_consumer block (Some (Take (OpenR spent))) = one_at (spent.block + 1) block
raises_consumer block (Some (Take (RaiseC spent))) = one_at (spent.block + 1) block
raises_consumer block phase = 0

abbrev pub in_all : (Option Phase → ℕ) → List View → ℕ
in_all f views = sum_by (λ (view : View). f view.phase) views

-- who is at work where a cursor or a head lags behind the last block that was opened to puts or to
-- takes
pub record IsManned (shape : Grid) (front back : Front) (words : List ℕ) (views : List View)
    : Type 0 where
  pub puts : puts.IsManned stage_of shape front (put_cursors shape words) views
  pub reserved : (reserved_word shape words back.last / offset_span ≡ back.last)
      ⊎ (1 ≤ in_all (opens_reserved back.last) views)
  pub consumer : ((take_cursors shape words).consumer ≡ back.last)
      ⊎ (1 ≤ in_all (raises_consumer back.last) views)
  -- the blocks before the first hold no entry, and stand as consumed
  pub before : (block : ℕ) → block < shape.blocks
      → block * offset_span + shape.size ≤ consumed_word shape words block

-- the invariant: puts and takes have come so far
pub record IsSound (shape : Grid) (words : List ℕ) (views : List View) : Type 0 where
  pub front : Front
  pub back : Front
  pub sound : IsSoundAt shape front back words views
  pub manned : IsManned shape front back words views
