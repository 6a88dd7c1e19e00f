-- The invariant: what holds between any two steps, of the words and the views of all seats.
use Rattle.std.specs.Prelude.{◌≡◌, ◌≢◌, ℕ, ◌+◌, ◌<◌, ◌≤◌, List, [], Option, Some, slice_get, take}
use Rattle.std.specs.List.{sum_by}
use Rattle.cursor_word.specs.Shape.{Grid}
use Rattle.cursor_word.specs.Cursor.{cursor_of, packed, place_span}
use Rattle.cursor_word.specs.declared.cursor.Cursor.{Cursor}
use Rattle.rail.specs.Items.{placed, places}
use Rattle.rail.specs.Outcome.{numbers_below}
use Rattle.rail.specs.declared.entry.Placed.{Placed}
use Rattle.put_side.specs.Cursors.{Front, committed_word, consumed_word, put_cursors}
use Rattle.put_side.specs.Counts.{makes}
use Rattle.put_side.specs.Entries.{IsMade}
use Rattle.put_side.specs.PutSide.{PutSide}
use Rattle.put_side.specs.PutSteps.{older_full}
use Rattle.put_side.specs.declared.put_phase.PutPhase.TheVariants.{OpenM}
use Rattle.put_side.specs.Manned as puts
use Rattle.sole_core.specs.declared.phase.SolePhase.{SolePhase}
use Rattle.sole_core.specs.declared.phase.SolePhase.TheVariants.{Put, Take}
use Rattle.sole_core.specs.declared.take_phase.SoleTake.{SoleTake}
use Rattle.sole_core.specs.declared.take_phase.SoleTake.TheVariants.{Com, All, Word, Consume}
use Rattle.sole_core.specs.Types.{View}
use Rattle.sole_core.specs.Stage.{stage_of}
use Rattle.sole_core.specs.Table.{consumer}
use Rattle.sole_core.specs.Cursors.{IsUnmoved, TakeWords}

-- what a seat may remember something of: how many places are taken, the consumed and the committed
-- cursors, and what all seats have made
pub record Scene : Type 0 where
  pub next : ℕ
  pub consumed : ℕ → ℕ
  pub committed : ℕ → ℕ
  pub views : List View

abbrev pub scene : Grid → ℕ → List ℕ → List View → Scene
scene shape next words views = record {
  next = next;
  consumed = consumed_word shape words;
  committed = committed_word shape words;
  views = views;
}

-- a committed cursor beyond r that was found
pub record IsAhead (committed : ℕ → ℕ) (size : ℕ) (r m : Cursor) : Type 0 where
  pub same : m.block ≡ r.block
  pub above : r.offset < m.offset
  pub within : m.offset < size
  pub known : packed m ≤ committed r.block

-- the first words of an item that was made at this place
pub record IsReadOf (views : List View) (p count : ℕ) (read : List ℕ) : Type 0 where
  pub words : List ℕ
  pub made : IsMade views (placed p words)
  pub front : read ≡ take count words

-- what the consumer remembers in a take besides its cursor, where these are the words that it has
-- read
abbrev pub TakeKnows : Grid → Scene → List ℕ → SoleTake → Type 0
TakeKnows shape s read (Com r) = read ≡ []
TakeKnows shape s read (All r m) = IsAhead s.committed shape.size r m × (read ≡ [])
TakeKnows shape s read (Word r next) =
    (next < shape.width) × IsReadOf s.views s.next next read
TakeKnows shape s read (Consume r) = IsMade s.views (placed s.next read)

-- the consumer's cursor in a take
abbrev pub cursor_in : SoleTake → Cursor
cursor_in (Com r) = r
cursor_in (All r m) = r
cursor_in (Word r next) = r
cursor_in (Consume r) = r

-- What a seat remembers besides what the side of puts says: a put that is about to open a block,
-- that the older block in its place is wholly consumed; a take, where the next place lies.
abbrev pub Knows : Grid → Scene → List ℕ → Option SolePhase → Type 0
Knows shape s read (Some (Put (OpenM full))) =
    older_full shape full.block ≤ s.consumed (full.block + 1)
Knows shape s read (Some (Take q)) =
    (cursor_in q ≡ cursor_of shape s.next) × TakeKnows shape s read q
Knows shape s read phase = Unit {0}

-- one seat: what it remembers, and what it took was made
pub record TakeFits (shape : Grid) (s : Scene) (view : View) : Type 0 where
  pub knows : Knows shape s view.read view.phase
  pub items : (i : ℕ) (item : Placed)
      → slice_get view.taken i ≡ Some item → IsMade s.views item

-- a seat that is not the consumer takes nothing
pub record OnlyPuts (view : View) : Type 0 where
  pub none : view.taken ≡ []
  pub away : (q : SoleTake) → view.phase ≡ Some (Take q) → ⊥

-- puts and takes, where they have come this far: the consumer has taken the places below the next
-- one, and no other seat takes
pub record IsSoundAt (shape : Grid) (front : Front) (next : ℕ) (words : List ℕ)
    (views : List View) : Type 0 where
  pub puts : PutSide stage_of shape front words views
  pub takes : TakeWords shape next (consumed_word shape words)
  pub unmoved : IsUnmoved shape words
  -- puts are at most one round ahead
  pub near : front.last < (cursor_of shape next).block + shape.blocks
  -- each place that is taken is made, and the queue has places for all
  pub room : next ≤ place_span shape
  pub made : (p : ℕ) → p < next → 1 ≤ sum_by (makes p) views
  pub each : (seat : ℕ) (view : View) → slice_get views seat ≡ Some view
      → TakeFits shape (scene shape next words views) view
  pub taken : (view : View) → slice_get views consumer ≡ Some view
      → places view.taken ≡ numbers_below next
  pub others : (seat : ℕ) (view : View) → seat ≢ consumer
      → slice_get views seat ≡ Some view → OnlyPuts view

-- the invariant: puts and takes have come so far, and who is at work where a cursor of puts lags
pub record IsSound (shape : Grid) (words : List ℕ) (views : List View) : Type 0 where
  pub front : Front
  pub next : ℕ
  pub sound : IsSoundAt shape front next words views
  pub manned : puts.IsManned stage_of shape front (put_cursors shape words) views
