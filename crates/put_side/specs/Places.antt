-- What holds between any two steps of the cursors that puts move, and of the places that seats make
-- and hold. It speaks of no entry's words.
use Rattle.std.specs.Prelude.{◌≡◌, ℕ, ◌+◌, ◌<◌, ◌≤◌, ◌⊎◌, List, Some, length, slice_get}
use Rattle.cursor_word.specs.Shape.{Grid}
use Rattle.cursor_word.specs.Cursor.{offset_span, packed}
use Rattle.cursor_word.specs.declared.cursor.Cursor.{Cursor}
use Rattle.rail.specs.Items.{IsRising}
use Rattle.machine.specs.declared.view.View.{View}
use Rattle.put_side.specs.Cursors.{Front, PutCursors, PutWords}
use Rattle.put_side.specs.PutSteps.{next_block}
use Rattle.put_side.specs.Stages.{PutStage}
use Rattle.put_side.specs.declared.put_phase.PutPhase.TheVariants.{HeadP, SeeA, AddA, Write, Commit, OpenM, OpenA, RaiseP}
use Rattle.put_side.specs.Stages.{Away, At, Fills}
use Rattle.put_side.specs.Counts.{PutCounts, claimed}

-- a filled cursor that was found
pub record IsFilled (shape : Grid) (cursors : PutCursors) (full : Cursor) : Type 0 where
  pub from : shape.blocks ≤ full.block
  pub filled : shape.size ≤ full.offset
  pub fits : full.offset < offset_span
  pub known : packed full ≤ cursors.allocated full.block

-- a cursor in one of the newest blocks, as many as there are physical ones
pub record IsCurrent (shape : Grid) (last : ℕ) (at : Cursor) : Type 0 where
  pub from : shape.blocks ≤ at.block
  pub to : at.block ≤ last
  pub near : last < at.block + shape.blocks
  pub within : at.offset < shape.size

-- in the second turn of a put: the cursor that was found filled in the first, of a block below the
-- head
pub record IsSecondTurn (shape : Grid) (turn : ℕ) (first : Cursor) (head : ℕ) : Type 0 where
  pub is : turn ≡ 2
  pub from : shape.blocks ≤ first.block
  pub filled : shape.size ≤ first.offset
  pub below : first.block < head

abbrev pub IsTurn : Grid → ℕ → Cursor → ℕ → Type 0
IsTurn shape turn first head = (turn ≡ 1) ⊎ IsSecondTurn shape turn first head

-- a producer head that was found
pub record IsHead (shape : Grid) (cursors : PutCursors) (head : ℕ) : Type 0 where
  pub from : shape.blocks ≤ head
  pub to : head ≤ cursors.producer

-- what a seat in a put remembers, by its stage
abbrev pub PutKnows : Grid → ℕ → PutCursors → PutStage → Type 0
PutKnows shape last cursors Away = Unit {0}
PutKnows shape last cursors (At (HeadP turn first)) = IsTurn shape turn first cursors.producer
PutKnows shape last cursors (At (SeeA turn first head)) =
    IsTurn shape turn first head × IsHead shape cursors head
PutKnows shape last cursors (At (AddA turn first head)) =
    IsTurn shape turn first head × IsHead shape cursors head
PutKnows shape last cursors (At (Write at next)) = IsCurrent shape last at × (next < shape.width)
PutKnows shape last cursors (At (Commit at)) = IsCurrent shape last at
PutKnows shape last cursors (Fills full) = IsFilled shape cursors full
PutKnows shape last cursors (At (OpenM full)) = IsFilled shape cursors full
PutKnows shape last cursors (At (OpenA full)) =
    IsFilled shape cursors full × (next_block full ≤ cursors.committed (full.block + 1))
PutKnows shape last cursors (At (RaiseP full)) =
    IsFilled shape cursors full × (next_block full ≤ cursors.allocated (full.block + 1))

module _ {P : Type 0} (stage : View P → PutStage) (shape : Grid) where
  -- one seat: what it remembers, and the places that it has made or holds rise
  pub record PutFits (last : ℕ) (cursors : PutCursors) (view : View P) : Type 0 where
    pub knows : PutKnows shape last cursors (stage view)
    pub rising : IsRising (claimed stage shape view)

  -- all seats, where puts have come this far
  pub record PutPlaces (front : Front) (cursors : PutCursors) (views : List (View P)) : Type 0 where
    pub few : length views ≤ shape.seats
    pub words : PutWords shape front cursors
    pub counts : PutCounts stage shape front cursors views
    pub each : (seat : ℕ) (view : View P) → slice_get views seat ≡ Some view
        → PutFits front.last cursors view
