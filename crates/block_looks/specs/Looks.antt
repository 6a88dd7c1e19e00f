-- What a seat remembers of its looks, and what holds of it between any two steps of any seat.
use Rattle.std.specs.Prelude.{◌≡◌, ℕ, ◌<◌, ◌≤◌, ◌⊎◌, List, [], ◌∷◌, ◌++◌, Option, Some, None, length, slice_get, take}
use Rattle.std.specs.List.{sum_by}
use Rattle.cursor_word.specs.Shape.{Grid}
use Rattle.cursor_word.specs.Cursor.{cursor, packed, place_at}
use Rattle.cursor_word.specs.declared.cursor.Cursor.{Cursor}
use Rattle.rail.specs.declared.entry.Placed.{Placed}
use Rattle.rail.specs.Items.{placed}
use Rattle.put_side.specs.Cursors.{PutCursors, place, put_cursors}
use Rattle.put_side.specs.Counts.{makes}
use Rattle.put_side.specs.Entries.{IsMade, IsPresent}
use Rattle.drop_core.specs.Types.{View}
use Rattle.block_looks.specs.declared.look.LookPhase.{LookPhase}
use Rattle.block_looks.specs.declared.look.LookPhase.TheVariants.{Head, HeadA, Com, All, Word, Check}
use Rattle.block_looks.specs.declared.look.LookAfter.{LookAfter}
use Rattle.block_looks.specs.declared.look.LookAfter.TheVariants as after
use Rattle.block_looks.specs.declared.look.Look.TheVariants as look
use Rattle.block_looks.specs.declared.look.Seen.TheVariants as seen
use Rattle.block_looks.specs.declared.looks.Looks.{Looks}
use Rattle.block_looks.specs.Table.{look_after}

-- a seat that has looked at nothing
abbrev pub no_looks : Looks
no_looks =
    record { phase = None; looking = None; looked = []; look_at = None; look_trail = [] }

-- how many steps of a look come before this phase
abbrev pub steps_before : Grid → LookPhase → ℕ
steps_before shape Head = 0
steps_before shape (HeadA head) = 1
steps_before shape (Com block) = 0
steps_before shape (All block found) = 1
steps_before shape (Word at next) = next
steps_before shape (Check at) = shape.width

-- what a step leaves, by what follows it: a whole look at a block gives its block and count, a
-- whole look at an entry an item more
abbrev pub phase_after : LookAfter → Option LookPhase
phase_after (after.Next phase) = Some phase
phase_after answer = None

abbrev pub looking_after : Option Cursor → LookAfter → Option Cursor
looking_after old (after.Block (look.Whole count committed allocated)) =
    Some (cursor committed.block count)
looking_after old follows = old

abbrev pub looked_after : Grid → List Placed → LookPhase → List ℕ → LookAfter → List Placed
looked_after shape old (Check at) read (after.Entry seen.Whole) =
    old ++ placed (place_at shape at) read ∷ []
looked_after shape old phase read follows = old

abbrev pub look_at_after : Option Cursor → LookPhase → Option Cursor
look_at_after old (Word at next) = Some at
look_at_after old phase = old

-- what the steps of the look before this one found
abbrev pub found_before : Grid → Looks → LookPhase → List ℕ
found_before shape looks phase = take (steps_before shape phase) looks.look_trail

-- the step of this phase found this value
abbrev pub looked_on : Grid → Looks → LookPhase → ℕ → Looks
looked_on shape looks phase found =
    record {
      phase = phase_after (look_after shape phase found);
      looking = looking_after looks.looking (look_after shape phase found);
      looked =
          looked_after shape looks.looked phase (found_before shape looks phase)
          (look_after shape phase found);
      look_at = look_at_after looks.look_at phase;
      look_trail = found_before shape looks phase ++ found ∷ [];
    }

-- the cursor lies in the block of the last whole look at a block, with an offset below its count
abbrev pub IsLookedAt : Option Cursor → Cursor → Type 0
IsLookedAt None at = ⊥
IsLookedAt (Some counted) at = (at.block ≡ counted.block) × (at.offset < counted.offset)

-- a look may begin with this phase, or has come to it
abbrev pub MayLook : Grid → Looks → LookPhase → Type 0
MayLook shape looks Head = Unit {0}
MayLook shape looks (Com block) = shape.blocks ≤ block
MayLook shape looks (Word at next) =
    ((next ≡ 0) × IsLookedAt looks.looking at) ⊎ (looks.phase ≡ Some (Word at next))
MayLook shape looks phase = looks.phase ≡ Some phase

-- all entries of a block before this cursor are made
pub record IsCounted (shape : Grid) (views : List View) (counted : Cursor) : Type 0 where
  pub from : shape.blocks ≤ counted.block
  pub within : counted.offset ≤ shape.size
  pub made : (offset : ℕ) → offset < counted.offset
      → 1 ≤ sum_by (makes (place shape counted.block offset)) views

abbrev pub IsLooking : Grid → List View → Option Cursor → Type 0
IsLooking shape views None = Unit {0}
IsLooking shape views (Some counted) = IsCounted shape views counted

-- a committed cursor that was found for a block, of that block or a later one in its place
pub record IsOpened (shape : Grid) (cursors : PutCursors) (block : ℕ) (found : Cursor)
    : Type 0 where
  pub from : shape.blocks ≤ block
  pub later : block ≤ found.block
  pub within : found.offset ≤ shape.size
  pub known : packed found ≤ cursors.committed block

-- A made entry, and the words that were read of it so far: while its block has not made way, they
-- are those of the item that was made there.
pub record IsReading (shape : Grid) (cursors : PutCursors) (views : List View) (at : Cursor)
    (count : ℕ) (read : List ℕ) : Type 0 where
  pub from : shape.blocks ≤ at.block
  pub within : at.offset < shape.size
  pub words : List ℕ
  pub made : IsMade views (placed (place_at shape at) words)
  pub long : length read ≡ count
  pub front : IsPresent cursors.allocated at.block → read ≡ take count words

-- what a seat in a look remembers, by its phase
abbrev pub LookKnows : Grid → PutCursors → List View → List ℕ → Option LookPhase → Type 0
LookKnows shape cursors views trail (Some (HeadA head)) =
    (shape.blocks ≤ head) × (head ≤ cursors.producer)
LookKnows shape cursors views trail (Some (All block found)) = IsOpened shape cursors block found
LookKnows shape cursors views trail (Some (Word at next)) =
    IsReading shape cursors views at next trail × (next < shape.width)
LookKnows shape cursors views trail (Some (Check at)) =
    IsReading shape cursors views at shape.width trail
LookKnows shape cursors views trail phase = Unit {0}

-- and what it remembers in all: each item that it has looked at was made
pub record LooksHold (shape : Grid) (words : List ℕ) (views : List View) (looks : Looks)
    : Type 0 where
  pub knows : LookKnows shape (put_cursors shape words) views looks.look_trail looks.phase
  pub looking : IsLooking shape views looks.looking
  pub looked : (number : ℕ) (item : Placed) → slice_get looks.looked number ≡ Some item
      → IsMade views item
