-- What looks at a queue do to its seat, and what they show.
use Rattle.std.specs.Prelude.{◌≡◌, ◌==◌, ◌&&◌, ℕ, Bool, true, false, List, nat_lt, slice_index}
use Rattle.cursor_word.specs.Shape.{Grid}
use Rattle.cursor_word.specs.declared.cursor.Cursor.{Cursor}
use Rattle.block_looks.specs.declared.look.Look.{Look}
use Rattle.block_looks.specs.declared.look.Look.TheVariants as look
use Rattle.block_looks.specs.declared.look.LookAfter.TheVariants as after
use Rattle.block_looks.specs.declared.look.LookPhase.TheVariants as phase
use Rattle.block_looks.specs.declared.look.Seen.{Seen}
use Rattle.block_looks.specs.declared.look.Seen.TheVariants as seen
use Rattle.block_looks.specs.Looks.{looked_after}
use Rattle.block_looks.specs.Shown.{BlockShown, IsNewest, LookShows}
use Rattle.drop_rail.specs.Looking.{HasLooked, Looker}
use Rattle.zemuschida_c.specs.Codes.{empty, nowhere, ok, overrun, shown, unfinished, unopened}
use Rattle.zemuschida_c.specs.Seats.{RingSeat}
use Rattle.zemuschida_c.specs.declared.answer.ZemCursor.{ZemCursor}
use Rattle.zemuschida_c.specs.declared.answer.ZemLook.{ZemLook}

-- a look at the head by a seat, before and after it, answered this cursor
pub record HasLookedAtHead (old new : RingSeat) (answer : ZemCursor) : Type 0 where
  pub queue : new.rail ≡ old.rail
  pub newest : Cursor
  pub look : HasLooked old.rail.shape old.seat new.seat phase.Head (after.Head newest)
  pub shows : IsNewest old.rail.shape new.seat.view.made
      (slice_index new.seat.memory.look_trail 0) newest
  pub answer_is : answer ≡ shown newest

-- what a look at a block is to C
abbrev pub look_code : Look → ℕ
look_code (look.Unopened committed) = unopened
look_code (look.Whole count committed allocated) = ok
look_code (look.Gap committed allocated) = unfinished

abbrev pub look_numbers : Look → ZemLook
look_numbers (look.Unopened committed) =
    record { count = 0; committed = shown committed; allocated = nowhere }
look_numbers (look.Whole count committed allocated) =
    record { count = count; committed = shown committed; allocated = shown allocated }
look_numbers (look.Gap committed allocated) =
    record { count = 0; committed = shown committed; allocated = shown allocated }

-- a look at a block by a seat, before and after it, showed this
pub record ShowsBlock (shape : Grid) (old new : Looker) (block : ℕ) (found : Look)
    : Type 0 where
  pub look : HasLooked shape old new (phase.Com block) (after.Block found)
  pub shows : BlockShown shape new.view.made block found

-- and gave C this code and these numbers
pub record HasLookedAtBlock (old new : RingSeat) (block code : ℕ) (numbers : ZemLook)
    : Type 0 where
  pub queue : new.rail ≡ old.rail
  pub found : Look
  pub block_shown : ShowsBlock old.rail.shape old.seat new.seat block found
  pub code_is : code ≡ look_code found
  pub numbers_are : numbers ≡ look_numbers found

-- whether a look found a block whole that has an entry at this cursor
abbrev pub counts : Look → Cursor → Bool
counts (look.Whole count committed allocated) at =
    (committed.block == at.block) && nat_lt at.offset count
counts found at = false

-- what a look at an entry is to C where its block has none there, and where it has
abbrev pub missing_code : Look → ℕ
missing_code (look.Whole count committed allocated) = empty
missing_code found = look_code found

abbrev pub seen_code : Seen → ℕ
seen_code seen.Whole = ok
seen_code (seen.Reused now) = overrun

abbrev pub seen_numbers : Look → Seen → ZemLook
seen_numbers found seen.Whole = look_numbers found
seen_numbers found (seen.Reused now) = record (look_numbers found) { allocated = shown now }

-- a look at an entry by a seat, before and after it, read these words
pub record ShowsEntry (shape : Grid) (old new : Looker) (at : Cursor) (out : List ℕ)
    (answer : Seen) : Type 0 where
  pub look : HasLooked shape old new (phase.Word at 0) (after.Entry answer)
  pub looked : new.memory.looked
      ≡ looked_after shape old.memory.looked (phase.Check at) out (after.Entry answer)
  pub shows : LookShows shape new.view.made (phase.Check at) out (after.Entry answer)

-- it read no entry where its block has none there
pub record MissesEntry (old new : Looker) (found : Look) (out_old out : List ℕ) (code : ℕ)
    (numbers : ZemLook) : Type 0 where
  pub seat : new ≡ old
  pub words : out ≡ out_old
  pub code_is : code ≡ missing_code found
  pub numbers_are : numbers ≡ look_numbers found

pub record ReadsEntry (shape : Grid) (old new : Looker) (at : Cursor) (found : Look)
    (out : List ℕ) (code : ℕ) (numbers : ZemLook) : Type 0 where
  pub answer : Seen
  pub entry_shown : ShowsEntry shape old new at out answer
  pub code_is : code ≡ seen_code answer
  pub numbers_are : numbers ≡ seen_numbers found answer

-- a look at a block and then at one of its entries, by a seat before and after both, gave C this
pub record HasLookedAtEntry (old new : RingSeat) (at : Cursor) (out_old out : List ℕ)
    (code : ℕ) (numbers : ZemLook) : Type 0 where
  pub queue : new.rail ≡ old.rail
  pub between : Looker
  pub found : Look
  pub block_shown : ShowsBlock old.rail.shape old.seat between at.block found
  pub misses : counts found at ≡ false
      → MissesEntry between new.seat found out_old out code numbers
  pub reads : counts found at ≡ true
      → ReadsEntry old.rail.shape between new.seat at found out code numbers
