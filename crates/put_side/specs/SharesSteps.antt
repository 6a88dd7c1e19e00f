-- A queue whose table has the shared steps of a put.
use Rattle.std.specs.Prelude.{◌≡◌, ℕ, true, List}
use Rattle.cursor_word.specs.Shape.{Grid}
use Rattle.cursor_word.specs.declared.cursor.Cursor.{Cursor}
use Rattle.rail.specs.declared.entry.Placed.{Placed}
use Rattle.machine.specs.Table.{Table, Unread}
use Rattle.machine.specs.Steps.{made_after}
use Rattle.put_side.specs.declared.put_phase.PutPhase.{PutPhase}
use Rattle.put_side.specs.PutSteps as puts
use Rattle.put_side.specs.Stages.{PutStage, Away, At, Fills}

-- the steps in which queues differ: those of takes, and those of a put that found a block filled
abbrev pub IsOwn : PutStage → Type 0
IsOwn (At phase) = ⊥
IsOwn stage = Unit {0}

-- in the phases that are a put's, the table is that of the shared steps, and no step of the queue's
-- own makes an entry
pub record SharesSteps {P : Type 0} (table : Table P) (stage : P → PutStage)
    (to_phase : PutPhase → P) (to_fill : Cursor → P) : Type 1 where
  pub first_put : table.first_put ≡ to_phase puts.first_put
  pub first_take : (shape : Grid) (taken : List Placed)
      → stage (table.first_take shape taken) ≡ Away
  pub want : (shape : Grid) (phase : PutPhase) (words : List ℕ)
      → table.want shape (to_phase phase) words ≡ puts.want shape phase words
  pub after : (shape : Grid) (phase : PutPhase) (found : ℕ)
      → table.after shape (to_phase phase) found ≡ puts.after to_phase to_fill shape phase found
  pub rank : (shape : Grid) (phase : PutPhase)
      → table.rank shape (to_phase phase) ≡ puts.rank shape phase
  pub rank_fills : (shape : Grid) (full : Cursor)
      → table.rank shape (to_fill full) ≡ puts.rank_fills shape
  pub is_in_range : (shape : Grid) (phase : PutPhase)
      → table.IsInRange shape (to_phase phase) ≡ puts.IsInRange shape phase
  pub fills_in_range : (shape : Grid) (full : Cursor)
      → table.IsInRange shape (to_fill full) ≡ puts.IsBlock shape full.block
  pub finds_fit : (phase : PutPhase) (found : ℕ)
      → table.FindsFit (to_phase phase) found ≡ puts.FindsFit phase found
  pub is_put : (phase : PutPhase) → table.is_put (to_phase phase) ≡ true
  pub fills_is_put : (full : Cursor) → table.is_put (to_fill full) ≡ true
  pub reads_none : (phase : PutPhase) → table.reading (to_phase phase) ≡ Unread
  pub stands : (phase : PutPhase) → stage (to_phase phase) ≡ At phase
  pub fills : (full : Cursor) → stage (to_fill full) ≡ Fills full
  pub only : (phase : P) (put : PutPhase) → stage phase ≡ At put → phase ≡ to_phase put
  pub makes_none : (shape : Grid) (phase : P) (found : ℕ) (made : List Placed) (entry : List ℕ)
      → IsOwn (stage phase) → made_after made entry (table.after shape phase found) ≡ made
