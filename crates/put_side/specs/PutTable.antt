-- A machine whose puts take the shared steps.
use Rattle.std.specs.Prelude.{◌≡◌, ℕ, ◌+◌, ◌%◌, ◌≤◌, List, Option, Some, None}
use Rattle.cursor_word.specs.Shape.{Grid}
use Rattle.cursor_word.specs.Cursor.{offset_span, place_at}
use Rattle.cursor_word.specs.declared.cursor.Cursor.{Cursor}
use Rattle.rail.specs.declared.entry.Placed.{Placed}
use Rattle.rail.specs.declared.answer.Answer.TheVariants as answer
use Rattle.rail.specs.declared.answer.Put.TheVariants as put
use Rattle.machine.specs.declared.op.After.{After}
use Rattle.machine.specs.declared.op.After.TheVariants.{Next, Done}
use Rattle.machine.specs.declared.view.View.{View}
use Rattle.machine.specs.Table.{Table}
use Rattle.machine.specs.Steps.{made_after}
use Rattle.put_side.specs.Cursors.{PutCursors}
use Rattle.put_side.specs.declared.put_phase.PutPhase.TheVariants.{Commit}
use Rattle.put_side.specs.PutSteps.{first_put}
use Rattle.put_side.specs.Stages.{PutStage, put_after, put_want}
use Rattle.put_side.specs.Stages.{Away, At}

-- the steps that all queues share
abbrev pub IsShared : PutStage → Type 0
IsShared (At phase) = Unit {0}
IsShared stage = ⊥

abbrev pub IsNoCommit : PutStage → Type 0
IsNoCommit (At (Commit at)) = ⊥
IsNoCommit stage = Unit {0}

-- The block after the last one may be opened: the block that it takes the place of, where that
-- holds entries at all, is wholly committed. What a queue knows of that block's takes is its own
-- affair.
abbrev pub MayOpen : Grid → ℕ → PutCursors → Type 0
MayOpen shape last cursors = shape.blocks + shape.blocks ≤ last + 1
    → cursors.committed (last + 1) % offset_span ≡ shape.size

module _ {P : Type 0} (stage : P → PutStage) where
  abbrev pub stage_in : Option P → PutStage
  stage_in None = Away
  stage_in (Some phase) = stage phase

  abbrev pub stage_after : After P → PutStage
  stage_after (Next phase) = stage phase
  stage_after (Done answer) = Away

  -- where a seat's put stands
  abbrev pub stage_of : View P → PutStage
  stage_of view = stage_in view.phase

  -- puts take the shared steps, and a put that commits is the only call that makes an entry
  pub record IsPutTable (table : Table P) : Type 0 where
    pub first_put : stage table.first_put ≡ At first_put
    pub first_take : (shape : Grid) (taken : List Placed)
        → stage (table.first_take shape taken) ≡ Away
    pub want : (shape : Grid) (phase : P) (entry : List ℕ) → IsShared (stage phase)
        → table.want shape phase entry ≡ put_want shape (stage phase) entry
    pub after : (shape : Grid) (phase : P) (found : ℕ) → IsShared (stage phase)
        → stage_after (table.after shape phase found) ≡ put_after shape (stage phase) found
    pub commits : (shape : Grid) (phase : P) (at : Cursor) (found : ℕ)
        → stage phase ≡ At (Commit at)
        → table.after shape phase found ≡ Done (answer.Put (put.Ok (place_at shape at)))
    pub makes_none : (shape : Grid) (phase : P) (found : ℕ) (made : List Placed) (entry : List ℕ)
        → IsNoCommit (stage phase) → made_after made entry (table.after shape phase found) ≡ made
