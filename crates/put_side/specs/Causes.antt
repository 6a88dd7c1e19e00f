-- What the steps of a call show of its answer, as far as all queues share it.
use Rattle.std.specs.Prelude.{◌≡◌, ℕ, suc, ◌<◌, List, Some, length, slice_get}
use Rattle.cursor_word.specs.declared.cursor.Cursor.{Cursor}
use Rattle.rail.specs.declared.answer.Why.{Why}
use Rattle.rail.specs.declared.answer.Why.TheVariants as why
use Rattle.machine.specs.Moments.{CallStep}
use Rattle.put_side.specs.declared.put_phase.PutPhase.TheVariants.{SeeA, AddA}
use Rattle.put_side.specs.Stages.{PutStage, At}

-- the two cursors of a Busy answer, in the order in which they were found
abbrev pub first_found : Why → Cursor
first_found (why.Unfinished block before after) = before
first_found (why.Moved earlier later) = earlier

abbrev pub second_found : Why → Cursor
second_found (why.Unfinished block before after) = after
second_found (why.Moved earlier later) = later

-- a step of this turn that finds the allocated cursor of the head's block
abbrev pub FindsAllocated : ℕ → PutStage → Type 0
FindsAllocated turn (At (SeeA t first head)) = t ≡ turn
FindsAllocated turn (At (AddA t first head)) = t ≡ turn
FindsAllocated turn stage = ⊥

-- shown tells which cursor a step shows that found a word
module _ {P : Type 0} (shown : P → ℕ → Cursor) where
  -- a step of this kind showed this cursor
  pub record FoundBy (Is : P → Type 0) (cursor : Cursor) (steps : List (CallStep P)) : Type 0 where
    pub number : ℕ
    pub step : CallStep P
    pub at : slice_get steps number ≡ Some step
    pub kind : Is step.phase
    pub found : shown step.phase step.found ≡ cursor

  -- a call that answers Busy found the second cursor in its last step, and the first in an earlier
  -- one: steps of such a pair, and cursors that differ so
  pub record BusyShown (Pair : P → P → Type 0) (Differ : Why → P → Type 0)
      (steps : List (CallStep P)) (reason : Why) : Type 0 where
    pub earlier : FoundBy (λ p. Unit {0}) (first_found reason) steps
    pub later : FoundBy (λ q. Pair earlier.step.phase q) (second_found reason) steps
    pub in_order : earlier.number < later.number
    pub is_last : suc later.number ≡ length steps
    pub differ : Differ reason later.step.phase
