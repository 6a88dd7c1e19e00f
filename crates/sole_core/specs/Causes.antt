-- What the steps of a call show of its answer.
use Rattle.std.specs.Prelude.{◌≡◌, ◌≢◌, ℕ, suc, ◌<◌, ◌⊎◌, List, length}
use Rattle.cursor_word.specs.Shape.{Grid}
use Rattle.cursor_word.specs.Cursor.{packed, place_at, unpacked}
use Rattle.cursor_word.specs.declared.cursor.Cursor.{Cursor}
use Rattle.rail.specs.declared.answer.Why.{Why}
use Rattle.rail.specs.declared.answer.Why.TheVariants as why
use Rattle.sole_core.specs.declared.phase.SolePhase.{SolePhase}
use Rattle.sole_core.specs.declared.phase.SolePhase.TheVariants.{SeeX, Take}
use Rattle.sole_core.specs.declared.take_phase.SoleTake.TheVariants.{Com, All}
use Rattle.machine.specs.declared.event.Event.{Event}
use Rattle.machine.specs.Moments.{moment}
use Rattle.sole_core.specs.Moments.{EmptyAt, FullAt}
use Rattle.put_side.specs.Causes as causes
use Rattle.sole_core.specs.Stage.{stage}
use Rattle.sole_core.specs.Table.{table}
use Rattle.sole_core.specs.Types.{CallStep}

-- each step shows the cursor whose word it found
abbrev pub shown : SolePhase → ℕ → Cursor
shown phase word = unpacked word

-- a step of this kind found this cursor
abbrev pub FoundBy : (SolePhase → Type 0) → Cursor → List CallStep → Type 0
FoundBy Is c steps = causes.FoundBy shown Is c steps

-- a step of this turn that finds the allocated cursor of the head's block
abbrev pub FindsAllocated : ℕ → SolePhase → Type 0
FindsAllocated turn p = causes.FindsAllocated turn (stage p)

-- a call that answers Full found the allocated cursor of the head; and in its last step it loaded
-- the consumed cursor in the place of the next block, and the queue was full then
pub record FullShown (shape : Grid) (events : List Event) (steps : List CallStep) (head : ℕ)
    (consumed : Cursor) : Type 0 where
  pub full : Cursor
  pub block : full.block ≡ head
  pub filled : FoundBy (FindsAllocated 1) full steps
  pub last : FoundBy (λ p. p ≡ SeeX full) consumed steps
  pub in_order : filled.number < last.number
  pub is_last : suc last.number ≡ length steps
  pub was_full : FullAt shape (moment table shape events last.step.position) head consumed

-- a call that answers Empty did one step: it loaded the committed cursor of the block where the
-- next place lies, which is the cursor of that place or of an earlier block, and the queue was
-- empty then
pub record EmptyShown (shape : Grid) (events : List Event) (steps : List CallStep)
    (place : ℕ) : Type 0 where
  pub next : Cursor
  pub committed : Cursor
  pub is_place : place ≡ place_at shape next
  pub only : FoundBy (λ p. p ≡ Take (Com next)) committed steps
  pub none : (only.step.found ≡ packed next) ⊎ (committed.block < next.block)
  pub is_only : length steps ≡ 1
  pub was_empty : EmptyAt (moment table shape events only.step.position) place

-- the step p that finds the first cursor of a put's Busy answer, and the step q that finds the
-- second: the allocated cursor in each turn. No put finds a block unfinished
abbrev pub PutPair : Why → SolePhase → SolePhase → Type 0
PutPair (why.Unfinished block before after) p q = ⊥
PutPair (why.Moved earlier later) p q = FindsAllocated 1 p × FindsAllocated 2 q

-- and those of a take's: the committed cursor and then the allocated one of the block where the
-- next place lies. No take finds that a cursor moved
abbrev pub TakePair : Why → SolePhase → SolePhase → Type 0
TakePair (why.Unfinished block before after) p (Take (All r m)) =
    (p ≡ Take (Com r)) × (block ≡ r.block)
TakePair (why.Unfinished block before after) p q = ⊥
TakePair (why.Moved earlier later) p q = ⊥

-- the two cursors differ; where a word moved, the later one is of a greater block
abbrev pub Differ : Why → Type 0
Differ (why.Unfinished block before after) = before ≢ after
Differ (why.Moved earlier later) = earlier.block < later.block

-- a call that answers Busy found the second cursor in its last step, and the first in an earlier
-- one
abbrev pub BusyShown : (SolePhase → SolePhase → Type 0) → List CallStep → Why → Type 0
BusyShown Pair steps reason = causes.BusyShown shown Pair (λ why p. Differ why) steps reason
