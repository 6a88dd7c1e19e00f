-- What the steps of a call show of its answer.
use Rattle.std.specs.Prelude.{◌≡◌, ◌≢◌, ℕ, suc, ◌+◌, ◌-◌, ◌<◌, ◌⊎◌, List, length}
use Rattle.cursor_word.specs.Shape.{Grid}
use Rattle.cursor_word.specs.Cursor.{IsBefore, cursor, first_of, place_at, unpacked}
use Rattle.cursor_word.specs.declared.cursor.Cursor.{Cursor}
use Rattle.rail.specs.declared.answer.Why.{Why}
use Rattle.rail.specs.declared.answer.Why.TheVariants as why
use Rattle.machine.specs.declared.event.Event.{Event}
use Rattle.machine.specs.Moments.{moment}
use Rattle.put_side.specs.Causes as causes
use Rattle.drop_core.specs.declared.phase.DropPhase.{DropPhase}
use Rattle.drop_core.specs.declared.phase.DropPhase.TheVariants.{SeeM, Take}
use Rattle.drop_core.specs.declared.take_phase.DropTake.TheVariants.{HeadC, SeeRes, SeeCom, SeeAll, Reserve, Verify, NextCom}
use Rattle.drop_core.specs.Types.{CallStep}
use Rattle.drop_core.specs.Stage.{stage}
use Rattle.drop_core.specs.Steps.{table}
use Rattle.drop_core.specs.Moments.{EmptyAt, OverrunAt}

-- the cursor that a step shows which found old: a head as the cursor at the start of its block
abbrev pub shown : DropPhase → ℕ → Cursor
shown (Take (HeadC turn first)) old = cursor old 0
shown p old = unpacked old

-- a step of this kind found this cursor
abbrev pub FoundBy : (DropPhase → Type 0) → Cursor → List CallStep → Type 0
FoundBy Is c steps = causes.FoundBy shown Is c steps

-- a step of this turn that finds the allocated cursor of the head's block, the consumer head, or
-- the reserved cursor of that head's block
abbrev pub FindsAllocated : ℕ → DropPhase → Type 0
FindsAllocated turn p = causes.FindsAllocated turn (stage p)

abbrev pub FindsHead : ℕ → DropPhase → Type 0
FindsHead turn (Take (HeadC t first)) = t ≡ turn
FindsHead turn p = ⊥

abbrev pub FindsReserved : ℕ → DropPhase → Type 0
FindsReserved turn (Take (SeeRes t first head)) = t ≡ turn
FindsReserved turn p = ⊥

abbrev pub FindsAnyReserved : DropPhase → Type 0
FindsAnyReserved p = (turn : ℕ) × FindsReserved turn p

-- a step that finds the committed cursor of the block of a reserved cursor
abbrev pub FindsCommitted : Cursor → DropPhase → Type 0
FindsCommitted reserved (Take (SeeCom turn r)) = r ≡ reserved
FindsCommitted reserved p = ⊥

-- The last step of a take that answers Empty, where it found this cursor after the reserved one:
-- the committed cursor is the same, and this is its place; or the block is spent and the next one
-- is not opened, and this is that one's first place.
abbrev pub EmptyBy : Grid → ℕ → Cursor → Cursor → DropPhase → Type 0
EmptyBy shape place reserved found (Take (SeeCom turn r)) =
    (r ≡ reserved) × (found ≡ reserved) × (place ≡ place_at shape reserved)
EmptyBy shape place reserved found (Take (NextCom sp)) =
    (sp ≡ reserved) × (found.block < reserved.block + 1)
    × (place ≡ first_of shape (reserved.block + 1))
EmptyBy shape place reserved found p = ⊥

-- a call that answers Empty found a reserved cursor, and in its last step a committed one, and the
-- queue was empty then
pub record EmptyShown (shape : Grid) (events : List Event) (steps : List CallStep)
    (place : ℕ) : Type 0 where
  pub reserved : Cursor
  pub committed : Cursor
  pub first : FoundBy FindsAnyReserved reserved steps
  pub last : FoundBy (EmptyBy shape place reserved committed) committed steps
  pub in_order : first.number < last.number
  pub is_last : suc last.number ≡ length steps
  pub was_empty : EmptyAt shape (moment table shape events last.step.position) place

-- A call that answers Overrun reserved that place, for it found the reserved cursor at it; and in
-- its last step it found the allocated cursor of the place's physical block, and the block was
-- reused then.
pub record OverrunShown (shape : Grid) (events : List Event) (steps : List CallStep) (place : ℕ)
    (now : Cursor) : Type 0 where
  pub at : Cursor
  pub is_place : place ≡ place_at shape at
  pub reserves : FoundBy (λ p. p ≡ Take (Reserve at)) at steps
  pub last : FoundBy (λ p. p ≡ Take (Verify at)) now steps
  pub in_order : reserves.number < last.number
  pub is_last : suc last.number ≡ length steps
  pub was_overrun : OverrunAt shape (moment table shape events last.step.position) at now

-- The step p that finds the first cursor of a put's Busy answer, and the step q that finds the
-- second: the filled allocated cursor and then the committed one in the place of the next block, or
-- the allocated cursor in each turn.
abbrev pub PutPair : Grid → Why → DropPhase → DropPhase → Type 0
PutPair shape (why.Unfinished block before after) p (SeeM full) =
    FindsAllocated 1 p × (full ≡ before) × (block ≡ full.block + 1 - shape.blocks)
PutPair shape (why.Unfinished block before after) p q = ⊥
PutPair shape (why.Moved earlier later) p q = FindsAllocated 1 p × FindsAllocated 2 q

-- And those of a take's: the committed cursor and then the allocated one; the consumer head and
-- then the reserved cursor of its physical block; the reserved cursor in each turn; the reserved
-- cursor and then, in the second turn, the committed one; or the reserved cursor and then the
-- reserved cursor again, where this take would have reserved.
abbrev pub TakePair : Why → DropPhase → DropPhase → Type 0
TakePair (why.Unfinished block before after) p (Take (SeeAll r m)) =
    FindsCommitted r p × (block ≡ m.block)
TakePair (why.Unfinished block before after) p q = ⊥
TakePair (why.Moved earlier later) p (Take (SeeRes turn first head)) =
    FindsHead turn p ⊎ ((turn ≡ 2) × FindsReserved 1 p)
TakePair (why.Moved earlier later) p (Take (SeeCom turn r)) = (turn ≡ 2) × FindsReserved 2 p
TakePair (why.Moved earlier later) p (Take (SeeAll r m)) = FindsCommitted r p
TakePair (why.Moved earlier later) p (Take (Reserve r)) = FindsAnyReserved p
TakePair (why.Moved earlier later) p q = ⊥

-- the two cursors differ; where a word moved, the later one is of a greater block, or only greater
-- where another take reserved
abbrev pub Differ : Why → DropPhase → Type 0
Differ (why.Unfinished block before after) q = before ≢ after
Differ (why.Moved earlier later) (Take (Reserve r)) = IsBefore earlier later
Differ (why.Moved earlier later) q = earlier.block < later.block

-- a call that answers Busy found the second cursor in its last step, and the first in an earlier
-- one
abbrev pub BusyShown : (DropPhase → DropPhase → Type 0) → List CallStep → Why → Type 0
BusyShown Pair steps reason = causes.BusyShown shown Pair Differ steps reason
