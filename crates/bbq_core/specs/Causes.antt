-- What the steps of a call show of its answer.
use Rattle.std.specs.Prelude.{◌≡◌, ◌≢◌, ℕ, suc, ◌+◌, ◌-◌, ◌<◌, List, length}
use Rattle.cursor_word.specs.Shape.{Grid}
use Rattle.cursor_word.specs.Cursor.{IsBefore, first_of, place_at, unpacked}
use Rattle.cursor_word.specs.declared.cursor.Cursor.{Cursor}
use Rattle.rail.specs.declared.answer.Why.{Why}
use Rattle.rail.specs.declared.answer.Why.TheVariants as why
use Rattle.bbq_core.specs.declared.phase.Phase.{Phase}
use Rattle.bbq_core.specs.declared.phase.Phase.TheVariants.{SeeX, SeeR, Take}
use Rattle.bbq_core.specs.declared.take_phase.TakePhase.TheVariants.{SeeRes, SeeCom, SeeAll, Reserve, NextCom}
use Rattle.machine.specs.declared.event.Event.{Event}
use Rattle.bbq_core.specs.Moments.{EmptyAt, FullAt}
use Rattle.machine.specs.Moments.{moment}
use Rattle.put_side.specs.Causes as causes
use Rattle.bbq_core.specs.Stage.{stage}
use Rattle.bbq_core.specs.Table.{table}
use Rattle.bbq_core.specs.Types.{CallStep}

-- each step shows the cursor of the word that it found
abbrev pub shown : Phase → ℕ → Cursor
shown phase word = unpacked word

-- a step of this kind found this cursor
abbrev pub FoundBy : (Phase → Type 0) → Cursor → List CallStep → Type 0
FoundBy Is cursor steps = causes.FoundBy shown Is cursor steps

-- a step of this turn that finds the allocated cursor of the head's block, and one that finds its
-- reserved cursor
abbrev pub FindsAllocated : ℕ → Phase → Type 0
FindsAllocated turn p = causes.FindsAllocated turn (stage p)

abbrev pub FindsReserved : ℕ → Phase → Type 0
FindsReserved turn (Take (SeeRes t first head)) = t ≡ turn
FindsReserved turn p = ⊥

-- a call that answers Full found the allocated cursor of the head; in its last step but one it
-- loaded the consumed cursor in the place of
-- the next block, and the queue was full then; and in its last step it found the reserved cursor
-- there to be the same
pub record FullShown (shape : Grid) (events : List Event) (steps : List CallStep) (head : ℕ)
    (consumed : Cursor) : Type 0 where
  pub full : Cursor
  pub block : full.block ≡ head
  pub filled : FoundBy (FindsAllocated 1) full steps
  pub load : FoundBy (λ p. p ≡ SeeX full) consumed steps
  pub last : FoundBy (λ p. p ≡ SeeR full consumed) consumed steps
  pub in_order : filled.number < load.number
  pub last_but_one : suc load.number ≡ last.number
  pub is_last : suc last.number ≡ length steps
  pub was_full : FullAt shape (moment table shape events load.step.position) head consumed

-- the last step p of a take that answers Empty, where it found this cursor after the reserved
-- cursor: the committed cursor is the same,
-- and this is its place; or the block is spent and the next one is not opened, and this is that
-- one's first place
abbrev pub EmptyBy : Grid → ℕ → Cursor → Cursor → Phase → Type 0
EmptyBy shape place reserved found (Take (SeeCom r)) =
    (r ≡ reserved) × (found ≡ reserved) × (place ≡ place_at shape reserved)
EmptyBy shape place reserved found (Take (NextCom sp)) =
    (sp ≡ reserved) × (found.block < reserved.block + 1)
    × (place ≡ first_of shape (reserved.block + 1))
EmptyBy shape place reserved found p = ⊥

-- a call that answers Empty found a reserved cursor, and in its last step a committed one, and the
-- queue was empty then
pub record EmptyShown (shape : Grid) (events : List Event) (steps : List CallStep)
    (place : ℕ) : Type 0 where
  pub reserved : Cursor
  pub committed : Cursor
  pub first : FoundBy (λ p. (turn : ℕ) × FindsReserved turn p) reserved steps
  pub last : FoundBy (EmptyBy shape place reserved committed) committed steps
  pub in_order : first.number < last.number
  pub is_last : suc last.number ≡ length steps
  pub was_empty : EmptyAt shape (moment table shape events last.step.position) place

-- the step p that finds the first cursor of a put's Busy answer, and the step q that finds the
-- second:
-- the consumed cursor in the place of the next block and then the reserved one there, or the
-- allocated cursor in each turn
abbrev pub PutPair : Grid → Why → Phase → Phase → Type 0
PutPair shape (why.Unfinished block before after) p (SeeR full x) =
    (p ≡ SeeX full) × (block ≡ full.block + 1 - shape.blocks)
PutPair shape (why.Unfinished block before after) p q = ⊥
PutPair shape (why.Moved earlier later) p q = FindsAllocated 1 p × FindsAllocated 2 q

-- and those of a take's: the committed cursor and then the allocated one; the reserved cursor in
-- each turn; the reserved cursor and then
-- the committed one; or the reserved cursor and then the reserved cursor again, where this take
-- would have reserved
abbrev pub TakePair : Why → Phase → Phase → Type 0
TakePair (why.Unfinished block before after) p (Take (SeeAll r m)) =
    (p ≡ Take (SeeCom r)) × (block ≡ m.block)
TakePair (why.Unfinished block before after) p q = ⊥
TakePair (why.Moved earlier later) p (Take (SeeRes turn first head)) =
    (turn ≡ 2) × FindsReserved 1 p
TakePair (why.Moved earlier later) p (Take (SeeCom r)) = (turn : ℕ) × FindsReserved turn p
TakePair (why.Moved earlier later) p (Take (SeeAll r m)) = p ≡ Take (SeeCom r)
TakePair (why.Moved earlier later) p (Take (Reserve r)) = (turn : ℕ) × FindsReserved turn p
TakePair (why.Moved earlier later) p q = ⊥

-- the two cursors differ; where a word moved, the later one is of a greater block, or only greater
-- where another take reserved
abbrev pub Differ : Why → Phase → Type 0
Differ (why.Unfinished block before after) q = before ≢ after
Differ (why.Moved earlier later) (Take (Reserve r)) = IsBefore earlier later
Differ (why.Moved earlier later) q = earlier.block < later.block

-- a call that answers Busy found the second cursor in its last step, and the first in an earlier
-- one
abbrev pub BusyShown : (Phase → Phase → Type 0) → List CallStep → Why → Type 0
BusyShown Pair steps reason = causes.BusyShown shown Pair Differ steps reason
