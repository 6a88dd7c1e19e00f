-- Which seat takes, and what it is answered.
use Rattle.std.specs.Prelude.{◌≡◌}
use Rattle.rail.specs.declared.answer.Take.{Take}
use Rattle.rail.specs.declared.answer.Take.TheVariants as take
use Rattle.rail.specs.declared.answer.Why.TheVariants as why
use Rattle.call_steps.specs.Queue.{IsSeatOf, Queue, Seated}
use Rattle.sole_core.specs.declared.phase.SolePhase.{SolePhase}
use Rattle.sole_core.specs.Table.{consumer}

-- the seat of this queue that takes
abbrev pub IsConsumerOf : Queue → Seated SolePhase → Type 0
IsConsumerOf queue seat = IsSeatOf queue seat × (seat.number ≡ consumer)

-- no cursor that a take looks at moves on by another's doing
abbrev pub IsUnmoved : Take → Type 0
IsUnmoved (take.Busy (why.Moved earlier later)) = ⊥
IsUnmoved result = Unit {0}
