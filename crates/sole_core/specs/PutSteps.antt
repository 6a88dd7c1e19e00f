-- The steps of a call: the shared ones of a put, those of a put that found a block filled, and in
-- Take those of a take.
use Rattle.std.specs.Prelude.{ℕ, ◌+◌, ◌%◌, List, nat_le, if◌then◌else◌}
use Rattle.cursor_word.specs.Shape.{Grid}
use Rattle.cursor_word.specs.Cursor.{unpacked}
use Rattle.cursor_word.specs.Layout.{index_of, consumed}
use Rattle.cursor_word.specs.declared.cursor.Cursor.{Cursor}
use Rattle.rail.specs.declared.answer.Put.TheVariants as put
use Rattle.put_side.specs.declared.put_phase.PutPhase.TheVariants.{OpenM}
use Rattle.put_side.specs.PutSteps as puts
use Rattle.put_side.specs.PutSteps.{older_full}
use Rattle.sole_core.specs.declared.phase.SolePhase.{SolePhase}
use Rattle.sole_core.specs.declared.phase.SolePhase.TheVariants.{Put, SeeX, Take}
use Rattle.sole_core.specs.TakeSteps.{IsTakeInRange, after_take, rank_take, want_take}
use Rattle.machine.specs.declared.op.Op.{Op}
use Rattle.machine.specs.declared.op.Op.TheVariants.{Load}
use Rattle.sole_core.specs.Types.{After}
use Rattle.machine.specs.declared.op.After.TheVariants.{Next, Done}
use Rattle.rail.specs.declared.answer.Answer.TheVariants as answer

-- where a put begins
abbrev pub first_put : SolePhase
first_put = Put puts.first_put

-- the fields of a phase are in range
abbrev pub IsInRange : Grid → SolePhase → Type 0
IsInRange shape (Put phase) = puts.IsInRange shape phase
IsInRange shape (SeeX full) = puts.IsBlock shape full.block
IsInRange shape (Take q) = IsTakeInRange shape q

-- a head that is found is no greater than heads become
abbrev pub FindsFit : SolePhase → ℕ → Type 0
FindsFit (Put phase) old = puts.FindsFit phase old
FindsFit p old = Unit {0}

-- the step of each phase, where these are the words of the entry in hand
abbrev pub want : Grid → SolePhase → List ℕ → Op
want shape (Put phase) words = puts.want shape phase words
want shape (SeeX full) words = Load (index_of shape (consumed ((full.block + 1) % shape.blocks)))
want shape (Take q) words = want_take shape q

-- by the consumed cursor of the block after a filled one: it is opened where the older block is
-- wholly consumed, and else the queue is full
abbrev pub consumed_or_full : Grid → Cursor → ℕ → After
consumed_or_full shape full old =
    if nat_le (older_full shape full.block) old then Next (Put (OpenM full)) else Done
    (answer.Put (put.Full full.block (unpacked old)))

-- what follows a step of each phase that found old
abbrev pub after : Grid → SolePhase → ℕ → After
after shape (Put phase) old = puts.after Put SeeX shape phase old
after shape (SeeX full) old = consumed_or_full shape full old
after shape (Take q) old = after_take shape q old

-- how many steps may follow, the one of the phase among them
abbrev pub rank : Grid → SolePhase → ℕ
rank shape (Put phase) = puts.rank shape phase
rank shape (SeeX full) = puts.rank_fills shape
rank shape (Take q) = rank_take shape q
