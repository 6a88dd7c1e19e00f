-- The steps of a take: which step each phase does, what follows it, and how many steps may follow.
use Rattle.std.specs.Prelude.{ℕ, ◌+◌, ◌-◌, ◌/◌, ◌%◌, ◌<◌, List, length, min, nat_lt, if◌then◌else◌, ◌==◌}
use Rattle.cursor_word.specs.Shape.{Grid, IsWithinLimits}
use Rattle.cursor_word.specs.Cursor.{cursor_of, offset_span, packed, place_at, place_span, unpacked}
use Rattle.cursor_word.specs.Layout.{index_of, allocated, committed, consumed, entry}
use Rattle.cursor_word.specs.declared.cursor.Cursor.{Cursor}
use Rattle.rail.specs.declared.answer.Take.TheVariants as take
use Rattle.rail.specs.declared.answer.Why.TheVariants as why
use Rattle.rail.specs.declared.entry.Placed.{Placed}
use Rattle.put_side.specs.PutSteps.{IsBlock, is_same}
use Rattle.sole_core.specs.declared.phase.SolePhase.{SolePhase}
use Rattle.sole_core.specs.declared.phase.SolePhase.TheVariants.{Take}
use Rattle.sole_core.specs.declared.take_phase.SoleTake.{SoleTake}
use Rattle.sole_core.specs.declared.take_phase.SoleTake.TheVariants.{Com, All, Word, Consume}
use Rattle.machine.specs.declared.op.Op.{Op}
use Rattle.machine.specs.declared.op.Op.TheVariants.{Load, Max}
use Rattle.sole_core.specs.Types.{After}
use Rattle.machine.specs.declared.op.After.TheVariants.{Next, Done}
use Rattle.rail.specs.declared.answer.Answer.TheVariants as answer

-- the consumer's private cursor, where it has taken so many entries: that of the next place, among
-- those that a queue has
abbrev pub next_cursor : Grid → ℕ → Cursor
next_cursor shape taken = cursor_of shape (min taken (place_span shape))

-- where a take begins with this private cursor, and where one of a consumer that has taken these
abbrev pub take_at : Cursor → SolePhase
take_at next = Take (Com next)

abbrev pub first_take : Grid → List Placed → SolePhase
first_take shape taken = take_at (next_cursor shape (length taken))

-- a cursor at which an entry may lie, in a queue within the limits
abbrev pub IsNext : Grid → Cursor → Type 0
IsNext shape r = IsWithinLimits shape → IsBlock shape r.block × (r.offset < shape.size)

-- the fields of a take's phase are in range
abbrev pub IsTakeInRange : Grid → SoleTake → Type 0
IsTakeInRange shape (Com r) = IsNext shape r
IsTakeInRange shape (All r m) = IsNext shape r
IsTakeInRange shape (Word r next) = IsNext shape r × (next < shape.width)
IsTakeInRange shape (Consume r) = IsNext shape r

-- the step of each phase
abbrev pub want_take : Grid → SoleTake → Op
want_take shape (Com r) = Load (index_of shape (committed (r.block % shape.blocks)))
want_take shape (All r m) = Load (index_of shape (allocated (r.block % shape.blocks)))
want_take shape (Word r next) =
    Load (index_of shape (entry (r.block % shape.blocks) r.offset next))
want_take shape (Consume r) =
    Max (index_of shape (consumed (r.block % shape.blocks))) (packed r + 1)

-- a whole entry stands at the consumer's cursor: its words are read
abbrev pub read_from : Cursor → After
read_from r = Next (Take (Word r 0))

-- no entry stands at the consumer's cursor
abbrev pub empty : Grid → Cursor → After
empty shape r = Done (answer.Take (take.Empty (place_at shape r)))

-- by the committed cursor of the block of r: nothing more is committed, or the block is not opened,
-- or all of it is committed
abbrev pub committed_or_not : Grid → Cursor → ℕ → After
committed_or_not shape r old =
    if old == packed r then empty shape r else
    (if nat_lt (old / offset_span) r.block then empty shape r else
    (if (old % offset_span) == shape.size then read_from r else Next
    (Take (All r (unpacked old)))))

-- by the allocated cursor: where it is the committed one, no put of the block is unfinished
abbrev pub all_or_not : Cursor → Cursor → ℕ → After
all_or_not r m old =
    if is_same (unpacked old) m then read_from r else Done
    (answer.Take (take.Busy (why.Unfinished r.block m (unpacked old))))

-- what follows a step of each phase that found old
abbrev pub after_take : Grid → SoleTake → ℕ → After
after_take shape (Com r) old = committed_or_not shape r old
after_take shape (All r m) old = all_or_not r m old
after_take shape (Word r next) old =
    if nat_lt (next + 1) shape.width then Next (Take (Word r (next + 1))) else Next
    (Take (Consume r))
after_take shape (Consume r) old = Done (answer.Take (take.Ok (place_at shape r)))

-- how many steps may follow, the one of the phase among them
abbrev pub rank_take : Grid → SoleTake → ℕ
rank_take shape (Com r) = shape.width + 3
rank_take shape (All r m) = shape.width + 2
rank_take shape (Word r next) = shape.width - next + 1
rank_take shape (Consume r) = 1
