-- The table of this queue.
use Rattle.std.specs.Prelude.{◌≡◌, ℕ, Bool, true, false}
use Rattle.cursor_word.specs.Shape.{Grid}
use Rattle.sole_core.specs.declared.phase.SolePhase.{SolePhase}
use Rattle.sole_core.specs.declared.phase.SolePhase.TheVariants.{Take}
use Rattle.sole_core.specs.declared.take_phase.SoleTake.TheVariants as take_phase
use Rattle.machine.specs.declared.event.Start.{Start}
use Rattle.machine.specs.declared.event.Start.TheVariants as start
use Rattle.machine.specs.Table.{Reading, Table, Unread, Word, Whole}
use Rattle.sole_core.specs.PutSteps.{FindsFit, IsInRange, after, first_put, rank, want}
use Rattle.sole_core.specs.TakeSteps.{first_take}

abbrev pub is_put : SolePhase → Bool
is_put (Take q) = false
is_put p = true

-- a take reads the words of its entry in order, and has all of them where it consumes the place
abbrev pub reading : SolePhase → Reading
reading (Take (take_phase.Word r next)) = Word next
reading (Take (take_phase.Consume r)) = Whole
reading p = Unread

-- the number of the seat that takes
abbrev pub consumer : ℕ
consumer = 0

-- each seat may put, and the consumer alone may take
abbrev pub MayBegin : Grid → ℕ → Start → Type 0
MayBegin shape seat start.Take = seat ≡ consumer
MayBegin shape seat begins = Unit {0}

abbrev pub table : Table SolePhase
table =
    record {
      first_put = first_put;
      first_take = first_take;
      want = want;
      after = after;
      is_put = is_put;
      reading = reading;
      rank = rank;
      IsInRange = IsInRange;
      FindsFit = FindsFit;
      MayBegin = MayBegin;
    }
