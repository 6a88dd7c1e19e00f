-- The table of this queue.
use Rattle.std.specs.Prelude.{ℕ, Bool, true, false}
use Rattle.cursor_word.specs.Shape.{Grid}
use Rattle.bbq_core.specs.declared.phase.Phase.{Phase}
use Rattle.bbq_core.specs.declared.phase.Phase.TheVariants.{Take}
use Rattle.bbq_core.specs.declared.take_phase.TakePhase.TheVariants as take_phase
use Rattle.machine.specs.declared.event.Start.{Start}
use Rattle.machine.specs.Table.{Reading, Table, Unread, Word, Whole}
use Rattle.bbq_core.specs.PutSteps.{FindsFit, IsInRange, after, first_put, rank, want}
use Rattle.bbq_core.specs.TakeSteps.{first_take}

abbrev pub is_put : Phase → Bool
is_put (Take q) = false
is_put p = true

-- a take reads the words of its entry in order, and has all of them where it consumes the place
abbrev pub reading : Phase → Reading
reading (Take (take_phase.Read at next)) = Word next
reading (Take (take_phase.Consume at)) = Whole
reading p = Unread

-- each seat may begin each call
abbrev pub MayBegin : Grid → ℕ → Start → Type 0
MayBegin shape seat begins = Unit {0}

abbrev pub table : Table Phase
table =
    record {
      first_put = first_put;
      first_take = λ shape taken. first_take;
      want = want;
      after = after;
      is_put = is_put;
      reading = reading;
      rank = rank;
      IsInRange = IsInRange;
      FindsFit = FindsFit;
      MayBegin = MayBegin;
    }
