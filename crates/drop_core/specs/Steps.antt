-- The table of this queue.
use Rattle.std.specs.Prelude.{Bool, true, false}
use Rattle.machine.specs.Table.{Reading, Table}
use Rattle.machine.specs.Table.{Unread, Word, Whole}
use Rattle.drop_core.specs.declared.phase.DropPhase.{DropPhase}
use Rattle.drop_core.specs.declared.phase.DropPhase.TheVariants.{Take}
use Rattle.drop_core.specs.declared.take_phase.DropTake.TheVariants.{Read, Verify}
use Rattle.drop_core.specs.PutSteps.{FindsFit, IsInRange, after, first_put, rank, want}
use Rattle.drop_core.specs.TakeSteps.{first_take}

-- whether a phase is of a put
abbrev pub is_put : DropPhase → Bool
is_put (Take q) = false
is_put p = true

-- what a take has of its entry
abbrev pub reading : DropPhase → Reading
reading (Take (Read at next)) = Word next
reading (Take (Verify at)) = Whole
reading p = Unread

-- each seat may begin each call
abbrev pub table : Table DropPhase
table =
    record {
      first_put = first_put;
      first_take = λ shape taken. first_take;
      want = want;
      after = after;
      is_put = is_put;
      reading = reading;
      rank = rank;
      IsInRange = IsInRange;
      FindsFit = FindsFit;
      MayBegin = λ shape seat begins. Unit {0};
    }
