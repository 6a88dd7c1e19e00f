-- The calls of a schedule, and those that are done alone.
use Rattle.std.specs.Prelude.{ℕ, List}
use Rattle.cursor_word.specs.Shape.{Grid}
use Rattle.machine.specs.declared.event.Event.{Event}
use Rattle.machine.specs.declared.event.Start.{Start}
use Rattle.put_side.specs.AsOne as as_one
use Rattle.sole_core.specs.Table.{table}

-- the call of a seat from moment n to moment m is answered as one thread is, by what is made and
-- taken at moment n
abbrev pub AnsweredAsOne : Grid → List Event → ℕ → ℕ → ℕ → Start → Type 0
AnsweredAsOne shape events seat n m begun =
    as_one.AnsweredAsOne table shape events seat n m begun
