-- What holds of takes at each moment of each schedule, and the most steps of a call.
use Rattle.std.specs.Prelude.{ℕ, ◌+◌, ◌≤◌, List, Option}
use Rattle.std.specs.List.{sum_by}
use Rattle.cursor_word.specs.Shape.{Grid}
use Rattle.rail.specs.declared.answer.Answer.{Answer}
use Rattle.rail.specs.declared.answer.Answer.TheVariants as answer
use Rattle.machine.specs.Bounds as bounds
use Rattle.drop_core.specs.declared.phase.DropPhase.{DropPhase}
use Rattle.drop_core.specs.declared.phase.DropPhase.TheVariants.{Take}
use Rattle.drop_core.specs.Types.{View}
use Rattle.drop_core.specs.Counts.{fetches}

-- no place is taken or being read twice
abbrev pub TakenOnce : Grid → List View → Type 0
TakenOnce shape views = (p : ℕ) → sum_by (fetches shape p) views ≤ 1

-- the most steps of a call: of a put, and of a take
abbrev pub steps_of_phase : Grid → DropPhase → ℕ
steps_of_phase shape (Take take) = shape.width + 12
steps_of_phase shape phase = shape.width + 11

abbrev pub steps_of_answer : Grid → Answer → ℕ
steps_of_answer shape (answer.Put put) = shape.width + 11
steps_of_answer shape (answer.Take take) = shape.width + 12

-- the most steps of the call that a seat is in, or of the last that it ended
abbrev pub most_steps : Grid → Option DropPhase → Option Answer → ℕ
most_steps shape phase last =
    bounds.most_steps (steps_of_phase shape) (steps_of_answer shape) phase last
