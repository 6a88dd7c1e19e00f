-- What holds of takes at each moment of each schedule, and the most steps of a call.
use Rattle.std.specs.Prelude.{◌≡◌, ◌≢◌, ℕ, ◌+◌, List, [], Option, Some, length, slice_get}
use Rattle.cursor_word.specs.Shape.{Grid}
use Rattle.rail.specs.declared.answer.Answer.{Answer}
use Rattle.rail.specs.declared.answer.Answer.TheVariants as answer
use Rattle.rail.specs.Items.{places}
use Rattle.rail.specs.Outcome.{numbers_below}
use Rattle.machine.specs.Bounds as bounds
use Rattle.sole_core.specs.declared.phase.SolePhase.{SolePhase}
use Rattle.sole_core.specs.declared.phase.SolePhase.TheVariants.{Take}
use Rattle.sole_core.specs.Types.{View}
use Rattle.sole_core.specs.Table.{consumer}

-- the consumer has taken the first places, in order, each once
abbrev pub TakenInOrder : List View → Type 0
TakenInOrder views =
    (view : View) → slice_get views consumer ≡ Some view
    → places view.taken ≡ numbers_below (length view.taken)

-- no other seat has taken anything
abbrev pub NoneElseTakes : List View → Type 0
NoneElseTakes views =
    (seat : ℕ) (view : View) → seat ≢ consumer → slice_get views seat ≡ Some view → view.taken ≡ []

-- the most steps of a call: of a put, and of a take
abbrev pub steps_of_phase : Grid → SolePhase → ℕ
steps_of_phase shape (Take take) = shape.width + 3
steps_of_phase shape phase = shape.width + 11

abbrev pub steps_of_answer : Grid → Answer → ℕ
steps_of_answer shape (answer.Put put) = shape.width + 11
steps_of_answer shape (answer.Take take) = shape.width + 3

-- the most steps of the call that a seat is in, or of the last that it ended
abbrev pub most_steps : Grid → Option SolePhase → Option Answer → ℕ
most_steps shape phase last =
    bounds.most_steps (steps_of_phase shape) (steps_of_answer shape) phase last
