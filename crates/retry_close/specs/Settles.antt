-- What the machine of a queue that refuses when full owes where all its seats are at rest.
use Rattle.std.specs.Prelude.{ℕ, List}
use Rattle.cursor_word.specs.Shape.{Grid, IsWithinLimits}
use Rattle.machine.specs.declared.view.View.{View}
use Rattle.machine.specs.Invariant.{Fact}
use Rattle.machine.specs.Steps.{AllRest}
use Rattle.put_side.specs.Settled.{IsSettled}

abbrev pub Settles : {P : Type 0} → Fact P → Type 0
Settles {P} Holds =
    (shape : Grid) (words : List ℕ) (views : List (View P))
    → IsWithinLimits shape → Holds shape words views → AllRest views
    → IsSettled shape words views
