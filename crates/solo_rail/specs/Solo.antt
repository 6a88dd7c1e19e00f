-- What clauses see of the one seat, and of the queue when it is stopped.
use Rattle.std.specs.Prelude.{◌≡◌, ℕ, ◌≤◌, List, [], ◌∷◌, None, length}
use Rattle.cursor_word.specs.Shape.{Grid, IsWithinLimits}
use Rattle.cursor_word.specs.Cursor.{most_puts}
use Rattle.machine.specs.declared.view.View.{View}
use Rattle.machine.specs.Invariant.{Fact}
use Rattle.call_steps.specs.Queue.{Seated}

-- the one seat has number 0
abbrev pub number_of : {P : Type 0} → Seated P → ℕ
number_of seat = 0

-- no step is done any more: these are the words, and the one seat is at rest with this view
pub record HasStopped {P : Type 0} (Holds : Fact P) (shape : Grid) (words : List ℕ)
    (view : View P) : Type 0 where
  pub limits : IsWithinLimits shape
  pub holds : Holds shape words (view ∷ [])
  pub rest : view.phase ≡ None
  pub few : length view.made ≤ most_puts shape
