-- What was accepted, taken and left in a queue that refuses when full, where all its seats rest.
use Rattle.std.specs.Prelude.{ℕ, List, length}
use Rattle.cursor_word.specs.Shape.{Grid}
use Rattle.rail.specs.declared.entry.Placed.{Placed}
use Rattle.rail.specs.Outcome.{IsAccepted, RetryOutcome}
use Rattle.machine.specs.declared.view.View.{View}
use Rattle.machine.specs.Entries.{left_in}
use Rattle.put_side.specs.Gathered.{all_made, all_taken}

-- all that was made, in order of place, is what was taken and then what is left in the words
pub record IsSettled {P : Type 0} (shape : Grid) (words : List ℕ) (views : List (View P))
    : Type 0 where
  pub accepted : List Placed
  pub is_accepted : IsAccepted (all_made views) accepted
  pub outcome : RetryOutcome accepted (all_taken views)
      (left_in shape words (length (all_taken views)) (length (all_made views)))
