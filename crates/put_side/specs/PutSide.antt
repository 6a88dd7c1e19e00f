-- What holds on the side of puts between any two steps, whatever takes do.
use Rattle.std.specs.Prelude.{◌≡◌, ℕ, List, Some, length, slice_get}
use Rattle.cursor_word.specs.Shape.{Grid}
use Rattle.cursor_word.specs.Layout.{word_count}
use Rattle.machine.specs.declared.view.View.{View}
use Rattle.put_side.specs.Cursors.{Front, allocated_word, put_cursors}
use Rattle.put_side.specs.Stages.{PutStage}
use Rattle.put_side.specs.Places.{PutPlaces}
use Rattle.put_side.specs.Entries.{HasEntries}

-- where puts have come this far: cursors and places, and the entries of each seat
pub record PutSide {P : Type 0} (stage : View P → PutStage) (shape : Grid) (front : Front)
    (words : List ℕ) (views : List (View P)) : Type 0 where
  pub all : length words ≡ word_count shape
  pub places : PutPlaces stage shape front (put_cursors shape words) views
  pub entries : (seat : ℕ) (view : View P) → slice_get views seat ≡ Some view
      → HasEntries stage shape (allocated_word shape words) words view
