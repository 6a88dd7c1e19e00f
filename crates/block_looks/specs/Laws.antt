-- What holds of each step of a look.
use Rattle.std.specs.Prelude.{◌≡◌, ℕ, ◌≤◌, List, Some, slice_get, slice_index}
use Rattle.cursor_word.specs.Shape.{Grid, IsWithinLimits}
use Rattle.cursor_word.specs.Cursor.{place_span}
use Rattle.machine.specs.Invariant.{made_total}
use Rattle.drop_core.specs.Types.{View}
use Rattle.drop_core.specs.Sound.{IsSound}
use Rattle.block_looks.specs.declared.look.LookPhase.{LookPhase}
use Rattle.block_looks.specs.declared.looks.Looks.{Looks}
use Rattle.block_looks.specs.Table.{look_after, look_want}
use Rattle.block_looks.specs.Looks.{LooksHold, MayLook, found_before, looked_on}
use Rattle.block_looks.specs.Shown.{LookShows}

-- a step of a look which found this leaves what holds of what its seat remembers, and shows so much
pub record IsLookDone (shape : Grid) (words : List ℕ) (views : List View) (view : View)
    (looks : Looks) (phase : LookPhase) (found : ℕ) : Type 0 where
  pub holds : LooksHold shape words views (looked_on shape looks phase found)
  pub shows : LookShows shape view.made phase (found_before shape looks phase)
      (look_after shape phase found)

-- so is each step that may be done, while the machine's invariant holds
abbrev pub LooksAreKept : Type 0
LooksAreKept =
    (shape : Grid) (words : List ℕ) (views : List View) (seat : ℕ) (view : View) (looks : Looks)
    (phase : LookPhase)
    → IsWithinLimits shape → IsSound shape words views → made_total views ≤ place_span shape
    → slice_get views seat ≡ Some view → LooksHold shape words views looks
    → MayLook shape looks phase
    → IsLookDone shape words views view looks phase
    (slice_index words (look_want shape phase))
