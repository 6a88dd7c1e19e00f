-- A put that is done alone: all other seats are at rest.
use Rattle.std.specs.Prelude.{◌≡◌, ◌≢◌, ℕ, ◌+◌, ◌*◌, ◌/◌, ◌%◌, ◌<◌, ◌⊎◌, List, Some, None, slice_get, slice_index}
use Rattle.cursor_word.specs.Shape.{Grid}
use Rattle.cursor_word.specs.Cursor.{offset_span, place_at}
use Rattle.machine.specs.declared.view.View.{View}
use Rattle.put_side.specs.declared.put_phase.PutPhase.TheVariants.{HeadP, SeeA, AddA, Write, Commit, OpenM, OpenA, RaiseP}
use Rattle.put_side.specs.Cursors.{allocated_word}
use Rattle.put_side.specs.Stages.{PutStage, Away, At, Fills}

abbrev pub OthersRest : {P : Type 0} → List (View P) → ℕ → Type 0
OthersRest {P} views id =
    (j : ℕ) (u : View P) → j ≢ id → slice_get views j ≡ Some u → u.phase ≡ None

-- what a put alone knows of the cursors in its second turn: the head's block was just opened
abbrev pub PutOpened : Grid → List ℕ → ℕ → Type 0
PutOpened shape words turn =
    (turn ≡ 1)
    ⊎ (allocated_word shape words (slice_index words 0) ≡ slice_index words 0 * offset_span)

-- What a put alone knows of the words besides what it remembers, where so many entries were
-- accepted when it began.
abbrev pub PutAlone : Grid → ℕ → List ℕ → PutStage → Type 0
PutAlone shape accepted words Away = Unit {0}
PutAlone shape accepted words (At (HeadP turn first)) = PutOpened shape words turn
PutAlone shape accepted words (At (SeeA turn first head)) =
    (head ≡ slice_index words 0) × PutOpened shape words turn
PutAlone shape accepted words (At (AddA turn first head)) =
    (head ≡ slice_index words 0) × (allocated_word shape words head % offset_span < shape.size)
PutAlone shape accepted words (At (Write at next)) = place_at shape at ≡ accepted
PutAlone shape accepted words (At (Commit at)) = place_at shape at ≡ accepted
PutAlone shape accepted words (Fills full) = full.block ≡ slice_index words 0
PutAlone shape accepted words (At (OpenM full)) = full.block ≡ slice_index words 0
PutAlone shape accepted words (At (OpenA full)) =
    (full.block ≡ slice_index words 0)
    × (allocated_word shape words (full.block + 1) / offset_span < full.block + 1)
PutAlone shape accepted words (At (RaiseP full)) =
    (full.block ≡ slice_index words 0)
    × (allocated_word shape words (full.block + 1) ≡ (full.block + 1) * offset_span)
