-- What stands of the one seat of a queue that drops its oldest entries, and what it is answered.
use Rattle.std.specs.Prelude.{ℕ, List, [], ◌∷◌, Option, Some, None, length}
use Rattle.cursor_word.specs.Shape.{Grid}
use Rattle.rail.specs.Items.{places}
use Rattle.rail.specs.Sequential.{beyond}
use Rattle.rail.specs.declared.entry.Placed.{Placed}
use Rattle.drop_core.specs.declared.phase.DropPhase.{DropPhase}
use Rattle.drop_core.specs.Types.{View}
use Rattle.drop_core.specs.Alone.{AnswersAlone, IsAlone, IsStill}
use Rattle.solo_rail.specs.Lone.{LoneFacts}

-- one more than the greatest place taken
abbrev pub next_place : List Placed → ℕ
next_place taken = beyond (places taken)

-- at rest, or alone in a call
abbrev pub Stands : Grid → List ℕ → View → Option DropPhase → Type 0
Stands shape words view None =
    IsStill shape (length view.made) (next_place view.taken) words (view ∷ [])
Stands shape words view (Some phase) =
    IsAlone shape (length view.made) (next_place view.taken) words (view ∷ []) 0 phase

abbrev pub lone : LoneFacts DropPhase
lone =
    record {
      Stands = λ shape words view. Stands shape words view view.phase;
      Answers = λ shape made taken answer.
          AnswersAlone shape (length made) (next_place taken) answer;
    }
