-- What stands of the one seat of a queue that refuses when it is full, and what it is answered.
use Rattle.std.specs.Prelude.{ℕ, List, [], ◌∷◌, Option, Some, None, length}
use Rattle.cursor_word.specs.Shape.{Grid}
use Rattle.bbq_core.specs.declared.phase.Phase.{Phase}
use Rattle.bbq_core.specs.Types.{View}
use Rattle.bbq_core.specs.Alone.{IsAlone, IsStill}
use Rattle.put_side.specs.AsOne.{AnswersAlone}
use Rattle.solo_rail.specs.Lone.{LoneFacts}

-- at rest, or alone in a call
abbrev pub Stands : Grid → List ℕ → View → Option Phase → Type 0
Stands shape words view None =
    IsStill shape (length view.made) (length view.taken) words (view ∷ [])
Stands shape words view (Some phase) =
    IsAlone shape (length view.made) (length view.taken) words (view ∷ []) 0 phase

abbrev pub lone : LoneFacts Phase
lone =
    record {
      Stands = λ shape words view. Stands shape words view view.phase;
      Answers = λ shape made taken answer. AnswersAlone shape (length made) (length taken) answer;
    }
