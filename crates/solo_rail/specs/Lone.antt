-- What a machine owes, so that a queue of its for one seat answers exactly.
use Rattle.std.specs.Prelude.{◌≡◌, ℕ, ◌≤◌, List, [], ◌∷◌, Some, None, length}
use Rattle.cursor_word.specs.Shape.{Grid, IsWithinLimits}
use Rattle.cursor_word.specs.Cursor.{place_span}
use Rattle.rail.specs.declared.entry.Placed.{Placed}
use Rattle.rail.specs.declared.answer.Answer.{Answer}
use Rattle.machine.specs.declared.event.Start.{Start}
use Rattle.machine.specs.declared.op.After.TheVariants.{Done}
use Rattle.machine.specs.declared.view.View.{View}
use Rattle.machine.specs.Table.{Table}
use Rattle.machine.specs.Invariant.{Fact}
use Rattle.machine.specs.Steps.{IsWide, begun, finds, resting, start_words, view_after, words_after}

-- what stands of the words and of the one seat, at rest and in a call; and what it is answered, by
-- what it had made and taken
pub record LoneFacts (P : Type 0) : Type 1 where
  pub Stands : Grid → List ℕ → View P → Type 0
  pub Answers : Grid → List Placed → List Placed → Answer → Type 0

-- The one seat stands so from the start on, with the invariant, and each answer is exact. Steps are
-- asked about only where the queue has room for all that the seat made.
pub record AnswersExactly {P : Type 0} (table : Table P) (Holds : Fact P)
    (lone : LoneFacts P) : Type 0 where
  pub holds : (shape : Grid) (words : List ℕ) (view : View P) → lone.Stands shape words view
      → Holds shape words (view ∷ [])
  pub starts : (shape : Grid)
      → IsWithinLimits shape → shape.seats ≡ 1
      → lone.Stands shape (start_words shape) (resting P shape)
  pub begins : (shape : Grid) (words : List ℕ) (view : View P) (call : Start)
      → IsWithinLimits shape → IsWide shape call → view.phase ≡ None → lone.Stands shape words view
      → lone.Stands shape words (begun table shape view None call)
  pub steps : (shape : Grid) (words : List ℕ) (view : View P) (phase : P)
      → IsWithinLimits shape → length view.made ≤ place_span shape → view.phase ≡ Some phase
      → lone.Stands shape words view
      → lone.Stands shape (words_after table shape words view phase)
      (view_after table shape words view phase)
  pub answers : (shape : Grid) (words : List ℕ) (view : View P) (phase : P) (answer : Answer)
      → IsWithinLimits shape → length view.made ≤ place_span shape → view.phase ≡ Some phase
      → lone.Stands shape words view
      → table.after shape phase (finds table shape words view phase) ≡ Done answer
      → lone.Answers shape view.made view.taken answer
