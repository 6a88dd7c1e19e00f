-- What an invariant of a machine owes, so that each state which the machine reaches meets it.
use Rattle.std.specs.Prelude.{◌≡◌, ℕ, ◌≤◌, List, Some, None, length, slice_get, slice_set, replicate}
use Rattle.std.specs.List.{sum_by}
use Rattle.cursor_word.specs.Shape.{Grid, IsWithinLimits}
use Rattle.cursor_word.specs.Cursor.{most_puts, place_span}
use Rattle.cursor_word.specs.Layout.{word_count}
use Rattle.rail.specs.declared.answer.Answer.TheVariants as answer
use Rattle.rail.specs.declared.answer.Take.TheVariants as take
use Rattle.machine.specs.declared.op.After.{After}
use Rattle.machine.specs.declared.op.After.TheVariants.{Done}
use Rattle.machine.specs.declared.view.View.{View}
use Rattle.machine.specs.declared.event.Start.{Start}
use Rattle.machine.specs.Table.{Table}
use Rattle.machine.specs.Steps.{IsWide, ShapedState, begun, finds, resting, start_words, view_after, words_after}

-- how many entries a seat has made, and how many all have
abbrev pub made_count : {P : Type 0} → View P → ℕ
made_count view = length view.made

abbrev pub made_total : {P : Type 0} → List (View P) → ℕ
made_total views = sum_by made_count views

-- where a take ends with an entry, it has read all its words
abbrev pub IsRead : {P : Type 0} → Grid → After P → List ℕ → Type 0
IsRead shape (Done (answer.Take (take.Ok place))) read = length read ≡ shape.width
IsRead shape follows read = Unit {0}

-- what a step needs: a phase in range, which finds a value in range, an entry of the right width,
-- and the words read where it hands them out
pub record CanStep {P : Type 0} (table : Table P) (shape : Grid) (words : List ℕ) (view : View P)
    (phase : P)
    : Type 0 where
  pub range : table.IsInRange shape phase
  pub found : table.FindsFit phase (finds table shape words view phase)
  pub wide : length view.entry ≡ shape.width
  pub read : IsRead shape (table.after shape phase (finds table shape words view phase)) view.read

-- a fact that holds between any two steps, of the shape, the words and the views of all seats
abbrev pub Fact : Type 0 → Type 1
Fact P = Grid → List ℕ → List (View P) → Type 0

-- The fact is an invariant of the machine: it holds at the start, a call that begins keeps it,
-- so does each step, and where it holds each step can be done. Steps are asked about only where
-- the queue has room for all entries that are made.
pub record IsInvariant {P : Type 0} (table : Table P) (Holds : Fact P) : Type 0 where
  pub starts : (shape : Grid) → IsWithinLimits shape
      → Holds shape (start_words shape) (replicate shape.seats (resting P shape))
  pub begins : (shape : Grid) (words : List ℕ) (views : List (View P)) (id : ℕ) (view : View P)
      (call : Start)
      → IsWithinLimits shape → Holds shape words views
      → slice_get views id ≡ Some view → view.phase ≡ None → IsWide shape call
      → table.MayBegin shape id call
      → Holds shape words (slice_set views id (begun table shape view None call))
  pub steps : (shape : Grid) (words : List ℕ) (views : List (View P)) (id : ℕ) (view : View P)
      (phase : P)
      → IsWithinLimits shape → Holds shape words views → made_total views ≤ place_span shape
      → slice_get views id ≡ Some view → view.phase ≡ Some phase
      → Holds shape (words_after table shape words view phase)
      (slice_set views id (view_after table shape words view phase))
  pub can_step : (shape : Grid) (words : List ℕ) (views : List (View P)) (id : ℕ) (view : View P)
      (phase : P)
      → IsWithinLimits shape → Holds shape words views → made_total views ≤ place_span shape
      → slice_get views id ≡ Some view → view.phase ≡ Some phase
      → CanStep table shape words view phase

-- what each state that the machine reaches keeps: the invariant, all words, a view for each seat,
-- and no more entries of a seat than it may put
pub record IsKept {P : Type 0} (Holds : Fact P) (kept : ShapedState P) : Type 0 where
  pub limits : IsWithinLimits kept.shape
  pub holds : Holds kept.shape kept.state.words kept.state.views
  pub long : length kept.state.words ≡ word_count kept.shape
  pub all : length kept.state.views ≡ kept.shape.seats
  pub few : (j : ℕ) (u : View P) → slice_get kept.state.views j ≡ Some u
      → length u.made ≤ most_puts kept.shape
