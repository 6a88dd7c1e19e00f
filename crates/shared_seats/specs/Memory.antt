-- What a seat remembers beside the machine, and what a queue owes of it.
use Rattle.std.specs.Prelude.{◌≡◌, ℕ, ◌≤◌, List, IsPermutation, Some, None, slice_get, slice_index, slice_set}
use Rattle.cursor_word.specs.Shape.{Grid, IsWithinLimits}
use Rattle.cursor_word.specs.Cursor.{place_span}
use Rattle.machine.specs.declared.event.Start.{Start}
use Rattle.machine.specs.declared.view.View.{View}
use Rattle.machine.specs.Table.{Table}
use Rattle.machine.specs.Invariant.{Fact, made_total}
use Rattle.machine.specs.Steps.{begun, view_after, words_after}

-- what holds of a memory, by the shape, the words and what the machine knows of all seats
abbrev pub Knowledge : Type 0 → Type 0 → Type 1
Knowledge P M = Grid → List ℕ → List (View P) → M → Type 0

-- What holds of a memory lasts: it holds of a seat that has done nothing, a call that begins keeps
-- it, so does each step of the machine, and the order of the seats is of no matter.
pub record IsLasting {P M : Type 0} (table : Table P) (Holds : Fact P) (Knows : Knowledge P M)
    (none : M) : Type 0 where
  pub starts : (shape : Grid) (words : List ℕ) (views : List (View P))
      → Knows shape words views none
  pub begins : (shape : Grid) (words : List ℕ) (views : List (View P)) (id : ℕ) (view : View P)
      (call : Start) (memory : M)
      → slice_get views id ≡ Some view → Knows shape words views memory
      → Knows shape words (slice_set views id (begun table shape view None call)) memory
  pub steps : (shape : Grid) (words : List ℕ) (views : List (View P)) (id : ℕ) (view : View P)
      (phase : P) (memory : M)
      → IsWithinLimits shape → Holds shape words views → made_total views ≤ place_span shape
      → slice_get views id ≡ Some view → view.phase ≡ Some phase
      → Knows shape words views memory
      → Knows shape (words_after table shape words view phase)
      (slice_set views id (view_after table shape words view phase)) memory
  pub orderless : (shape : Grid) (words : List ℕ) (views us : List (View P)) (memory : M)
      → IsPermutation views us → Knows shape words views memory → Knows shape words us memory

-- Whatever the words and the other seats are when a seat loads a word, some memory that is told
-- keeps what holds of its memory.
abbrev pub KeepsMemory : {P M : Type 0} → Fact P → Knowledge P M → Grid → View P → M → ℕ
    → (ℕ → M → Type 0) → Type 0
KeepsMemory {P} {M} Holds Knows shape view memory index then =
    (words : List ℕ) (views : List (View P)) (id : ℕ)
    → IsWithinLimits shape → Holds shape words views → made_total views ≤ place_span shape
    → slice_get views id ≡ Some view → Knows shape words views memory
    → (next : M) × Knows shape words views next × then (slice_index words index) next
