-- What a machine's table owes, so that its calls can be run one step after the other.
use Rattle.std.specs.Prelude.{◌≡◌, ℕ, ◌+◌, ◌<◌, ◌≤◌, ◌⊎◌, List, Bool, true, false}
use Rattle.cursor_word.specs.Shape.{Grid}
use Rattle.rail.specs.declared.entry.Placed.{Placed}
use Rattle.rail.specs.declared.answer.Answer.TheVariants as answer
use Rattle.rail.specs.declared.answer.Take.TheVariants as take
use Rattle.machine.specs.declared.op.After.{After}
use Rattle.machine.specs.declared.op.After.TheVariants.{Next, Done}
use Rattle.machine.specs.Bounds.{IsRanked}
use Rattle.machine.specs.Ops.{noted}
use Rattle.machine.specs.Table.{Reading, Table, Unread, Whole, Word, reads_word}

-- what follows is of a put where this is true, and of a take where it is false
abbrev pub IsOfKind : {P : Type 0} → Table P → Bool → After P → Type 0
IsOfKind table put (Next phase) = table.is_put phase ≡ put
IsOfKind table put (Done (answer.Put a)) = put ≡ true
IsOfKind table put (Done (answer.Take a)) = put ≡ false

-- A call stays what it was begun as, its rank falls at each step, a take does not look at the entry
-- in hand, and nothing depends on what stood in a word before a store.
pub record IsCallTable {P : Type 0} (table : Table P) : Type 0 where
  pub begins_put : table.is_put table.first_put ≡ true
  pub begins_take : (shape : Grid) (taken : List Placed)
      → table.is_put (table.first_take shape taken) ≡ false
  pub stays : (shape : Grid) (phase : P) (n : ℕ)
      → IsOfKind table (table.is_put phase) (table.after shape phase n)
  pub put_in_range : (shape : Grid) → table.IsInRange shape table.first_put
  pub take_in_range : (shape : Grid) (taken : List Placed)
      → table.IsInRange shape (table.first_take shape taken)
  pub ranked : IsRanked table
  pub takes_blind : (shape : Grid) (phase : P) (xs ys : List ℕ)
      → table.is_put phase ≡ false → table.want shape phase xs ≡ table.want shape phase ys
  pub stores_blind : (shape : Grid) (phase : P) (entry : List ℕ) (n : ℕ)
      → table.after shape phase (noted (table.want shape phase entry) n) ≡ table.after shape phase n
  pub stores_fit : (shape : Grid) (phase : P) (entry : List ℕ) (n : ℕ)
      → table.FindsFit phase n → table.FindsFit phase (noted (table.want shape phase entry) n)

-- a word of an entry lies within the entry
abbrev pub IsWordWithin : Reading → ℕ → Type 0
IsWordWithin (Word next) width = next < width
IsWordWithin reading width = Unit {0}

-- What follows where a take has this of its entry: it reads the words in order, each once, before
-- it answers with them, or that they were overrun; it answers otherwise before it reads.
module _ {P : Type 0} (table : Table P) (width : ℕ) where
  abbrev pub ReadsOn : Reading → After P → Type 0
  ReadsOn Unread (Next phase) = (table.reading phase ≡ Unread) ⊎ (table.reading phase ≡ Word 0)
  ReadsOn Unread (Done (answer.Take (take.Ok place))) = ⊥
  ReadsOn Unread (Done (answer.Take (take.Overrun place now))) = ⊥
  ReadsOn Unread (Done a) = Unit {0}
  ReadsOn (Word next) (Next phase) =
      ((next + 1 < width) × (table.reading phase ≡ Word (next + 1)))
      ⊎ ((width ≤ next + 1) × (table.reading phase ≡ Whole))
  ReadsOn (Word next) (Done a) = ⊥
  ReadsOn Whole (Done (answer.Take (take.Ok place))) = Unit {0}
  ReadsOn Whole (Done (answer.Take (take.Overrun place now))) = Unit {0}
  ReadsOn Whole follows = ⊥

-- a take reads the words of its entry in order, each once, by steps that store nothing
pub record ReadsInOrder {P : Type 0} (table : Table P) : Type 0 where
  pub begins : (shape : Grid) (taken : List Placed)
      → table.reading (table.first_take shape taken) ≡ Unread
  pub within : (shape : Grid) (phase : P) → table.IsInRange shape phase
      → IsWordWithin (table.reading phase) shape.width
  pub goes_on : (shape : Grid) (phase : P) (n : ℕ)
      → table.is_put phase ≡ false
      → ReadsOn table shape.width (table.reading phase) (table.after shape phase n)
  pub finds : (shape : Grid) (phase : P) (entry : List ℕ) (n : ℕ)
      → reads_word (table.reading phase) ≡ true → noted (table.want shape phase entry) n ≡ n
