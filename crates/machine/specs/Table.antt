-- The table of a machine: where a call begins, which step each phase does, and what follows it.
use Rattle.std.specs.Prelude.{ℕ, Bool, List, Option, Some, None, is_some}
use Rattle.cursor_word.specs.Shape.{Grid}
use Rattle.rail.specs.declared.entry.Placed.{Placed}
use Rattle.machine.specs.declared.op.Op.{Op}
use Rattle.machine.specs.declared.op.After.{After}
use Rattle.machine.specs.declared.event.Start.{Start}

-- what a take has of its entry: no word is read yet, the step reads this one, or all words are read
pub data Reading : Type 0 where
  Unread : Reading
  Word : ℕ → Reading
  Whole : Reading

-- the word of the entry that the step reads, if it reads one
abbrev pub word_of : Reading → Option ℕ
word_of (Word next) = Some next
word_of reading = None

abbrev pub reads_word : Reading → Bool
reads_word reading = is_some (word_of reading)

pub record Table (P : Type 0) : Type 1 where
  -- where a put begins, and where a take of a seat that has taken these items does
  pub first_put : P
  pub first_take : Grid → List Placed → P
  -- the step of a phase, where these are the words of the entry in hand
  pub want : Grid → P → List ℕ → Op
  -- what follows where it found this value
  pub after : Grid → P → ℕ → After P
  -- whether the phase is of a put
  pub is_put : P → Bool
  -- what a take has of its entry in this phase
  pub reading : P → Reading
  -- how many steps may follow, the one of the phase among them
  pub rank : Grid → P → ℕ
  -- the fields of a phase are in range, and so is a value that its step may find
  pub IsInRange : Grid → P → Type 0
  pub FindsFit : P → ℕ → Type 0
  -- which seat may begin which call
  pub MayBegin : Grid → ℕ → Start → Type 0
