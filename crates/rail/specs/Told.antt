-- What contracts see of a seat's last call.
use Rattle.std.specs.Prelude.{◌≡◌, ◌≢◌, ◌⊎◌, ℕ, ◌<◌, List, Option, None, Some, slice_get, ⊤}
use Rattle.cursor_word.specs.declared.cursor.Cursor.{Cursor}
use Rattle.cursor_word.specs.Cursor.{packed}
use Rattle.rail.specs.declared.answer.Answer.{Answer}
use Rattle.rail.specs.declared.answer.Answer.TheVariants as answer
use Rattle.rail.specs.declared.answer.Why.{Why}
use Rattle.rail.specs.declared.answer.Why.TheVariants.{Unfinished, Moved}

-- the values that the steps of the last call found, in order (of a store: the value that it wrote),
-- and that call's answer
pub record Told : Type 0 where
  pub found : List ℕ
  pub answer : Option Answer

-- a word is this cursor; a head is the cursor of its block at offset 0
abbrev pub Spells : ℕ → Cursor → Type 0
Spells word c = (word ≡ packed c) ⊎ ((c.offset ≡ 0) × (word ≡ c.block))

-- a step found the first cursor, and a later one found the second
pub record FoundInOrder (found : List ℕ) (first second : Cursor) : Type 0 where
  pub at_first : ℕ
  pub at_second : ℕ
  pub in_order : at_first < at_second
  pub word : ℕ
  pub later_word : ℕ
  pub found_first : slice_get found at_first ≡ Some word
  pub found_second : slice_get found at_second ≡ Some later_word
  pub spells_first : Spells word first
  pub spells_second : Spells later_word second

-- a call that gave up for this reason found two values, in this order, which differ
abbrev pub Shows : List ℕ → Why → Type 0
Shows found (Unfinished block before after) = FoundInOrder found before after × (before ≢ after)
Shows found (Moved earlier later) = FoundInOrder found earlier later × (earlier ≢ later)

-- the last call was a put, or a take
abbrev pub IsPut : Option Answer → Type 0
IsPut (Some (answer.Put put)) = ⊤
IsPut (Some (answer.Take take)) = ⊥
IsPut None = ⊥

abbrev pub IsTake : Option Answer → Type 0
IsTake (Some (answer.Put put)) = ⊥
IsTake (Some (answer.Take take)) = ⊤
IsTake None = ⊥
