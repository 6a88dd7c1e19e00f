-- What a look shows of what its own seat has made, and the loads of a look.
use Rattle.std.specs.Prelude.{◌≡◌, ℕ, ◌+◌, ◌<◌, ◌≤◌, List, [], ◌∷◌, ◌++◌, Contains}
use Rattle.std.specs.List.{All}
use Rattle.cursor_word.specs.Shape.{Grid}
use Rattle.cursor_word.specs.Cursor.{cursor_of, first_of, most_block, place_at}
use Rattle.cursor_word.specs.declared.cursor.Cursor.{Cursor}
use Rattle.rail.specs.declared.entry.Placed.{Placed}
use Rattle.rail.specs.Items.{placed, places}
use Rattle.step_log.specs.declared.log.Step.{Step}
use Rattle.step_log.specs.Log.{loaded}
use Rattle.block_looks.specs.declared.look.LookPhase.{LookPhase}
use Rattle.block_looks.specs.declared.look.LookPhase.TheVariants.{HeadA, Com, All as AllOf, Check}
use Rattle.block_looks.specs.declared.look.LookAfter.{LookAfter}
use Rattle.block_looks.specs.declared.look.LookAfter.TheVariants as after
use Rattle.block_looks.specs.declared.look.Look.{Look}
use Rattle.block_looks.specs.declared.look.Look.TheVariants as look
use Rattle.block_looks.specs.declared.look.Seen.TheVariants as seen
use Rattle.block_looks.specs.Table.{IsLookInRange, look_after, look_want}

-- all these items lie before a block's first place
abbrev pub AreBefore : Grid → List Placed → ℕ → Type 0
AreBefore shape items block = All (λ p. p < first_of shape block) (places items)

-- and those of the block have offsets below this
abbrev pub AreWithin : Grid → List Placed → ℕ → ℕ → Type 0
AreWithin shape items block count =
    All (λ p. (cursor_of shape p).block ≡ block → (cursor_of shape p).offset < count)
    (places items)

-- the newest block that a look at the head found
pub record IsNewest (shape : Grid) (made : List Placed) (head : ℕ) (newest : Cursor)
    : Type 0 where
  pub first : shape.blocks ≤ head
  pub from : head ≤ newest.block
  pub to : newest.block ≤ most_block
  pub before : AreBefore shape made (newest.block + shape.blocks)

-- What a look at a block shows: where the block isn't opened, none of these items lies in it or
-- after it; where it is whole, none of those in it lies at the count or beyond, and it counts no
-- more than a block holds.
abbrev pub BlockShown : Grid → List Placed → ℕ → Look → Type 0
BlockShown shape made block (look.Unopened committed) = AreBefore shape made block
BlockShown shape made block (look.Whole count committed allocated) =
    AreWithin shape made block count × (count ≤ shape.size)
BlockShown shape made block (look.Gap committed allocated) = Unit {0}

-- What a step of a look shows by what follows it, where these are the values that the look found
-- before it, and the own seat has made these items.
abbrev pub LookShows : Grid → List Placed → LookPhase → List ℕ → LookAfter → Type 0
LookShows shape made (HeadA head) read (after.Head newest) = IsNewest shape made head newest
LookShows shape made (Com block) read (after.Block found) = BlockShown shape made block found
LookShows shape made (AllOf block committed) read (after.Block found) =
    BlockShown shape made block found
LookShows shape made (Check at) read (after.Entry seen.Whole) =
    (words : List ℕ) → Contains made (placed (place_at shape at) words) → words ≡ read
LookShows shape made (Check at) read (after.Entry (seen.Reused now)) = at.block < now.block
LookShows shape made phase read (after.Next next) = IsLookInRange shape next
LookShows shape made phase read follows = Unit {0}

-- these values lead a look from the one to the other
abbrev pub LookLeads : Grid → LookAfter → List ℕ → LookAfter → Type 0
LookLeads shape from [] to = from ≡ to
LookLeads shape (after.Next phase) (value ∷ values) to =
    LookLeads shape (look_after shape phase value) values to
LookLeads shape answer (value ∷ values) to = ⊥

-- the loads that find these values, each of the word that its phase wants
abbrev pub look_loads : Grid → LookAfter → List ℕ → List Step
look_loads shape from [] = []
look_loads shape (after.Next phase) (value ∷ values) =
    loaded (look_want shape phase) value
    ∷ look_loads shape (look_after shape phase value) values
look_loads shape answer (value ∷ values) = []

-- A look that began at this phase did exactly these loads, and what they found leads to exactly
-- this answer.
pub record TookLook (shape : Grid) (first : LookPhase) (found : List ℕ) (answer : LookAfter)
    (old_log new_log : List Step) : Type 0 where
  pub leads : LookLeads shape (after.Next first) found answer
  pub log : new_log ≡ old_log ++ look_loads shape (after.Next first) found
