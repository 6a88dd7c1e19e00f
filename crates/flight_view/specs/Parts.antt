-- What the parts of a walk do: a look at an entry, at the entries of a block, and at a block.
use Rattle.std.specs.Prelude.{◌≡◌, ℕ, ◌+◌, ◌<◌, ◌⊎◌, Bool, true, false, List, [], ◌∷◌, ◌++◌, Contains, IfOk, IfSome, OnErr, Option, Result, flat_map, length, option_to_list}
use Rattle.std.specs.declared.alloc.AllocError.{AllocError}
use Rattle.cursor_word.specs.Shape.{Grid}
use Rattle.cursor_word.specs.Cursor.{cursor_of, place_at}
use Rattle.cursor_word.specs.declared.cursor.Cursor.{Cursor}
use Rattle.rail.specs.declared.entry.Placed.{Placed}
use Rattle.rail.specs.Items.{IsRising, placed, places}
use Rattle.step_log.specs.declared.log.Step.{Step}
use Rattle.block_looks.specs.declared.look.LookPhase.TheVariants.{Word}
use Rattle.block_looks.specs.declared.look.LookAfter.TheVariants as after
use Rattle.block_looks.specs.declared.look.Look.TheVariants as look
use Rattle.block_looks.specs.declared.look.Seen.{Seen}
use Rattle.block_looks.specs.declared.look.Seen.TheVariants as seen
use Rattle.block_looks.specs.Shown.{AreBefore, LookLeads}
use Rattle.drop_rail.specs.Looking.{Looker}
use Rattle.flight_view.specs.declared.gaps.Gap.{Gap}
use Rattle.flight_view.specs.Walks.{AreEntryLooks, BlockLook, EntryLook, IsBlockLook, IsPassed, block_gaps, block_items, block_loads, entry_items, entry_loads, reused_in}
use Rattle.flight_view.specs.Views.{HasSeen, IsCaused, ShowsBetween}

-- a seat in a walk, and the items and gaps so far
pub record Midway : Type 0 where
  pub seat : Looker
  pub items : List Placed
  pub gaps : List Gap

abbrev pub midway : Looker → List Placed → List Gap → Midway
midway seat items gaps = record { seat = seat; items = items; gaps = gaps }

-- these loads were done, which showed these items and gaps
pub record Gathers (old new : Midway) (loads : List Step) (items : List Placed)
    (gaps : List Gap) : Type 0 where
  pub seen : HasSeen old.seat new.seat loads items
  pub items_on : new.items ≡ old.items ++ items
  pub gaps_on : new.gaps ≡ old.gaps ++ gaps

-- the places of these items rise, and lie before a block
pub record IsInOrder (shape : Grid) (items : List Placed) (block : ℕ) : Type 0 where
  pub rising : IsRising (places items)
  pub before : AreBefore shape items block

abbrev pub entry_look : Cursor → List ℕ → Seen → EntryLook
entry_look at found answer = record { at = at; found = found; answer = answer }

-- an own item of the entry's place is the one that was found
abbrev pub OwnIsFound : Grid → List Placed → EntryLook → Type 0
OwnIsFound shape made entry =
    (words : List ℕ) → Contains made (placed (place_at shape entry.at) words)
    → entry.answer ≡ seen.Whole
    → Contains (entry_items shape entry) (placed (place_at shape entry.at) words)

pub record SawEntry (shape : Grid) (old new : Looker) (entry : EntryLook) : Type 0 where
  pub leads : LookLeads shape (after.Next (Word entry.at 0)) entry.found (after.Entry entry.answer)
  pub later : (now : Cursor) → entry.answer ≡ seen.Reused now → entry.at.block < now.block
  pub seen : HasSeen old new (entry_loads shape entry) (entry_items shape entry)
  pub looking : new.memory.looking ≡ old.memory.looking
  pub own : OwnIsFound shape new.view.made entry

-- own items of the block with offsets below this are among those
abbrev pub OwnAreFound : Grid → ℕ → ℕ → List Placed → List Placed → Type 0
OwnAreFound shape block count made items =
    (item : Placed) → Contains made item → (cursor_of shape item.place).block ≡ block
    → (cursor_of shape item.place).offset < count → Contains items item

-- all entries before the cursor were found whole, or one found a later block in its place
abbrev pub EntriesEnd : Grid → Cursor → List EntryLook → List Placed → Option Cursor → Type 0
EntriesEnd shape counted entries made reused =
    (reused_in entries ≡ option_to_list reused)
    × ((0 < length (reused_in entries))
    ⊎ ((length entries ≡ counted.offset)
    × OwnAreFound shape counted.block counted.offset made (flat_map (entry_items shape) entries)))
    × IfSome reused (λ now. counted.block < now.block)

pub record SawEntries (shape : Grid) (counted : Cursor) (old new : Midway)
    (answer : Result (Option Cursor) AllocError) : Type 0 where
  pub entries : List EntryLook
  pub looks : AreEntryLooks shape counted.block counted.offset entries
  pub gathers : Gathers old new (flat_map (entry_loads shape) entries)
      (flat_map (entry_items shape) entries) []
  pub ends : IfOk answer (EntriesEnd shape counted entries new.seat.view.made)
  pub whole : OnErr answer (reused_in entries ≡ [])

-- an opened block is passed, and what the own seat made in it is shown; a block that isn't opened
-- lies after all that it made
abbrev pub BlockEnds : Grid → BlockLook → List Placed → Bool → Type 0
BlockEnds shape looks made true =
    IsPassed looks
    × ShowsBetween shape looks.block (looks.block + 1) made (block_items shape looks)
    (block_gaps looks)
BlockEnds shape looks made false =
    ((committed : Cursor) × (looks.answer ≡ look.Unopened committed))
    × AreBefore shape made looks.block

-- no gap, or one of the block
abbrev pub IsOneAtMost : ℕ → List Gap → Type 0
IsOneAtMost block gaps =
    (gaps ≡ [])
    ⊎ ((gap : Gap) × (gaps ≡ gap ∷ []) × (gap.block ≡ block) × IsCaused gap)

pub record SawBlock (shape : Grid) (block : ℕ) (old new : Midway)
    (answer : Result Bool AllocError) : Type 0 where
  pub looks : BlockLook
  pub at : looks.block ≡ block
  pub is : IsBlockLook shape looks
  pub gathers : Gathers old new (block_loads shape looks) (block_items shape looks)
      (block_gaps looks)
  pub one : IsOneAtMost block (block_gaps looks)
  pub ends : IfOk answer (BlockEnds shape looks new.seat.view.made)
