-- A walk over a running queue: its looks, the loads that they are, and the items and gaps that they
-- show.
use Rattle.std.specs.Prelude.{◌≡◌, ◌≢◌, ℕ, ◌+◌, ◌-◌, ◌<◌, ◌≤◌, ◌⊎◌, List, [], ◌∷◌, ◌++◌, Contains, flat_map, length, map, max, take}
use Rattle.std.specs.List.{All, range_with_len}
use Rattle.cursor_word.specs.Shape.{Grid}
use Rattle.cursor_word.specs.Cursor.{cursor, place_at}
use Rattle.cursor_word.specs.declared.cursor.Cursor.{Cursor}
use Rattle.rail.specs.declared.entry.Placed.{Placed}
use Rattle.rail.specs.Items.{placed}
use Rattle.rail.specs.Outcome.{numbers_below}
use Rattle.step_log.specs.declared.log.Step.{Step}
use Rattle.block_looks.specs.declared.look.LookPhase.TheVariants.{Head, Com, Word}
use Rattle.block_looks.specs.declared.look.LookAfter.TheVariants as after
use Rattle.block_looks.specs.declared.look.Look.{Look}
use Rattle.block_looks.specs.declared.look.Look.TheVariants as look
use Rattle.block_looks.specs.declared.look.Seen.{Seen}
use Rattle.block_looks.specs.declared.look.Seen.TheVariants as seen
use Rattle.block_looks.specs.Shown.{LookLeads, look_loads}
use Rattle.flight_view.specs.declared.gaps.Gap.{Gap}

-- a look at an entry: where it lies, the values that were found, and the answer
pub record EntryLook : Type 0 where
  pub at : Cursor
  pub found : List ℕ
  pub answer : Seen

-- a look at a block, and the looks at its entries that came after it
pub record BlockLook : Type 0 where
  pub block : ℕ
  pub found : List ℕ
  pub answer : Look
  pub entries : List EntryLook

-- the looks of a walk: one at the head, and then block by block
pub record Walk : Type 0 where
  pub found : List ℕ
  pub newest : Cursor
  pub blocks : List BlockLook

-- their loads, in order
abbrev pub entry_loads : Grid → EntryLook → List Step
entry_loads shape entry = look_loads shape (after.Next (Word entry.at 0)) entry.found

abbrev pub block_loads : Grid → BlockLook → List Step
block_loads shape looks =
    look_loads shape (after.Next (Com looks.block)) looks.found
    ++ flat_map (entry_loads shape) looks.entries

abbrev pub walk_loads : Grid → Walk → List Step
walk_loads shape walk =
    look_loads shape (after.Next Head) walk.found ++ flat_map (block_loads shape) walk.blocks

-- the items: the words of each entry that was found whole, at its place
abbrev pub item_seen : Placed → Seen → List Placed
item_seen item seen.Whole = item ∷ []
item_seen item (seen.Reused now) = []

abbrev pub entry_items : Grid → EntryLook → List Placed
entry_items shape entry =
    item_seen (placed (place_at shape entry.at) (take shape.width entry.found)) entry.answer

abbrev pub block_items : Grid → BlockLook → List Placed
block_items shape looks = flat_map (entry_items shape) looks.entries

abbrev pub walk_items : Grid → Walk → List Placed
walk_items shape walk = flat_map (block_items shape) walk.blocks

-- the cursors by which looks at entries found their block reused
abbrev pub reused_by : Seen → List Cursor
reused_by seen.Whole = []
reused_by (seen.Reused now) = now ∷ []

abbrev pub reused_in : List EntryLook → List Cursor
reused_in entries = flat_map (λ (entry : EntryLook). reused_by entry.answer) entries

-- the gaps: a block whose look found one, or that was found reused at one of its entries
abbrev pub gap : ℕ → Cursor → Cursor → Gap
gap block committed allocated =
    record { block = block; committed = committed; allocated = allocated }

abbrev pub gaps_by : ℕ → List EntryLook → Look → List Gap
gaps_by block entries (look.Unopened committed) = []
gaps_by block entries (look.Whole count committed allocated) =
    map (gap block committed) (reused_in entries)
gaps_by block entries (look.Gap committed allocated) = gap block committed allocated ∷ []

abbrev pub block_gaps : BlockLook → List Gap
block_gaps looks = gaps_by looks.block looks.entries looks.answer

abbrev pub walk_gaps : Walk → List Gap
walk_gaps walk = flat_map block_gaps walk.blocks

-- all but the last
abbrev pub but_last : {A : Type 0} → List A → List A
but_last items = take (length items - 1) items

-- looks at entries of a block that counts so many: from its first entry on, one after another, and
-- each but the last found its entry whole
pub record AreEntryLooks (shape : Grid) (block count : ℕ) (entries : List EntryLook)
    : Type 0 where
  pub leads : All
      (λ entry. LookLeads shape (after.Next (Word entry.at 0)) entry.found
      (after.Entry entry.answer)) entries
  pub order : map (λ entry. entry.at) entries ≡ map (cursor block) (numbers_below (length entries))
  pub within : length entries ≤ count
  pub whole : All (λ entry. entry.answer ≡ seen.Whole) (but_last entries)

-- how many entries a look found whole
abbrev pub count_of : Look → ℕ
count_of (look.Unopened committed) = 0
count_of (look.Whole count committed allocated) = count
count_of (look.Gap committed allocated) = 0

pub record IsBlockLook (shape : Grid) (looks : BlockLook) : Type 0 where
  pub leads : LookLeads shape (after.Next (Com looks.block)) looks.found (after.Block looks.answer)
  pub entries : AreEntryLooks shape looks.block (count_of looks.answer) looks.entries

-- the walk goes on after this block: it is opened, and each of its whole entries was looked at, or
-- one of these looks found the block reused
pub record IsPassed (looks : BlockLook) : Type 0 where
  pub opened : (committed : Cursor) → looks.answer ≢ look.Unopened committed
  pub through : (length looks.entries ≡ count_of looks.answer)
      ⊎ (0 < length (reused_in looks.entries))

-- the first block that a walk looks at, and the first that it doesn't
abbrev pub first_block : Grid → Cursor → ℕ
first_block shape newest = max shape.blocks (newest.block + 1 - shape.blocks)

abbrev pub end_block : Grid → Cursor → ℕ
end_block shape newest = newest.block + shape.blocks + 1

-- the looks are those of a walk, which may have stopped before any of them
pub record IsWalk (shape : Grid) (walk : Walk) : Type 0 where
  pub head : LookLeads shape (after.Next Head) walk.found (after.Head walk.newest)
  pub looks : All (IsBlockLook shape) walk.blocks
  pub order : map (λ looks. looks.block) walk.blocks
      ≡ range_with_len (first_block shape walk.newest) (length walk.blocks)
  pub within : first_block shape walk.newest + length walk.blocks ≤ end_block shape walk.newest
  pub passed : All IsPassed (but_last walk.blocks)

-- it passed all its blocks, or came to one that isn't opened
abbrev pub HasEnded : Grid → Walk → Type 0
HasEnded shape walk =
    ((first_block shape walk.newest + length walk.blocks ≡ end_block shape walk.newest)
    × All IsPassed walk.blocks)
    ⊎ ((committed : Cursor)
    × Contains (map (λ (looks : BlockLook). looks.answer) walk.blocks) (look.Unopened committed))
