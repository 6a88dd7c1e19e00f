-- Cursors, the words that hold them, and places.
use Rattle.std.specs.Prelude.{◌≡◌, ℕ, ◌+◌, ◌-◌, ◌*◌, ◌/◌, ◌%◌, ◌^◌, ◌<◌, ◌≤◌, ◌⊎◌, if◌then◌else◌, ◌==◌}
use Rattle.cursor_word.specs.declared.cursor.Cursor.{Cursor}
use Rattle.cursor_word.specs.Shape.{Grid}

-- a word has the offset in its lower 20 bits and the block number in its upper 44
abbrev pub offset_span : ℕ
offset_span = 2 ^ 20

abbrev pub block_span : ℕ
block_span = 2 ^ 44

-- how many blocks the seats of a queue may fill together
abbrev pub block_room : ℕ
block_room = 2 ^ 42

-- all places of a queue are below this
abbrev pub place_span : Grid → ℕ
place_span g = block_room * g.size

-- a seat has so many entries accepted at most
abbrev pub most_puts : Grid → ℕ
most_puts g = place_span g / g.seats

-- no call of a queue meets a block number above this
abbrev pub most_block : ℕ
most_block = 2 ^ 43

abbrev pub cursor : ℕ → ℕ → Cursor
cursor block offset = record { block = block; offset = offset }

-- the cursor fits one word
pub record Fits (c : Cursor) : Type 0 where
  pub block_fits : c.block < block_span
  pub offset_fits : c.offset < offset_span

abbrev pub packed : Cursor → ℕ
packed c = c.block * offset_span + c.offset

abbrev pub unpacked : ℕ → Cursor
unpacked word = cursor (word / offset_span) (word % offset_span)

-- cursors are compared by block, then by offset
abbrev pub IsBefore : Cursor → Cursor → Type 0
IsBefore c d = (c.block < d.block) ⊎ ((c.block ≡ d.block) × (c.offset < d.offset))

-- a cursor at which an entry lies
pub record HasPlace (g : Grid) (c : Cursor) : Type 0 where
  pub from_first : g.blocks ≤ c.block
  pub block_fits : c.block < block_span
  pub in_block : c.offset < g.size

abbrev pub place_at : Grid → Cursor → ℕ
place_at g c = (c.block - g.blocks) * g.size + c.offset

abbrev pub cursor_of : Grid → ℕ → Cursor
cursor_of g place = cursor (g.blocks + place / g.size) (place % g.size)

-- the first place of a block
abbrev pub first_of : Grid → ℕ → ℕ
first_of g block = (block - g.blocks) * g.size

-- the first place of the oldest block that is not reused, where so many entries are accepted
abbrev pub low : Grid → ℕ → ℕ
low g accepted = if accepted == 0 then 0 else ((accepted - 1) / g.size + 1 - g.blocks) * g.size
