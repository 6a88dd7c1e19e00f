-- Where the words of a queue lie.
use Rattle.std.specs.Prelude.{ℕ, ◌+◌, ◌-◌, ◌*◌, ◌/◌, ◌<◌, nat_lt, if◌then◌else◌, ◌==◌}
use Rattle.cursor_word.specs.Shape.{Grid}
use Rattle.cursor_word.specs.Cursor.{cursor, packed}

-- the parts of a table. A cursor is of a physical block, an entry word of a physical block, an
-- offset and its number in the entry
pub data Part : Type 0 where
  producer : Part
  consumer : Part
  allocated : ℕ → Part
  committed : ℕ → Part
  reserved : ℕ → Part
  consumed : ℕ → Part
  entry : ℕ → ℕ → ℕ → Part

abbrev pub word_count : Grid → ℕ
word_count g = 2 + 4 * g.blocks + g.blocks * g.size * g.width

abbrev pub entry_index : Grid → ℕ → ℕ → ℕ → ℕ
entry_index g b offset w = 2 + 4 * g.blocks + (b * g.size + offset) * g.width + w

abbrev pub index_of : Grid → Part → ℕ
index_of g producer = 0
index_of g consumer = 1
index_of g (allocated b) = 2 + 4 * b
index_of g (committed b) = 3 + 4 * b
index_of g (reserved b) = 4 + 4 * b
index_of g (consumed b) = 5 + 4 * b
index_of g (entry b offset w) = entry_index g b offset w

abbrev pub IsPart : Grid → Part → Type 0
IsPart g producer = Unit {0}
IsPart g consumer = Unit {0}
IsPart g (allocated b) = b < g.blocks
IsPart g (committed b) = b < g.blocks
IsPart g (reserved b) = b < g.blocks
IsPart g (consumed b) = b < g.blocks
IsPart g (entry b offset w) = (b < g.blocks) × (offset < g.size) × (w < g.width)

-- the word with which a cursor of a physical block starts
abbrev pub start_cursor : Grid → ℕ → ℕ
start_cursor g b = if b == 0 then packed (cursor g.blocks 0) else packed (cursor b g.size)

abbrev pub start_of : Grid → Part → ℕ
start_of g producer = g.blocks
start_of g consumer = g.blocks
start_of g (allocated b) = start_cursor g b
start_of g (committed b) = start_cursor g b
start_of g (reserved b) = start_cursor g b
start_of g (consumed b) = start_cursor g b
start_of g (entry b offset w) = 0

-- the word with which an index starts
abbrev pub start_at : Grid → ℕ → ℕ
start_at g i =
    if nat_lt i 2 then g.blocks
    else (if nat_lt i (2 + 4 * g.blocks) then start_cursor g ((i - 2) / 4) else 0)
