-- The steps of a look: the word that each phase loads, and what follows the value that was found.
use Rattle.std.specs.Prelude.{ℕ, ◌+◌, ◌/◌, ◌%◌, ◌<◌, nat_lt, if◌then◌else◌, ◌==◌, ◌&&◌, ◌||◌}
use Rattle.cursor_word.specs.Shape.{Grid}
use Rattle.cursor_word.specs.Cursor.{offset_span, unpacked}
use Rattle.cursor_word.specs.Layout.{index_of}
use Rattle.cursor_word.specs.Layout as part
use Rattle.cursor_word.specs.declared.cursor.Cursor.{Cursor}
use Rattle.block_looks.specs.declared.look.LookPhase.{LookPhase}
use Rattle.block_looks.specs.declared.look.LookPhase.TheVariants.{Head, HeadA, Com, All, Word, Check}
use Rattle.block_looks.specs.declared.look.LookAfter.{LookAfter}
use Rattle.block_looks.specs.declared.look.LookAfter.TheVariants as after
use Rattle.block_looks.specs.declared.look.Look.{Look}
use Rattle.block_looks.specs.declared.look.Look.TheVariants as look
use Rattle.block_looks.specs.declared.look.Seen.TheVariants as seen

-- a word of an entry lies in its block, and within the entry
abbrev pub IsLookInRange : Grid → LookPhase → Type 0
IsLookInRange shape (Word at next) = (at.offset < shape.size) × (next < shape.width)
IsLookInRange shape phase = Unit {0}

-- the word that the step of a phase loads
abbrev pub look_want : Grid → LookPhase → ℕ
look_want shape Head = index_of shape part.producer
look_want shape (HeadA head) = index_of shape (part.allocated (head % shape.blocks))
look_want shape (Com block) = index_of shape (part.committed (block % shape.blocks))
look_want shape (All block found) = index_of shape (part.allocated (block % shape.blocks))
look_want shape (Word at next) =
    index_of shape (part.entry (at.block % shape.blocks) at.offset next)
look_want shape (Check at) = index_of shape (part.allocated (at.block % shape.blocks))

-- by the cursors of a block: both are of this block, and all of it is committed, or all that is
-- allocated
abbrev pub look_of : Grid → ℕ → Cursor → Cursor → Look
look_of shape block committed allocated =
    if (committed.block == block) && (allocated.block == block)
    then (if (committed.offset == shape.size) || (allocated.offset == committed.offset)
    then look.Whole committed.offset committed allocated else look.Gap committed allocated)
    else look.Gap committed allocated

-- what follows where the step found this
abbrev pub look_after : Grid → LookPhase → ℕ → LookAfter
look_after shape Head old = after.Next (HeadA old)
look_after shape (HeadA head) old = after.Head (unpacked old)
look_after shape (Com block) old =
    if nat_lt (old / offset_span) block then after.Block (look.Unopened (unpacked old))
    else after.Next (All block (unpacked old))
look_after shape (All block found) old = after.Block (look_of shape block found (unpacked old))
look_after shape (Word at next) old =
    if nat_lt (next + 1) shape.width then after.Next (Word at (next + 1)) else after.Next (Check at)
look_after shape (Check at) old =
    if (old / offset_span) == at.block then after.Entry seen.Whole
    else after.Entry (seen.Reused (unpacked old))
