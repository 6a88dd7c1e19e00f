-- Where a put stands, as far as all queues share it, and the step and what follows there.
use Rattle.std.specs.Prelude.{ℕ, ◌+◌, ◌%◌, List, [], ◌∷◌, nat_lt, if◌then◌else◌, ◌==◌}
use Rattle.cursor_word.specs.Shape.{Grid}
use Rattle.cursor_word.specs.Cursor.{offset_span, place_at, unpacked}
use Rattle.cursor_word.specs.declared.cursor.Cursor.{Cursor}
use Rattle.machine.specs.declared.op.Op.{Op}
use Rattle.machine.specs.declared.op.Op.TheVariants.{Load}
use Rattle.put_side.specs.declared.put_phase.PutPhase.{PutPhase}
use Rattle.put_side.specs.declared.put_phase.PutPhase.TheVariants.{HeadP, SeeA, AddA, Write, Commit, OpenM, OpenA, RaiseP}
use Rattle.put_side.specs.PutSteps.{want}

-- Away is a seat in no put. Fills is one that found a filled cursor and has still to learn whether
-- the next block may be opened: there each queue has steps of its own.
pub data PutStage : Type 0 where
  Away : PutStage
  At : PutPhase → PutStage
  Fills : Cursor → PutStage

-- the step, where these are the words of the entry in hand
abbrev pub put_want : Grid → PutStage → List ℕ → Op
put_want shape (At phase) words = want shape phase words
put_want shape stage words = Load 0

-- a block that was found filled: in the second turn the put answers
abbrev pub fills : ℕ → Cursor → PutStage
fills turn found = if turn == 1 then Fills found else Away

-- a cursor that was found: it has room, or its block is filled
abbrev pub by_room : Grid → ℕ → ℕ → PutStage → PutStage
by_room shape found turn room =
    if nat_lt (found % offset_span) shape.size then room else fills turn (unpacked found)

-- where the put stands after the step that found this
abbrev pub put_after : Grid → PutStage → ℕ → PutStage
put_after shape (At (HeadP turn first)) found = At (SeeA turn first found)
put_after shape (At (SeeA turn first head)) found =
    by_room shape found turn (At (AddA turn first head))
put_after shape (At (AddA turn first head)) found =
    by_room shape found turn (At (Write (unpacked found) 0))
put_after shape (At (Write at next)) found =
    if nat_lt (next + 1) shape.width then At (Write at (next + 1)) else At (Commit at)
put_after shape (At (OpenM full)) found = At (OpenA full)
put_after shape (At (OpenA full)) found = At (RaiseP full)
put_after shape (At (RaiseP full)) found = At (HeadP 2 full)
put_after shape stage found = Away

-- the place that a put has allocated and not yet committed
abbrev pub held : Grid → PutStage → List ℕ
held shape (At (Write at next)) = place_at shape at ∷ []
held shape (At (Commit at)) = place_at shape at ∷ []
held shape stage = []
