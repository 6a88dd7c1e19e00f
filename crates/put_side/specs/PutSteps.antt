-- The steps of a put that all queues share: which step each phase does, what follows it, and how
-- many steps may follow. Where a put goes on that found a block filled is the queue's own affair.
use Rattle.std.specs.Prelude.{◌≡◌, ℕ, ◌+◌, ◌-◌, ◌*◌, ◌%◌, ◌<◌, ◌≤◌, ◌⊎◌, Bool, List, nat_lt, if◌then◌else◌, ◌==◌, ◌&&◌, slice_index}
use Rattle.cursor_word.specs.Shape.{Grid}
use Rattle.cursor_word.specs.Cursor.{cursor, most_block, offset_span, place_at, unpacked}
use Rattle.cursor_word.specs.Layout.{index_of}
use Rattle.cursor_word.specs.Layout.{producer, allocated, committed, entry}
use Rattle.cursor_word.specs.declared.cursor.Cursor.{Cursor}
use Rattle.rail.specs.declared.answer.Answer.TheVariants as answer
use Rattle.rail.specs.declared.answer.Put.TheVariants as put
use Rattle.rail.specs.declared.answer.Why.TheVariants as why
use Rattle.machine.specs.declared.op.Op.{Op}
use Rattle.machine.specs.declared.op.Op.TheVariants.{Load, Store, AddOne, Max}
use Rattle.machine.specs.declared.op.After.{After}
use Rattle.machine.specs.declared.op.After.TheVariants.{Next, Done}
use Rattle.put_side.specs.declared.put_phase.PutPhase.{PutPhase}
use Rattle.put_side.specs.declared.put_phase.PutPhase.TheVariants.{HeadP, SeeA, AddA, Write, Commit, OpenM, OpenA, RaiseP}

-- where a put begins
abbrev pub first_put : PutPhase
first_put = HeadP 1 (cursor 0 0)

-- a call has two turns
abbrev pub IsTurn : ℕ → Type 0
IsTurn turn = (turn ≡ 1) ⊎ (turn ≡ 2)

-- a block number that a head may have
abbrev pub IsBlock : Grid → ℕ → Type 0
IsBlock shape block = (shape.blocks ≤ block) × (block ≤ most_block)

-- one number in the first turn, and another in the second
abbrev pub by_turn : ℕ → ℕ → ℕ → ℕ
by_turn turn first second = if turn == 1 then first else second

-- the two cursors are one
abbrev pub is_same : Cursor → Cursor → Bool
is_same a b = (a.block == b.block) && (a.offset == b.offset)

-- the fields of a phase are in range
abbrev pub IsInRange : Grid → PutPhase → Type 0
IsInRange shape (HeadP turn first) = IsTurn turn
IsInRange shape (SeeA turn first head) = IsTurn turn × IsBlock shape head
IsInRange shape (AddA turn first head) = IsTurn turn × IsBlock shape head
IsInRange shape (Write at next) =
    IsBlock shape at.block × (at.offset < shape.size) × (next < shape.width)
IsInRange shape (Commit at) = IsBlock shape at.block × (at.offset < shape.size)
IsInRange shape (OpenM full) = IsBlock shape full.block
IsInRange shape (OpenA full) = IsBlock shape full.block
IsInRange shape (RaiseP full) = IsBlock shape full.block

-- a head that is found is no greater than heads become
abbrev pub FindsFit : PutPhase → ℕ → Type 0
FindsFit (HeadP turn first) found = found ≤ most_block
FindsFit phase found = Unit {0}

-- the start of the block after a filled one, as a cursor's word
abbrev pub next_block : Cursor → ℕ
next_block full = (full.block + 1) * offset_span

-- the step of each phase, where these are the words of the entry in hand
abbrev pub want : Grid → PutPhase → List ℕ → Op
want shape (HeadP turn first) words = Load (index_of shape producer)
want shape (SeeA turn first head) words = Load (index_of shape (allocated (head % shape.blocks)))
want shape (AddA turn first head) words = AddOne (index_of shape (allocated (head % shape.blocks)))
want shape (Write at next) words =
    Store (index_of shape (entry (at.block % shape.blocks) at.offset next)) (slice_index words next)
want shape (Commit at) words = AddOne (index_of shape (committed (at.block % shape.blocks)))
want shape (OpenM full) words =
    Max (index_of shape (committed ((full.block + 1) % shape.blocks))) (next_block full)
want shape (OpenA full) words =
    Max (index_of shape (allocated ((full.block + 1) % shape.blocks))) (next_block full)
want shape (RaiseP full) words = Max (index_of shape producer) (full.block + 1)

-- How a queue's phases hold those of a put: to_phase makes one of them, and to_fill is where a put
-- goes on that found this block filled in its first turn.
module _ {P : Type 0} (to_phase : PutPhase → P) (to_fill : Cursor → P) where
  -- a block that was found filled: in the second turn the put answers that the cursor moved
  abbrev pub filled : ℕ → Cursor → Cursor → After P
  filled turn first found =
      if turn == 1 then Next (to_fill found)
      else Done (answer.Put (put.Busy (why.Moved first found)))

  -- what follows a step of each phase that found this
  abbrev pub after : Grid → PutPhase → ℕ → After P
  after shape (HeadP turn first) found = Next (to_phase (SeeA turn first found))
  after shape (SeeA turn first head) found =
      if nat_lt (found % offset_span) shape.size then Next (to_phase (AddA turn first head))
      else filled turn first (unpacked found)
  after shape (AddA turn first head) found =
      if nat_lt (found % offset_span) shape.size then Next (to_phase (Write (unpacked found) 0))
      else filled turn first (unpacked found)
  after shape (Write at next) found =
      if nat_lt (next + 1) shape.width then Next (to_phase (Write at (next + 1)))
      else Next (to_phase (Commit at))
  after shape (Commit at) found = Done (answer.Put (put.Ok (place_at shape at)))
  after shape (OpenM full) found = Next (to_phase (OpenA full))
  after shape (OpenA full) found = Next (to_phase (RaiseP full))
  after shape (RaiseP full) found = Next (to_phase (HeadP 2 full))

-- how many steps may follow, the one of the phase among them
abbrev pub rank : Grid → PutPhase → ℕ
rank shape (HeadP turn first) = by_turn turn (shape.width + 11) (shape.width + 4)
rank shape (SeeA turn first head) = by_turn turn (shape.width + 10) (shape.width + 3)
rank shape (AddA turn first head) = by_turn turn (shape.width + 9) (shape.width + 2)
rank shape (Write at next) = shape.width - next + 1
rank shape (Commit at) = 1
rank shape (OpenM full) = shape.width + 7
rank shape (OpenA full) = shape.width + 6
rank shape (RaiseP full) = shape.width + 5

-- and where a put has just found a block filled
abbrev pub rank_fills : Grid → ℕ
rank_fills shape = shape.width + 8

-- the cursor's word at the end of the block in whose place the one after this will lie
abbrev pub older_full : Grid → ℕ → ℕ
older_full shape block = (block + 1 - shape.blocks) * offset_span + shape.size
