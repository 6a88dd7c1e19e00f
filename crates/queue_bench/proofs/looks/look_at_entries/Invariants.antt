use Rattle.std.proofs.Common.{◌≡◌, Some}
use Rattle.cursor_word.specs.Cursor.{cursor}
use Rattle.call_steps.specs.Queue.{IsSeatOf}
use Rattle.queue_bench.proofs.looks.look_at_entries.Given as goal

abbrev pub invariant-loop-offset : goal.invariant-loop-offset
invariant-loop-offset l = IsSeatOf l.queue l.seat
    × (l.seat.memory.looking ≡ Some (cursor l.block l.count))
