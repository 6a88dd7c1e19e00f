use Rattle.drop_rail.proofs.Entries.{ReadsEntry}
use Rattle.drop_rail.proofs.drop.DropRail.look_entry.Given as goal

abbrev pub invariant-loop-next : goal.invariant-loop-next
invariant-loop-next l = ReadsEntry l.shape l.fn.seat l.seat l.at l.next l.out
