use Rattle.std.proofs.Common.{[]}
use Rattle.flight_view.specs.Parts.{midway}
use Rattle.flight_view.proofs.Entries.{AreRead}
use Rattle.flight_view.proofs.walking.view_entries.Given as goal

abbrev pub invariant-loop-offset : goal.invariant-loop-offset
invariant-loop-offset l = AreRead l.rail.shape l.counted (midway l.fn.seat l.fn.items.items []) (midway l.seat l.items.items []) l.offset
