use Rattle.std.proofs.Common.{[]}
use Rattle.flight_view.specs.Parts.{midway}
use Rattle.flight_view.proofs.Walked.{HavePassed}
use Rattle.flight_view.proofs.walking.flight_view.Given as goal

abbrev pub invariant-loop-block : goal.invariant-loop-block
invariant-loop-block l = HavePassed l.rail.shape l.initial.block l.block (midway l.initial.seat [] []) (midway l.seat l.items.items l.gaps.items)
