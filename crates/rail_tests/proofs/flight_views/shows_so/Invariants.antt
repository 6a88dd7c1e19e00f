use Rattle.std.proofs.Common.{◌≡◌}
use Rattle.rail_tests.proofs.flight_views.shows_so.Given as goal

abbrev pub invariant-loop-place : goal.invariant-loop-place
invariant-loop-place g l = (l.seat.of ≡ l.fn.seat.of) × (l.seat.number ≡ l.fn.seat.number)
