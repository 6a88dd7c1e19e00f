use Rattle.std.proofs.Common.{◌≡◌}
use Rattle.rail_tests.proofs.flight_views.view_often.Given as goal

abbrev pub invariant-loop-view : goal.invariant-loop-view
invariant-loop-view l = (l.seat.of ≡ l.fn.seat.of) × (l.seat.number ≡ l.fn.seat.number)
