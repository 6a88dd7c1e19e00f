use Rattle.std.proofs.Common.{◌≡◌}
use Rattle.rail_tests.proofs.flight_views.put_often.Given as goal

abbrev pub invariant-loop-turn : goal.invariant-loop-turn
invariant-loop-turn l = (l.seat.of ≡ l.fn.seat.of) × (l.seat.number ≡ l.fn.seat.number)
