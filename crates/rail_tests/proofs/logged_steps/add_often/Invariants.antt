use Rattle.std.proofs.Common.{◌≡◌}
use Rattle.rail_tests.proofs.logged_steps.add_often.Given as goal

abbrev pub invariant-loop-turn : goal.invariant-loop-turn
invariant-loop-turn l = l.seat.id ≡ l.words.id
