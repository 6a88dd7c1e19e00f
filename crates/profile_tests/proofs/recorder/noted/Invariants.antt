use Rattle.std.proofs.Common.{◌≡◌, length}
use Rattle.profile_tests.proofs.recorder.noted.Given as goal

abbrev pub invariant-loop-piece : goal.invariant-loop-piece
invariant-loop-piece g l = record {
  puts : g.R.Rail.PutsInto l.rail l.seat;
  takes : g.R.Rail.TakesFrom l.rail l.seat;
  number : g.R.Rail.number_of l.seat ≡ g.R.Rail.number_of l.initial.seat;
  made : length (g.R.Rail.made l.seat) ≡ l.piece;
}
