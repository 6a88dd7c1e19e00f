use Rattle.std.proofs.Common.{◌≡◌, length}
use Rattle.std.specs.Prelude.{All}
use Rattle.flight_view.specs.Viewers.{IsFresh}
use Rattle.flight_view.proofs.schedule.new_viewers.Given as goal

abbrev pub invariant-loop-seat : goal.invariant-loop-seat
invariant-loop-seat l = (length l.viewers.items ≡ l._seat) × All (IsFresh l.shape) l.viewers.items
