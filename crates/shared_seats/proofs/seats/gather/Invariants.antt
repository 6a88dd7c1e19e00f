use Rattle.shared_seats.specs.Seats.{Gathering}
use Rattle.shared_seats.proofs.seats.gather.Given as goal

abbrev pub invariant-loop-next : goal.invariant-loop-next
invariant-loop-next g l = Gathering (record { id = l.words.id; shape = l.words.key }) l.all l.seats.items l.fn.seats.items

abbrev pub decreases-loop-next : goal.decreases-loop-next
decreases-loop-next g l = goal.left-loop-next g l
