use Rattle.std.proofs.Common.{ap}
use Rattle.shared_seats.proofs.Held.{gathers}
use Rattle.shared_seats.proofs.Gathered.{begins, goes_on}
use Rattle.shared_seats.proofs.seats.gather.Goals as goal

pub loop-next-init : goal.loop-next-init
loop-next-init g c = begins _ _ _ _ c.into_seat-all.ensures.id c.into_seat-all.ensures.view c.into_seat-all.ensures.rest _ c.in-Some.ensures.items c.requires.own

pub join-requires-clause-rule : goal.join-requires-clause-rule
join-requires-clause-rule g c = gathers g.P.Phase.table g.P.Phase.Holds g.M.Memory.Knows _ _ _ c.loop-next.invariant.some_seats

pub loop-next-preserved : goal.loop-next-preserved
loop-next-preserved g c = goes_on _ _ _ c.into_seat-seat.result c.into_seat-seat.ensures.id c.into_seat-seat.ensures.view c.into_seat-seat.ensures.rest c.loop-next.all c.join.new.seat _ _ c.loop-next.invariant c.in-Some-pop.ensures.items (ap (λ s. s.id) c.join.ensures.taken) (ap (λ s. s.view) c.join.ensures.taken)
