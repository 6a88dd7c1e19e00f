use Rattle.std.proofs.Common.{◌≡◌, ◌++◌, Some, length, map}
use Rattle.std.specs.Arc.{arc_value}
use Rattle.std.specs.List.{AllByRecursion}
use Rattle.std.specs.Vec.Iter.{into_iter_items, into_iter_len}
use Rattle.zemuschida_c.proofs.making.seat_all.Given as goal

-- the handles so far, and those of the seats that are left, are all
abbrev pub invariant-loop-seat : goal.invariant-loop-seat
invariant-loop-seat g l = let own = λ (seat : g.row.H-Queue-Seat.Denot). Some (g.H.Seating.own (arc_value l.rail) seat) in record {
  len : into_iter_len l.seat-iterator ≡ length (into_iter_items l.seat-iterator);
  may : AllByRecursion (g.H.Seating.MayHave (arc_value l.rail)) (into_iter_items l.seat-iterator);
  all : map g.H.SeatHandle.value l.all.items ++ map own (into_iter_items l.seat-iterator) ≡ map own l.fn.seats.items;
}
