use Rattle.std.proofs.Common.{◌≡◌, ◌++◌, ◌≤◌, length, map}
use Rattle.std.specs.List.{All}
use Rattle.std.specs.Vec.Iter.{into_iter_items, into_iter_len}
use Rattle.claim_table.specs.Claimed.{IsFresh}
use Rattle.word_workers.specs.Child.{AreChildren, seat_of}
use Rattle.word_workers.proofs.beside.begin_all.Given as goal

abbrev pub invariant-loop-seat : goal.invariant-loop-seat
invariant-loop-seat g l = record {
  yields : l.yielded ++ into_iter_items l.seat-iterator ≡ l.fn.seats.queue.items;
  len : into_iter_len l.seat-iterator ≡ length (into_iter_items l.seat-iterator);
  are : AreChildren g.R.Rail.made g.R.Rail.taken g.R.Rail.number_of g.R.Rail.PutsInto g.R.Rail.TakesFrom g.R.Rail.DROPS g.C.Hand.Hand.ticks l.shared.plan.now l.shared.texts.now (g.C.Clock.ticks l.clock) l.shared.claim.now 0 l.children.items;
  seats : map seat_of l.children.items ≡ l.yielded;
  enough : length (into_iter_items l.seat-iterator) ≤ length l.claim_seats.items;
  fresh : All (IsFresh l.shared.claim.now) l.claim_seats.items;
}
