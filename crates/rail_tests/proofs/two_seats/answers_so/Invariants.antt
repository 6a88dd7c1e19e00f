use Rattle.std.proofs.Common.{◌≡◌, ◌<◌, map, length}
use Rattle.std.specs.Prelude.{IsPermutation}
use Rattle.std.specs.List.{All}
use Rattle.rail.specs.Outcome.{numbers_below}
use Rattle.rail_tests.proofs.two_seats.answers_so.Given as goal

abbrev pub invariant-loop-word : goal.invariant-loop-word
invariant-loop-word g l = let m = g.Q.Rail in record {
  puts : All (m.PutsInto l.queue) l.seats.items;
  takes : All (m.TakesFrom l.queue) l.seats.items;
  all : IsPermutation (map m.number_of l.seats.items) (numbers_below (m.shape_of l.queue).seats);
  some : 0 < length l.seats.items;
}
