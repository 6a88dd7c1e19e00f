use Rattle.std.proofs.Common.{◌≡◌, ◌-◌, ◌^◌, length, min, take}
use Rattle.shared_seats.specs.Seats.{made_by_all, taken_by_all}
use Rattle.shared_seats.proofs.seats.totals.Given as goal

abbrev pub invariant-loop-index : goal.invariant-loop-index
invariant-loop-index g l = record {
  puts : l.puts ≡ min (length (made_by_all (take l.index l.seats))) (2 ^ 64 - 1);
  takes : l.takes ≡ min (length (taken_by_all (take l.index l.seats))) (2 ^ 64 - 1);
}
