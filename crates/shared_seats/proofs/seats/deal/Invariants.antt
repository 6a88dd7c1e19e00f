use Rattle.std.proofs.Common.{◌≡◌, ◌+◌, ◌-◌, All, map}
use Rattle.rail.specs.Outcome.{numbers_below}
use Rattle.shared_seats.specs.Holding.{fresh_seats}
use Rattle.call_steps.specs.Queue.{IsFresh}
use Rattle.shared_seats.proofs.seats.deal.Given as goal

abbrev pub invariant-loop-number : goal.invariant-loop-number
invariant-loop-number g l = record {
  last : l.last + 1 ≡ l.shape.seats;
  same : l.first.id ≡ l.words.id;
  view : l.first.view ≡ fresh_seats _ g.M.Memory.none l.shape l.number (l.shape.seats - l.number);
  numbers : map (λ s. s.number) l.seats.items ≡ numbers_below l.number;
  fresh : All (IsFresh (record { id = l.words.id; shape = l.shape })) l.seats.items;
  memories : All (λ s. s.memory ≡ g.M.Memory.none) l.seats.items;
}
