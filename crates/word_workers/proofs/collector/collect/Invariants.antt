use Rattle.std.proofs.Common.{◌≡◌, []}
use Rattle.span_recorder.specs.Gain.{GainAlike}
use Rattle.word_workers.proofs.collector.collect.Given as goal

abbrev pub invariant-loop : goal.invariant-loop
invariant-loop g l = record {
  taken : GainAlike (g.R.Rail.taken l.fn.seat) (g.R.Rail.taken l.done.seat) [] l.done.batch.items;
  made : g.R.Rail.made l.done.seat ≡ g.R.Rail.made l.fn.seat;
  puts : (q : _) → g.R.Rail.PutsInto q l.fn.seat → g.R.Rail.PutsInto q l.done.seat;
  takes : (q : _) → g.R.Rail.TakesFrom q l.fn.seat → g.R.Rail.TakesFrom q l.done.seat;
  number : g.R.Rail.number_of l.done.seat ≡ g.R.Rail.number_of l.fn.seat;
  claim : l.done.claim_seat.of ≡ l.fn.claim_seat.of;
  drawn : l.done.claim_seat.drawn ≡ l.fn.claim_seat.drawn;
}
