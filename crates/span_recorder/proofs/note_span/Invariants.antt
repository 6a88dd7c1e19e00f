use Rattle.std.proofs.Common.{◌≡◌, true}
use Rattle.span_recorder.specs.Gain.{GainAlike}
use Rattle.span_recorder.proofs.note_span.Given as goal

abbrev pub invariant-loop : goal.invariant-loop
invariant-loop g l = record {
  puts : (q : _) → g.R.Rail.PutsInto q l.fn.seat → g.R.Rail.PutsInto q l.seat;
  takes : (q : _) → g.R.Rail.TakesFrom q l.fn.seat → g.R.Rail.TakesFrom q l.seat;
  number : g.R.Rail.number_of l.seat ≡ g.R.Rail.number_of l.fn.seat;
  made : g.R.Rail.made l.seat ≡ g.R.Rail.made l.fn.seat;
  taken : GainAlike (g.R.Rail.taken l.fn.seat) (g.R.Rail.taken l.seat) l.fn.batch.items l.batch.items;
  drops : g.R.Rail.DROPS ≡ true → (g.R.Rail.taken l.seat ≡ g.R.Rail.taken l.fn.seat) × (l.batch.items ≡ l.fn.batch.items);
}
