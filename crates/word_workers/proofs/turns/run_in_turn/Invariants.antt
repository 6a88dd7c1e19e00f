use Rattle.std.proofs.Common.{◌≡◌, ◌+◌, ◌*◌, ◌≤◌, length, true}
use Rattle.std.specs.Prelude.{flat_map}
use Rattle.std.specs.List.{All}
use Rattle.claim_table.specs.Claimed.{IsFresh}
use Rattle.rail.specs.Items.{IsRising, places}
use Rattle.word_workers.specs.Parts.{Counted, HasRun}
use Rattle.word_workers.proofs.turns.run_in_turn.Given as goal

abbrev pub invariant-loop-worker : goal.invariant-loop-worker
invariant-loop-worker g l = record {
  run : HasRun l.shared.plan.now l.shared.texts.now (g.C.Clock.ticks l.clock) l.worker l.parts.drawn.items (g.R.Rail.made l.seat);
  parts : Counted l.shared.plan.now l.shared.texts.now l.shared.claim.now l.parts.counts.items l.parts.drawn.items l.parts.claim_seats.items;
  rising : IsRising (places (g.R.Rail.made l.seat));
  made : length (g.R.Rail.made l.seat) ≤ l.worker * 1048577;
  batches : flat_map (λ b. b.items) l.parts.batches.items ≡ g.R.Rail.taken l.seat;
  drops : g.R.Rail.DROPS ≡ true → g.R.Rail.taken l.seat ≡ g.R.Rail.taken l.initial.seat;
  puts : (q : _) → g.R.Rail.PutsInto q l.initial.seat → g.R.Rail.PutsInto q l.seat;
  takes : (q : _) → g.R.Rail.TakesFrom q l.initial.seat → g.R.Rail.TakesFrom q l.seat;
  number : g.R.Rail.number_of l.seat ≡ g.R.Rail.number_of l.initial.seat;
  left : length l.claim_seats.items + l.worker ≡ l.workers + 1;
  fresh : All (IsFresh l.shared.claim.now) l.claim_seats.items;
}
