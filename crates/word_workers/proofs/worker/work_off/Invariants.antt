use Rattle.std.proofs.Common.{◌≡◌, ◌+◌, ◌-◌, ◌<◌, [], length, true, false}
use Rattle.std.specs.List.{All}
use Rattle.rail.specs.Items.{IsRising}
use Rattle.span_recorder.specs.Gain.{GainAlike}
use Rattle.word_workers.proofs.Ranges.{IsCountOf}
use Rattle.word_workers.proofs.Works.{IsCounting}
use Rattle.word_workers.proofs.worker.work_off.Given as goal

abbrev pub invariant-loop-number : goal.invariant-loop-number
invariant-loop-number g l = record {
  of : l.claim_seat.of ≡ l.fn.claim_seat.of;
  running : l.claim_seat.ended ≡ false;
  unstopped : l.claim_seat.stopped ≡ false;
  drawn : l.counting.done.drawn ≡ l.claim_seat.drawn;
  rising : IsRising l.counting.done.drawn;
  below : All (λ n. n < length l.shared.plan.now) l.counting.done.drawn;
  count : IsCountOf l.shared.plan.now l.shared.texts.now l.counting.done.drawn l.counting.done.counts l.counting.words;
  counting : IsCounting l.shared.plan.now l.shared.texts.now l.worker (g.H.Hand.ticks l.fn.own.hand) (g.H.Hand.ticks l.counting.hand) l.first l.counting.done.drawn (g.R.Rail.made l.fn.own.seat) (g.R.Rail.made l.counting.done.seat);
  made : length (g.R.Rail.made l.counting.done.seat) ≡ length (g.R.Rail.made l.fn.own.seat) + length l.counting.done.drawn;
  taken : GainAlike (g.R.Rail.taken l.fn.own.seat) (g.R.Rail.taken l.counting.done.seat) [] l.counting.done.batch.items;
  drops : g.R.Rail.DROPS ≡ true → g.R.Rail.taken l.counting.done.seat ≡ g.R.Rail.taken l.fn.own.seat;
  puts : (q : _) → g.R.Rail.PutsInto q l.fn.own.seat → g.R.Rail.PutsInto q l.counting.done.seat;
  takes : (q : _) → g.R.Rail.TakesFrom q l.fn.own.seat → g.R.Rail.TakesFrom q l.counting.done.seat;
  number : g.R.Rail.number_of l.counting.done.seat ≡ g.R.Rail.number_of l.fn.own.seat;
}

abbrev pub decreases-loop-number : goal.decreases-loop-number
decreases-loop-number g l = length l.shared.plan.now - length l.counting.done.drawn
