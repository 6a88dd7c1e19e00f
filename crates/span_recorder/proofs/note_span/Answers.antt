use Rattle.std.proofs.Common.{◌∙◌, ap, rules}
use Rattle.rail.specs.Batch.{Gathered}
use Rattle.span_recorder.proofs.Gains.{gain_moved, gain_twice}
use Rattle.span_recorder.proofs.note_span.Goals.{in-None, in-Some+in_ok-put_or_take+in-Ok}
use Rattle.span_recorder.proofs.note_span.Goals as goal

pub loop-preserved-in-Busy : goal.loop-preserved-in-Busy
loop-preserved-in-Busy g c =
    let i = c.loop.invariant in
    let next = c.put_or_take.ensures in
    record {
      puts = λ q h. next.puts q (i.puts q h);
      takes = λ q h. next.takes q (i.takes q h);
      number = next.number ∙ i.number;
      made = search rules;
      taken = gain_twice _ _ _ _ _ _ i.taken next.taken;
      drops = λ d. ((next.drops d).1 ∙ (i.drops d).0, (next.drops d).2 ∙ (i.drops d).1);
    }

pub loop-preserved : goal.loop-preserved
loop-preserved g c =
    let i = c.loop.invariant in
    let next = c.put_or_take.ensures in
    record {
      puts = λ q h. next.puts q (i.puts q h);
      takes = λ q h. next.takes q (i.takes q h);
      number = next.number ∙ i.number;
      made = search rules;
      taken = gain_twice _ _ _ _ _ _ i.taken next.taken;
      drops = λ d. ((next.drops d).1 ∙ (i.drops d).0, (next.drops d).2 ∙ (i.drops d).1);
    }

pub returns-in_err-put_or_take-clause-taken : goal.returns-in_err-put_or_take-clause-taken
returns-in_err-put_or_take-clause-taken g c = gain_twice _ _ _ _ _ _ c.loop.invariant.taken c.put_or_take.ensures.taken

pub returns-clause-taken : goal.returns-clause-taken
returns-clause-taken g c =
    elim c.match-next.branch [
      | in-None w ↦ gain_moved g.R.Rail.taken _ _ _ _ _ _ w.seat-is (ap (λ (b : Gathered). b.items) w.batch-is) c.loop.invariant.taken
      | in-Some+in_ok-put_or_take+in-Ok w ↦ gain_moved g.R.Rail.taken _ _ _ _ _ _ w.seat-is (ap (λ (b : Gathered). b.items) w.batch-is) (gain_twice _ _ _ _ _ _ c.loop.invariant.taken w.put_or_take.ensures.taken)
    ]
