use Rattle.std.proofs.Common.{ap, ◌∙◌, ◌+◌}
use Rattle.span_recorder.proofs.Gains.{longer_by_one}
use Rattle.profile_tests.proofs.recorder.noted.Goals as goal

pub loop-piece-preserved : goal.loop-piece-preserved
loop-piece-preserved g c =
    let i = c.loop-piece.invariant in
    record {
      puts = c.note_span.ensures.puts c.args.rail.now i.puts;
      takes = c.note_span.ensures.takes c.args.rail.now i.takes;
      number = c.note_span.ensures.number ∙ i.number;
      made = longer_by_one _ _ _ c.in_ok-note_span.ensures.made ∙ ap (λ n. n + 1) i.made;
    }
