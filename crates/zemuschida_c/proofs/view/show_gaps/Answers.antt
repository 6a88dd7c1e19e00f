use Rattle.std.proofs.Common.{◌+◌, ◌∙◌, arith, rules}
use Rattle.std.proofs.lemmas.Grind.{drop_more_same}
use Rattle.std.proofs.lemmas.List.{drop-set-lt}
use Rattle.zemuschida_c.specs.Viewed.{gap_of}
use Rattle.zemuschida_c.proofs.Filling.{filled_on}
use Rattle.zemuschida_c.proofs.view.show_gaps.Goals as goal

pub loop-index-preserved : goal.loop-index-preserved
loop-index-preserved c = let i = c.loop-index.invariant in
    let within = c.loop-index-test.true in
    let count = c.len-index-end.ensures in
    let room = c.requires in
    let long = c.loop-index.auto.gaps in
    record {
      long = search rules;
      front = filled_on gap_of c.args.found.now c.loop-index.gaps c.loop-index.index c.in-Some.gap.now c.show_gap.result c.in-Some.ensures.some c.show_gap.ensures (omega arith) (omega arith) i.front;
      back = drop-set-lt (c.loop-index.index + 1) c.loop-index.gaps c.loop-index.index c.show_gap.result (omega arith) ∙ drop_more_same c.loop-index.gaps c.args.gaps.now c.loop-index.index i.back;
    }
