use Rattle.std.proofs.Common.{◌∙◌, arith, length}
use Rattle.std.proofs.lemmas.Slice.{between_to_end}
use Rattle.flow_io.proofs.Parts.{gained_more}
use Rattle.flow_io.proofs.writing.write_all.Goals as goal

pub loop-done-preserved : goal.loop-done-preserved
loop-done-preserved g c =
    let inv = c.loop-done.invariant in
    let gives = c.in-Took.ensures.gives in
    record {
      within = omega (arith, gives.1);
      quiet = gives.3 ∙ inv.quiet;
      ready = c.write.ensures.ready;
      beside = cc (c.write.ensures.beside, inv.beside);
      told = gained_more _ _ _ c.args.bytes.now _ c.loop-done.done c.in-Took.count inv.told (between_to_end c.args.bytes.now c.loop-done.done (length c.args.bytes.now) (omega arith)) gives.2;
    }
