use Rattle.std.proofs.Common.{[], ◌∙◌, ap, subst, sym}
use Rattle.block_looks.specs.declared.look.LookAfter.TheVariants as after
use Rattle.block_looks.specs.declared.look.LookPhase.TheVariants as phase
use Rattle.flight_view.specs.Spots.{Leaves, with_load}
use Rattle.flight_view.proofs.Follows.{entry_reused}
use Rattle.flight_view.proofs.spot.saw_entry.Goals as goal

pub returns-in-Whole : goal.returns-in-Whole
returns-in-Whole c = λ view found r e. c.saw_item.ensures view found r (e ∙ ap after.Entry c.in-Whole.is)

pub returns-in-Reused : goal.returns-in-Reused
returns-in-Reused c = λ view found r e.
    subst (λ s. Leaves c.args.shape.now [] (with_load c.args.shape.now (phase.Check c.args.at) found s view) c.passed.result.next) (sym c.passed.ensures.shown)
    (c.passed.ensures.next c.args.shape.now _ (entry_reused c.args.shape.now c.args.spot.now c.args.at c.args.read.now view r found c.in-Reused.now (e ∙ ap after.Entry c.in-Reused.is)))
