use Rattle.std.proofs.Common.{[], subst, sym}
use Rattle.block_looks.specs.declared.look.LookPhase.TheVariants as phase
use Rattle.block_looks.specs.declared.look.LookAfter.TheVariants as after
use Rattle.block_looks.specs.Shown.{LookLeads}
use Rattle.flight_view.specs.Spots.{IsFit, Leaves, with_look}
use Rattle.flight_view.proofs.Follows.{block_gap, block_unopened}
use Rattle.flight_view.proofs.spot.saw_block.Goals as goal

pub returns-in-Unopened : goal.returns-in-Unopened
returns-in-Unopened c = λ shape view found limits fit p leads.
    block_unopened shape c.args.spot.now.end c.args.block found c.in-Unopened.committed view p c.requires.within (subst (λ l. LookLeads shape (after.Next (phase.Com c.args.block)) found (after.Block l)) c.in-Unopened.is leads)

pub returns-in-Gap : goal.returns-in-Gap
returns-in-Gap c = λ shape view found limits fit p leads.
    subst (λ s. Leaves shape [] (with_look shape c.args.block found s view) c.passed.result.next) (sym c.passed.ensures.shown)
    (c.passed.ensures.next shape _ (block_gap shape c.args.spot.now.end c.args.block found c.in-Gap.committed c.in-Gap.allocated view p c.requires.within (subst (λ l. LookLeads shape (after.Next (phase.Com c.args.block)) found (after.Block l)) c.in-Gap.is leads)))

pub returns-in-Whole : goal.returns-in-Whole
returns-in-Whole c = λ shape view found limits fit p leads.
    c.counted.ensures shape view found c.in-Whole.allocated limits (subst (IsFit shape) c.in-Whole.is fit) p (subst (λ l. LookLeads shape (after.Next (phase.Com c.args.block)) found (after.Block l)) c.in-Whole.is leads)
