use Rattle.std.proofs.Common.{sym, ap, ◌∙◌, subst}
use Rattle.call_steps.proofs.Loop.{left_falls, take_on}
use Rattle.call_steps.proofs.calls.take_step.Goals as goal

pub returns-clause-on : goal.returns-clause-on
returns-clause-on g c = λ call shape start i.
    let t = g.P.Phase.table in
    let o = c.operate-found.ensures in
    take_on t g.P.CallPhase.drops g.U.MachineRule.rule c.calls.ensures.table c.calls.ensures.reads _ c.runs.ensures call _ _ _ i _ _ _ _ _ (sym start)
    (c.want-op.ensures.op ∙ ap (λ s. t.want s c.args.phase c.args.out.now) (sym shape)) o.log o.fact o.value c.keep_read.ensures _
    (ap (λ s. t.after s c.args.phase c.operate-found.result) shape ∙ sym c.after.ensures)

pub returns-clause-falls : goal.returns-clause-falls
returns-clause-falls g c =
    let at = c.requires.at in
    left_falls g.P.Phase.table g.P.CallPhase.drops g.U.MachineRule.rule c.calls.ensures.table c.calls.ensures.reads _ c.runs.ensures c.args.shape.now _ _ _ (sym c.after.ensures)
    (subst (λ s. g.P.Phase.table.IsInRange s c.args.phase) at.1 at.3.at.in_range)
