use Rattle.std.proofs.Common.{sym, ap, ◌∙◌, subst}
use Rattle.call_steps.proofs.Loop.{left_falls, put_on}
use Rattle.call_steps.proofs.calls.put_step.Goals as goal

pub returns-clause-on : goal.returns-clause-on
returns-clause-on g c = λ call shape words start i.
    let t = g.P.Phase.table in
    let o = c.operate-found.ensures in
    put_on t g.P.CallPhase.drops g.U.MachineRule.rule c.calls.ensures.table c.calls.ensures.reads _ c.runs.ensures call _ _ i _ _ _ _ (sym start)
    (c.want-op.ensures.op ∙ ap (λ s. t.want s c.args.phase c.args.entry.now) (sym shape) ∙ ap (t.want call.shape c.args.phase) (sym words)) o.log o.fact o.value _
    (ap (λ s. t.after s c.args.phase c.operate-found.result) shape ∙ sym c.after.ensures)

pub returns-clause-falls : goal.returns-clause-falls
returns-clause-falls g c =
    let at = c.requires.at in
    left_falls g.P.Phase.table g.P.CallPhase.drops g.U.MachineRule.rule c.calls.ensures.table c.calls.ensures.reads _ c.runs.ensures c.args.shape.now _ _ _ (sym c.after.ensures)
    (subst (λ s. g.P.Phase.table.IsInRange s c.args.phase) at.1 at.4.at.in_range)
