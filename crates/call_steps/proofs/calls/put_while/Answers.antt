use Rattle.std.proofs.Common.{◌∙◌, subst}
use Rattle.call_steps.specs.Midway.{IsPutOn}
use Rattle.call_steps.proofs.Loop.{put_at}
use Rattle.call_steps.proofs.calls.put_while.Goals as goal

pub put_step-state-requires-clause-at : goal.put_step-state-requires-clause-at
put_step-state-requires-clause-at g c = let on = c.requires.on in
    (on.0, on.1, on.2, on.3, put_at g.P.Phase.table g.P.CallPhase.drops g.U.MachineRule.rule on.0 _ _ _ c.in-Next.is (c.loop-state.invariant.1 on.0 on.1 on.2 on.3 on.4))

pub loop-state-preserved : goal.loop-state-preserved
loop-state-preserved g c = let e = c.put_step-state.ensures in
    (e.same ∙ c.loop-state.invariant.0, λ call shape words start on. e.on call shape words start (put_at g.P.Phase.table g.P.CallPhase.drops g.U.MachineRule.rule call _ _ _ c.in-Next.is (c.loop-state.invariant.1 call shape words start on)))

pub returns-in-Done-clause-on : goal.returns-in-Done-clause-on
returns-in-Done-clause-on g c = λ call shape words start on. subst (IsPutOn g.P.Phase.table g.P.CallPhase.drops g.U.MachineRule.rule call c.loop-state.seat) c.in-Done.is (c.loop-state.invariant.1 call shape words start on)

pub returns-then-not-is_of_kind-clause-on : goal.returns-then-not-is_of_kind-clause-on
returns-then-not-is_of_kind-clause-on g c = λ call shape words start on. subst (IsPutOn g.P.Phase.table g.P.CallPhase.drops g.U.MachineRule.rule call c.loop-state.seat) c.in-Next.is (c.loop-state.invariant.1 call shape words start on)
