use Rattle.call_steps.specs.Midway.{IsTakeOn, steps_left, take_call}
use Rattle.call_steps.proofs.calls.run_take.Given as goal

abbrev pub invariant-loop-state : goal.invariant-loop-state
invariant-loop-state g l = IsTakeOn g.P.Phase.table g.P.CallPhase.drops g.U.MachineRule.rule (take_call g.P.Phase.table g.U.MachineRule.rule l.shape l.fn.out l.fn.seat) l.seat l.out l.state

abbrev pub decreases-loop-state : goal.decreases-loop-state
decreases-loop-state g l = steps_left g.P.Phase.table l.shape l.state
