use Rattle.call_steps.specs.Midway.{IsPutOn, put_call, steps_left}
use Rattle.call_steps.proofs.calls.run_put.Given as goal

abbrev pub invariant-loop-state : goal.invariant-loop-state
invariant-loop-state g l = IsPutOn g.P.Phase.table g.P.CallPhase.drops g.U.MachineRule.rule (put_call g.P.Phase.table l.shape l.entry l.fn.seat) l.seat l.state

abbrev pub decreases-loop-state : goal.decreases-loop-state
decreases-loop-state g l = steps_left g.P.Phase.table l.shape l.state
