use Rattle.std.specs.Prelude.{◌≡◌}
use Rattle.call_steps.specs.Midway.{Call, IsTakeOn, steps_left}
use Rattle.call_steps.proofs.calls.take_while.Given as goal

abbrev pub invariant-loop-state : goal.invariant-loop-state
invariant-loop-state g l = (l.seat.id ≡ l.fn.seat.id) × ((c : Call _ _) → c.shape ≡ l.shape → c.start ≡ g.E.Call.start → IsTakeOn g.P.Phase.table g.P.CallPhase.drops g.U.MachineRule.rule c l.fn.seat l.fn.out l.fn.state → IsTakeOn g.P.Phase.table g.P.CallPhase.drops g.U.MachineRule.rule c l.seat l.out l.state)

abbrev pub decreases-loop-state : goal.decreases-loop-state
decreases-loop-state g l = steps_left g.P.Phase.table l.shape l.state
