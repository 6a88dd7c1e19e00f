use Rattle.std.specs.Prelude.{◌≡◌}
use Rattle.call_steps.specs.Midway.{Call, IsPutOn, steps_left}
use Rattle.call_steps.proofs.calls.put_while.Given as goal

abbrev pub invariant-loop-state : goal.invariant-loop-state
invariant-loop-state g l = (l.seat.id ≡ l.fn.seat.id) × ((c : Call _ _) → c.shape ≡ l.shape → c.words ≡ l.entry → c.start ≡ g.E.Call.start → IsPutOn g.P.Phase.table g.P.CallPhase.drops g.U.MachineRule.rule c l.fn.seat l.fn.state → IsPutOn g.P.Phase.table g.P.CallPhase.drops g.U.MachineRule.rule c l.seat l.state)

abbrev pub decreases-loop-state : goal.decreases-loop-state
decreases-loop-state g l = steps_left g.P.Phase.table l.shape l.state
