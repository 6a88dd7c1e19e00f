use Rattle.std.proofs.Common.{◌≡◌}
use Rattle.machine.specs.Steps.{goes, run}
use Rattle.machine.proofs.state.State.finish.Given as goal

abbrev pub invariant-loop-step : goal.invariant-loop-step
invariant-loop-step g l = l.self ≡ record { shape = l.fn.self.shape; state = run g.P.Phase.table l.fn.self.shape l.fn.self.state (goes l.fn.seat l._step) }
