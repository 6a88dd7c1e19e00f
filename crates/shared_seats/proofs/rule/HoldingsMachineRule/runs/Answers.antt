use Rattle.shared_seats.proofs.Stepped.{held_runs}
use Rattle.shared_seats.proofs.rule.HoldingsMachineRule.runs.Goals as goal

pub returns : goal.returns
returns g c = held_runs g.P.Phase.table g.P.Phase.Holds g.M.Memory.Knows g.M.Memory.none g.P.CallPhase.drops c.lasts.ensures c.keeps.ensures c.calls.ensures.table c.calls.ensures.reads c.calls.ensures.promises
