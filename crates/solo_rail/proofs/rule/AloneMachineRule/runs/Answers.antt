use Rattle.solo_rail.proofs.Kept.{alone_runs}
use Rattle.solo_rail.proofs.rule.AloneMachineRule.runs.Goals as goal

pub returns : goal.returns
returns g c = alone_runs g.P.Phase.table g.P.Phase.Holds g.P.CallPhase.drops g.P.LonePhase.lone c.keeps.ensures c.calls.ensures.table c.calls.ensures.reads c.calls.ensures.promises c.answers_exactly.ensures
