use Rattle.std.proofs.Common.{◌∙◌, ap}
use Rattle.solo_rail.proofs.Stops.{stopped_seen}
use Rattle.solo_rail.proofs.queue.SoloQueue.stop.Goals as goal

pub returns-clause-stopped : goal.returns-clause-stopped
returns-clause-stopped g c = stopped_seen g.P.Phase.table g.P.Phase.Holds g.P.LonePhase.lone c.answers_exactly.ensures _ _ _ _ _ _ _ c.seat.view_is c.seat.invariant.0 (c.self.invariant.0 ∙ ap (λ q. q.shape) c.self.view_is) c.close.ensures.rule
