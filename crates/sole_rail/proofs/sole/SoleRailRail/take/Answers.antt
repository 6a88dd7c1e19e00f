use Rattle.sole_rail.proofs.Takings.{took_unmoved}
use Rattle.sole_rail.proofs.sole.SoleRailRail.take.Goals as goal

pub returns-clause-unmoved : goal.returns-clause-unmoved
returns-clause-unmoved c = let s = c.take.ensures.steps in took_unmoved c.self.inside.queue.shape _ _ _ s.0 _ c.sole_take_at.ensures s.1.leads
