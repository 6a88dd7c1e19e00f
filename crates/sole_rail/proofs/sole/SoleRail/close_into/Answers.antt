use Rattle.sole_rail.proofs.Settles.{settles}
use Rattle.sole_rail.proofs.sole.SoleRail.close_into.Goals as goal

pub close_into-requires-clause-settles : goal.close_into-requires-clause-settles
close_into-requires-clause-settles c = settles
