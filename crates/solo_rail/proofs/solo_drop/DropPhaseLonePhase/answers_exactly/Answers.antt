use Rattle.solo_rail.proofs.DropAlone.{drop_exactly}
use Rattle.solo_rail.proofs.solo_drop.DropPhaseLonePhase.answers_exactly.Goals as goal

pub returns : goal.returns
returns c = drop_exactly
