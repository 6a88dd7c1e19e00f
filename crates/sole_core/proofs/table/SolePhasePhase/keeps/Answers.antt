use Rattle.sole_core.proofs.Keeping.{keeps}
use Rattle.sole_core.proofs.table.SolePhasePhase.keeps.Goals as goal

pub returns : goal.returns
returns c = keeps
