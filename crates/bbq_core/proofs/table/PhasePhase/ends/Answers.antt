use Rattle.bbq_core.proofs.StepBound.{ranked}
use Rattle.bbq_core.proofs.table.PhasePhase.ends.Goals as goal

pub returns : goal.returns
returns c = ranked
