use Rattle.drop_core.proofs.CallTable.{ranked}
use Rattle.drop_core.proofs.table.DropPhasePhase.ends.Goals as goal

pub returns : goal.returns
returns c = ranked
