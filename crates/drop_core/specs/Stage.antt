-- Where a put stands: the shared steps, and those with which this queue looks at the older block.
use Rattle.put_side.specs.Stages.{PutStage, Away, At, Fills}
use Rattle.drop_core.specs.declared.phase.DropPhase.{DropPhase}
use Rattle.drop_core.specs.declared.phase.DropPhase.TheVariants.{Put, SeeM, Take}

abbrev pub stage : DropPhase → PutStage
stage (Put q) = At q
stage (SeeM full) = Fills full
stage (Take q) = Away
