-- The stage of a put in each phase: the shared ones, and the one in which this queue looks at the
-- older block.
use Rattle.sole_core.specs.declared.phase.SolePhase.{SolePhase}
use Rattle.sole_core.specs.declared.phase.SolePhase.TheVariants.{Put, SeeX, Take}
use Rattle.put_side.specs.Stages.{PutStage, Away, At, Fills}
use Rattle.put_side.specs.PutTable as puts
use Rattle.sole_core.specs.Types.{View}

abbrev pub stage : SolePhase → PutStage
stage (Put phase) = At phase
stage (SeeX full) = Fills full
stage (Take q) = Away

abbrev pub stage_of : View → PutStage
stage_of view = puts.stage_of stage view
