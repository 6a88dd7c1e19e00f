-- Where a put stands in each phase: in a shared one, or in one in which this queue looks at the
-- older block.
use Rattle.put_side.specs.Stages.{PutStage, Away, At, Fills}
use Rattle.put_side.specs.PutTable as puts
use Rattle.bbq_core.specs.declared.phase.Phase.{Phase}
use Rattle.bbq_core.specs.declared.phase.Phase.TheVariants.{Put, SeeX, SeeR, Take}
use Rattle.bbq_core.specs.Types.{View}

abbrev pub stage : Phase → PutStage
stage (Put phase) = At phase
stage (SeeX full) = Fills full
stage (SeeR full x) = Fills full
stage (Take q) = Away

abbrev pub stage_of : View → PutStage
stage_of view = puts.stage_of stage view
