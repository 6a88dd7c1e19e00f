-- The machine's states, at the phases of this queue.
use Rattle.sole_core.specs.declared.phase.SolePhase.{SolePhase}
use Rattle.machine.specs.declared.view.View as view
use Rattle.machine.specs.declared.op.After as op
use Rattle.machine.specs.Steps as steps
use Rattle.machine.specs.Moments as moments

abbrev pub View : Type 0
View = view.View SolePhase

abbrev pub After : Type 0
After = op.After SolePhase

abbrev pub MachineState : Type 0
MachineState = steps.MachineState SolePhase

abbrev pub ShapedState : Type 0
ShapedState = steps.ShapedState SolePhase

abbrev pub CallStep : Type 0
CallStep = moments.CallStep SolePhase
