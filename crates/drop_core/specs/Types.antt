-- The machine's states, at the phases of this queue.
use Rattle.drop_core.specs.declared.phase.DropPhase.{DropPhase}
use Rattle.machine.specs.declared.view.View as view
use Rattle.machine.specs.declared.op.After as op
use Rattle.machine.specs.Moments as moments
use Rattle.machine.specs.Steps as steps

abbrev pub View : Type 0
View = view.View DropPhase

abbrev pub After : Type 0
After = op.After DropPhase

abbrev pub CallStep : Type 0
CallStep = moments.CallStep DropPhase

abbrev pub MachineState : Type 0
MachineState = steps.MachineState DropPhase
