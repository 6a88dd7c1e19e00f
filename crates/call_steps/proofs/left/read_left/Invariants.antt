use Rattle.std.specs.Prelude.{◌≡◌, ◌+◌, ◌≤◌, ◌++◌}
use Rattle.machine.specs.Entries.{left_in}
use Rattle.call_steps.proofs.left.read_left.Given as goal

abbrev pub invariant-loop-place : goal.invariant-loop-place
invariant-loop-place l = (l.left.items ≡ l.initial.left.items ++ left_in l.shape l.stopped l.from l.place) × (l.from + l.count ≤ l.place + l.left.spare)
