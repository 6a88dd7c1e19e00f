use Rattle.std.specs.Prelude.{◌≡◌, ◌+◌, ◌≤◌, ◌++◌}
use Rattle.call_laws.specs.Left.{unreserved_in}
use Rattle.call_steps.proofs.left.read_unreserved.Given as goal

abbrev pub invariant-loop-place : goal.invariant-loop-place
invariant-loop-place l = (l.left.items ≡ l.initial.left.items ++ unreserved_in l.shape l.stopped l.from l.place) × (l.from + l.count ≤ l.place + l.left.spare)
