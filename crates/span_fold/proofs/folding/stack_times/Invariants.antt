use Rattle.std.proofs.Common.{◌≡◌, ℕ, ◌*◌, ◌≤◌, take, sum_by, unwrap_or}
use Rattle.std.specs.BTreeMap.{get, keys}
use Rattle.span_fold.specs.Folded.{Stack, stack_cmp, stacks_of}
use Rattle.span_fold.proofs.Times.{time_in}
use Rattle.span_fold.proofs.folding.stack_times.Given as goal

abbrev pub invariant-loop-span : goal.invariant-loop-span
invariant-loop-span l = record {
  keys : keys l.times ≡ stacks_of (take l.span-index l.spans);
  times : (stack : Stack) → unwrap_or (get stack_cmp l.times stack) 0 ≡ sum_by (time_in stack) (take l.span-index l.spans);
  few : (stack : Stack) → unwrap_or (get stack_cmp l.times stack) 0 ≤ 18446744073709551615 * l.span-index;
}
