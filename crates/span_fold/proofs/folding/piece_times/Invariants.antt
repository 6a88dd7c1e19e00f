use Rattle.std.proofs.Common.{◌≡◌, ℕ, ◌*◌, ◌≤◌, take, sum_by, unwrap_or}
use Rattle.std.specs.BTreeMap.{get}
use Rattle.std.specs.Ordering.{nat_cmp}
use Rattle.span_fold.proofs.Times.{time_of_piece}
use Rattle.span_fold.proofs.folding.piece_times.Given as goal

abbrev pub invariant-loop-span : goal.invariant-loop-span
invariant-loop-span l = record {
  times : (tid : ℕ) → unwrap_or (get nat_cmp l.times tid) 0 ≡ sum_by (time_of_piece tid) (take l.span-index l.spans);
  few : (tid : ℕ) → unwrap_or (get nat_cmp l.times tid) 0 ≤ 18446744073709551615 * l.span-index;
}
