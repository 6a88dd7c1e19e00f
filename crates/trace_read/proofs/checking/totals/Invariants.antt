use Rattle.std.proofs.Common.{◌≡◌}
use Rattle.trace_read.specs.Totals.{totals_of, totals_by_worker}
use Rattle.trace_read.proofs.Tallies.{with_later}
use Rattle.trace_read.proofs.checking.totals.Given as goal

abbrev pub invariant-loop-tid : goal.invariant-loop-tid
invariant-loop-tid l = totals_by_worker l.spans ≡ with_later l.totals.items (totals_of l.tid-iterator l.spans)
