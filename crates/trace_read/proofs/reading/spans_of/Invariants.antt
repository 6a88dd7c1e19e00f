use Rattle.std.proofs.Common.{◌≡◌}
use Rattle.serde_json.specs.View.{items_view}
use Rattle.trace_read.specs.Reading.{spans_from}
use Rattle.trace_read.proofs.Rest.{with_rest, rest_from}
use Rattle.trace_read.proofs.reading.spans_of.Given as goal

abbrev pub invariant-loop-index : goal.invariant-loop-index
invariant-loop-index l = spans_from 0 (items_view l.events) ≡ with_rest l.spans.items (rest_from l.events l.index)
