use Rattle.std.specs.List.{All}
use Rattle.trace_json.specs.Trace.{HasFile}
use Rattle.profile_tests.proofs.long_traces.own_spans.Given as goal

abbrev pub invariant-loop : goal.invariant-loop
invariant-loop l = All (HasFile 0) l.spans.items
