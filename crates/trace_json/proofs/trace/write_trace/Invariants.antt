use Rattle.std.proofs.Common.{◌≡◌, ◌≤◌, ◌++◌, drop, map, codes, string_bytes, nat_lt}
use Rattle.trace_json.specs.Trace.{trace_text}
use Rattle.trace_json.proofs.Parts.{spans_text}
use Rattle.trace_json.proofs.Pending.{Pending}
use Rattle.trace_json.proofs.trace.write_trace.Given as goal

abbrev pub invariant-loop-index : goal.invariant-loop-index
invariant-loop-index g l =
    let names = map string_bytes l.files in
    record {
      later : g.O.Sink.faults l.initial.sink ≤ g.O.Sink.faults l.sink;
      quiet : g.O.Sink.faults l.sink ≡ g.O.Sink.faults l.initial.sink;
      ready : g.O.Sink.ready l.sink;
      beside : g.O.Sink.beside l.sink ≡ g.O.Sink.beside l.initial.sink;
      pending : Pending (g.O.Sink.told l.initial.sink) (g.O.Sink.told l.sink) l.text.items (spans_text (nat_lt 0 l.index) names (drop l.index l.events) ++ codes "}\n") (trace_text names l.accepted l.events);
    }
