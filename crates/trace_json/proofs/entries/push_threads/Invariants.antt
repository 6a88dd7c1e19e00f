use Rattle.std.proofs.Common.{◌≡◌, ◌++◌}
use Rattle.span_words.specs.Workers.{tids_of}
use Rattle.trace_json.proofs.Parts.{threads_text}
use Rattle.trace_json.proofs.entries.push_threads.Given as goal

abbrev pub invariant-loop-tid : goal.invariant-loop-tid
invariant-loop-tid l = l.text.items ++ threads_text l.tid-iterator ≡ l.initial.text.items ++ threads_text (tids_of l.events)
