use Rattle.trace_json.proofs.Parts.{trace_text-join}
use Rattle.trace_json.proofs.laws.trace_text_in_parts.Goals as goal

pub returns : goal.returns
returns c = trace_text-join
