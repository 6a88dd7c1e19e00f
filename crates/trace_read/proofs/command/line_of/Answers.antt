use Rattle.std.proofs.Common.{append_assoc, rules}
use Rattle.trace_read.proofs.command.line_of.Goals as goal

pub returns : goal.returns
returns c = search (rules, append_assoc)
