use Rattle.std.proofs.Common.{refl}
use Rattle.trace_read.proofs.Refused.{ends_refused}
use Rattle.trace_read.proofs.command.check_text.Goals as goal

pub returns-in-Err-clause-ends : goal.returns-in-Err-clause-ends
returns-in-Err-clause-ends g c = ends_refused c.args.text.now _ c.in-Err.ending c.in-Err.ensures.err refl
