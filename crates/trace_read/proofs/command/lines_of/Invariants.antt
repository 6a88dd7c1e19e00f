use Rattle.std.proofs.Common.{◌≡◌, take}
use Rattle.trace_read.specs.Command.{lines_of}
use Rattle.trace_read.proofs.command.lines_of.Given as goal

abbrev pub invariant-loop-total : goal.invariant-loop-total
invariant-loop-total l = l.lines.items ≡ lines_of (take l.total-index l.totals)
