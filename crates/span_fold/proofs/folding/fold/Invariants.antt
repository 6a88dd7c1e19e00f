use Rattle.std.proofs.Common.{◌≡◌, ◌++◌, map}
use Rattle.span_fold.proofs.Entries.{entry_line}
use Rattle.span_fold.proofs.folding.fold.Given as goal

abbrev pub invariant-loop-stack : goal.invariant-loop-stack
invariant-loop-stack l = l.lines.items ++ map (entry_line l.pieces) l.stack-iterator ≡ map (entry_line l.pieces) l.initial.stack-iterator
