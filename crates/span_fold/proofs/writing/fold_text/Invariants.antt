use Rattle.std.proofs.Common.{◌≡◌, take}
use Rattle.span_fold.specs.Folded.{folded_text}
use Rattle.span_fold.proofs.writing.fold_text.Given as goal

abbrev pub invariant-loop-line : goal.invariant-loop-line
invariant-loop-line l = l.text.items ≡ folded_text (take l.line-index l.folded)
