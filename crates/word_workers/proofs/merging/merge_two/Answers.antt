use Rattle.std.proofs.Common.{ap, ◌∙◌, arith}
use Rattle.word_text.specs.Counts.{total}
use Rattle.word_workers.proofs.Merges.{merged_either, total-merged}
use Rattle.word_workers.proofs.merging.merge_two.Goals as goal

pub returns-then-distinct-clause-counted : goal.returns-then-distinct-clause-counted
returns-then-distinct-clause-counted c = λ words more e f. c.in_ok-merge.ensures.ok ∙ (merged_either _ _ words more e f).1

pub returns-then-distinct-clause-totals : goal.returns-then-distinct-clause-totals
returns-then-distinct-clause-totals c = omega (arith, ap total c.in_ok-merge.ensures.ok, total-merged c.args.second c.args.first)

pub returns-clause-counted : goal.returns-clause-counted
returns-clause-counted c = λ words more e f. c.in_ok-merge-2.ensures.ok ∙ (merged_either _ _ words more e f).0

pub returns-clause-totals : goal.returns-clause-totals
returns-clause-totals c = omega (arith, ap total c.in_ok-merge-2.ensures.ok, total-merged c.args.first c.args.second)
