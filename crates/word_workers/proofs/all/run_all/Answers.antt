use Rattle.std.proofs.Common.{rules, length, subst, arith}
use Rattle.std.specs.Prelude.{IsPermutation}
use Rattle.std.proofs.lemmas.List.Sorted.{IsPermutation-refl}
use Rattle.word_workers.proofs.Joining.{drawn_once}
use Rattle.word_workers.proofs.Merges.{counts_together, few_together}
use Rattle.word_workers.proofs.Runs.{run_all_made}
use Rattle.word_workers.proofs.all.run_all.Goals as goal

pub merge_all-requires-clause-room : goal.merge_all-requires-clause-room
merge_all-requires-clause-room g c κs within =
    let r = c.in_ok-parts.ensures.run in
    let once = drawn_once _ _ _ (length c.args.plan.now) _ _ r.claims c.close.ensures.once (search rules) in
    let few = few_together _ _ _ once _ r.counted in
    let words = c.requires.words in
    omega arith

pub returns-clause-counts : goal.returns-clause-counts
returns-clause-counts g c =
    let r = c.in_ok-parts.ensures.run in
    let once = drawn_once _ _ _ (length c.args.plan.now) _ _ r.claims c.close.ensures.once (search rules) in
    counts_together _ _ _ once _ _ r.counted c.in_ok-counts.ensures.counted

pub returns-clause-makes : goal.returns-clause-makes
returns-clause-makes g c =
    let r = c.in_ok-parts.ensures.run in
    let once = drawn_once _ _ _ (length c.args.plan.now) _ _ r.claims c.close.ensures.once (search rules) in
    run_all_made _ _ _ _ _ _ r.runs once

pub returns-clause-files : goal.returns-clause-files
returns-clause-files g c = c.in_ok-parts.ensures.run.runs.files

pub returns-clause-batches : goal.returns-clause-batches
returns-clause-batches g c = subst (IsPermutation _) c.in_ok-parts.ensures.run.taken_is (IsPermutation-refl _)

pub returns-clause-drops : goal.returns-clause-drops
returns-clause-drops g c = c.in_ok-parts.ensures.run.drops_none

pub returns-clause-numbers : goal.returns-clause-numbers
returns-clause-numbers g c = c.in_ok-parts.ensures.run.numbers

pub returns-clause-puts : goal.returns-clause-puts
returns-clause-puts g c = c.in_ok-parts.ensures.run.puts

pub returns-clause-takes : goal.returns-clause-takes
returns-clause-takes g c = c.in_ok-parts.ensures.run.takes
