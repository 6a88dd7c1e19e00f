use Rattle.std.proofs.Common.{◌/◌, ◌++◌, ap, sym, ◌∙◌, take}
use Rattle.std.specs.Prelude.{sum_by}
use Rattle.std.proofs.lemmas.List.Sums.{sum_by-append}
use Rattle.std.proofs.lemmas.List.{take-append-drop}
use Rattle.word_text.specs.Counts.{total}
use Rattle.word_workers.proofs.merging.in_halves.Goals as goal

pub returns-clause-totals : goal.returns-clause-totals
returns-clause-totals c =
    let all = c.args.counts.items in
    let half = c.len-half.result / 2 in
    sym (sum_by-append total c.split_off.new.self.items c.in_ok-rest.rest.items) ∙ ap (sum_by total) (ap (λ t. t ++ c.in_ok-rest.rest.items) c.in_ok-rest.ensures.items ∙ ap (λ t. take half all ++ t) c.in_ok-rest.ensures.tail ∙ take-append-drop half all)
