use Rattle.std.proofs.Common.{◌≡◌, ◌++◌, ◌∷◌, [], ap, length, ◌∙◌, arith}
use Rattle.std.proofs.lemmas.List.{length-append}
use Rattle.word_workers.proofs.Finishing.{nothing_left}
use Rattle.word_workers.proofs.Merges.{one_together}
use Rattle.word_workers.proofs.merging.only_one.Goals as goal

pub returns-in-Some : goal.returns-in-Some
returns-in-Some c =
    let all = ap length c.in-Some.ensures.items in
    let split = length-append c.pop.new.self.items (c.in-Some.only ∷ []) in
    let none : c.pop.new.self.items ≡ [] = nothing_left _ (omega (arith, c.requires.few, all, split)) in
    one_together _ _ (c.in-Some.ensures.items ∙ ap (λ t. t ++ c.in-Some.only ∷ []) none)
