use Rattle.std.proofs.Common.{◌∙◌, map, sym}
use Rattle.std.proofs.lemmas.List.{length-map}
use Rattle.std.proofs.lemmas.List.FromFn.{length-range_with_len}
use Rattle.std.proofs.lemmas.List.Sorted.{length_permutation}
use Rattle.rail.specs.Outcome.{numbers_below}
use Rattle.drop_core.specs.declared.phase.DropPhase.{DropPhase}
use Rattle.call_steps.specs.Queue.{SeatedWith}
use Rattle.block_looks.specs.declared.looks.Looks.{Looks}
use Rattle.drop_rail.proofs.drop.DropRail.close_into.Goals as goal

pub finish-requires-clause-all : goal.finish-requires-clause-all
finish-requires-clause-all c = let n = c.args.self.shape.seats in
    sym (length-map c.args.seats.items (λ (s : SeatedWith DropPhase Looks). s.number)) ∙ (sym (length_permutation (map (λ (s : SeatedWith DropPhase Looks). s.number) c.args.seats.items) (numbers_below n) c.requires.all) ∙ length-range_with_len 0 n)
