use Rattle.std.proofs.Common.{◌∙◌, ap, sym, flat_map}
use Rattle.std.specs.List.{range_with_len}
use Rattle.std.proofs.lemmas.List.Folds.{list_any-from_Any}
use Rattle.std.proofs.lemmas.List.Sorted.{IsPermutation-trans}
use Rattle.claim_table.proofs.Cut.{drawn_once}
use Rattle.claim_table.proofs.claim.Claim.close.Goals as goal

pub returns : goal.returns
returns c = let g = c.gather-all.ensures in let key = ap (λ w. w.shape) c.self.view_is in
    record {
      once = IsPermutation-trans (flat_map (λ s. s.drawn) c.args.seats.items) c.gather-all.result.view.drawn (range_with_len 0 c.args.self.shape.pieces) g.drawn
          (rw (ap (λ p. p.pieces) (sym key)) (drawn_once _ _ _ c.close.ensures.rule (g.parts ∙ c.requires.all ∙ ap (λ p. p.seats) (sym key)) (g.stopped ∙ list_any-from_Any (λ s. s.stopped) c.args.seats.items c.requires.stopped)));
    }
