use Rattle.std.proofs.Common.{◌≡◌, ◌+◌, ◌-◌, ap, arith}
use Rattle.claim_table.proofs.Cut.{cuts}
use Rattle.claim_table.proofs.claim.deal.Goals as goal

pub split-seat-requires-clause-rule : goal.split-seat-requires-clause-rule
split-seat-requires-clause-rule c = let v = c.loop-left.invariant.view in
    let parts : c.loop-left.first.view.parts ≡ c.args.shape.seats + 1 - c.loop-left.left = ap (λ s. s.parts) v in
    cuts _ _ (omega arith) (ap (λ s. s.drawn) v) (ap (λ s. s.stopped) v) (ap (λ s. s.ended) v)
