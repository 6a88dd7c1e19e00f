use Rattle.std.proofs.Common.{◌∙◌, ap}
use Rattle.claim_table.specs.Claimed.{one_if}
use Rattle.claim_table.proofs.Kept.{marks}
use Rattle.claim_table.proofs.claim.Claim.end.Goals as goal

pub add_one-requires-clause-rule : goal.add_one-requires-clause-rule
add_one-requires-clause-rule c = let i = c.seat.invariant in marks _ _ (ap (λ s. s.parts) i.0) (ap (λ s. s.ended) i.0 ∙ ap one_if c.if-not-seat.true)
