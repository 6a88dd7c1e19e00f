use Rattle.std.proofs.Common.{arith, ◌∙◌, ap}
use Rattle.claim_table.proofs.Kept.{draws}
use Rattle.claim_table.proofs.claim.Claim.claim.Goals as goal

pub add_one-found-requires-clause-rule : goal.add_one-found-requires-clause-rule
add_one-found-requires-clause-rule c = let i = c.seat.invariant in let one = ap (λ s. s.parts) i.0 in draws _ _ (omega arith) (ap (λ s. s.stopped) i.0 ∙ c.if-seat.false)
