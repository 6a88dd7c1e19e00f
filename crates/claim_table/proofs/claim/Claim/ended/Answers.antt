use Rattle.std.proofs.Common.{arith, ap}
use Rattle.claim_table.proofs.Kept.{looks}
use Rattle.claim_table.proofs.claim.Claim.ended.Goals as goal

pub load-requires-clause-rule : goal.load-requires-clause-rule
load-requires-clause-rule c = let one = ap (λ s. s.parts) c.seat.invariant.0 in looks _ _ (omega arith)
