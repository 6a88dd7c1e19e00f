use Rattle.block_looks.proofs.Lasts.{begins, permuted, starts, steps}
use Rattle.block_looks.proofs.looks.LooksMemoryDropPhase.lasts.Goals as goal

pub returns : goal.returns
returns c = record {
  starts = starts;
  begins = λ g ws vs id v call looks at h. begins g ws vs looks h id v call at;
  steps = λ g ws vs id v p looks limits sound room at e h. steps g ws vs looks h id v p limits sound room at;
  orderless = λ g ws vs us looks moved h. permuted g ws vs looks h us moved;
}
