use Rattle.std.proofs.Common.{subst}
use Rattle.std.specs.Prelude.{IfOk}
use Rattle.word_workers.specs.Merged.{AreTogether}
use Rattle.word_workers.proofs.Merges.{both_together}
use Rattle.word_workers.proofs.merging.+merging.Goals as goal

pub returns-then-not-pays_a_thread : goal.returns-then-not-pays_a_thread
returns-then-not-pays_a_thread g t c = both_together _ _ _ _ _ _ c.in_ok-half.ensures.all c.in_ok-first.ensures c.in_ok-second.ensures c.in_ok-both.ensures.counted c.in_ok-both.ensures.totals

pub returns : goal.returns
returns g t c =
    let first = subst (λ r. IfOk r (AreTogether c.in_ok-half.half.items)) c.in_ok-first-2.was c.join-first.ensures.first in
    let second = subst (λ r. IfOk r (AreTogether c.in_ok-half.rest.items)) c.in_ok-second-2.was c.join-first.ensures.second in
    both_together _ _ _ _ _ _ c.in_ok-half.ensures.all first second c.in_ok-both-2.ensures.counted c.in_ok-both-2.ensures.totals
