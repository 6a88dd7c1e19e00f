use Rattle.solo_rail.proofs.RetryAlone.{retry_exactly}
use Rattle.solo_rail.proofs.solo_retry.PhaseLonePhase.answers_exactly.Goals as goal

pub returns : goal.returns
returns c = retry_exactly
