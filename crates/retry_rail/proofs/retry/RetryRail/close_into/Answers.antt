use Rattle.retry_rail.proofs.Settles.{settles}
use Rattle.retry_rail.proofs.retry.RetryRail.close_into.Goals as goal

pub close_into-requires-clause-settles : goal.close_into-requires-clause-settles
close_into-requires-clause-settles c = settles
