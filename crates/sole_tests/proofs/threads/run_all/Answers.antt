use Rattle.std.proofs.Common.{subst}
use Rattle.std.specs.List.{All}
use Rattle.call_steps.specs.Queue.{IsSeatOf}
use Rattle.sole_tests.proofs.threads.run_all.Goals as goal

pub returns-else-takes-clause-seats : goal.returns-else-takes-clause-seats
returns-else-takes-clause-seats g c = subst (All (IsSeatOf c.args.queue.now)) c.in-Some.ensures.cases.0 c.requires.seats
