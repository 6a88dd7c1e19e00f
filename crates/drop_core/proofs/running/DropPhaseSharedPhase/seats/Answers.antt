use Rattle.drop_core.proofs.Permutes.{all_may_begin, orderless}
use Rattle.drop_core.proofs.running.DropPhaseSharedPhase.seats.Goals as goal

pub returns-clause-order : goal.returns-clause-order
returns-clause-order c = orderless

pub returns-clause-begin : goal.returns-clause-begin
returns-clause-begin c = all_may_begin
