use Rattle.sole_core.proofs.CallTable.{call_table, reads_in_order}
use Rattle.sole_core.proofs.Promised.{keeps_promises}
use Rattle.sole_core.proofs.running.SolePhaseCallPhase.calls.Goals as goal

pub returns-clause-table : goal.returns-clause-table
returns-clause-table c = call_table

pub returns-clause-reads : goal.returns-clause-reads
returns-clause-reads c = reads_in_order

pub returns-clause-promises : goal.returns-clause-promises
returns-clause-promises c = keeps_promises
