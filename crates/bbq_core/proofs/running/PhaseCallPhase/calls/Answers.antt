use Rattle.bbq_core.proofs.CallTable.{call_table, reads_in_order}
use Rattle.bbq_core.proofs.Promised.{keeps_promises}
use Rattle.bbq_core.proofs.running.PhaseCallPhase.calls.Goals as goal

pub returns-clause-table : goal.returns-clause-table
returns-clause-table c = call_table

pub returns-clause-reads : goal.returns-clause-reads
returns-clause-reads c = reads_in_order

pub returns-clause-promises : goal.returns-clause-promises
returns-clause-promises c = keeps_promises
