use Rattle.drop_core.proofs.CallTable.{call_table, reads_in_order}
use Rattle.drop_core.proofs.Promised.{promises_kept}
use Rattle.drop_core.proofs.running.DropPhaseCallPhase.calls.Goals as goal

pub returns-clause-table : goal.returns-clause-table
returns-clause-table c = call_table

pub returns-clause-reads : goal.returns-clause-reads
returns-clause-reads c = reads_in_order

pub returns-clause-promises : goal.returns-clause-promises
returns-clause-promises c = promises_kept
