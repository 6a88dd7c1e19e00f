use Rattle.machine.specs.declared.event.Start.TheVariants as start
use Rattle.solo_rail.proofs.queue.SoloQueue.put.Given as goal

abbrev pub ghosts-run_put : goal.ghosts-run_put
ghosts-run_put g a = record { start = start.Put a.entry.now }
