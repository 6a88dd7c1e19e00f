use Rattle.machine.specs.declared.event.Start.TheVariants as start
use Rattle.solo_rail.proofs.queue.SoloQueue.take.Given as goal

abbrev pub ghosts-run_take : goal.ghosts-run_take
ghosts-run_take g a = record { start = start.Take }
