use Rattle.drop_rail.proofs.drop.DropRail.look_step.Given as goal

abbrev pub ghosts-look_load : goal.ghosts-look_load
ghosts-look_load a = record { phase = a.step.now }
