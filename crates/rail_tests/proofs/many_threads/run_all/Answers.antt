use Rattle.rail_tests.proofs.Numbers.{same_numbers}
use Rattle.rail_tests.proofs.many_threads.run_all.Goals as goal

pub returns-clause-numbers : goal.returns-clause-numbers
returns-clause-numbers g c = same_numbers g.Q.Rail.number_of _ _ c.run_each.ensures.long c.run_each.ensures.numbers
