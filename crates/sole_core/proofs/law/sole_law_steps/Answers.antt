use Rattle.machine.proofs.Bounded.{moment_fits, rank_falls, rank_within, within_bound}
use Rattle.sole_core.specs.Table.{table}
use Rattle.sole_core.specs.Laws.{steps_of_answer, steps_of_phase}
use Rattle.sole_core.specs.Sound.{IsSound}
use Rattle.sole_core.proofs.Keeping.{keeps}
use Rattle.sole_core.proofs.StepBound.{bounded}
use Rattle.sole_core.proofs.law.sole_law_steps.Goals as goal

pub returns-clause-bound : goal.returns-clause-bound
returns-clause-bound c = λ n seat view at. within_bound table steps_of_phase steps_of_answer bounded c.args.shape.now view (moment_fits table steps_of_phase steps_of_answer bounded c.args.shape.now IsSound keeps c.blocks-blocks.ensures.limits c.args.events.now n c.requires.suits c.requires.few seat view at)

pub returns-clause-rank : goal.returns-clause-rank
returns-clause-rank c = λ n seat view p at e. rank_within table steps_of_phase steps_of_answer bounded c.args.shape.now view p e (moment_fits table steps_of_phase steps_of_answer bounded c.args.shape.now IsSound keeps c.blocks-blocks.ensures.limits c.args.events.now n c.requires.suits c.requires.few seat view at)

pub returns-clause-falls : goal.returns-clause-falls
returns-clause-falls c = rank_falls table steps_of_phase steps_of_answer bounded c.args.shape.now
