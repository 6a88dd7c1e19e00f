use Rattle.sole_core.proofs.Reached.{none_else, taken_in_order, taken_is_made}
use Rattle.sole_core.proofs.Reached.{moment_sound}
use Rattle.sole_core.proofs.Settles.{settled}
use Rattle.sole_core.proofs.law.sole_law_taken.Goals as goal

pub returns-clause-made : goal.returns-clause-made
returns-clause-made c = λ n. taken_is_made _ _ (moment_sound c.args.shape.now c.args.events.now c.blocks-blocks.ensures.limits c.requires.suits c.requires.few n)

pub returns-clause-in_order : goal.returns-clause-in_order
returns-clause-in_order c = λ n. taken_in_order _ _ (moment_sound c.args.shape.now c.args.events.now c.blocks-blocks.ensures.limits c.requires.suits c.requires.few n)

pub returns-clause-none_else : goal.returns-clause-none_else
returns-clause-none_else c = λ n. none_else _ _ (moment_sound c.args.shape.now c.args.events.now c.blocks-blocks.ensures.limits c.requires.suits c.requires.few n)

pub returns-clause-outcome : goal.returns-clause-outcome
returns-clause-outcome c = λ n rest. settled _ _ _ c.blocks-blocks.ensures.limits (moment_sound c.args.shape.now c.args.events.now c.blocks-blocks.ensures.limits c.requires.suits c.requires.few n) rest
