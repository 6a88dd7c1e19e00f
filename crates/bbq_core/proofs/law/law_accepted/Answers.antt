use Rattle.machine.proofs.Runs.{moment_total}
use Rattle.bbq_core.specs.Table.{table}
use Rattle.bbq_core.proofs.Reached.{dense, made_rises}
use Rattle.bbq_core.proofs.Reached.{moment_sound}
use Rattle.bbq_core.proofs.Small.{consumed_small, words_small}
use Rattle.bbq_core.proofs.law.law_accepted.Goals as goal

pub returns-clause-dense : goal.returns-clause-dense
returns-clause-dense c = λ n. dense _ _ (moment_sound c.args.shape.now c.args.events.now c.blocks-blocks.ensures.limits c.requires.suits c.requires.few n)

pub returns-clause-rising : goal.returns-clause-rising
returns-clause-rising c = λ n. made_rises _ _ (moment_sound c.args.shape.now c.args.events.now c.blocks-blocks.ensures.limits c.requires.suits c.requires.few n)

pub returns-clause-small : goal.returns-clause-small
returns-clause-small c = λ n. words_small _ _ _ c.blocks-blocks.ensures.limits (moment_sound c.args.shape.now c.args.events.now c.blocks-blocks.ensures.limits c.requires.suits c.requires.few n) (moment_total table c.args.shape.now c.args.events.now n c.requires.few)

pub returns-clause-consumed : goal.returns-clause-consumed
returns-clause-consumed c = λ n. consumed_small _ _ _ c.blocks-blocks.ensures.limits (moment_sound c.args.shape.now c.args.events.now c.blocks-blocks.ensures.limits c.requires.suits c.requires.few n) (moment_total table c.args.shape.now c.args.events.now n c.requires.few)
