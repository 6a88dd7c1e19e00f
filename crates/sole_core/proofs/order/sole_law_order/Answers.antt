use Rattle.sole_core.proofs.InTime.{empty_after, puts_ordered, takes_ordered}
use Rattle.sole_core.proofs.order.sole_law_order.Goals as goal

pub returns-clause-puts : goal.returns-clause-puts
returns-clause-puts c = puts_ordered c.args.shape.now c.args.events.now c.blocks-blocks.ensures.limits c.requires.suits c.requires.few

pub returns-clause-takes : goal.returns-clause-takes
returns-clause-takes c = takes_ordered c.args.shape.now c.args.events.now c.blocks-blocks.ensures.limits c.requires.suits c.requires.few

pub returns-clause-empty : goal.returns-clause-empty
returns-clause-empty c = empty_after c.args.shape.now c.args.events.now c.blocks-blocks.ensures.limits c.requires.suits c.requires.few
