use Rattle.sole_core.proofs.LoneLaw.{alone_answers, rested_answers}
use Rattle.sole_core.proofs.rest.sole_law_rest.Goals as goal

pub returns-clause-alone : goal.returns-clause-alone
returns-clause-alone c = λ seat n m begins call alone. alone_answers c.args.shape.now c.args.events.now c.blocks-blocks.ensures.limits c.requires.suits c.requires.few seat n m begins call alone

pub returns-clause-unmixed : goal.returns-clause-unmixed
returns-clause-unmixed c = λ seat n m begins call rest alone. rested_answers c.args.shape.now c.args.events.now c.blocks-blocks.ensures.limits c.requires.suits c.requires.few seat n m begins call rest alone
