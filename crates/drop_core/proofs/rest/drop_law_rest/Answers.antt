use Rattle.drop_core.proofs.AloneCalls.{alone_answers, unmixed_answers}
use Rattle.drop_core.proofs.rest.drop_law_rest.Goals as goal

pub returns-clause-alone : goal.returns-clause-alone
returns-clause-alone c = λ seat n m begins call alone. alone_answers c.args.shape.now c.args.events.now c.blocks-blocks.ensures.limits c.requires.suits c.requires.few seat n m begins call alone

pub returns-clause-unmixed : goal.returns-clause-unmixed
returns-clause-unmixed c = λ seat n m begins call alone. unmixed_answers c.args.shape.now c.args.events.now c.blocks-blocks.ensures.limits c.requires.suits c.requires.few seat n m begins call alone
