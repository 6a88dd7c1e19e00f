use Rattle.machine.proofs.Answered.{answered}
use Rattle.drop_core.specs.Steps.{table}
use Rattle.drop_core.proofs.AloneCalls.{overrun_overlapped, put_overlapped, take_overlapped}
use Rattle.drop_core.proofs.Recalled.{empty_shown, never_full, overrun_shown, put_busy, take_busy, trail_is}
use Rattle.drop_core.proofs.causes.drop_law_causes.Goals as goal

pub returns-clause-full : goal.returns-clause-full
returns-clause-full c = never_full c.args.shape.now c.args.events.now c.blocks-blocks.ensures.limits c.requires.suits c.requires.few

pub returns-clause-empty : goal.returns-clause-empty
returns-clause-empty c = empty_shown c.args.shape.now c.args.events.now c.blocks-blocks.ensures.limits c.requires.suits c.requires.few

pub returns-clause-overrun : goal.returns-clause-overrun
returns-clause-overrun c = overrun_shown c.args.shape.now c.args.events.now c.blocks-blocks.ensures.limits c.requires.suits c.requires.few

pub returns-clause-busy_put : goal.returns-clause-busy_put
returns-clause-busy_put c = put_busy c.args.shape.now c.args.events.now c.blocks-blocks.ensures.limits c.requires.suits c.requires.few

pub returns-clause-busy_take : goal.returns-clause-busy_take
returns-clause-busy_take c = take_busy c.args.shape.now c.args.events.now c.blocks-blocks.ensures.limits c.requires.suits c.requires.few

pub returns-clause-trail : goal.returns-clause-trail
returns-clause-trail c = λ seat n v here. (trail_is c.args.shape.now c.args.events.now c.blocks-blocks.ensures.limits c.requires.suits c.requires.few n seat v here).told

pub returns-clause-answered : goal.returns-clause-answered
returns-clause-answered c = λ seat n v a. answered table c.args.shape.now c.args.events.now seat a n v

pub returns-clause-put_overlapped : goal.returns-clause-put_overlapped
returns-clause-put_overlapped c = put_overlapped c.args.shape.now c.args.events.now c.blocks-blocks.ensures.limits c.requires.suits c.requires.few

pub returns-clause-take_overlapped : goal.returns-clause-take_overlapped
returns-clause-take_overlapped c = take_overlapped c.args.shape.now c.args.events.now c.blocks-blocks.ensures.limits c.requires.suits c.requires.few

pub returns-clause-overrun_overlapped : goal.returns-clause-overrun_overlapped
returns-clause-overrun_overlapped c = overrun_overlapped c.args.shape.now c.args.events.now c.blocks-blocks.ensures.limits c.requires.suits c.requires.few
