use Rattle.sole_core.proofs.causes.sole_law_causes.Goals as goal
use Rattle.machine.proofs.Answered.{answered}
use Rattle.sole_core.specs.Table.{table}
use Rattle.sole_core.proofs.Shown.{empty_shown, full_shown, never_moved, no_overrun, put_busy, take_busy, trail_is}
use Rattle.sole_core.proofs.LoneLaw.{put_overlapped, take_overlapped}

pub returns-clause-full : goal.returns-clause-full
returns-clause-full c = full_shown c.args.shape.now c.args.events.now c.blocks-blocks.ensures.limits c.requires.suits c.requires.few

pub returns-clause-empty : goal.returns-clause-empty
returns-clause-empty c = empty_shown c.args.shape.now c.args.events.now c.blocks-blocks.ensures.limits c.requires.suits c.requires.few

pub returns-clause-busy_put : goal.returns-clause-busy_put
returns-clause-busy_put c = put_busy c.args.shape.now c.args.events.now c.blocks-blocks.ensures.limits c.requires.suits c.requires.few

pub returns-clause-busy_take : goal.returns-clause-busy_take
returns-clause-busy_take c = take_busy c.args.shape.now c.args.events.now c.blocks-blocks.ensures.limits c.requires.suits c.requires.few

pub returns-clause-overrun : goal.returns-clause-overrun
returns-clause-overrun c = no_overrun c.args.shape.now c.args.events.now c.blocks-blocks.ensures.limits c.requires.suits c.requires.few

pub returns-clause-trail : goal.returns-clause-trail
returns-clause-trail c = λ seat n v here. (trail_is c.args.shape.now c.args.events.now c.blocks-blocks.ensures.limits c.requires.suits c.requires.few n seat v here).told

pub returns-clause-answered : goal.returns-clause-answered
returns-clause-answered c = λ seat n v a. answered table c.args.shape.now c.args.events.now seat a n v

pub returns-clause-not_moved : goal.returns-clause-not_moved
returns-clause-not_moved c = never_moved c.args.shape.now c.args.events.now c.blocks-blocks.ensures.limits c.requires.suits c.requires.few

pub returns-clause-put_overlapped : goal.returns-clause-put_overlapped
returns-clause-put_overlapped c = put_overlapped c.args.shape.now c.args.events.now c.blocks-blocks.ensures.limits c.requires.suits c.requires.few

pub returns-clause-take_overlapped : goal.returns-clause-take_overlapped
returns-clause-take_overlapped c = take_overlapped c.args.shape.now c.args.events.now c.blocks-blocks.ensures.limits c.requires.suits c.requires.few
