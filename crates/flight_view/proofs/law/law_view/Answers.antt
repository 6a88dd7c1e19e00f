use Rattle.flight_view.proofs.Reached.{reached}
use Rattle.flight_view.proofs.law.law_view.Goals as goal

pub returns-clause-accepted : goal.returns-clause-accepted
returns-clause-accepted c = λ end r seat viewer view here is. (((reached c.args.shape.now c.blocks-blocks.ensures.limits c.look_law.ensures c.args.events.now end c.requires.suits c.requires.few r).viewers seat viewer here).view view is).accepted

pub returns-clause-rising : goal.returns-clause-rising
returns-clause-rising c = λ end r seat viewer view here is. (((reached c.args.shape.now c.blocks-blocks.ensures.limits c.look_law.ensures c.args.events.now end c.requires.suits c.requires.few r).viewers seat viewer here).view view is).rising

pub returns-clause-gaps : goal.returns-clause-gaps
returns-clause-gaps c = λ end r seat viewer view here is. (((reached c.args.shape.now c.blocks-blocks.ensures.limits c.look_law.ensures c.args.events.now end c.requires.suits c.requires.few r).viewers seat viewer here).view view is).gaps

pub returns-clause-causes : goal.returns-clause-causes
returns-clause-causes c = λ end r seat viewer view here is. (((reached c.args.shape.now c.blocks-blocks.ensures.limits c.look_law.ensures c.args.events.now end c.requires.suits c.requires.few r).viewers seat viewer here).view view is).causes

pub returns-clause-reused : goal.returns-clause-reused
returns-clause-reused c = λ end r seat viewer view here is. (((reached c.args.shape.now c.blocks-blocks.ensures.limits c.look_law.ensures c.args.events.now end c.requires.suits c.requires.few r).viewers seat viewer here).view view is).reused

pub returns-clause-complete : goal.returns-clause-complete
returns-clause-complete c = λ end r seat viewer view here is none. ((reached c.args.shape.now c.blocks-blocks.ensures.limits c.look_law.ensures c.args.events.now end c.requires.suits c.requires.few r).viewers seat viewer here).whole none view is
