use Rattle.rail.proofs.Whole.{closed_whole}
use Rattle.rail.proofs.law.close_without_loss.Goals as goal

pub returns : goal.returns
returns g c =
    let closed = c.close.ensures in
    closed_whole g.Q.Rail.made g.Q.Rail.taken g.Q.Rail.done_accepted g.Q.Rail.done_taken g.Q.Rail.done_left _ _ closed.accepted closed.taken (closed.retry c.requires.keeps)
