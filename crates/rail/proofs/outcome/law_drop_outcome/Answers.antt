use Rattle.rail.proofs.Newest.{keeps_newest}
use Rattle.rail.proofs.outcome.law_drop_outcome.Goals as goal

pub returns : goal.returns
returns c = record { newest = keeps_newest _ _ _ _ c.blocks-blocks.ensures.limits c.requires.outcome c.requires.no_gap }
