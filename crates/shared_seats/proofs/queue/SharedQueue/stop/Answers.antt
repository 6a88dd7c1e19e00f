use Rattle.std.proofs.Common.{◌∙◌, ap, sym}
use Rattle.cursor_word.specs.Layout.{word_count}
use Rattle.shared_seats.proofs.Stops.{stand_still}
use Rattle.shared_seats.proofs.queue.SharedQueue.stop.Goals as goal

pub returns-clause-words : goal.returns-clause-words
returns-clause-words g c = c.close.ensures.words ∙ c.self.invariant.1 ∙ ap word_count (sym c.self.invariant.0 ∙ ap (λ q. q.shape) c.self.view_is)

pub returns-clause-stopped : goal.returns-clause-stopped
returns-clause-stopped g c = stand_still g.P.Phase.table g.P.Phase.Holds g.M.Memory.Knows _ _ (ap (λ q. q.shape) c.self.view_is) c.close.result _ _ c.close.ensures.rule c.gather-all.ensures.seats c.requires.all c.gather-all.ensures.rest c.gather-all.ensures.memories
