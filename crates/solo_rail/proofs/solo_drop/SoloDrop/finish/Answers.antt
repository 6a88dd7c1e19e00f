use Rattle.std.proofs.Common.{◌≡◌, ◌+◌, ◌-◌, ◌++◌, ◌≤◌, length, ap, sym, ◌∙◌, subst, arith}
use Rattle.cursor_word.specs.Cursor.{low}
use Rattle.rail.specs.Outcome.{DropOutcome}
use Rattle.call_laws.specs.Left.{unreserved_in}
use Rattle.solo_rail.proofs.DropSettled.{drop_left, drop_order, drop_whole}
use Rattle.solo_rail.proofs.solo_drop.SoloDrop.finish.Goals as goal

pub returns-clause-whole : goal.returns-clause-whole
returns-clause-whole c = drop_whole _ _ _ c.stop-stopped.ensures.stopped

pub returns-clause-order : goal.returns-clause-order
returns-clause-order c = drop_order _ _ _ c.stop-stopped.ensures.stopped

pub returns-clause-drop : goal.returns-clause-drop
returns-clause-drop c =
    let g = c.self.inside.queue.shape in let words = c.stop-stopped.result in let view = c.args.seat.view in
    let shape = c.shape-shape.ensures.shape in
    let puts = c.puts-puts.result in let first = c.args.from in
    let counted = c.puts-puts.ensures in
    let below = c.requires.within in
    let from : first ≡ low g (length view.made) = c.requires.from ∙ ap (λ q. low q.shape (length view.made)) (sym c.self.view_is) in
    let within : low g (length view.made) ≤ length view.made = omega arith in
    let end : first + (puts - first) ≡ length view.made = omega arith in
    let left = c.read_unreserved.ensures.items
    ∙ (ap (λ items. items ++ unreserved_in c.shape-shape.result words first (first + (puts - first))) c.requires.empty
    ∙ (ap (λ h. unreserved_in h words first (first + (puts - first))) shape
    ∙ (ap (unreserved_in g words first) end ∙ ap (λ n. unreserved_in g words n (length view.made)) from))) in
    subst (λ q. DropOutcome q.shape view.made view.taken c.read_unreserved.new.left.items) c.self.view_is
    (drop_left g words view c.stop-stopped.ensures.stopped c.read_unreserved.new.left.items within left)
