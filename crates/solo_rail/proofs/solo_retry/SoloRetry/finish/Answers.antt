use Rattle.std.proofs.Common.{◌≡◌, ◌+◌, ◌-◌, ◌++◌, length, ap, ◌∙◌, arith}
use Rattle.cursor_word.specs.Cursor.{place_span}
use Rattle.machine.specs.Entries.{left_in}
use Rattle.solo_rail.proofs.RetrySettled.{few_places, fewer, retry_left, retry_order, retry_whole}
use Rattle.solo_rail.proofs.solo_retry.SoloRetry.finish.Goals as goal

pub read_left-requires-clause-places : goal.read_left-requires-clause-places
read_left-requires-clause-places c =
    let stopped = c.stop-stopped.ensures.stopped in
    let less = fewer _ _ _ stopped in let few = few_places _ _ _ stopped in
    omega (arith, c.puts-puts.ensures, c.takes-takes.ensures, c.saturating_sub.ensures, ap place_span c.shape-shape.ensures.shape, stopped.limits.size_to)

pub returns-clause-whole : goal.returns-clause-whole
returns-clause-whole c = retry_whole _ _ _ c.stop-stopped.ensures.stopped

pub returns-clause-order : goal.returns-clause-order
returns-clause-order c = retry_order _ _ _ c.stop-stopped.ensures.stopped

pub returns-clause-retry : goal.returns-clause-retry
returns-clause-retry c =
    let words = c.stop-stopped.result in let takes = c.takes-takes.result in
    let count : c.saturating_sub.result ≡ length c.args.seat.view.made - takes = c.saturating_sub.ensures ∙ ap (λ n. n - takes) c.puts-puts.ensures in
    retry_left _ words _ c.stop-stopped.ensures.stopped takes _ c.takes-takes.ensures
    (c.read_left.ensures.items
    ∙ (ap (λ items. items ++ left_in c.shape-shape.result words takes (takes + c.saturating_sub.result)) c.requires.empty
    ∙ (ap (λ g. left_in g words takes (takes + c.saturating_sub.result)) c.shape-shape.ensures.shape
    ∙ ap (λ n. left_in c.self.inside.queue.shape words takes (takes + n)) count)))
