use Rattle.std.proofs.Common.{◌≡◌, ◌+◌, ◌++◌, ◌∙◌, ap, arith, length, subst, sym, IsPermutation, List}
use Rattle.cursor_word.specs.Cursor.{place_span}
use Rattle.rail.specs.Items.{IsRising, places}
use Rattle.rail.specs.Outcome.{IsAccepted, RetryOutcome}
use Rattle.machine.specs.Entries.{left_in}
use Rattle.call_steps.specs.Queue.{Seated}
use Rattle.shared_seats.specs.Seats.{in_order, made_by_all, taken_by_all}
use Rattle.retry_close.specs.Closed.{first_taken}
use Rattle.retry_close.proofs.Closes.{closed_accepted, closed_order, closed_retry, closed_taken, few_made, fewer_taken}
use Rattle.retry_close.proofs.settled.finish.Goals as goal

pub read_left-requires-clause-places : goal.read_left-requires-clause-places
read_left-requires-clause-places g c =
    let few = few_made _ _ _ c.requires.settles _ _ _ c.stop-stopped.ensures.stopped in
    let fewer = fewer_taken _ _ _ c.requires.settles _ _ _ c.stop-stopped.ensures.stopped in
    omega (arith, c.requires.puts, c.requires.takes, c.left_number.ensures, ap place_span c.shape-shape.ensures.shape, ap (λ g. g.size) c.shape-shape.ensures.shape, c.shape-shape.ensures.limits.size_to)

pub invariant_of-result : goal.invariant_of-result
invariant_of-result g c =
    let few = few_made _ _ _ c.requires.settles _ _ _ c.stop-stopped.ensures.stopped in
    let all : c.args.puts ≡ length (made_by_all c.args.seats.items) = omega (arith, c.requires.puts, ap (λ g. g.size) c.shape-shape.ensures.shape, c.shape-shape.ensures.limits.size_to) in
    all ∙ sym (ap (λ v. length (made_by_all v.items)) c.of-before.ensures)

pub returns-clause-accepted : goal.returns-clause-accepted
returns-clause-accepted g c = let seats = c.args.seats.items in
    subst (λ (xs : List (Seated _)). IsAccepted (made_by_all seats) (in_order (made_by_all xs))) (sym (ap (λ v. v.items) c.of-before.ensures)) (closed_accepted _ _ _ c.requires.settles _ _ _ c.stop-stopped.ensures.stopped)

pub returns-clause-taken : goal.returns-clause-taken
returns-clause-taken g c = let seats = c.args.seats.items in
    subst (λ (xs : List (Seated _)). IsPermutation (taken_by_all seats) (first_taken xs)) (sym (ap (λ v. v.items) c.of-before.ensures)) (closed_taken _ _ _ c.requires.settles _ _ _ c.stop-stopped.ensures.stopped)

pub returns-clause-order : goal.returns-clause-order
returns-clause-order g c =
    subst (λ (xs : List (Seated _)). IsRising (places (first_taken xs))) (sym (ap (λ v. v.items) c.of-before.ensures)) (closed_order _ _ _ c.requires.settles _ _ _ c.stop-stopped.ensures.stopped)

pub returns-clause-retry : goal.returns-clause-retry
returns-clause-retry g c = let seats = c.args.seats.items in let words = c.stop-stopped.result in let grid = c.args.queue.shape in
    let few = few_made _ _ _ c.requires.settles _ _ _ c.stop-stopped.ensures.stopped in
    let fewer = fewer_taken _ _ _ c.requires.settles _ _ _ c.stop-stopped.ensures.stopped in
    let size = ap (λ g. g.size) c.shape-shape.ensures.shape in
    let limits = c.shape-shape.ensures.limits in
    let puts : c.args.puts ≡ length (made_by_all seats) = omega (arith, c.requires.puts, size, limits.size_to) in
    let takes : c.args.takes ≡ length (taken_by_all seats) = omega (arith, c.requires.takes, size, limits.size_to) in
    let end : c.args.takes + c.left_number.result ≡ length (made_by_all seats) = let e = c.left_number.ensures in omega arith in
    let left = c.read_left.ensures.items
    ∙ (ap (λ items. items ++ left_in c.shape-shape.result words c.args.takes (c.args.takes + c.left_number.result)) c.requires.empty
    ∙ (ap (λ h. left_in h words c.args.takes (c.args.takes + c.left_number.result)) c.shape-shape.ensures.shape
    ∙ (ap (λ n. left_in grid words n (c.args.takes + c.left_number.result)) takes ∙ ap (left_in grid words (length (taken_by_all seats))) end))) in
    subst (λ (xs : List (Seated _)). RetryOutcome (in_order (made_by_all xs)) (first_taken xs) c.read_left.new.left.items) (sym (ap (λ v. v.items) c.of-before.ensures))
    (closed_retry _ _ _ c.requires.settles _ words seats c.stop-stopped.ensures.stopped c.read_left.new.left.items left)
