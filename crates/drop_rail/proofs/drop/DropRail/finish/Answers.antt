use Rattle.std.proofs.Common.{◌≡◌, ◌+◌, ◌-◌, ◌++◌, ◌≤◌, ◌∙◌, ap, arith, length, subst, sym, IsPermutation, List}
use Rattle.std.specs.List.{All}
use Rattle.cursor_word.specs.Cursor.{low, place_span}
use Rattle.rail.specs.Items.{IsRising, places}
use Rattle.rail.specs.Outcome.{DropOutcome, IsAccepted}
use Rattle.drop_core.specs.declared.phase.DropPhase.{DropPhase}
use Rattle.call_laws.specs.Left.{unreserved_in}
use Rattle.call_steps.specs.Queue.{IsSeatOf, SeatedWith}
use Rattle.shared_seats.proofs.Alike.{memories_alike, stopped_alike}
use Rattle.shared_seats.specs.Seats.{in_order, made_by_all, taken_by_all}
use Rattle.block_looks.specs.declared.looks.Looks.{Looks}
use Rattle.drop_rail.specs.Looking.{HasSeenAccepted}
use Rattle.drop_rail.specs.Closed.{taken_in_order}
use Rattle.drop_rail.proofs.Settled.{closed_accepted, closed_drop, closed_order, closed_taken, few_made, looked_accepted}
use Rattle.drop_rail.proofs.drop.DropRail.finish.Goals as goal

pub stop-stopped-requires-clause-seats : goal.stop-stopped-requires-clause-seats
stop-stopped-requires-clause-seats c = subst (λ q. All (IsSeatOf q) c.args.seats.items) (sym c.self.view_is) c.requires.seats

pub stop-stopped-requires-clause-all : goal.stop-stopped-requires-clause-all
stop-stopped-requires-clause-all c = c.requires.all ∙ ap (λ q. q.shape.seats) (sym c.self.view_is)

pub invariant_of-result : goal.invariant_of-result
invariant_of-result c =
    let few = few_made _ _ _ (stopped_alike _ _ _ _ _ _ c.stop-stopped.ensures.stopped c.seats.ensures.order) in
    let all : c.args.puts ≡ length (made_by_all c.args.seats.items) = omega (arith, c.requires.puts, ap (λ g. g.size) c.shape-shape.ensures.shape, c.shape-shape.ensures.limits.size_to) in
    all ∙ sym (ap (λ v. length (made_by_all v.items)) c.of-before.ensures)

pub returns-clause-accepted : goal.returns-clause-accepted
returns-clause-accepted c = let seats = c.args.seats.items in
    subst (λ (xs : List (SeatedWith DropPhase Looks)). IsAccepted (made_by_all seats) (in_order (made_by_all xs))) (sym (ap (λ v. v.items) c.of-before.ensures)) (closed_accepted _ _ _ (stopped_alike _ _ _ _ _ _ c.stop-stopped.ensures.stopped c.seats.ensures.order))

pub returns-clause-taken : goal.returns-clause-taken
returns-clause-taken c = let seats = c.args.seats.items in
    subst (λ (xs : List (SeatedWith DropPhase Looks)). IsPermutation (taken_by_all seats) (taken_in_order xs)) (sym (ap (λ v. v.items) c.of-before.ensures)) (closed_taken _ _ _ (stopped_alike _ _ _ _ _ _ c.stop-stopped.ensures.stopped c.seats.ensures.order))

pub returns-clause-order : goal.returns-clause-order
returns-clause-order c =
    subst (λ (xs : List (SeatedWith DropPhase Looks)). IsRising (places (taken_in_order xs))) (sym (ap (λ v. v.items) c.of-before.ensures)) (closed_order _ _ _ (stopped_alike _ _ _ _ _ _ c.stop-stopped.ensures.stopped c.seats.ensures.order))

pub read_unreserved-requires-clause-places : goal.read_unreserved-requires-clause-places
read_unreserved-requires-clause-places c =
    let few = few_made _ _ _ (stopped_alike _ _ _ _ _ _ c.stop-stopped.ensures.stopped c.seats.ensures.order) in
    omega (arith, c.requires.puts, c.requires.within, ap place_span c.shape-shape.ensures.shape, ap (λ g. g.size) c.shape-shape.ensures.shape, c.shape-shape.ensures.limits.size_to)

pub returns-clause-drop : goal.returns-clause-drop
returns-clause-drop c = let seats = c.args.seats.items in let words = c.stop-stopped.result in let g = c.self.inside.queue.shape in let made = made_by_all seats in
    let few = few_made _ _ _ (stopped_alike _ _ _ _ _ _ c.stop-stopped.ensures.stopped c.seats.ensures.order) in
    let shape = c.shape-shape.ensures.shape in
    let limits = c.shape-shape.ensures.limits in
    let puts : c.args.puts ≡ length made = omega (arith, c.requires.puts, ap (λ g. g.size) shape, limits.size_to) in
    let from : c.args.from ≡ low g (length made) = c.requires.from ∙ (ap (λ q. low q.shape c.args.puts) (sym c.self.view_is) ∙ ap (low g) puts) in
    let within : low g (length made) ≤ length made = let w = c.requires.within in omega arith in
    let end : c.args.from + (c.args.puts - c.args.from) ≡ length made = let w = c.requires.within in omega arith in
    let left = c.read_unreserved.ensures.items
    ∙ (ap (λ items. items ++ unreserved_in c.shape-shape.result words c.args.from (c.args.from + (c.args.puts - c.args.from))) c.requires.empty
    ∙ (ap (λ h. unreserved_in h words c.args.from (c.args.from + (c.args.puts - c.args.from))) shape
    ∙ (ap (unreserved_in g words c.args.from) end ∙ ap (λ n. unreserved_in g words n (length made)) from))) in
    subst (λ h. DropOutcome h (in_order (made_by_all c.of-before.result.value.items)) (taken_in_order c.of-before.result.value.items) c.read_unreserved.new.left.items) (sym shape)
    (subst (λ (xs : List (SeatedWith DropPhase Looks)). DropOutcome g (in_order (made_by_all xs)) (taken_in_order xs) c.read_unreserved.new.left.items) (sym (ap (λ v. v.items) c.of-before.ensures))
    (closed_drop _ words seats (stopped_alike _ _ _ _ _ _ c.stop-stopped.ensures.stopped c.seats.ensures.order) c.read_unreserved.new.left.items within left))

pub returns-clause-looked : goal.returns-clause-looked
returns-clause-looked c = let seats = c.args.seats.items in
    subst (λ (xs : List (SeatedWith DropPhase Looks)). All (HasSeenAccepted (in_order (made_by_all xs))) seats) (sym (ap (λ v. v.items) c.of-before.ensures)) (looked_accepted _ _ _ (stopped_alike _ _ _ _ _ _ c.stop-stopped.ensures.stopped c.seats.ensures.order) (memories_alike _ _ _ _ _ _ c.stop-stopped.ensures.stopped _ c.lasts.ensures))
