use Rattle.std.proofs.Common.{◌+◌, ◌-◌, ◌^◌, ◌∙◌, ap, arith, length, min, sym}
use Rattle.call_steps.proofs.Lengths.{put_counts}
use Rattle.shared_seats.proofs.Unmoved.{same_memory, still_held, unmoved}
use Rattle.call_steps.specs.Queue.{puts_by}
use Rattle.cursor_word.proofs.Places.{most_puts_to}
use Rattle.shared_seats.proofs.queue.SharedQueue.put.Goals as goal

pub puts_after-seat-inside-requires : goal.puts_after-seat-inside-requires
puts_after-seat-inside-requires g c =
    let made = ap (λ s. length s.view.made) c.seat.view_is in
    let shape = ap (λ q. q.shape.size) c.self.view_is in
    omega (arith, made, shape, c.seat.invariant.2, c.requires.room, most_puts_to c.args.self.now.shape, c.blocks-blocks.ensures.limits.size_to, ap (λ k. k.size) c.self.invariant.0)

pub invariant_of-seat : goal.invariant_of-seat
invariant_of-seat g c = let r = c.run_put-result.ensures in
    let kept = (unmoved g.P.Phase.table g.P.CallPhase.drops _ _ _ _ _ c.run_put-result.ensures.steps.2) in
    (still_held g.M.Memory.none c.seat.inside.number c.seat.inside.seat.view c.run_put-result.new.seat.view c.seat.invariant.0 r.sits.0 kept, r.view.rest, c.puts_after-seat-inside.ensures ∙ (ap (λ n. n + puts_by c.run_put-result.result) c.seat.invariant.2 ∙ sym (put_counts _ _ _ c.run_put-result.result r.view.made)), c.seat.invariant.3 ∙ ap (λ l. min (length l) (2 ^ 64 - 1)) (sym r.view.taken))

pub returns-clause-memory : goal.returns-clause-memory
returns-clause-memory g c =
    let kept = (unmoved g.P.Phase.table g.P.CallPhase.drops _ _ _ _ _ c.run_put-result.ensures.steps.2) in
    same_memory g.M.Memory.none c.seat.inside.number c.seat.inside.seat.view c.run_put-result.new.seat.view c.seat.invariant.0 c.run_put-result.ensures.sits.0 kept ∙ ap (λ s. s.memory) c.seat.view_is
