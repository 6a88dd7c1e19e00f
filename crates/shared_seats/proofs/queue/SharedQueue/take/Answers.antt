use Rattle.std.proofs.Common.{◌∙◌, ap, arith, length, sym}
use Rattle.call_steps.proofs.Lengths.{take_counts}
use Rattle.shared_seats.proofs.Unmoved.{same_memory, still_held, unmoved}
use Rattle.shared_seats.proofs.queue.SharedQueue.take.Goals as goal

pub invariant_of-seat : goal.invariant_of-seat
invariant_of-seat g c = let r = c.run_take-result.ensures in
    let kept = (unmoved g.P.Phase.table g.P.CallPhase.drops _ _ _ _ _ c.run_take-result.ensures.steps.2) in
    (still_held g.M.Memory.none c.seat.inside.number c.seat.inside.seat.view c.run_take-result.new.seat.view c.seat.invariant.0 r.sits.0 kept, r.view.rest, c.seat.invariant.2 ∙ ap length (sym r.view.made), let n = take_counts _ _ _ _ c.run_take-result.result r.view.taken in let m = c.seat.invariant.3 in let e = c.takes_after-seat-inside.ensures in omega arith)

pub returns-clause-memory : goal.returns-clause-memory
returns-clause-memory g c =
    let kept = (unmoved g.P.Phase.table g.P.CallPhase.drops _ _ _ _ _ c.run_take-result.ensures.steps.2) in
    same_memory g.M.Memory.none c.seat.inside.number c.seat.inside.seat.view c.run_take-result.new.seat.view c.seat.invariant.0 c.run_take-result.ensures.sits.0 kept ∙ ap (λ s. s.memory) c.seat.view_is
