use Rattle.std.proofs.Common.{◌∷◌, [], All, length, subst, arith}
use Rattle.std.proofs.lemmas.List.{length-append}
use Rattle.std.proofs.Math.Seq.{get_or-append_seam}
use Rattle.call_steps.specs.Queue.{IsFresh}
use Rattle.rail_tests.proofs.newcomer.an_entry_goes_from_one_seat_to_another.Goals as goal

pub take-requires-2-clause-seat : goal.take-requires-2-clause-seat
take-requires-2-clause-seat g c =
    let queue = c.in_ok-queue.queue in
    let seat = c.in-Some.consumer in
    let others = c.pop.new.self.items in
    let all = subst (All (IsFresh queue)) c.in-Some.ensures.items c.in_ok-queue.ensures.fresh in
    let fresh = subst (IsFresh queue) (get_or-append_seam others seat [] seat) (all (length others) seat (omega (arith, length-append others (seat ∷ [])))) in
    c.take.ensures.seat queue fresh.0
