use Rattle.std.proofs.Common.{◌∙◌, ◌<◌, [], ℕ, arith, length, map, sym}
use Rattle.std.proofs.lemmas.List.{get_or-map, length-map, same_lists}
use Rattle.machine.specs.Steps.{resting}
use Rattle.call_steps.specs.Queue.{Seated, no_grid}
use Rattle.sole_core.specs.declared.phase.SolePhase.{SolePhase}
use Rattle.sole_tests.proofs.threads.put_by_all.Goals as goal

abbrev number_of : Seated SolePhase → ℕ
number_of seat = seat.number

pub returns-clause-numbers : goal.returns-clause-numbers
returns-clause-numbers g c =
    let old = c.args.seats.now in let new = c.put_by_each.new.seats in let long = c.put_by_each.ensures.long in
    let other : Seated SolePhase = record { of = c.args.queue.now; number = 0; view = resting SolePhase no_grid; memory = tt; log = [] } in
    let long_new = length-map new number_of in
    let long_old = length-map old number_of in
    same_lists (map number_of new) (map number_of old) (long_new ∙ long ∙ sym long_old)
    (λ k d lt. let within : k < length new = omega arith in let before : k < length old = omega arith in
    get_or-map number_of new k other d within ∙ c.put_by_each.ensures.numbers k other before ∙ sym (get_or-map number_of old k other d before))
