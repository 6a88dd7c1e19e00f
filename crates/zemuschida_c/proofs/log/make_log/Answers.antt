use Rattle.std.proofs.Common.{◌∙◌, ap, arith, length, sym}
use Rattle.call_steps.specs.Queue.{Queue}
use Rattle.sole_rail.specs.Consumer.{IsConsumerOf}
use Rattle.std.proofs.Common.{subst}
use Rattle.zemuschida_c.proofs.Dealing.{first_takes, handles_counted, log_made, parted, seats_counted}
use Rattle.zemuschida_c.proofs.log.make_log.Goals as goal

pub remove-first-requires : goal.remove-first-requires
remove-first-requires c = let count = seats_counted _ c.in_ok-rail.seats.items _ c.in_ok-rail.ensures.numbers in
    let some = c.seats-seats.ensures.limits.seats_from in
    let long = c.in_ok-rail.seats.ok.0 in
    omega arith

pub seated-requires : goal.seated-requires
seated-requires c = let count = seats_counted _ c.in_ok-rail.seats.items _ c.in_ok-rail.ensures.numbers in
    let some = c.seats-seats.ensures.limits.seats_from in
    let parts = parted c.in_ok-rail.seats.items c.remove-first.result c.remove-first.new.self.items (omega arith) c.remove-first.ensures.value c.remove-first.ensures.by_index.2 in
    subst (λ (q : Queue). IsConsumerOf q c.remove-first.result) (sym (c.in_ok-try_clone.ensures ∙ c.in_ok-rail-2.ensures.ok))
    (first_takes c.in_ok-rail.rail c.args.shape.seats _ _ _ some parts c.in_ok-rail.ensures.fresh c.in_ok-rail.ensures.numbers)

pub returns-clause-count : goal.returns-clause-count
returns-clause-count c = let count = seats_counted _ c.in_ok-rail.seats.items _ c.in_ok-rail.ensures.numbers in
    let some = c.seats-seats.ensures.limits.seats_from in
    let parts = parted c.in_ok-rail.seats.items c.remove-first.result c.remove-first.new.self.items (omega arith) c.remove-first.ensures.value c.remove-first.ensures.by_index.2 in
    let long = ap length parts in
    let handles = handles_counted _ _ c.in_ok-others.others.items c.remove-first.new.self.items c.in_ok-others.ensures in
    omega arith

pub returns-clause-made : goal.returns-clause-made
returns-clause-made c = let count = seats_counted _ c.in_ok-rail.seats.items _ c.in_ok-rail.ensures.numbers in
    let some = c.seats-seats.ensures.limits.seats_from in
    let parts = parted c.in_ok-rail.seats.items c.remove-first.result c.remove-first.new.self.items (omega arith) c.remove-first.ensures.value c.remove-first.ensures.by_index.2 in
    log_made c.args.shape c.in_ok-rail.rail _ _ c.in_ok-rail.seats.items c.remove-first.new.self.items c.remove-first.result _ _ c.in_ok-rail.ensures.shape c.in_ok-rail.ensures.fresh c.in_ok-rail.ensures.numbers parts
    (c.in_ok-try_clone.ensures ∙ c.in_ok-rail-2.ensures.ok) c.in_ok-rail-2.ensures.ok c.in_ok-consumer.ensures c.in_ok-others.ensures
