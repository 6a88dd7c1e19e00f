use Rattle.std.proofs.Common.{◌∙◌}
use Rattle.std.proofs.lemmas.Result.{IfOk-weaker}
use Rattle.zemuschida_c.proofs.Dealing.{handles_counted, seats_counted}
use Rattle.zemuschida_c.proofs.ring.make_ring.Goals as goal

pub returns-clause-count : goal.returns-clause-count
returns-clause-count c = IfOk-weaker c.seat_all.result _ _ (λ all hold. handles_counted _ _ all.items c.in_ok-rail.seats.items hold ∙ seats_counted _ c.in_ok-rail.seats.items _ c.in_ok-rail.ensures.numbers) c.seat_all.ensures
