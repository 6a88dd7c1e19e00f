use Rattle.std.proofs.Common.{rules, ◌≡◌, ◌∷◌, [], sym, ◌∙◌}
use Rattle.rail_tests.proofs.OnlySeat.{of_only_seat}
use Rattle.rail_tests.proofs.passage.pass_all.Goals as goal

pub returns-in-Ok : goal.returns-in-Ok
returns-in-Ok g c =
    let one : c.push.new.self.items ≡ c.take_all.new.seat ∷ [] = search rules in
    of_only_seat g.Q.Rail.made g.Q.Rail.taken c.take_all.new.seat c.push.new.self.items _ _ _ one (c.put_all.ensures.kept ∙ sym c.take_all.ensures.made) c.take_all.ensures.kept
    c.in-Ok.ensures
