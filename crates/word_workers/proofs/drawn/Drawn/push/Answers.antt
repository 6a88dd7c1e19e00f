use Rattle.std.proofs.Common.{rules, ◌≡◌, ◌<◌, sym, subst}
use Rattle.std.specs.List.{All}
use Rattle.rail.specs.Items.{IsRising}
use Rattle.rail.proofs.Rising.{rising_push}
use Rattle.word_workers.proofs.drawn.Drawn.push.Goals as goal

pub invariant_of-self-2 : goal.invariant_of-self-2
invariant_of-self-2 c =
    let seen : c.args.self.now ≡ c.self.inside.numbers.items = search rules in
    subst IsRising (sym c.in_ok-push.ensures.items) (rising_push c.self.inside.numbers.items c.args.number c.self.invariant (subst (All (λ n. n < c.args.number)) seen c.requires))
