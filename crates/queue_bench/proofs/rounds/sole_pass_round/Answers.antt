use Rattle.std.proofs.Common.{subst, sym}
use Rattle.sole_rail.specs.Consumer.{IsConsumerOf}
use Rattle.queue_bench.specs.Taker.{FirstTakes}
use Rattle.queue_bench.proofs.First.{first_number}
use Rattle.queue_bench.proofs.rounds.sole_pass_round.Goals as goal

pub pass-kept-requires-clause-takes : goal.pass-kept-requires-clause-takes
pass-kept-requires-clause-takes g c κs within =
    let made = c.in_ok-rail.ensures in
    subst (FirstTakes (IsConsumerOf c.in_ok-rail.rail)) (sym c.as_mut_slice.ensures.value)
    (λ other some. ((made.fresh 0 other some).0, first_number _ _ made.numbers other some))
