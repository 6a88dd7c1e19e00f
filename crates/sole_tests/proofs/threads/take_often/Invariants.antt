use Rattle.sole_rail.specs.Consumer.{IsConsumerOf}
use Rattle.sole_tests.proofs.threads.take_often.Given as goal

abbrev pub invariant-loop-turn : goal.invariant-loop-turn
invariant-loop-turn l = IsConsumerOf l.queue l.seat
