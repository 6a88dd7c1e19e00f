use Rattle.std.proofs.Common.{◌≡◌, [], sym, subst, arith}
use Rattle.word_workers.specs.Finished.{IsRun}
use Rattle.word_workers.proofs.OneSeat.{of_one}
use Rattle.word_workers.proofs.Ways.{only_one}
use Rattle.word_workers.proofs.all.run_workers.Goals as goal

pub returns-then-len-gt1-clause-each : goal.returns-then-len-gt1-clause-each
returns-then-len-gt1-clause-each g c = λ e. c.in_threads.ensures.each c.args.workers e

pub returns-then-len-gt1-clause-last : goal.returns-then-len-gt1-clause-last
returns-then-len-gt1-clause-last g c = λ e. c.in_threads.ensures.last c.args.workers e

pub run_in_turn-requires-clause-puts : goal.run_in_turn-requires-clause-puts
run_in_turn-requires-clause-puts g c κs within = of_one (g.R.Rail.PutsInto c.args.shared.now.rail.now) _ _ (only_one _ _ _ _ c.in-Some.ensures.items c.requires.seats c.requires.workers.0 (omega arith)) c.requires.puts

pub run_in_turn-requires-clause-takes : goal.run_in_turn-requires-clause-takes
run_in_turn-requires-clause-takes g c κs within = of_one (g.R.Rail.TakesFrom c.args.shared.now.rail.now) _ _ (only_one _ _ _ _ c.in-Some.ensures.items c.requires.seats c.requires.workers.0 (omega arith)) c.requires.takes

pub run_in_turn-requires-clause-unused : goal.run_in_turn-requires-clause-unused
run_in_turn-requires-clause-unused g c κs within =
    of_one (λ s. (g.R.Rail.made s ≡ []) × (g.R.Rail.taken s ≡ [])) _ _ (only_one _ _ _ _ c.in-Some.ensures.items c.requires.seats c.requires.workers.0 (omega arith)) c.requires.unused

pub returns-clause-run : goal.returns-clause-run
returns-clause-run g c =
    let one = only_one _ _ _ _ c.in-Some.ensures.items c.requires.seats c.requires.workers.0 (omega arith) in
    subst (λ t. IsRun g.R.Rail.made g.R.Rail.taken g.R.Rail.number_of g.R.Rail.PutsInto g.R.Rail.TakesFrom g.R.Rail.DROPS c.args.shared.now.plan.now c.args.shared.now.texts.now (g.C.Clock.ticks c.args.clock.now) c.args.shared.now.claim.now c.args.workers t c.in_ok-run.run') (sym one) c.in_ok-run.ensures

pub returns-clause-each : goal.returns-clause-each
returns-clause-each g c = λ e. absurd (let some = c.requires.workers.0 in omega arith)

pub returns-clause-last : goal.returns-clause-last
returns-clause-last g c = λ e. absurd (let some = c.requires.workers.0 in omega arith)
