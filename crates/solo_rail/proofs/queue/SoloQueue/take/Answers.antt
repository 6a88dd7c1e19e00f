use Rattle.std.proofs.Common.{ap, sym, ◌∙◌, subst}
use Rattle.rail.specs.Rail.{Takes}
use Rattle.rail.specs.declared.answer.Answer.TheVariants as answer
use Rattle.call_steps.specs.Midway.{take_call}
use Rattle.solo_rail.specs.Holding.{alone_rule}
use Rattle.solo_rail.proofs.Answered.{exact}
use Rattle.solo_rail.proofs.queue.SoloQueue.take.Goals as goal

pub run_take-result-requires-clause-free : goal.run_take-result-requires-clause-free
run_take-result-requires-clause-free g c =
    record { shape = ap (λ s. s.of.shape) c.seat.view_is ∙ ap (λ q. q.shape) (c.requires.seat ∙ sym c.self.view_is); sits = tt; rest = c.seat.invariant.0 }

pub returns-clause-answer : goal.returns-clause-answer
returns-clause-answer g c = let r = c.run_take-result.ensures in let new = c.run_take-result.new.seat.view.view in
    subst (λ s. Takes c.args.self.now.shape g.P.CallPhase.drops new.made c.args.out.now c.run_take-result.new.out s.view.taken new.taken new.trail c.run_take-result.result) c.seat.view_is
    (subst (λ q. Takes q.shape g.P.CallPhase.drops new.made c.args.out.now c.run_take-result.new.out c.seat.inside.seat.view.view.taken new.taken new.trail c.run_take-result.result) c.self.view_is r.promised)

pub returns-clause-exact : goal.returns-clause-exact
returns-clause-exact g c = let r = c.run_take-result.ensures in
    let t = g.P.Phase.table in let lone = g.P.LonePhase.lone in let drops = g.P.CallPhase.drops in
    let shape = ap (λ s. s.of.shape) c.seat.view_is ∙ ap (λ q. q.shape) (c.requires.seat ∙ sym c.self.view_is) in
    let e = exact t g.P.Phase.Holds drops lone c.keeps.ensures c.calls.ensures.table c.calls.ensures.reads c.calls.ensures.promises c.answers_exactly.ensures (take_call t (alone_rule t drops lone) c.self.inside.shape c.args.out.now c.seat.inside.seat) _ c.run_take-result.new.seat (answer.Take c.run_take-result.result) shape c.seat.invariant.0 r.steps in
    subst (λ s. lone.Answers c.args.self.now.shape s.view.made s.view.taken (answer.Take c.run_take-result.result)) c.seat.view_is
    (subst (λ q. lone.Answers q.shape c.seat.inside.seat.view.view.made c.seat.inside.seat.view.view.taken (answer.Take c.run_take-result.result)) c.self.view_is e)
