use Rattle.std.proofs.Common.{ap, sym, ◌∙◌, subst}
use Rattle.rail.specs.Rail.{Puts}
use Rattle.rail.specs.declared.answer.Answer.TheVariants as answer
use Rattle.call_steps.specs.Midway.{put_call}
use Rattle.solo_rail.proofs.Answered.{exact}
use Rattle.solo_rail.proofs.queue.SoloQueue.put.Goals as goal

pub run_put-result-requires-clause-free : goal.run_put-result-requires-clause-free
run_put-result-requires-clause-free g c =
    record { shape = ap (λ s. s.of.shape) c.seat.view_is ∙ ap (λ q. q.shape) (c.requires.seat ∙ sym c.self.view_is); sits = tt; rest = c.seat.invariant.0 }

pub returns-clause-answer : goal.returns-clause-answer
returns-clause-answer g c = let r = c.run_put-result.ensures in let new = c.run_put-result.new.seat.view.view in
    subst (λ s. Puts c.args.self.now.shape g.P.CallPhase.drops c.args.entry.now s.view.made new.made new.trail c.run_put-result.result) c.seat.view_is
    (subst (λ q. Puts q.shape g.P.CallPhase.drops c.args.entry.now c.seat.inside.seat.view.view.made new.made new.trail c.run_put-result.result) c.self.view_is r.promised)

pub returns-clause-exact : goal.returns-clause-exact
returns-clause-exact g c = let r = c.run_put-result.ensures in
    let t = g.P.Phase.table in let lone = g.P.LonePhase.lone in
    let shape = ap (λ s. s.of.shape) c.seat.view_is ∙ ap (λ q. q.shape) (c.requires.seat ∙ sym c.self.view_is) in
    let e = exact t g.P.Phase.Holds g.P.CallPhase.drops lone c.keeps.ensures c.calls.ensures.table c.calls.ensures.reads c.calls.ensures.promises c.answers_exactly.ensures (put_call t c.self.inside.shape c.args.entry.now c.seat.inside.seat) c.args.entry.now c.run_put-result.new.seat (answer.Put c.run_put-result.result) shape c.seat.invariant.0 r.steps in
    subst (λ s. lone.Answers c.args.self.now.shape s.view.made s.view.taken (answer.Put c.run_put-result.result)) c.seat.view_is
    (subst (λ q. lone.Answers q.shape c.seat.inside.seat.view.view.made c.seat.inside.seat.view.view.taken (answer.Put c.run_put-result.result)) c.self.view_is e)
