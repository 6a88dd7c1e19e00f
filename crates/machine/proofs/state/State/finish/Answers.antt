use Rattle.std.proofs.Common.{◌≡◌, ℕ, suc, ◌+◌, ◌<◌, ◌≤◌, sym, ap, ◌∙◌, subst, arith}
use Rattle.cursor_word.specs.Cursor.{most_puts}
use Rattle.machine.specs.Bounds.{call_bound}
use Rattle.machine.specs.Invariant.{IsKept, made_count}
use Rattle.machine.specs.Steps.{go, goes, is_mid_call, run, step, view_of}
use Rattle.machine.proofs.Finished.{go_on, rests_after, room_after, stays_idle}
use Rattle.machine.proofs.state.State.finish.Goals as goal

pub returns-then-not-mid_call-clause-idle : goal.returns-then-not-mid_call-clause-idle
returns-then-not-mid_call-clause-idle g c = λ rest. c.loop-step.invariant ∙ stays_idle g.P.Phase.table c.args.self.now c.args.seat g.P.Phase.Holds (subst (IsKept g.P.Phase.Holds) c.self.view_is c.self.invariant) c.requires.suits c.loop-step._step rest

pub step-requires-clause-room : goal.step-requires-clause-room
step-requires-clause-room g c =
    let kept = subst (IsKept g.P.Phase.Holds) c.self.view_is c.self.invariant in
    let was = c.loop-step.invariant in
    subst (λ s. made_count (view_of s c.args.seat) < most_puts s.shape) (sym was)
    (room_after g.P.Phase.table c.args.self.now c.args.seat g.P.Phase.Holds kept c.requires.suits c.keeps.ensures c.ends.ensures c.requires.room c.loop-step._step
    (ap (λ s. is_mid_call (view_of s c.args.seat)) (sym was) ∙ cc (c.mid_call.ensures, c.if-not-mid_call.false)))

pub returns-in_err-step-clause-idle : goal.returns-in_err-step-clause-idle
returns-in_err-step-clause-idle g c = λ rest. c.in_err-step.ensures.refused ∙ c.loop-step.invariant ∙ stays_idle g.P.Phase.table c.args.self.now c.args.seat g.P.Phase.Holds (subst (IsKept g.P.Phase.Holds) c.self.view_is c.self.invariant) c.requires.suits c.loop-step._step rest

pub loop-step-preserved : goal.loop-step-preserved
loop-step-preserved g c =
    let n : ℕ = c.loop-step._step in
    let one : suc n ≡ n + 1 = omega arith in
    let s = c.args.self.now in
    let shape : c.step.new.self.shape ≡ s.shape = c.in_ok-step.ensures.shape ∙ ap (λ s. s.shape) c.loop-step.invariant in
    let state : c.step.new.self.state ≡ run g.P.Phase.table s.shape s.state (goes c.args.seat (n + 1)) =
    c.in_ok-step.ensures.step ∙ ap (λ s. step g.P.Phase.table s.shape s.state (go c.args.seat)) c.loop-step.invariant ∙ sym (go_on g.P.Phase.table s.shape s.state c.args.seat n) ∙ ap (λ (k : ℕ). run g.P.Phase.table s.shape s.state (goes c.args.seat k)) one in
    λ k. record { shape = shape k; state = state k }

pub returns-clause-rests : goal.returns-clause-rests
returns-clause-rests g c =
    let kept = subst (IsKept g.P.Phase.Holds) c.self.view_is c.self.invariant in
    let s = c.args.self.now in
    let width = ap (λ s. s.shape.width) c.self.view_is in
    let far : call_bound s.shape ≤ c.loop-step._step = omega (arith, c.width-most.ensures.value, c.loop-step-test.false) in
    ap (λ s. (view_of s c.args.seat).phase) c.loop-step.invariant ∙ rests_after g.P.Phase.table s c.args.seat g.P.Phase.Holds kept c.requires.suits c.keeps.ensures c.ends.ensures c.requires.room c.loop-step._step far

pub returns-clause-idle : goal.returns-clause-idle
returns-clause-idle g c = λ rest. c.loop-step.invariant ∙ stays_idle g.P.Phase.table c.args.self.now c.args.seat g.P.Phase.Holds (subst (IsKept g.P.Phase.Holds) c.self.view_is c.self.invariant) c.requires.suits c.loop-step._step rest
