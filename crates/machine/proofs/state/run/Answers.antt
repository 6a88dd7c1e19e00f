use Rattle.std.proofs.Common.{◌≡◌, ℕ, ◌+◌, ◌<◌, List, [], ◌∷◌, ◌++◌, length, take, refl, sym, ap, ◌∙◌, subst}
use Rattle.std.proofs.lemmas.Option.{slice_get_read}
use Rattle.std.proofs.lemmas.List.{take_more}
use Rattle.cursor_word.specs.Cursor.{most_puts}
use Rattle.machine.specs.declared.event.Event.{Event}
use Rattle.machine.specs.Steps.{Suits, run, start_state, step, view_of}
use Rattle.machine.specs.Invariant.{made_count}
use Rattle.machine.proofs.Lists.{all_at}
use Rattle.machine.proofs.Runs.{run_push}
use Rattle.machine.proofs.Kept.{made_below}
use Rattle.machine.proofs.state.run.Goals as goal

pub step-requires : goal.step-requires
step-requires g c =
    let i : ℕ = c.loop-event.event-index in
    let x : Event = c.event-item.result in
    let was = sym c.loop-event.invariant in
    record {
      suits = subst (λ s. Suits g.P.Phase.table s.shape x) was (all_at (Suits g.P.Phase.table c.args.shape) c.args.events.now i x c.requires.suits (slice_get_read c.args.events.now (length c.args.events.now) i x refl c.loop-event-test.true c.event-item.is));
      room = subst (λ s. made_count (view_of s x.seat) < most_puts s.shape) was (made_below g.P.Phase.table c.args.shape c.args.events.now i x.seat c.requires.few);
    }

pub loop-event-preserved : goal.loop-event-preserved
loop-event-preserved g c =
    let es : List Event = c.args.events.now in
    let i : ℕ = c.loop-event.event-index in
    let x : Event = c.event-item.result in
    let one : take i es ++ x ∷ [] ≡ take (i + 1) es = ap (λ (e : Event). take i es ++ e ∷ []) c.event-item.is ∙ sym (take_more es i x c.loop-event-test.true) in
    let shape : c.step.new.self.shape ≡ c.args.shape = c.in_ok-step.ensures.shape ∙ ap (λ s. s.shape) c.loop-event.invariant in
    let state : c.step.new.self.state ≡ run g.P.Phase.table c.args.shape (start_state _ c.args.shape) (take (i + 1) es) =
    c.in_ok-step.ensures.step ∙ ap (λ s. step g.P.Phase.table s.shape s.state x) c.loop-event.invariant ∙ sym (run_push g.P.Phase.table c.args.shape (start_state _ c.args.shape) (take i es) x) ∙ ap (run g.P.Phase.table c.args.shape (start_state _ c.args.shape)) one in
    λ k. record { shape = shape k; state = state k }
