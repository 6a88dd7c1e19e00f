use Rattle.std.proofs.Common.{◌≡◌, ◌<◌, ◌∙◌, ℕ, false, ap, sym, subst, ⊎_elim}
use Rattle.std.specs.Prelude.{OnOk, Some, slice_get, slice_set, unwrap_or}
use Rattle.std.proofs.lemmas.List.{length-set}
use Rattle.std.proofs.lemmas.Option.{slice_get_read}
use Rattle.machine.specs.Steps.{Suits, is_mid_call, resting, step}
use Rattle.machine.proofs.Lists.{get_set}
use Rattle.drop_core.specs.declared.phase.DropPhase.{DropPhase}
use Rattle.drop_core.specs.Steps.{table}
use Rattle.flight_view.specs.Schedules.{SuitsView}
use Rattle.flight_view.specs.Viewers.{IsOnWay, LeadsTo, StandsFor, Viewing}
use Rattle.flight_view.proofs.States.{ok_on, step_leads, step_passes, view_leads, viewing}
use Rattle.flight_view.proofs.schedule.ViewState.step.Goals as goal

pub returns-then-is_viewing-clause-leads : goal.returns-then-is_viewing-clause-leads
returns-then-is_viewing-clause-leads c = λ moment stands.
    let i = c.self.inside in let e = c.in-Step.step in
    let suits : e.seat < i.shape.seats = (subst (λ (v : Viewing). Suits table v.shape e) (sym c.self.view_is) (subst (SuitsView c.args.self.now.shape) c.in-Step.is c.requires.suits)).seat in
    let at : slice_get i.viewers.items e.seat ≡ Some c.index.result.now = slice_get_read i.viewers.items i.shape.seats e.seat c.index.result.now (sym c.self.invariant.all) suits c.index.ensures in
    subst (λ (v : Viewing). StandsFor v moment → LeadsTo v.shape moment c.args.event.now v) c.self.view_is
    (λ s. subst (λ x. LeadsTo i.shape moment x (viewing i.shape i.queue.state i.viewers.items)) (sym c.in-Step.is) (step_passes i.shape i.queue.state i.viewers.items moment s e c.index.result.now at (c.is_viewing.ensures.yes c.if-is_viewing.true i.shape))) stands

pub load-requires-clause-stands : goal.load-requires-clause-stands
load-requires-clause-stands c =
    let i = c.self.inside in let seat : ℕ = c.in-View.seat in
    let suits : seat < i.shape.seats = subst (λ (v : Viewing). seat < v.shape.seats) (sym c.self.view_is) (subst (SuitsView c.args.self.now.shape) c.in-View.is c.requires.suits) in
    let at : slice_get i.viewers.items seat ≡ Some c.index_mut.result.now = slice_get_read i.viewers.items i.shape.seats seat c.index_mut.result.now (sym c.self.invariant.all) suits c.index_mut.ensures.value in
    c.self.invariant.each seat c.index_mut.result.now at

pub invariant_of-self-in-View : goal.invariant_of-self-in-View
invariant_of-self-in-View c =
    let i = c.self.inside in let seat : ℕ = c.in-View.seat in
    record {
      shape_is = c.self.invariant.shape_is;
      all = length-set i.viewers.items seat c.load.new.self ∙ c.self.invariant.all;
      each = λ other x here. ⊎_elim (λ mine. subst (IsOnWay i.shape) mine.1 c.load.ensures.on_way) (λ apart. c.self.invariant.each other x apart.1) (get_set i.viewers.items seat other c.load.new.self x here);
    }

pub returns-else-is_viewing-clause-leads : goal.returns-else-is_viewing-clause-leads
returns-else-is_viewing-clause-leads c = λ moment stands.
    let i = c.self.inside in let e = c.in-Step.step in
    let suits : e.seat < i.shape.seats = (subst (λ (v : Viewing). Suits table v.shape e) (sym c.self.view_is) (subst (SuitsView c.args.self.now.shape) c.in-Step.is c.requires.suits)).seat in
    let at : slice_get i.viewers.items e.seat ≡ Some c.index.result.now = slice_get_read i.viewers.items i.shape.seats e.seat c.index.result.now (sym c.self.invariant.all) suits c.index.ensures in
    subst (λ (v : Viewing). StandsFor v moment → OnOk c.step.result (LeadsTo v.shape moment c.args.event.now (viewing i.shape c.step.new.self.state i.viewers.items))) c.self.view_is
    (λ s. ok_on c.step.result c.step.ensures.step
    (λ is. subst (λ x. LeadsTo i.shape moment x (viewing i.shape c.step.new.self.state i.viewers.items)) (sym c.in-Step.is)
    (step_leads i.shape i.queue.state i.viewers.items moment s e c.index.result.now c.step.new.self.state at (c.is_viewing.ensures.no c.if-is_viewing.false i.shape) (is ∙ ap (λ g. step table g i.queue.state e) c.self.invariant.shape_is)))) stands

pub returns-else-mid_call-clause-leads : goal.returns-else-mid_call-clause-leads
returns-else-mid_call-clause-leads c = λ moment stands.
    let i = c.self.inside in let seat : ℕ = c.in-View.seat in
    let suits : seat < i.shape.seats = subst (λ (v : Viewing). seat < v.shape.seats) (sym c.self.view_is) (subst (SuitsView c.args.self.now.shape) c.in-View.is c.requires.suits) in
    let at : slice_get i.viewers.items seat ≡ Some c.index_mut.result.now = slice_get_read i.viewers.items i.shape.seats seat c.index_mut.result.now (sym c.self.invariant.all) suits c.index_mut.ensures.value in
    let rest : is_mid_call (unwrap_or (slice_get i.queue.state.views seat) (resting DropPhase i.shape)) ≡ false = ap (λ g. is_mid_call (unwrap_or (slice_get i.queue.state.views seat) (resting DropPhase g))) (sym c.self.invariant.shape_is) ∙ sym c.mid_call.ensures ∙ c.if-mid_call.false in
    subst (λ (v : Viewing). StandsFor v moment → OnOk c.load.result (LeadsTo v.shape moment c.args.event.now (viewing i.shape i.queue.state (slice_set i.viewers.items seat c.load.new.self)))) c.self.view_is
    (λ s. let t = s.told seat c.index_mut.result.now at in
    ok_on c.load.result (c.load.ensures.loads t.0.loads t.2.stands)
    (λ one. subst (λ x. LeadsTo i.shape moment x (viewing i.shape i.queue.state (slice_set i.viewers.items seat c.load.new.self))) (sym c.in-View.is)
    (view_leads i.shape i.queue.state i.viewers.items moment s seat c.index_mut.result.now c.load.new.self at rest one))) stands
