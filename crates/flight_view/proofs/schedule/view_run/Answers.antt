use Rattle.std.proofs.Common.{◌≡◌, ◌+◌, ◌<◌, ◌∷◌, ◌++◌, [], ◌∙◌, ℕ, List, ap, arith, length, subst, sym, take}
use Rattle.std.proofs.lemmas.List.{length-take, take_all, take_more}
use Rattle.cursor_word.specs.Shape.{Grid}
use Rattle.cursor_word.specs.Cursor.{most_puts}
use Rattle.machine.specs.Steps.{view_of}
use Rattle.flight_view.specs.declared.schedule.ViewEvent.{ViewEvent}
use Rattle.flight_view.specs.Schedules.{Leads, RunsTo, SuitsView, start_moment}
use Rattle.flight_view.specs.Viewers.{IsGood}
use Rattle.flight_view.proofs.Reached.{has_room, is_good, reached}
use Rattle.flight_view.proofs.States.{is_run, room_of, runs_more, suits_first}
use Rattle.flight_view.proofs.schedule.view_run.Goals as goal

pub step-requires-clause-sound : goal.step-requires-clause-sound
step-requires-clause-sound c =
    let g = c.args.shape in let es = c.args.events.now in let i : ℕ = c.loop-event.event-index in let inv = c.loop-event.invariant in
    let n = length-take i es in
    let few : length (take i es) < most_puts g = let f = c.requires.few in omega arith in
    let limits = c.blocks-blocks.ensures.limits in let law = c.look_law.ensures in
    let k = reached g limits law (take i es) inv.1 (suits_first (SuitsView g) i es c.requires.suits) few inv.2 in
    let good = is_good g limits law (length (take i es)) inv.1.queue few k.queue in
    subst (λ (s : Grid). IsGood s c.loop-event.state.queue) (sym inv.0) (subst (IsGood g) inv.3.queue good)

pub step-requires-clause-room : goal.step-requires-clause-room
step-requires-clause-room c =
    let g = c.args.shape in let es = c.args.events.now in let i : ℕ = c.loop-event.event-index in let inv = c.loop-event.invariant in
    let n = length-take i es in
    let few : length (take i es) < most_puts g = let f = c.requires.few in omega arith in
    let limits = c.blocks-blocks.ensures.limits in let law = c.look_law.ensures in
    let k = reached g limits law (take i es) inv.1 (suits_first (SuitsView g) i es c.requires.suits) few inv.2 in
    room_of g c.loop-event.state c.event-item.result inv.0 (λ seat. subst (λ w. length (view_of record { shape = g; state = w } seat).made < most_puts g) inv.3.queue (has_room g limits law (length (take i es)) inv.1 seat few k))

pub loop-event-preserved : goal.loop-event-preserved
loop-event-preserved c =
    let g = c.args.shape in let es : List ViewEvent = c.args.events.now in let i : ℕ = c.loop-event.event-index in let x : ViewEvent = c.event-item.result in let inv = c.loop-event.invariant in
    let one : take i es ++ x ∷ [] ≡ take (i + 1) es = ap (λ (e : ViewEvent). take i es ++ e ∷ []) c.event-item.is ∙ sym (take_more es i x c.loop-event-test.true) in
    let on = c.in_ok-step.ensures.leads inv.1 inv.3 in
    let leads : Leads g inv.1 x on.0 = subst (λ (s : Grid). Leads s inv.1 x on.0) inv.0 on.1 in
    (c.in_ok-step.ensures.shape ∙ inv.0, on.0, subst (λ (l : List ViewEvent). RunsTo g (start_moment g) l on.0) one (runs_more g (start_moment g) (take i es) inv.1 x on.0 inv.2 leads), on.2)

pub returns-clause-run : goal.returns-clause-run
returns-clause-run c =
    let g = c.args.shape in let es : List ViewEvent = c.args.events.now in let i : ℕ = c.loop-event.event-index in let inv = c.loop-event.invariant in
    let all : take i es ≡ es = take_all i es (let t = c.loop-event-test.false in omega arith) in
    is_run g es c.loop-event.state inv.1 (subst (λ (l : List ViewEvent). RunsTo g (start_moment g) l inv.1) all inv.2) inv.3
