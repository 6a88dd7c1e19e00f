-- What one event does to the state of a schedule with views.
use Rattle.std.proofs.Common.{◌≡◌, ◌≢◌, ℕ, zero, suc, ◌<◌, List, [], ◌∷◌, ◌++◌, false, length, replicate, take, refl, sym, ap, ◌∙◌, subst, inl, inr, ⊎_elim, arith}
use Rattle.std.specs.Prelude.{All, Err, Ok, OnOk, Option, Result, Some, None, is_some, slice_get, slice_index, slice_set, unwrap_or}
use Rattle.std.specs.List.{AllByRecursion}
use Rattle.std.proofs.lemmas.List.{length-replicate, length-set}
use Rattle.std.proofs.lemmas.Option.{get_or_from_slice_get, slice_get_within}
use Rattle.cursor_word.specs.Shape.{Grid}
use Rattle.cursor_word.specs.Cursor.{most_puts}
use Rattle.step_log.specs.declared.log.Step.{Step}
use Rattle.step_log.specs.Log.{loaded}
use Rattle.machine.specs.declared.event.Event.{Event}
use Rattle.machine.specs.Steps.{is_mid_call, resting, start_state, step, view_of}
use Rattle.machine.specs.Moments.{phase_in}
use Rattle.machine.proofs.Lists.{get_set, get_set_other, get_set_same}
use Rattle.drop_core.specs.declared.phase.DropPhase.{DropPhase}
use Rattle.drop_core.specs.Steps.{table}
use Rattle.drop_core.specs.Types.{MachineState, View as SeatView}
use Rattle.flight_view.specs.declared.schedule.ViewEvent.{ViewEvent}
use Rattle.flight_view.specs.declared.schedule.ViewEvent.TheVariants as event
use Rattle.flight_view.specs.declared.viewer.Viewer as code
use Rattle.flight_view.specs.Schedules.{HasLoaded, HasViewed, Leads, Moment, RunsTo, Viewer, loads_in, loads_of, no_view, start_moment, then_after}
use Rattle.flight_view.specs.Viewers.{HasRoom, IsFresh, IsOnWay, IsRun, LeadsTo, LoadsOne, LoadsTo, Stands, StandsFor, Tells, Viewing, view_in}

abbrev pub viewing : Grid → MachineState → List code.Viewer → Viewing
viewing shape queue viewers = record { shape = shape; queue = queue; viewers = viewers }

module _ (g : Grid) (queue : MachineState) (viewers : List code.Viewer) (m : Moment) (s : StandsFor (viewing g queue viewers) m) where
  -- what a seat's viewer stands for
  told_loads : (seat : ℕ) (x : code.Viewer) → slice_get viewers seat ≡ Some x → (loads : List Step) × (loads_of m seat ≡ loads) × Stands g loads x
  told_loads seat x at = let t = s.told seat x at in (t.0.loads, ap loads_in t.1, t.2.stands)

  -- a step of a call whose seat is in a view
  pub step_passes : (e : Event) (x : code.Viewer) → slice_get viewers e.seat ≡ Some x → ((loads : List Step) → Stands g loads x → loads ≢ []) → LeadsTo g m (event.Step e) (viewing g queue viewers)
  step_passes e x at busy = let t = told_loads e.seat x at in (m, inl ((λ none. busy t.0 t.2 (sym t.1 ∙ none)), refl), s)

  -- and of one that isn't
  pub step_leads : (e : Event) (x : code.Viewer) (next : MachineState) → slice_get viewers e.seat ≡ Some x → ((loads : List Step) → Stands g loads x → loads ≡ []) → next ≡ step table g queue e → LeadsTo g m (event.Step e) (viewing g next viewers)
  step_leads e x next at idle is =
      let t = told_loads e.seat x at in
      let to : Moment = record { queue = step table g m.queue e; viewers = m.viewers } in
      (to, inr (t.1 ∙ idle t.0 t.2, refl), record { queue = ap (λ (w : MachineState). step table g w e) s.queue ∙ sym is; long = s.long; told = s.told })

  none_phase : (o : Option DropPhase) → is_some o ≡ false → o ≡ None
  none_phase None e = refl
  none_phase (Some p) e = cc

  at_rest : (seat : ℕ) (o : Option SeatView) → is_mid_call (unwrap_or o (resting DropPhase g)) ≡ false → phase_in o ≡ None
  at_rest seat None e = refl
  at_rest seat (Some v) e = none_phase v.phase e

  -- a seat's view loads a word
  module _ (seat : ℕ) (x new : code.Viewer) (at : slice_get viewers seat ≡ Some x) (rest : is_mid_call (unwrap_or (slice_get queue.views seat) (resting DropPhase g)) ≡ false) where
    abbrev told_viewer : Viewer
    told_viewer = (s.told seat x at).0

    told_at : slice_get m.viewers seat ≡ Some told_viewer
    told_at = (s.told seat x at).1

    rests : phase_in (slice_get m.queue.views seat) ≡ None
    rests = ap (λ (w : MachineState). phase_in (slice_get w.views seat)) s.queue ∙ at_rest seat (slice_get queue.views seat) rest

    views_on : (after : Viewer) → HasLoaded g m.queue told_viewer after → Tells g after new → LeadsTo g m (event.View seat) (viewing g queue (slice_set viewers seat new))
    views_on after did tells =
        let to : Moment = record { queue = m.queue; viewers = slice_set m.viewers seat after } in
        let viewed : HasViewed g m seat to = record { before = told_viewer; here = told_at; after = after; loads = did; is = refl } in (
          to,
          inr (rests, viewed),
          record {
            queue = s.queue;
            long = length-set m.viewers seat after ∙ s.long ∙ sym (length-set viewers seat new);
            told = λ other y here. ⊎_elim
                (λ mine. (after, subst (λ (j : ℕ). slice_get (slice_set m.viewers seat after) j ≡ Some after) (sym mine.0) (get_set_same m.viewers seat told_viewer after told_at), subst (λ (z : code.Viewer). Tells g after z) mine.1 tells))
                (λ apart. let t = s.told other y apart.1 in (t.0, get_set_other m.viewers seat other after apart.0 ∙ t.1, t.2))
                (get_set viewers seat other new y here);
          },
        )

    pub view_leads : LoadsOne g queue.words told_viewer.loads x new → LeadsTo g m (event.View seat) (viewing g queue (slice_set viewers seat new))
    view_leads one =
        let t = (s.told seat x at).2 in
        let all : List Step = told_viewer.loads ++ loaded one.index (slice_index m.queue.words one.index) ∷ [] in
        let to : LoadsTo g all x new = subst (λ (w : MachineState). LoadsTo g (told_viewer.loads ++ loaded one.index (slice_index w.words one.index) ∷ []) x new) (sym s.queue) one.to in
        let then : Option MachineState = then_after told_viewer.loads m.queue told_viewer.then in
        ⊎_elim
        (λ on.
        let after : Viewer = record { loads = all; then = then; view = told_viewer.view } in
        let did : HasLoaded g m.queue told_viewer after = record { index = one.index; then = refl; follows = inl (on.0, refl, refl) } in
        views_on after did (record { stands = on.1; view = on.2 ∙ t.view }))
        (λ end.
        let after : Viewer = record { loads = []; then = then; view = Some end.0 } in
        let did : HasLoaded g m.queue told_viewer after = record { index = one.index; then = refl; follows = inr (end.0, end.1, refl, refl) } in
        views_on after did (record { stands = end.2; view = end.3 }))
        to

replicate_get : {X : Type 0} (n : ℕ) (a : X) (j : ℕ) → j < n → slice_get (replicate n a) j ≡ Some a
replicate_get zero a j lt = absurd (omega arith)
replicate_get (suc n) a zero lt = refl
replicate_get (suc n) a (suc j) lt = replicate_get n a j (omega arith)

none_within : {X : Type 0} (xs : List X) (i : ℕ) → i < length xs → slice_get xs i ≡ None → ⊥
none_within [] i lt e = omega arith
none_within (x ∷ xs) zero lt e = cc
none_within (x ∷ xs) (suc i) lt e = none_within xs i (omega arith) e

-- the start of a schedule
pub starts_for : (g : Grid) (viewers : List code.Viewer) → length viewers ≡ g.seats → All (IsFresh g) viewers → StandsFor (viewing g (start_state DropPhase g) viewers) (start_moment g)
starts_for g viewers long fresh = record {
  queue = refl;
  long = length-replicate g.seats no_view ∙ sym long;
  told = λ seat x at.
      let lt = slice_get_within viewers seat x at in
      let f : IsFresh g x = subst (IsFresh g) (get_or_from_slice_get viewers seat x x at) (fresh seat x lt) in
      (no_view, replicate_get g.seats no_view seat (omega arith), record { stands = f.0; view = f.1 });
}

pub on_way : (g : Grid) (viewers : List code.Viewer) → All (IsFresh g) viewers → (seat : ℕ) (x : code.Viewer) → slice_get viewers seat ≡ Some x → IsOnWay g x
on_way g viewers fresh seat x at =
    let lt = slice_get_within viewers seat x at in
    let f : IsFresh g x = subst (IsFresh g) (get_or_from_slice_get viewers seat x x at) (fresh seat x lt) in ([], f.0)

-- one event more
pub runs_more : (g : Grid) (from : Moment) (events : List ViewEvent) (mid : Moment) (e : ViewEvent) (to : Moment) → RunsTo g from events mid → Leads g mid e to → RunsTo g from (events ++ e ∷ []) to
runs_more g from [] mid e to r l = (to, subst (λ (m : Moment). Leads g m e to) (sym r) l, refl)
runs_more g from (x ∷ xs) mid e to r l = (r.0, r.1, runs_more g r.0 xs mid e to r.2 l)

view_told : (g : Grid) (o : Option code.Viewer) (p : Option Viewer) (viewer : Viewer) → p ≡ Some viewer → ((x : code.Viewer) → o ≡ Some x → (v : Viewer) × (p ≡ Some v) × Tells g v x) → (o ≡ None → ⊥) → view_in o ≡ viewer.view
view_told g None p viewer e told some = absurd (some refl)
view_told g (Some x) p viewer e told some = let t = told x refl in let same : t.0 ≡ viewer = cc in t.2.view ∙ ap (λ (v : Viewer). v.view) same

-- the state of a run
pub is_run : (g : Grid) (events : List ViewEvent) (state : Viewing) (end : Moment) → RunsTo g (start_moment g) events end → StandsFor state end → IsRun g events state
is_run g events state end runs s = record {
  end = end;
  runs = runs;
  queue = s.queue;
  views = λ seat viewer here.
      let lt = slice_get_within end.viewers seat viewer here in
      let l = s.long in
      view_told state.shape (slice_get state.viewers seat) (slice_get end.viewers seat) viewer here (λ x at. s.told seat x at)
      (λ none. none_within state.viewers seat (omega arith) none);
}

-- what an Ok tells, told on
pub ok_on : {A B : Type 0} {E : Type 0} (r : Result (Unit {0}) E) → OnOk r A → (A → B) → OnOk r B
ok_on (Ok x) a f = f a
ok_on (Err x) a f = tt

pub suits_first : {X : Type 0} (P : X → Type 0) (n : ℕ) (xs : List X) → AllByRecursion P xs → AllByRecursion P (take n xs)
suits_first P zero xs all = tt
suits_first P (suc n) [] all = tt
suits_first P (suc n) (x ∷ xs) all = (all.0, suits_first P n xs all.1)

pub room_of : (g : Grid) (state : Viewing) (e : ViewEvent) → state.shape ≡ g → ((seat : ℕ) → length (view_of record { shape = g; state = state.queue } seat).made < most_puts g) → HasRoom state e
room_of g state (event.Step e) same room = subst (λ (s : Grid). length (view_of record { shape = s; state = state.queue } e.seat).made < most_puts s) (sym same) (room e.seat)
room_of g state (event.View seat) same room = tt
