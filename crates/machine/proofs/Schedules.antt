-- The steps of each call, along a whole schedule, and what they show.
use Rattle.std.proofs.Common.{◌≡◌, ◌≢◌, ℕ, zero, suc, List, [], ◌∷◌, ◌++◌, refl, sym, ap, ◌∙◌, subst, ◌⊎◌, inl, inr, ⊎_elim}
use Rattle.std.specs.Prelude.{Option, Some, None, slice_get, ◌==◌}
use Rattle.std.proofs.lemmas.Bool.{cases_eq, cond-false, cond-true, eq-eqb, ne_eqb}
use Rattle.std.proofs.lemmas.List.{map-append}
use Rattle.cursor_word.specs.Shape.{Grid}
use Rattle.rail.specs.declared.answer.Answer.{Answer}
use Rattle.machine.specs.declared.op.After.{After}
use Rattle.machine.specs.declared.op.After.TheVariants.{Next, Done}
use Rattle.machine.specs.declared.view.View.{View}
use Rattle.machine.specs.declared.event.Start.{Start}
use Rattle.machine.specs.declared.event.Start.TheVariants as start
use Rattle.machine.specs.declared.event.Event.{Event}
use Rattle.machine.specs.Table.{Table}
use Rattle.machine.specs.Steps.{MachineState, answer_after, begun, finds, moves, phase_after, resting, start_state, turn, view_after}
use Rattle.machine.specs.Moments.{CallStep, EndsAt, and_step, found_by, moment, seat_at, steps_before, steps_of, taken_step, with_event, with_turn}
use Rattle.machine.proofs.Lists.{get_replicate, get_set_other, get_set_same}
use Rattle.machine.proofs.Runs.{run_next, stepped}

-- the event after the first n, if there is one, is of another seat
abbrev pub IsIdle : List Event → ℕ → ℕ → Type 0
IsIdle events id n = (slice_get events n ≡ None) ⊎ ((e : Event) × (slice_get events n ≡ Some e) × (e.seat ≢ id))

done_is : {P : Type 0} (o : Option Answer) (b : After P) (a : Answer) → phase_after b ≡ None → answer_after o b ≡ Some a → b ≡ Done a
done_is o (Next p) a ended answered = cc
done_is o (Done c) a ended answered = cc

module _ {P : Type 0} (t : Table P) (g : Grid) where
  -- a turn of another seat leaves a seat's view
  pub other_turn : (w : MachineState P) (id other : ℕ) (s : Start) (o : Option (View P)) → id ≢ other → slice_get (turn t g w other s o).views id ≡ slice_get w.views id
  other_turn w id other s None apart = refl
  other_turn w id other s (Some u) apart = get_set_other w.views other id _ apart

-- it is of this seat
pub record IsTurn {P : Type 0} (t : Table P) (g : Grid) (events : List Event) (id n : ℕ) : Type 0 where
  pub event : Event
  pub here : slice_get events n ≡ Some event
  pub own : event.seat ≡ id
  pub before : View P
  pub view_before : seat_at t g events n id ≡ Some before

module _ {P : Type 0} (t : Table P) (g : Grid) (events : List Event) (id n : ℕ) where
  -- the seat's view at its turn, before its step
  abbrev pub began : IsTurn t g events id n → View P
  began x = begun t g x.before x.before.phase x.event.start

  abbrev pub prior : IsTurn t g events id n → List (CallStep P)
  prior x = steps_before x.before.phase x.event.start (steps_of t g events id n)

  next_is : (o : Option Event) → slice_get events n ≡ o → moment t g events (suc n) ≡ stepped t g (moment t g events n) o
  next_is o e = run_next t g (start_state P g) events n ∙ ap (stepped t g (moment t g events n)) e

  pub idle_view : IsIdle events id n → seat_at t g events (suc n) id ≡ seat_at t g events n id
  idle_view (inl e) = ap (λ (w : MachineState P). slice_get w.views id) (next_is None e)
  idle_view (inr x) = let w : MachineState P = moment t g events n in ap (λ (u : MachineState P). slice_get u.views id) (next_is (Some x.0) x.1) ∙ other_turn t g w id x.0.seat x.0.start (slice_get w.views x.0.seat) (λ q. x.2 (sym q))

  pub idle_steps : IsIdle events id n → steps_of t g events id (suc n) ≡ steps_of t g events id n
  idle_steps (inl e) = ap (λ (o : Option Event). with_event t g (moment t g events n) id n o (steps_of t g events id n)) e
  idle_steps (inr x) =
      let w : MachineState P = moment t g events n in
      let steps : List (CallStep P) = steps_of t g events id n in
      ap (λ (o : Option Event). with_event t g w id n o steps) x.1 ∙ cond-false (x.0.seat == id) (with_turn t g w.words n x.0.start (slice_get w.views id) steps) steps (ne_eqb x.0.seat id x.2)

  pub turn_steps : (x : IsTurn t g events id n) → steps_of t g events id (suc n) ≡ and_step t g (moment t g events n).words n (began x) (began x).phase (prior x)
  turn_steps x =
      let w : MachineState P = moment t g events n in
      let steps : List (CallStep P) = steps_of t g events id n in
      ap (λ (o : Option Event). with_event t g w id n o steps) x.here ∙ cond-true (x.event.seat == id) (with_turn t g w.words n x.event.start (slice_get w.views id) steps) steps (eq-eqb x.event.seat id x.own)
      ∙ ap (λ (o : Option (View P)). with_turn t g w.words n x.event.start o steps) x.view_before

  turn_views : (e : Event) (v : View P) → slice_get events n ≡ Some e → e.seat ≡ id → seat_at t g events (suc n) id ≡ Some v → slice_get (turn t g (moment t g events n) id e.start (seat_at t g events n id)).views id ≡ Some v
  turn_views e v at own here =
      let w : MachineState P = moment t g events n in
      subst (λ (k : ℕ). slice_get (turn t g w k e.start (slice_get w.views k)).views id ≡ Some v) own (sym (ap (λ (u : MachineState P). slice_get u.views id) (next_is (Some e) at)) ∙ here)

  pub turn_view : (x : IsTurn t g events id n) (v : View P) → seat_at t g events (suc n) id ≡ Some v → (moves t g (moment t g events n).words (began x) (began x).phase).view ≡ v
  turn_view x v here =
      let w : MachineState P = moment t g events n in
      let set : slice_get (turn t g w id x.event.start (Some x.before)).views id ≡ Some v = subst (λ (o : Option (View P)). slice_get (turn t g w id x.event.start o).views id ≡ Some v) x.view_before (turn_views x.event v x.here x.own here) in
      let q = get_set_same w.views id x.before (moves t g w.words (began x) (began x).phase).view x.view_before in cc

  own_case : (e : Event) (v : View P) (o : Option (View P)) → slice_get events n ≡ Some e → e.seat ≡ id → seat_at t g events n id ≡ o → slice_get (turn t g (moment t g events n) id e.start o).views id ≡ Some v → IsTurn t g events id n
  own_case e v None at own view here = let z : seat_at t g events n id ≡ Some v = here in cc
  own_case e v (Some u) at own view here = record { event = e; here = at; own = own; before = u; view_before = view }

  event_case : (v : View P) (o : Option Event) → slice_get events n ≡ o → seat_at t g events (suc n) id ≡ Some v → IsIdle events id n ⊎ IsTurn t g events id n
  event_case v None at here = inl (inl at)
  event_case v (Some e) at here = ⊎_elim (λ own. inr (own_case e v (seat_at t g events n id) at own refl (turn_views e v at own here))) (λ apart. inl (inr (e, at, apart))) (cases_eq e.seat id)

  -- how a seat came to its view at the next moment
  pub next_case : (v : View P) → seat_at t g events (suc n) id ≡ Some v → IsIdle events id n ⊎ IsTurn t g events id n
  next_case v here = event_case v (slice_get events n) refl here

module _ {P : Type 0} (t : Table P) (g : Grid) (events : List Event) (i seat : ℕ) (a : Answer) (x : EndsAt t g events i seat a) where
  -- the view before the last step of a call
  abbrev pub last_view : View P
  last_view = begun t g x.before x.before.phase x.event.start

  -- the last step of a call leaves the view that its seat has then
  pub ends_view : view_after t g (moment t g events i).words last_view x.phase ≡ x.after
  ends_view =
      let own : IsTurn t g events seat i = record { event = x.event; here = x.here; own = x.own; before = x.before; view_before = x.view_before } in
      subst (λ (o : Option P). (moves t g (moment t g events i).words last_view o).view ≡ x.after) x.is_step (turn_view t g events seat i own x.after x.view_after)

  -- what follows it is the answer
  pub ends_done : t.after g x.phase (finds t g (moment t g events i).words last_view x.phase) ≡ Done a
  ends_done = done_is last_view.answer (t.after g x.phase (finds t g (moment t g events i).words last_view x.phase)) a (ap (λ (v : View P). v.phase) ends_view ∙ x.rests) (ap (λ (v : View P). v.answer) ends_view ∙ x.answers)

-- a seat has this view at its turn, after it began a call where it was at rest
pub record IsAtTurn {P : Type 0} (t : Table P) (g : Grid) (events : List Event) (n id : ℕ) (v : View P) : Type 0 where
  pub before : View P
  pub start : Start
  pub view_before : seat_at t g events n id ≡ Some before
  pub begins : begun t g before before.phase start ≡ v

module _ {P : Type 0} (t : Table P) (g : Grid) (v : View P) (p : P) where
  stands_by : (u : View P) (ph : Option P) (s : Start) → begun t g u ph s ≡ v → v.phase ≡ Some p → (u ≡ v) ⊎ (t.first_put ≡ p) ⊎ (t.first_take g u.taken ≡ p)
  stands_by u (Some q) s e is = inl e
  stands_by u None (start.Put entry) e is = let z : Some t.first_put ≡ Some p = ap (λ (x : View P). x.phase) e ∙ is in inr (inl cc)
  stands_by u None start.Take e is = let z : Some (t.first_take g u.taken) ≡ Some p = ap (λ (x : View P). x.phase) e ∙ is in inr (inr cc)
  stands_by u None start.Go e is = inl e

  -- the seat stood in this phase already, or the phase is where its call begins
  pub stood_or_begins : (events : List Event) (n id : ℕ) (x : IsAtTurn t g events n id v) → v.phase ≡ Some p → (seat_at t g events n id ≡ Some v) ⊎ (t.first_put ≡ p) ⊎ (t.first_take g x.before.taken ≡ p)
  stood_or_begins events n id x is = ⊎_elim (λ e. inl (x.view_before ∙ ap Some e)) (λ q. inr q) (stands_by x.before x.before.phase x.start x.begins is)

-- What a machine's steps recall of their call: by the phase that they led to (Recalls), and with one more step by what follows it (Shows).
-- The first phase recalls nothing, and each step of a reachable state keeps what is recalled.
module _ {P : Type 0} (t : Table P) (g : Grid) (events : List Event) (Recalls : List (CallStep P) → P → Type 0) (Shows : List (CallStep P) → CallStep P → Answer → Type 0) where
  -- what the steps show with one more
  abbrev pub ShowsNext : List (CallStep P) → CallStep P → After P → Type 0
  ShowsNext steps this (Next p) = Recalls (steps ++ this ∷ []) p
  ShowsNext steps this (Done a) = Shows steps this a

  pub record IsRecalled : Type 0 where
    pub put : Recalls [] t.first_put
    pub take : (v : View P) → Recalls [] (t.first_take g v.taken)
    pub step : (n id : ℕ) (v : View P) (p : P) (steps : List (CallStep P)) → IsAtTurn t g events n id v → v.phase ≡ Some p → Recalls steps p
        → (let old = finds t g (moment t g events n).words v p in ShowsNext steps (taken_step t g v.entry n p old) (t.after g p old))

  abbrev pub MidRecalls : List (CallStep P) → Option P → Type 0
  MidRecalls steps None = Unit {0}
  MidRecalls steps (Some p) = Recalls steps p

  -- the steps are those of the view
  pub record Remembers (steps : List (CallStep P)) (v : View P) : Type 0 where
    pub told : found_by steps ≡ v.trail
    pub recalls : MidRecalls steps v.phase

  -- a turn of a seat: what its step shows, or that it does none
  abbrev pub TurnIs : ℕ → View P → Option P → List (CallStep P) → Type 0
  TurnIs n v None steps = Remembers steps v
  TurnIs n v (Some p) steps = (found_by steps ≡ v.trail) × (let old = finds t g (moment t g events n).words v p in ShowsNext steps (taken_step t g v.entry n p old) (t.after g p old))

  after_recalls : (steps : List (CallStep P)) (this : CallStep P) (b : After P) → ShowsNext steps this b → MidRecalls (steps ++ this ∷ []) (phase_after b)
  after_recalls steps this (Next p) s = s
  after_recalls steps this (Done a) s = tt

  turn_remembers : (n : ℕ) (v : View P) (o : Option P) (steps : List (CallStep P)) → TurnIs n v o steps → Remembers (and_step t g (moment t g events n).words n v o steps) (moves t g (moment t g events n).words v o).view
  turn_remembers n v None steps r = r
  turn_remembers n v (Some p) steps r =
      let this : CallStep P = taken_step t g v.entry n p (finds t g (moment t g events n).words v p) in
      record {
        told = map-append (λ (t : CallStep P). t.found) steps (this ∷ []) ∙ ap (λ (l : List ℕ). l ++ this.found ∷ []) r.0;
        recalls = after_recalls steps this (t.after g p (finds t g (moment t g events n).words v p)) r.1;
      }

  module _ (law : IsRecalled) where
    turn_is : (n id : ℕ) (v : View P) (s : Start) (ph : Option P) (steps : List (CallStep P)) → seat_at t g events n id ≡ Some v → v.phase ≡ ph → Remembers steps v
        → TurnIs n (begun t g v ph s) (begun t g v ph s).phase (steps_before ph s steps)
    turn_is n id v s (Some p) steps here e r =
        let at : IsAtTurn t g events n id v = record { before = v; start = start.Go; view_before = here; begins = ap (λ (o : Option P). begun t g v o start.Go) e } in
        subst (λ (o : Option P). TurnIs n v o steps) (sym e) (r.told, law.step n id v p steps at e (subst (MidRecalls steps) e r.recalls))
    turn_is n id v (start.Put entry) None steps here e r =
        let b : View P = begun t g v None (start.Put entry) in
        (refl, law.step n id b t.first_put [] record { before = v; start = start.Put entry; view_before = here; begins = ap (λ (o : Option P). begun t g v o (start.Put entry)) e } refl law.put)
    turn_is n id v start.Take None steps here e r =
        let b : View P = begun t g v None start.Take in
        (refl, law.step n id b (t.first_take g v.taken) [] record { before = v; start = start.Take; view_before = here; begins = ap (λ (o : Option P). begun t g v o start.Take) e } refl (law.take v))
    turn_is n id v start.Go None steps here e r = subst (λ (o : Option P). TurnIs n v o steps) (sym e) r

    -- the steps of each call are those that its seat remembers
    pub remembered : (n id : ℕ) (v : View P) → seat_at t g events n id ≡ Some v → Remembers (steps_of t g events id n) v
    remembered zero id v here = subst (Remembers []) (get_replicate g.seats (resting P g) id v here) record { told = refl; recalls = tt }
    remembered (suc n) id v here =
        ⊎_elim
        (λ idle. subst (λ (steps : List (CallStep P)). Remembers steps v) (sym (idle_steps t g events id n idle)) (remembered n id v (sym (idle_view t g events id n idle) ∙ here)))
        (λ x. let b : View P = began t g events id n x in
        let at = turn_is n id x.before x.event.start x.before.phase (steps_of t g events id n) x.view_before refl (remembered n id x.before x.view_before) in
        subst (λ (steps : List (CallStep P)). Remembers steps v) (sym (turn_steps t g events id n x))
        (subst (Remembers (and_step t g (moment t g events n).words n b b.phase (prior t g events id n x))) (turn_view t g events id n x v here) (turn_remembers n b b.phase (prior t g events id n x) at)))
        (next_case t g events id n v here)

    -- the last step of a call, and those before it
    pub record LastStep (i seat : ℕ) (a : Answer) : Type 0 where
      pub before : List (CallStep P)
      pub last : CallStep P
      pub whole : steps_of t g events seat (suc i) ≡ before ++ last ∷ []
      pub position : last.position ≡ i
      pub shows : Shows before last a

    -- what the steps of a call show of its answer
    pub last_step : (i seat : ℕ) (a : Answer) → EndsAt t g events i seat a → LastStep i seat a
    last_step i seat a x =
        let ws : List ℕ = (moment t g events i).words in
        let own : IsTurn t g events seat i = record { event = x.event; here = x.here; own = x.own; before = x.before; view_before = x.view_before } in
        let b : View P = began t g events seat i own in
        let steps : List (CallStep P) = prior t g events seat i own in
        let old : ℕ = finds t g ws b x.phase in
        let at : TurnIs i b b.phase steps = turn_is i seat x.before x.event.start x.before.phase (steps_of t g events seat i) x.view_before refl (remembered i seat x.before x.view_before) in
        let shown : TurnIs i b (Some x.phase) steps = subst (λ (o : Option P). TurnIs i b o steps) x.is_step at in
        let done : t.after g x.phase old ≡ Done a = ends_done t g events i seat a x in
        record {
          before = steps;
          last = taken_step t g b.entry i x.phase old;
          whole = turn_steps t g events seat i own ∙ ap (λ (o : Option P). and_step t g ws i b o steps) x.is_step;
          position = refl;
          shows = subst (ShowsNext steps (taken_step t g b.entry i x.phase old)) done shown.1;
        }
