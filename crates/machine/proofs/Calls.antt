-- How calls begin and end along a schedule, and who is in mid-call during one.
use Rattle.std.proofs.Common.{◌≡◌, ◌≢◌, ℕ, zero, suc, ◌<◌, ◌≤◌, ◌⊎◌, List, [], ◌∷◌, length, refl, sym, ap, ◌∙◌, subst, inl, inr, ⊎_elim, arith, get_or}
use Rattle.std.specs.Prelude.{Option, Some, None, slice_get, slice_set}
use Rattle.std.proofs.lemmas.Bool.{cases_eq, cases_lt}
use Rattle.std.proofs.lemmas.List.{length-replicate, length-set}
use Rattle.std.proofs.lemmas.Option.{slice_get-get_or}
use Rattle.cursor_word.specs.Shape.{Grid}
use Rattle.rail.specs.declared.answer.Answer.{Answer}
use Rattle.machine.specs.declared.event.Event.{Event}
use Rattle.machine.specs.declared.event.Start.{Start}
use Rattle.machine.specs.declared.event.Start.TheVariants as start
use Rattle.machine.specs.declared.view.View.{View}
use Rattle.machine.specs.Table.{Table}
use Rattle.machine.specs.Steps.{AllRest, MachineState, begun, moves, resting, start_state, turn}
use Rattle.machine.specs.Moments.{BeginsCall, EndsAt, IsCall, IsDoneAlone, IsMidCall, IsUnmixed, moment, phase_in, phase_of, seat_at}
use Rattle.machine.proofs.Lists.{get_replicate, set_again}
use Rattle.machine.proofs.Runs.{run_next, stepped}
use Rattle.machine.proofs.Schedules.{other_turn}

module _ {P : Type 0} where
  pub mid_or_not : (ph : Option P) → IsMidCall ph ⊎ (ph ≡ None)
  mid_or_not None = inr refl
  mid_or_not (Some p) = inl tt

  pub not_mid : (ph : Option P) → ph ≡ None → IsMidCall ph → ⊥
  not_mid None e m = m
  not_mid (Some p) e m = cc

  pub rest_at : (vs : List (View P)) → ((j : ℕ) → phase_in (slice_get vs j) ≡ None) → AllRest vs
  rest_at vs h j u at = ap phase_in (sym at) ∙ h j

  -- some view is in mid-call, or none is
  none_more : (v : View P) (vs : List (View P)) → v.phase ≡ None → ((j : ℕ) → phase_in (slice_get vs j) ≡ None) → (j : ℕ) → phase_in (slice_get (v ∷ vs) j) ≡ None
  none_more v vs r n zero = r
  none_more v vs r n (suc j) = n j

  some_mid : (vs : List (View P)) → ((j : ℕ) × IsMidCall (phase_in (slice_get vs j))) ⊎ ((j : ℕ) → phase_in (slice_get vs j) ≡ None)
  some_mid [] = inr (λ j. refl)
  some_mid (v ∷ vs) = ⊎_elim (λ m. inl (0, m)) (λ r. ⊎_elim (λ q. inl (suc q.0, q.1)) (λ n. inr (none_more v vs r n)) (some_mid vs)) (mid_or_not v.phase)

  -- and so besides one seat
  none_besides : (v : View P) (vs : List (View P)) (seat : ℕ) → v.phase ≡ None → ((j : ℕ) → j ≢ seat → phase_in (slice_get vs j) ≡ None) → (j : ℕ) → j ≢ suc seat → phase_in (slice_get (v ∷ vs) j) ≡ None
  none_besides v vs seat r n zero apart = r
  none_besides v vs seat r n (suc j) apart = n j (λ q. apart (ap suc q))

  none_after : (v : View P) (vs : List (View P)) → ((j : ℕ) → phase_in (slice_get vs j) ≡ None) → (j : ℕ) → j ≢ zero → phase_in (slice_get (v ∷ vs) j) ≡ None
  none_after v vs n zero apart = absurd (apart refl)
  none_after v vs n (suc j) apart = n j

  other_mid : (vs : List (View P)) (seat : ℕ) → ((j : ℕ) × (j ≢ seat) × IsMidCall (phase_in (slice_get vs j))) ⊎ ((j : ℕ) → j ≢ seat → phase_in (slice_get vs j) ≡ None)
  other_mid [] seat = inr (λ j apart. refl)
  other_mid (v ∷ vs) zero = ⊎_elim (λ q. inl (suc q.0, (λ h. omega arith), q.1)) (λ n. inr (none_after v vs n)) (some_mid vs)
  other_mid (v ∷ vs) (suc seat) =
      ⊎_elim (λ m. inl (0, (λ h. omega arith), m))
      (λ r. ⊎_elim (λ q. let d = q.1 in inl (suc q.0, (λ h. d (omega arith)), q.2)) (λ n. inr (none_besides v vs seat r n)) (other_mid vs seat)) (mid_or_not v.phase)

-- what an event did where a seat at rest is in mid-call after it
record BeganBy (seat : ℕ) (o : Option Event) : Type 0 where
  start : Start
  event : o ≡ Some (record { seat = seat; start = start })
  begins : BeginsCall start

module _ {P : Type 0} (t : Table P) (g : Grid) where
  -- a seat at rest that begins nothing does nothing
  idle_moves : (w : MachineState P) (id : ℕ) (v : View P) (ph : Option P) → slice_get w.views id ≡ Some v → v.phase ≡ ph → ph ≡ None
      → (let m = moves t g w.words (begun t g v ph start.Go) (begun t g v ph start.Go).phase in record { words = m.words; views = slice_set w.views id m.view } ≡ w)
  idle_moves w id v (Some p) at e none = cc
  idle_moves w id v None at e none =
      subst (λ (o : Option P). (let m = moves t g w.words v o in record { words = m.words; views = slice_set w.views id m.view } ≡ w)) (sym e)
      (ap (λ (vs : List (View P)). record { words = w.words; views = vs }) (set_again w.views id v at))

  pub idle_turn : (w : MachineState P) (id : ℕ) (v : View P) → slice_get w.views id ≡ Some v → v.phase ≡ None → turn t g w id start.Go (slice_get w.views id) ≡ w
  idle_turn w id v at rest = subst (λ (o : Option (View P)). turn t g w id start.Go o ≡ w) (sym at) (idle_moves w id v v.phase at refl rest)

  -- no event adds a seat or takes one away
  turn_seats : (w : MachineState P) (id : ℕ) (s : Start) (o : Option (View P)) → length (turn t g w id s o).views ≡ length w.views
  turn_seats w id s None = refl
  turn_seats w id s (Some v) = length-set w.views id _

  seats_stay : (w : MachineState P) (o : Option Event) → length (stepped t g w o).views ≡ length w.views
  seats_stay w None = refl
  seats_stay w (Some e) = turn_seats w e.seat e.start (slice_get w.views e.seat)

  pub stays_by : (w : MachineState P) (j : ℕ) (o : Option Event) → ((e : Event) → o ≡ Some e → e.seat ≢ j) → phase_in (slice_get (stepped t g w o).views j) ≡ phase_in (slice_get w.views j)
  stays_by w j None apart = refl
  stays_by w j (Some e) apart = ap phase_in (other_turn t g w j e.seat e.start (slice_get w.views e.seat) (λ q. apart e refl (sym q)))

  starts : (w : MachineState P) (seat : ℕ) (s : Start) (v : Option (View P)) → slice_get w.views seat ≡ v → phase_in v ≡ None → IsMidCall (phase_in (slice_get (turn t g w seat s (slice_get w.views seat)).views seat)) → BeginsCall s
  starts w seat (start.Put entry) v at rest mid = tt
  starts w seat start.Take v at rest mid = tt
  starts w seat start.Go None at rest mid = not_mid _ (ap phase_in at) (subst (λ (o : Option (View P)). IsMidCall (phase_in (slice_get (turn t g w seat start.Go o).views seat))) at mid)
  starts w seat start.Go (Some v) at rest mid = not_mid _ (ap (λ (u : MachineState P). phase_in (slice_get u.views seat)) (idle_turn w seat v at rest) ∙ ap phase_in at ∙ rest) mid

  began_by : (w : MachineState P) (seat : ℕ) (o : Option Event) → phase_in (slice_get w.views seat) ≡ None → IsMidCall (phase_in (slice_get (stepped t g w o).views seat)) → BeganBy seat o
  began_by w seat None rest mid = absurd (not_mid _ rest mid)
  began_by w seat (Some e) rest mid =
      ⊎_elim
      (λ same. record {
        start = e.start;
        event = let z : e ≡ record { seat = seat; start = e.start } = λ i. record { seat = same i; start = e.start } in ap Some z;
        begins = starts w seat e.start (slice_get w.views seat) refl rest (subst (λ (k : ℕ). IsMidCall (phase_in (slice_get (turn t g w k e.start (slice_get w.views k)).views seat))) same mid);
      })
      (λ apart. absurd (not_mid _ (stays_by w seat (Some e) (λ x h q. apart (let z : e ≡ x = cc in ap (λ (y : Event). y.seat) z ∙ q)) ∙ rest) mid))
      (cases_eq e.seat seat)

  -- a step from rest is the first of a call
  begun_starts : (v : View P) (s : Start) (p : P) → v.phase ≡ None → (begun t g v v.phase s).phase ≡ Some p → BeginsCall s
  begun_starts v (start.Put entry) p rest is = tt
  begun_starts v start.Take p rest is = tt
  begun_starts v start.Go p rest is = let e : (begun t g v None start.Go).phase ≡ Some p = subst (λ (o : Option P). (begun t g v o start.Go).phase ≡ Some p) rest is in cc

module _ {P : Type 0} (t : Table P) (g : Grid) (events : List Event) where
  pub moment_seats : (n : ℕ) → length (moment t g events n).views ≡ g.seats
  moment_seats zero = length-replicate g.seats (resting P g)
  moment_seats (suc n) = ap (λ (w : MachineState P). length w.views) (run_next t g (start_state P g) events n) ∙ seats_stay t g (moment t g events n) (slice_get events n) ∙ moment_seats n

  -- the view of a seat of the queue
  pub view_at : (n seat : ℕ) → seat < g.seats → (v : View P) × (seat_at t g events n seat ≡ Some v)
  view_at n seat l = (get_or (moment t g events n).views seat (resting P g), slice_get-get_or (moment t g events n).views seat (resting P g) (omega (arith, moment_seats n)))

  -- a fact of the state after one more event
  pub at_next : (Q : MachineState P → Type 0) (n : ℕ) → Q (stepped t g (moment t g events n) (slice_get events n)) → Q (moment t g events (suc n))
  at_next Q n h = subst Q (sym (run_next t g (start_state P g) events n)) h

  -- an event of another seat leaves where a seat stands
  pub phase_stays : (n j : ℕ) → ((e : Event) → slice_get events n ≡ Some e → e.seat ≢ j) → phase_of t g events (suc n) j ≡ phase_of t g events n j
  phase_stays n j apart = at_next (λ (w : MachineState P). phase_in (slice_get w.views j) ≡ phase_of t g events n j) n (stays_by t g (moment t g events n) j (slice_get events n) apart)

  start_rests : (seat : ℕ) (o : Option (View P)) → seat_at t g events zero seat ≡ o → phase_in o ≡ None
  start_rests seat None at = refl
  start_rests seat (Some v) at = sym (ap (λ (u : View P). u.phase) (get_replicate g.seats (resting P g) seat v at))

  -- a seat in mid-call at moment m began its call by the event at moment n
  pub record HasBegun (seat m : ℕ) : Type 0 where
    pub n : ℕ
    pub start : Start
    pub event : slice_get events n ≡ Some (record { seat = seat; start = start })
    pub begins : BeginsCall start
    pub rested : phase_of t g events n seat ≡ None
    pub later : n < m
    pub mid : (k : ℕ) → n < k → k ≤ m → IsMidCall (phase_of t g events k seat)

  pub has_begun : (seat m : ℕ) → IsMidCall (phase_of t g events m seat) → HasBegun seat m
  has_begun seat zero mid = absurd (not_mid _ (start_rests seat (seat_at t g events zero seat) refl) mid)
  has_begun seat (suc m) mid =
      ⊎_elim
      (λ before. let h = has_begun seat m before in
      record {
        n = h.n;
        start = h.start;
        event = h.event;
        begins = h.begins;
        rested = h.rested;
        later = omega (arith, h.later);
        mid = λ k l r. ⊎_elim (λ q. h.mid k l (omega arith)) (λ q. let e : suc m ≡ k = omega arith in subst (λ (i : ℕ). IsMidCall (phase_of t g events i seat)) e mid) (cases_lt k (suc m));
      })
      (λ rest. let b = began_by t g (moment t g events m) seat (slice_get events m) rest (subst (λ (w : MachineState P). IsMidCall (phase_in (slice_get w.views seat))) (run_next t g (start_state P g) events m) mid) in
      record {
        n = m;
        start = b.start;
        event = b.event;
        begins = b.begins;
        rested = rest;
        later = omega arith;
        mid = λ k l r. let e : suc m ≡ k = omega arith in subst (λ (i : ℕ). IsMidCall (phase_of t g events i seat)) e mid;
      })
      (mid_or_not (phase_of t g events m seat))

  -- a call that ends began before, or by the same step
  pub call_of : (i seat : ℕ) (a : Answer) → EndsAt t g events i seat a → (n : ℕ) × (begins : Start) × IsCall t g events seat n (suc i) begins
  call_of i seat a x =
      let ended : phase_of t g events (suc i) seat ≡ None = ap phase_in x.view_after ∙ x.rests in
      ⊎_elim
      (λ mid. let h = has_begun seat i mid in
      (h.n, h.start, record { event = h.event; is_begun = h.begins; rested = h.rested; later = omega (arith, h.later); mid = λ k l r. h.mid k l (omega arith); rests = ended }))
      (λ rest. let here : x.before.phase ≡ None = sym (ap phase_in x.view_before) ∙ rest in
      let z : x.event ≡ record { seat = seat; start = x.event.start } = λ i. record { seat = x.own i; start = x.event.start } in
      (i, x.event.start, record { event = x.here ∙ ap Some z; is_begun = begun_starts t g x.before x.event.start x.phase here x.is_step; rested = rest; later = omega arith; mid = λ k l r. absurd (omega arith); rests = ended }))
      (mid_or_not (phase_of t g events i seat))

  -- another seat in mid-call at a moment after n and before d
  pub record HasOther (seat n d : ℕ) : Type 0 where
    pub during : ℕ
    pub from : n < during
    pub to : during < d
    pub other : ℕ
    pub apart : other ≢ seat
    pub mid : IsMidCall (phase_of t g events during other)

  pub other_or_not : (seat n d : ℕ) → HasOther seat n d ⊎ IsUnmixed t g events seat n d
  other_or_not seat n zero = inr (λ k j l r apart. absurd (omega arith))
  other_or_not seat n (suc d) =
      ⊎_elim (λ h. inl record { during = h.during; from = h.from; to = omega (arith, h.to); other = h.other; apart = h.apart; mid = h.mid })
      (λ none. ⊎_elim
      (λ later. ⊎_elim (λ q. inl record { during = d; from = later; to = omega arith; other = q.0; apart = q.1; mid = q.2 })
      (λ here. inr (λ k j l r apart. ⊎_elim (λ z. none k j l z apart) (λ z. let e : d ≡ k = omega arith in subst (λ (i : ℕ). phase_of t g events i j ≡ None) e (here j apart)) (cases_lt k d)))
      (other_mid (moment t g events d).views seat))
      (λ early. inr (λ k j l r apart. none k j l (omega arith) apart)) (cases_lt n d))
      (other_or_not seat n d)

  -- where all events are of one seat no other begins
  module _ (seat n m : ℕ) (alone : IsDoneAlone t g events seat n m) where
    still_rests : (k j : ℕ) → n ≤ k → k ≤ m → j ≢ seat → phase_of t g events k j ≡ None
    still_rests zero j l r apart = let e : n ≡ zero = omega arith in ap (λ (i : ℕ). phase_of t g events i j) (sym e) ∙ alone.rest j
    still_rests (suc k) j l r apart =
        ⊎_elim (λ before. phase_stays k j (λ e h q. apart (sym q ∙ alone.own k e (omega arith) (omega arith) h)) ∙ still_rests k j (omega arith) (omega arith) apart)
        (λ here. let e : n ≡ suc k = omega arith in ap (λ (i : ℕ). phase_of t g events i j) (sym e) ∙ alone.rest j) (cases_lt n (suc k))

    pub unmixed : IsUnmixed t g events seat n m
    unmixed k j l r apart = still_rests k j (omega arith) (omega arith) apart
