-- The ended calls of a schedule are the calls that ended, each with its answer.
use Rattle.std.proofs.Common.{◌≡◌, ℕ, zero, suc, ◌<◌, List, [], ◌∷◌, ◌++◌, refl, sym, ap, ◌∙◌, subst, ⊎_elim, arith}
use Rattle.std.specs.Prelude.{Option, Some, None, Contains, slice_get}
use Rattle.std.proofs.lemmas.Bool.{cases_lt}
use Rattle.std.proofs.lemmas.List.Elements.{Contains-append_cases, Contains-append_left, Contains-append_right, Contains-push_cases}
use Rattle.cursor_word.specs.Shape.{Grid}
use Rattle.rail.specs.declared.answer.Answer.{Answer}
use Rattle.machine.specs.declared.op.After.{After}
use Rattle.machine.specs.declared.op.After.TheVariants.{Next, Done}
use Rattle.machine.specs.declared.view.View.{View}
use Rattle.machine.specs.declared.event.Event.{Event}
use Rattle.machine.specs.Table.{Table}
use Rattle.machine.specs.Steps.{MachineState, answer_after, begun, finds, moves, phase_after, start_state, turn, view_after}
use Rattle.machine.specs.Moments.{Ended, EndsAt, ended, ended_by, ended_by_turn, ended_from, ended_with, moment, seat_at}
use Rattle.machine.proofs.Lists.{get_set_same}
use Rattle.machine.proofs.Runs.{run_next, stepped}
use Rattle.machine.proofs.Schedules.{ends_done}
use Rattle.machine.proofs.Answered.{answered}

abbrev call_of : ℕ → Answer → Ended
call_of seat a = record { seat = seat; answer = a }

module _ {P : Type 0} (t : Table P) (g : Grid) (events : List Event) where
  -- an event that ends a call adds it
  ends_it : (i seat : ℕ) (a : Answer) → EndsAt t g events i seat a → ended_by t g (moment t g events i) (slice_get events i) ≡ call_of seat a ∷ []
  ends_it i seat a x =
      let w : MachineState P = moment t g events i in
      let b : View P = begun t g x.before x.before.phase x.event.start in
      ap (ended_by t g w) x.here
      ∙ ap (λ (j : ℕ). ended_by_turn t g w.words j x.event.start (slice_get w.views j)) x.own
      ∙ ap (ended_by_turn t g w.words seat x.event.start) x.view_before
      ∙ ap (ended_from t g w.words seat b) x.is_step
      ∙ ap (ended_with seat) (ends_done t g events i seat a x)

  -- each call that ended is among the ended calls
  pub ended_has : (n i seat : ℕ) (a : Answer) → i < n → EndsAt t g events i seat a → Contains (ended t g events n) (call_of seat a)
  ended_has zero i seat a l x = absurd (omega arith)
  ended_has (suc n) i seat a l x =
      ⊎_elim
      (λ before. Contains-append_left (ended t g events n) (ended_by t g (moment t g events n) (slice_get events n)) (call_of seat a) (ended_has n i seat a before x))
      (λ last. let e : i ≡ n = omega arith in
      subst (λ (k : ℕ). Contains (ended t g events n ++ ended_by t g (moment t g events k) (slice_get events k)) (call_of seat a)) e
      (Contains-append_right (ended t g events n) (ended_by t g (moment t g events i) (slice_get events i)) (call_of seat a)
      (subst (λ (l : List Ended). Contains l (call_of seat a)) (sym (ends_it i seat a x)) (0, omega arith, refl))))
      (cases_lt i n)

  -- and so is the last answer of each seat
  pub answer_is_ended : (n seat : ℕ) (v : View P) (a : Answer) → seat_at t g events n seat ≡ Some v → v.answer ≡ Some a → Contains (ended t g events n) (call_of seat a)
  answer_is_ended n seat v a here is = let x = answered t g events seat a n v here is in ended_has n x.0 seat a x.1 x.2

  -- an event ends no call, or ends one at its position
  module _ (n : ℕ) (x : Ended) where
    abbrev w : MachineState P
    w = moment t g events n

    step_ends : (e : Event) (v : View P) (p : P) (b : After P) → slice_get events n ≡ Some e → seat_at t g events n e.seat ≡ Some v → (begun t g v v.phase e.start).phase ≡ Some p
        → t.after g p (finds t g w.words (begun t g v v.phase e.start) p) ≡ b → Contains (ended_with e.seat b) x → EndsAt t g events n x.seat x.answer
    step_ends e v p (Next q) here at is follows has = absurd (omega (arith, has.1))
    step_ends e v p (Done a) here at is follows has =
        let u : View P = begun t g v v.phase e.start in
        let turns : view_after t g w.words u p ≡ (moves t g w.words u u.phase).view = ap (λ (o : Option P). (moves t g w.words u o).view) (sym is) in
        let next : seat_at t g events (suc n) e.seat ≡ Some (view_after t g w.words u p) =
        ap (λ (k : MachineState P). slice_get k.views e.seat) (run_next t g (start_state P g) events n ∙ ap (stepped t g w) here ∙ ap (turn t g w e.seat e.start) at) ∙ get_set_same w.views e.seat v _ at ∙ ap Some (sym turns) in
        let ends : EndsAt t g events n e.seat a = record {
          event = e;
          here = here;
          own = refl;
          before = v;
          view_before = at;
          phase = p;
          is_step = is;
          after = view_after t g w.words u p;
          view_after = next;
          rests = ap phase_after follows;
          answers = ap (answer_after u.answer) follows;
        } in
        subst (λ (c : Ended). EndsAt t g events n c.seat c.answer) (⊎_elim (λ none. let l = none.1 in absurd (omega arith)) (λ same. same) (Contains-push_cases [] (call_of e.seat a) x has)) ends

    turn_ends : (e : Event) (v : View P) (o : Option P) → slice_get events n ≡ Some e → seat_at t g events n e.seat ≡ Some v → (begun t g v v.phase e.start).phase ≡ o
        → Contains (ended_from t g w.words e.seat (begun t g v v.phase e.start) o) x → EndsAt t g events n x.seat x.answer
    turn_ends e v None here at is has = absurd (omega (arith, has.1))
    turn_ends e v (Some p) here at is has = step_ends e v p _ here at is refl has

    seat_ends : (e : Event) (o : Option (View P)) → slice_get events n ≡ Some e → seat_at t g events n e.seat ≡ o → Contains (ended_by_turn t g w.words e.seat e.start o) x → EndsAt t g events n x.seat x.answer
    seat_ends e None here at has = absurd (omega (arith, has.1))
    seat_ends e (Some v) here at has = turn_ends e v _ here at refl has

    event_ends : (o : Option Event) → slice_get events n ≡ o → Contains (ended_by t g w o) x → EndsAt t g events n x.seat x.answer
    event_ends None here has = absurd (omega (arith, has.1))
    event_ends (Some e) here has = seat_ends e _ here refl has

  -- each of the ended calls ended by one of the events, with this answer
  pub ended_ends : (n : ℕ) (x : Ended) → Contains (ended t g events n) x → (i : ℕ) × (i < n) × EndsAt t g events i x.seat x.answer
  ended_ends zero x has = absurd (omega (arith, has.1))
  ended_ends (suc n) x has =
      ⊎_elim (λ before. let e = ended_ends n x before in (e.0, omega (arith, e.1), e.2)) (λ last. (n, omega arith, event_ends n x (slice_get events n) refl last))
      (Contains-append_cases (ended t g events n) (ended_by t g (moment t g events n) (slice_get events n)) x has)
