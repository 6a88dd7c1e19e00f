-- What the steps of a call show of its answer, along a schedule.
use Rattle.std.proofs.Common.{◌≡◌, ℕ, suc, ◌<◌, ◌≤◌, inr, List, [], ◌∷◌, ◌++◌, length, refl, sym, ap, ◌∙◌, subst, inl, ⊎_elim}
use Rattle.std.specs.Prelude.{Option, Some, None, slice_get, slice_set}
use Rattle.std.specs.List.{AllByRecursion, sum_by}
use Rattle.cursor_word.specs.Shape.{Grid, IsWithinLimits}
use Rattle.cursor_word.specs.Cursor.{most_puts, unpacked}
use Rattle.cursor_word.specs.declared.cursor.Cursor.{Cursor}
use Rattle.rail.specs.Items.{places}
use Rattle.rail.specs.declared.entry.Placed.{Placed}
use Rattle.rail.specs.declared.answer.Answer.{Answer}
use Rattle.rail.specs.declared.answer.Answer.TheVariants as answer
use Rattle.rail.specs.declared.answer.Put.TheVariants as put
use Rattle.rail.specs.declared.answer.Take.TheVariants as take
use Rattle.rail.specs.declared.answer.Why.{Why}
use Rattle.rail.specs.declared.answer.Why.TheVariants as why
use Rattle.machine.specs.declared.event.Event.{Event}
use Rattle.machine.specs.declared.event.Start.{Start}
use Rattle.machine.specs.declared.event.Start.TheVariants as start
use Rattle.machine.specs.declared.op.After.TheVariants.{Next, Done}
use Rattle.machine.specs.Steps.{IsWide, Suits, begun, finds}
use Rattle.machine.specs.Moments.{EndsAt, moment, seat_at, steps_of, taken_step}
use Rattle.machine.proofs.Lists.{all_at, get_set_same, set_again}
use Rattle.machine.proofs.Turns.{begun_made, begun_taken}
use Rattle.machine.proofs.Schedules as schedules
use Rattle.machine.proofs.Schedules.{IsRecalled, LastStep, Remembers, ends_done, last_step, last_view, remembered}
use Rattle.put_side.specs.Counts.{makes, takes, times}
use Rattle.put_side.proofs.Recalled.{busy_shown}
use Rattle.put_side.proofs.Sums.{sum_same}
use Rattle.sole_core.specs.Types.{After, CallStep, MachineState, View}
use Rattle.sole_core.specs.Table.{MayBegin, table}
use Rattle.sole_core.specs.Counts.{claims}
use Rattle.sole_core.specs.declared.phase.SolePhase.{SolePhase}
use Rattle.sole_core.specs.Causes.{BusyShown, Differ, EmptyShown, FullShown, PutPair, TakePair, shown}
use Rattle.sole_core.specs.Moments.{EmptyAt, FullAt}
use Rattle.sole_core.specs.Sound.{IsSound}
use Rattle.sole_core.proofs.Outcomes.{Tells, sound_tells}
use Rattle.sole_core.proofs.Recalled.{Recalls, ShowsNext, step_shows}
use Rattle.sole_core.proofs.Reached.{moment_sound}
use Rattle.sole_core.proofs.Starts.{begins}

-- what the steps of a call show with the one that answers
abbrev pub Shows : Grid → List CallStep → CallStep → Answer → Type 0
Shows g steps this a = ShowsNext g steps this (Done a)

-- a call that begins claims no place yet
begun_claims : (g : Grid) (p : ℕ) (v : View) (ph : Option SolePhase) (s : Start) → v.phase ≡ ph → claims g p (begun table g v ph s) ≡ claims g p v
begun_claims g p v (Some q) s e = refl
begun_claims g p v None (start.Put entry) e = ap (λ (o : Option SolePhase). claims g p (record v { phase = o })) (sym e)
begun_claims g p v None start.Take e = ap (λ (o : Option SolePhase). claims g p (record v { phase = o })) (sym e)
begun_claims g p v None start.Go e = refl

module _ (g : Grid) (events : List Event) (limits : IsWithinLimits g) (suits : AllByRecursion (Suits table g) events) (few : length events < most_puts g) where
  as_next : (steps : List CallStep) (this : CallStep) (b : After) → ShowsNext g steps this b → schedules.ShowsNext table g events Recalls (Shows g) steps this b
  as_next steps this (Next p) s = s
  as_next steps this (Done a) s = s

  pub recalled : IsRecalled table g events Recalls (Shows g)
  recalled = record {
    put = inl refl;
    take = λ v. refl;
    step = λ n id v p steps at e r. let old : ℕ = finds table g (moment table g events n).words v p in as_next steps (taken_step table g v.entry n p old) _ (step_shows g v.entry n steps p old r);
  }

  pub trail_is : (n id : ℕ) (v : View) → seat_at table g events n id ≡ Some v → Remembers table g events Recalls (Shows g) (steps_of table g events id n) v
  trail_is n id v at = remembered table g events Recalls (Shows g) recalled n id v at

  abbrev Last : ℕ → ℕ → Answer → Type 0
  Last i seat a = LastStep table g events Recalls (Shows g) recalled i seat a

  last : (i seat : ℕ) (a : Answer) → EndsAt table g events i seat a → Last i seat a
  last i seat a x = last_step table g events Recalls (Shows g) recalled i seat a x

  -- a seat that begins a call keeps the invariant
  begun_sound : (ws : List ℕ) (vs : List View) (id : ℕ) (v : View) (ph : Option SolePhase) (s : Start) → IsSound g ws vs → slice_get vs id ≡ Some v → v.phase ≡ ph → IsWide g s → MayBegin g id s → IsSound g ws (slice_set vs id (begun table g v ph s))
  begun_sound ws vs id v None s k at e wide may = begins g ws vs id v s limits k at e wide may
  begun_sound ws vs id v (Some q) s k at e wide may = subst (IsSound g ws) (sym (set_again vs id v at)) k

  module _ (i seat : ℕ) (a : Answer) (x : EndsAt table g events i seat a) where
    abbrev w : MachineState
    w = moment table g events i

    abbrev v : View
    v = last_view table g events i seat a x

    abbrev vs : List View
    vs = slice_set w.views seat v

    -- what the last step tells, where its seat has begun the call
    tells : Tells g (record { words = w.words; views = vs }) v (Done a)
    tells =
        let s = all_at (Suits table g) events i x.event suits x.here in
        let k = begun_sound w.words w.views seat x.before x.before.phase x.event.start (moment_sound g events limits suits few i) x.view_before refl s.wide (subst (λ (id : ℕ). MayBegin g id x.event.start) x.own s.may_begin) in
        subst (Tells g (record { words = w.words; views = vs }) v) (ends_done table g events i seat a x)
        (sound_tells g w.words vs seat v x.phase limits k (get_set_same w.views seat x.before v x.view_before) x.is_step)

    makes_same : (p : ℕ) → sum_by (makes p) vs ≡ sum_by (makes p) w.views
    makes_same p = sum_same (makes p) w.views seat x.before v x.view_before (ap (λ (l : List Placed). times p (places l)) (begun_made table g x.before x.before.phase x.event.start))

    takes_same : (p : ℕ) → sum_by (takes p) vs ≡ sum_by (takes p) w.views
    takes_same p = sum_same (takes p) w.views seat x.before v x.view_before (ap (λ (l : List Placed). times p (places l)) (begun_taken table g x.before x.before.phase x.event.start))

    claims_same : (p : ℕ) → sum_by (claims g p) vs ≡ sum_by (claims g p) w.views
    claims_same p = sum_same (claims g p) w.views seat x.before v x.view_before (begun_claims g p x.before x.before.phase x.event.start refl)

    -- the queue was full so, or empty, before the call began as well
    full_then : (k : ℕ) (c : Cursor) → FullAt g (record { words = w.words; views = vs }) k c → FullAt g w k c
    full_then k c f = record { from = f.from; allocated = λ p l. subst (λ (n : ℕ). 1 ≤ n) (claims_same p) (f.allocated p l); not_opened = f.not_opened; consumed = f.consumed; not_consumed = f.not_consumed }

    empty_then : (p : ℕ) → EmptyAt (record { words = w.words; views = vs }) p → EmptyAt w p
    empty_then p f = record { not_made = sym (makes_same p) ∙ f.not_made; taken = λ q l. subst (λ (n : ℕ). 1 ≤ n) (takes_same q) (f.taken q l); not_taken = λ q l. sym (takes_same q) ∙ f.not_taken q l }

  -- the laws of each answer
  pub full_shown : (i seat head : ℕ) (consumed : Cursor) → EndsAt table g events i seat (answer.Put (put.Full head consumed)) → FullShown g events (steps_of table g events seat (suc i)) head consumed
  full_shown i seat head consumed x =
      let l = last i seat _ x in
      let s = l.shows in
      let at : s.last.step.position ≡ i = ap (λ (t : CallStep). t.position) s.is_this ∙ l.position in
      subst (λ (steps : List CallStep). FullShown g events steps head consumed) (sym l.whole)
      record {
        full = s.full;
        block = s.block;
        filled = s.filled;
        last = s.last;
        in_order = s.in_order;
        is_last = s.is_last;
        was_full = subst (λ (n : ℕ). FullAt g (moment table g events n) head consumed) (sym at) (full_then i seat _ x head consumed (tells i seat _ x).0);
      }

  -- where a take answers that the queue is empty, it was so at its only step
  pub empty_there : (i seat p : ℕ) → EndsAt table g events i seat (answer.Take (take.Empty p)) → EmptyAt (moment table g events i) p
  empty_there i seat p x = empty_then i seat _ x p (tells i seat _ x).0

  pub empty_shown : (i seat p : ℕ) → EndsAt table g events i seat (answer.Take (take.Empty p)) → EmptyShown g events (steps_of table g events seat (suc i)) p
  empty_shown i seat p x =
      let l = last i seat _ x in
      let s = l.shows in
      let at : s.only.step.position ≡ i = ap (λ (t : CallStep). t.position) s.is_this ∙ l.position in
      subst (λ (steps : List CallStep). EmptyShown g events steps p) (sym l.whole)
      record {
        next = s.next;
        committed = unpacked l.last.found;
        is_place = s.is_place;
        only = s.only;
        none = ⊎_elim (λ e. inl (ap (λ (t : CallStep). t.found) s.is_this ∙ e)) (λ b. inr b) s.none;
        is_only = s.is_only;
        was_empty = subst (λ (n : ℕ). EmptyAt (moment table g events n) p) (sym at) (empty_there i seat p x);
      }

  pub put_busy : (i seat : ℕ) (reason : Why) → EndsAt table g events i seat (answer.Put (put.Busy reason)) → BusyShown (PutPair reason) (steps_of table g events seat (suc i)) reason
  put_busy i seat reason x = let l = last i seat _ x in subst (λ (steps : List CallStep). BusyShown (PutPair reason) steps reason) (sym l.whole) (busy_shown shown (PutPair reason) (λ why p. Differ why) (l.before ++ l.last ∷ []) l.last reason l.shows (tells i seat _ x))

  pub take_busy : (i seat : ℕ) (reason : Why) → EndsAt table g events i seat (answer.Take (take.Busy reason)) → BusyShown (TakePair reason) (steps_of table g events seat (suc i)) reason
  take_busy i seat reason x = let l = last i seat _ x in subst (λ (steps : List CallStep). BusyShown (TakePair reason) steps reason) (sym l.whole) (busy_shown shown (TakePair reason) (λ why p. Differ why) (l.before ++ l.last ∷ []) l.last reason l.shows (tells i seat _ x))

  -- no take answers that a cursor moved
  pub never_moved : (i seat : ℕ) (earlier later : Cursor) → EndsAt table g events i seat (answer.Take (take.Busy (why.Moved earlier later))) → ⊥
  never_moved i seat earlier later x = let b = take_busy i seat (why.Moved earlier later) x in b.later.kind

  pub no_overrun : (i seat p : ℕ) (now : Cursor) → EndsAt table g events i seat (answer.Take (take.Overrun p now)) → ⊥
  no_overrun i seat p now x = tells i seat _ x
