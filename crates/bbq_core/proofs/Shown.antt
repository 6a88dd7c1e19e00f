-- What the steps of a call show of its answer, along a schedule.
use Rattle.std.proofs.Common.{◌≡◌, ℕ, suc, ◌<◌, List, length, refl, sym, ap, ◌∙◌, subst, inl, ⊎_elim}
use Rattle.std.specs.Prelude.{Some}
use Rattle.std.specs.List.{AllByRecursion}
use Rattle.cursor_word.specs.Shape.{Grid, IsWithinLimits}
use Rattle.cursor_word.specs.Cursor.{most_puts, unpacked}
use Rattle.cursor_word.specs.declared.cursor.Cursor.{Cursor}
use Rattle.rail.specs.declared.answer.Answer.{Answer}
use Rattle.rail.specs.declared.answer.Answer.TheVariants as answer
use Rattle.rail.specs.declared.answer.Put.TheVariants as put
use Rattle.rail.specs.declared.answer.Take.TheVariants as take
use Rattle.rail.specs.declared.answer.Why.{Why}
use Rattle.machine.specs.declared.event.Event.{Event}
use Rattle.machine.specs.Steps.{Suits, finds}
use Rattle.machine.specs.Moments.{EndsAt, moment, seat_at, steps_of, taken_step}
use Rattle.machine.proofs.Schedules.{LastStep, Remembers, remembered}
use Rattle.bbq_core.specs.Types.{After, CallStep, MachineState, View}
use Rattle.bbq_core.specs.Table.{table}
use Rattle.bbq_core.specs.declared.phase.Phase.{Phase}
use Rattle.bbq_core.specs.declared.phase.Phase.TheVariants.{SeeX}
use Rattle.bbq_core.specs.PutSteps.{after}
use Rattle.put_side.specs.PutSteps.{older_full}
use Rattle.bbq_core.specs.Causes.{BusyShown, Differ, EmptyShown, FullShown, PutPair, TakePair, shown}
use Rattle.bbq_core.specs.Moments.{EmptyAt, FullAt}
use Rattle.bbq_core.specs.Sound.{IsSound}
use Rattle.put_side.specs.PutTable.{stage_in}
use Rattle.put_side.specs.Stages.{Fills}
use Rattle.put_side.proofs.Loads.{knows_at}
use Rattle.bbq_core.specs.Stage.{stage, stage_of}
use Rattle.bbq_core.proofs.Outcomes.{Tells, full_seen, sound_tells}
use Rattle.put_side.proofs.ShownSteps as shown_steps
use Rattle.put_side.proofs.ShownSteps.{IsFirst, ShownAt, StepsTell, busy_ended, recalled}
use Rattle.bbq_core.proofs.CallTable.{never_at_once}
use Rattle.bbq_core.proofs.Recalled.{Recalls, ShowsNext, step_shows}
use Rattle.bbq_core.proofs.Reached.{moment_sound}

-- at the load of the consumed cursor the queue was full
abbrev pub WasFull : Grid → List Event → ℕ → ℕ → Cursor → Type 0
WasFull g events i k x = FullAt g (moment table g events i) k x

module _ (g : Grid) (events : List Event) (limits : IsWithinLimits g) (suits : AllByRecursion (Suits table g) events) (few : length events < most_puts g) where
  abbrev Was : ℕ → ℕ → Cursor → Type 0
  Was i k x = WasFull g events i k x

  abbrev TellsAt : ℕ → View → Phase → After → Type 0
  TellsAt n v p b = Tells g (moment table g events n) v p b

  first : (n : ℕ) (entry : List ℕ) (steps : List CallStep) (p : Phase) (found : ℕ) → IsFirst table g p → Recalls Was steps p → ShowsNext Was g steps (taken_step table g entry n p found) (after g p found)
  first n entry steps p found begins r = step_shows Was g entry n steps p found r (λ full is l. ⊎_elim (λ e. cc) (λ e. let y = e.1 in cc) begins)

  stood : (n id : ℕ) (v : View) (p : Phase) (steps : List CallStep) → seat_at table g events n id ≡ Some v → v.phase ≡ Some p → Recalls Was steps p
      → (let found = finds table g (moment table g events n).words v p in ShowsNext Was g steps (taken_step table g v.entry n p found) (after g p found) × TellsAt n v p (after g p found))
  stood n id v p steps at e r =
      let w : MachineState = moment table g events n in
      let s : IsSound g w.words w.views = moment_sound g events limits suits few n in
      let found : ℕ = finds table g w.words v p in
      let seen : (full : Cursor) → p ≡ SeeX full → found < older_full g full.block → Was n full.block (unpacked found) =
      λ full is. subst (λ (q : Phase). finds table g w.words v q < older_full g full.block → Was n full.block (unpacked (finds table g w.words v q))) (sym is)
      (λ l. full_seen g s.front s.back w.words w.views id v limits s.sound at full (knows_at stage_of g s.front w.words w.views id v v s.sound.puts.places at (Fills full) (ap (stage_in stage) (e ∙ ap Some is))) l) in
      (step_shows Was g v.entry n steps p found r seen, sound_tells g w.words w.views id v p limits s at e)

  pub tell : StepsTell table g events (Recalls Was) (ShowsNext Was g) TellsAt
  tell = record { put = inl refl; take = λ taken. inl refl; next = λ steps this p s. s; first = first; stood = stood }

  abbrev Shows : List CallStep → CallStep → Answer → Type 0
  Shows steps this a = ShownAt table g events (Recalls Was) (ShowsNext Was g) TellsAt steps this a

  pub trail_is : (n id : ℕ) (v : View) → seat_at table g events n id ≡ Some v → Remembers table g events (Recalls Was) Shows (steps_of table g events id n) v
  trail_is n id v at = remembered table g events (Recalls Was) Shows (recalled table g events (Recalls Was) (ShowsNext Was g) TellsAt never_at_once tell) n id v at

  last : (i seat : ℕ) (a : Answer) → EndsAt table g events i seat a → LastStep table g events (Recalls Was) Shows (recalled table g events (Recalls Was) (ShowsNext Was g) TellsAt never_at_once tell) i seat a
  last i seat a x = shown_steps.last table g events (Recalls Was) (ShowsNext Was g) TellsAt never_at_once tell i seat a x

  -- the laws of each answer
  pub full_shown : (i seat head : ℕ) (consumed : Cursor) → EndsAt table g events i seat (answer.Put (put.Full head consumed)) → FullShown g events (steps_of table g events seat (suc i)) head consumed
  full_shown i seat head consumed x =
      let l = last i seat _ x in
      let s = l.shows.shows in
      subst (λ (steps : List CallStep). FullShown g events steps head consumed) (sym l.whole)
      record { full = s.full; block = s.block; filled = s.filled; load = s.load; last = s.last; in_order = s.in_order; last_but_one = s.last_but_one; is_last = s.is_last; was_full = s.was }

  pub empty_shown : (i seat p : ℕ) → EndsAt table g events i seat (answer.Take (take.Empty p)) → EmptyShown g events (steps_of table g events seat (suc i)) p
  empty_shown i seat p x =
      let l = last i seat _ x in
      let s = l.shows.shows in
      let at : s.last.step.position ≡ l.last.position = ap (λ (t : CallStep). t.position) s.is_this in
      subst (λ (steps : List CallStep). EmptyShown g events steps p) (sym l.whole)
      record {
        reserved = s.reserved;
        committed = unpacked l.last.found;
        first = s.first;
        last = s.last;
        in_order = s.in_order;
        is_last = s.is_last;
        was_empty = subst (λ (n : ℕ). EmptyAt g (moment table g events n) p) (sym at) l.shows.tells.0;
      }

  -- where a take answers that the queue is empty, it was so at its last step
  pub empty_there : (i seat p : ℕ) → EndsAt table g events i seat (answer.Take (take.Empty p)) → EmptyAt g (moment table g events i) p
  empty_there i seat p x = let l = last i seat _ x in subst (λ (n : ℕ). EmptyAt g (moment table g events n) p) l.position l.shows.tells.0

  pub put_busy : (i seat : ℕ) (reason : Why) → EndsAt table g events i seat (answer.Put (put.Busy reason)) → BusyShown (PutPair g reason) (steps_of table g events seat (suc i)) reason
  put_busy i seat reason x = let l = last i seat _ x in busy_ended table g events (Recalls Was) (ShowsNext Was g) TellsAt never_at_once tell shown (PutPair g reason) Differ i seat _ reason l l.shows.shows l.shows.tells

  pub take_busy : (i seat : ℕ) (reason : Why) → EndsAt table g events i seat (answer.Take (take.Busy reason)) → BusyShown (TakePair reason) (steps_of table g events seat (suc i)) reason
  take_busy i seat reason x = let l = last i seat _ x in busy_ended table g events (Recalls Was) (ShowsNext Was g) TellsAt never_at_once tell shown (TakePair reason) Differ i seat _ reason l l.shows.shows l.shows.tells

  pub no_overrun : (i seat p : ℕ) (now : Cursor) → EndsAt table g events i seat (answer.Take (take.Overrun p now)) → ⊥
  no_overrun i seat p now x = (last i seat _ x).shows.tells
