-- What the steps of a call so far show, by the phase that they led to, and what they show of its answer along a schedule.
use Rattle.std.proofs.Common.{◌≡◌, ℕ, suc, ◌+◌, ◌-◌, ◌/◌, ◌%◌, ◌<◌, List, [], ◌∷◌, ◌++◌, length, refl, sym, ap, ◌∙◌, subst, inl, inr, ⊎_elim}
use Rattle.std.specs.Prelude.{if◌then◌else◌, Some}
use Rattle.std.proofs.lemmas.Option.{slice_get_within}
use Rattle.cursor_word.specs.Shape.{Grid, IsWithinLimits}
use Rattle.cursor_word.specs.Cursor.{cursor, offset_span, packed, place_at, unpacked, most_puts}
use Rattle.cursor_word.specs.declared.cursor.Cursor.{Cursor}
use Rattle.rail.specs.declared.answer.Why.{Why}
use Rattle.machine.specs.declared.op.After.TheVariants.{Next, Done}
use Rattle.machine.specs.Moments.{taken_step, EndsAt, moment, seat_at, steps_of}
use Rattle.put_side.proofs.Facts.{repacked}
use Rattle.put_side.specs.declared.put_phase.PutPhase.TheVariants.{OpenM}
use Rattle.put_side.specs.PutSteps.{IsTurn, older_full}
use Rattle.put_side.proofs.Choices.{pick_equal, pick_less, pick_same}
use Rattle.put_side.proofs.Recalled.{BusyFound, PutRecalls, TurnRecalls, busy, fresh, get_end, kept, one_longer, put_shows, turn_kept}
use Rattle.put_side.proofs.Sums.{by_test_le, get_front}
use Rattle.drop_core.specs.declared.phase.DropPhase.{DropPhase}
use Rattle.drop_core.specs.declared.phase.DropPhase.TheVariants.{Put, SeeM, Take}
use Rattle.drop_core.specs.declared.take_phase.DropTake.{DropTake}
use Rattle.drop_core.specs.declared.take_phase.DropTake.TheVariants.{HeadC, SeeRes, SeeCom, SeeAll, Reserve, Read, Verify, NextCom, Jump, OpenR, RaiseC}
use Rattle.drop_core.specs.Types.{After, CallStep, View}
use Rattle.drop_core.specs.PutSteps.{after, older_or_not}
use Rattle.drop_core.specs.Stage.{stage}
use Rattle.drop_core.specs.Steps.{table}
use Rattle.drop_core.specs.Causes.{EmptyBy, FindsAllocated, FindsAnyReserved, FindsCommitted, FindsHead, FindsReserved, FoundBy, PutPair, TakePair, shown, BusyShown, Differ, EmptyShown, OverrunShown}
use Rattle.drop_core.proofs.CallTable.{shares, goes_on}
use Rattle.std.specs.List.{AllByRecursion}
use Rattle.rail.specs.declared.answer.Answer.{Answer}
use Rattle.machine.specs.declared.event.Event.{Event}
use Rattle.machine.specs.Steps.{Suits, finds}
use Rattle.machine.proofs.Schedules.{IsRecalled, LastStep, Remembers, last_step, remembered}
use Rattle.drop_core.specs.Moments.{EmptyAt}
use Rattle.drop_core.specs.Sound.{IsSound}
use Rattle.drop_core.proofs.Outcomes.{OverrunIn, TellsNext, step_tells}
use Rattle.put_side.proofs.ShownSteps.{ShownAt, StepsTell, busy_ended}
use Rattle.drop_core.proofs.Reached.{moment_sound}
use Rattle.rail.specs.declared.answer.Answer.TheVariants as answer
use Rattle.rail.specs.declared.answer.Put.TheVariants as put
use Rattle.rail.specs.declared.answer.Take.TheVariants as take
use Rattle.rail.specs.declared.answer.Why.TheVariants as why
use Rattle.put_side.proofs.ShownSteps as steps

-- the last step, this one, found a committed cursor that shows that there is no entry
pub record EmptyFound (g : Grid) (place : ℕ) (steps : List CallStep) (this : CallStep) : Type 0 where
  pub reserved : Cursor
  pub first : FoundBy FindsAnyReserved reserved steps
  pub last : FoundBy (EmptyBy g place reserved (unpacked this.found)) (unpacked this.found) steps
  pub in_order : first.number < last.number
  pub is_last : suc last.number ≡ length steps
  pub is_this : last.step ≡ this

-- an earlier step reserved the place, and the last found the allocated cursor of its physical block
pub record OverrunFound (g : Grid) (place : ℕ) (now : Cursor) (steps : List CallStep) (this : CallStep) : Type 0 where
  pub at : Cursor
  pub is_place : place ≡ place_at g at
  pub reserves : FoundBy (λ p. p ≡ Take (Reserve at)) at steps
  pub last : FoundBy (λ p. p ≡ Take (Verify at)) now steps
  pub in_order : reserves.number < last.number
  pub is_last : suc last.number ≡ length steps
  pub is_this : last.step ≡ this

abbrev pub TakeRecalls : List CallStep → DropTake → Type 0
TakeRecalls steps (HeadC turn first) = TurnRecalls shown FindsReserved turn first steps
TakeRecalls steps (SeeRes turn first head) = TurnRecalls shown FindsReserved turn first steps × FoundBy (FindsHead turn) (cursor head 0) steps
TakeRecalls steps (SeeCom turn r) = IsTurn turn × FoundBy (FindsReserved turn) r steps
TakeRecalls steps (SeeAll r m) = FoundBy FindsAnyReserved r steps × FoundBy (FindsCommitted r) m steps
TakeRecalls steps (Reserve r) = FoundBy FindsAnyReserved r steps
TakeRecalls steps (Read at next) = FoundBy (λ p. p ≡ Take (Reserve at)) at steps
TakeRecalls steps (Verify at) = FoundBy (λ p. p ≡ Take (Reserve at)) at steps
TakeRecalls steps (NextCom sp) = FoundBy (FindsReserved 1) sp steps
TakeRecalls steps (Jump from) = FoundBy (FindsReserved 1) from steps
TakeRecalls steps (OpenR from to) = FoundBy (FindsReserved 1) from steps
TakeRecalls steps (RaiseC from to) = FoundBy (FindsReserved 1) from steps

abbrev pub Recalls : List CallStep → DropPhase → Type 0
Recalls steps (Put q) = PutRecalls stage shown steps q
Recalls steps (SeeM full) = FoundBy (FindsAllocated 1) full steps
Recalls steps (Take q) = TakeRecalls steps q

-- what they show with one more step, by what follows it
abbrev pub ShowsNext : Grid → List CallStep → CallStep → After → Type 0
ShowsNext g steps this (Next p) = Recalls (steps ++ this ∷ []) p
ShowsNext g steps this (Done (answer.Put (put.Ok p))) = Unit {0}
ShowsNext g steps this (Done (answer.Put (put.Full head x))) = ⊥
ShowsNext g steps this (Done (answer.Put (put.Busy reason))) = BusyFound shown (PutPair g reason) (steps ++ this ∷ []) reason this
ShowsNext g steps this (Done (answer.Take (take.Ok p))) = Unit {0}
ShowsNext g steps this (Done (answer.Take (take.Empty p))) = EmptyFound g p (steps ++ this ∷ []) this
ShowsNext g steps this (Done (answer.Take (take.Busy reason))) = BusyFound shown (TakePair reason) (steps ++ this ∷ []) reason this
ShowsNext g steps this (Done (answer.Take (take.Overrun p now))) = OverrunFound g p now (steps ++ this ∷ []) this

-- a reserved cursor was found in its word
reserved_shown : (p : DropPhase) (old turn : ℕ) → FindsReserved turn p → shown p old ≡ unpacked old
reserved_shown (Take (HeadC t first)) old turn k = absurd k
reserved_shown p old turn k = refl

-- a word that is found again holds the cursor that was found in it
found_again : (r : Cursor) (steps : List CallStep) (old : ℕ) → old ≡ packed r → FoundBy FindsAnyReserved r steps → unpacked old ≡ r
found_again r steps old e f =
    let is : unpacked f.step.found ≡ r = sym (reserved_shown f.step.phase f.step.found f.kind.0 f.kind.1) ∙ f.found in
    ap unpacked (e ∙ sym (ap packed is) ∙ repacked f.step.found) ∙ is

module _ (steps : List CallStep) (this : CallStep) where
  -- this step found a committed cursor that shows that there is no entry
  empty : (g : Grid) (place : ℕ) (Is : DropPhase → Type 0) (c : Cursor) → FoundBy Is c steps → ((q : DropPhase) → Is q → FindsAnyReserved q) → EmptyBy g place c (unpacked this.found) this.phase
      → shown this.phase this.found ≡ unpacked this.found → EmptyFound g place (steps ++ this ∷ []) this
  empty g place Is c f any by is = record {
    reserved = c;
    first = record { number = f.number; step = f.step; at = get_front steps this f.number f.step f.at; kind = any f.step.phase f.kind; found = f.found };
    last = record { number = length steps; step = this; at = get_end steps this; kind = by; found = is };
    in_order = slice_get_within steps f.number f.step f.at;
    is_last = one_longer steps this;
    is_this = refl;
  }

turn_of : (turn : ℕ) (first : Cursor) (steps : List CallStep) → TurnRecalls shown FindsReserved turn first steps → IsTurn turn
turn_of turn first steps (inl e) = inl e
turn_of turn first steps (inr f) = inr f.0

module _ (g : Grid) (entry : List ℕ) (n : ℕ) (steps : List CallStep) where
  abbrev now : DropPhase → ℕ → CallStep
  now p old = taken_step table g entry n p old

  -- each step keeps what the steps show
  find_older : (full : Cursor) (old : ℕ) → FoundBy (FindsAllocated 1) full steps → ShowsNext g steps (now (SeeM full) old) (older_or_not g full old)
  find_older full old f =
      let this : CallStep = now (SeeM full) old in
      let reason : Why = why.Unfinished (full.block + 1 - g.blocks) full (unpacked old) in
      by_test_le (older_full g full.block) old (λ c. ShowsNext g steps this (if c then Next (Put (OpenM full)) else Done (answer.Put (put.Busy reason))))
      (λ l. kept shown steps this (FindsAllocated 1) full f)
      (λ l. busy shown steps this (PutPair g reason) (FindsAllocated 1) reason f (λ p k. (k, refl, refl)) refl)

  take_shows : (q : DropTake) (old : ℕ) → TakeRecalls steps q → ShowsNext g steps (now (Take q) old) (after g (Take q) old)
  take_shows (HeadC turn first) old f =
      let this : CallStep = now (Take (HeadC turn first)) old in
      (turn_kept shown steps this FindsReserved turn first f, fresh shown steps this (FindsHead turn) (cursor old 0) refl refl)
  take_shows (SeeRes turn first head) old f =
      let this : CallStep = now (Take (SeeRes turn first head)) old in
      let y : Cursor = unpacked old in
      pick_equal (ShowsNext g steps this) (old / offset_span) head _ _
      (λ b. pick_less (ShowsNext g steps this) (old % offset_span) g.size _ _
      (λ l. (turn_of turn first steps f.0, fresh shown steps this (FindsReserved turn) y refl refl))
      (λ l. pick_equal (ShowsNext g steps this) turn 1 _ _
      (λ e. fresh shown steps this (FindsReserved 1) y e refl)
      (λ ne. ⊎_elim (λ e. absurd (ne e)) (λ t. busy shown steps this (TakePair (why.Moved first y)) (FindsReserved 1) (why.Moved first y) t.1 (λ p k. inr (t.0, k)) refl) f.0)))
      (λ ne. busy shown steps this (TakePair (why.Moved (cursor head 0) y)) (FindsHead turn) (why.Moved (cursor head 0) y) f.1 (λ p k. inl k) refl)
  take_shows (SeeCom turn r) old f =
      let this : CallStep = now (Take (SeeCom turn r)) old in
      let y : Cursor = unpacked old in
      let any : FoundBy FindsAnyReserved r steps = record { number = f.1.number; step = f.1.step; at = f.1.at; kind = (turn, f.1.kind); found = f.1.found } in
      pick_equal (ShowsNext g steps this) old (packed r) _ _
      (λ e. empty steps this g (place_at g r) FindsAnyReserved r any (λ p k. k) (refl, found_again r steps old e any, refl) refl)
      (λ ne. pick_less (ShowsNext g steps this) r.block (old / offset_span) _ _
      (λ l. pick_equal (ShowsNext g steps this) turn 1 _ _
      (λ one. subst (λ (z : ℕ). FoundBy (FindsReserved z) r (steps ++ this ∷ [])) one (kept shown steps this (FindsReserved turn) r f.1))
      (λ two. ⊎_elim (λ e. absurd (two e)) (λ t. busy shown steps this (TakePair (why.Moved r y)) (FindsReserved turn) (why.Moved r y) f.1 (λ p k. (t, subst (λ (z : ℕ). FindsReserved z p) t k)) refl) f.0))
      (λ l. pick_equal (ShowsNext g steps this) (old % offset_span) g.size _ _
      (λ e. kept shown steps this FindsAnyReserved r any)
      (λ e. (kept shown steps this FindsAnyReserved r any, fresh shown steps this (FindsCommitted r) y refl refl))))
  take_shows (SeeAll r m) old f =
      let this : CallStep = now (Take (SeeAll r m)) old in
      let y : Cursor = unpacked old in
      pick_same (ShowsNext g steps this) old m _ _
      (λ e. kept shown steps this FindsAnyReserved r f.0)
      (λ n. pick_equal (ShowsNext g steps this) (old / offset_span) m.block _ _
      (λ e. busy shown steps this (TakePair (why.Unfinished m.block m y)) (FindsCommitted r) (why.Unfinished m.block m y) f.1 (λ p k. (k, refl)) refl)
      (λ e. busy shown steps this (TakePair (why.Moved m y)) (FindsCommitted r) (why.Moved m y) f.1 (λ p k. k) refl))
  take_shows (Reserve r) old f =
      let this : CallStep = now (Take (Reserve r)) old in
      let y : Cursor = unpacked old in
      pick_equal (ShowsNext g steps this) old (packed r) _ _
      (λ e. fresh shown steps this (λ p. p ≡ Take (Reserve r)) r refl (found_again r steps old e f))
      (λ ne. busy shown steps this (TakePair (why.Moved r y)) FindsAnyReserved (why.Moved r y) f (λ p k. k) refl)
  take_shows (Read at next) old f =
      let this : CallStep = now (Take (Read at next)) old in
      let keeps : FoundBy (λ p. p ≡ Take (Reserve at)) at (steps ++ this ∷ []) = kept shown steps this (λ p. p ≡ Take (Reserve at)) at f in
      pick_less (ShowsNext g steps this) (next + 1) g.width _ _ (λ l. keeps) (λ l. keeps)
  take_shows (Verify at) old f =
      let this : CallStep = now (Take (Verify at)) old in
      pick_equal (ShowsNext g steps this) (old / offset_span) at.block _ _ (λ e. tt)
      (λ ne. record {
        at = at;
        is_place = refl;
        reserves = kept shown steps this (λ p. p ≡ Take (Reserve at)) at f;
        last = fresh shown steps this (λ p. p ≡ Take (Verify at)) (unpacked old) refl refl;
        in_order = slice_get_within steps f.number f.step f.at;
        is_last = one_longer steps this;
        is_this = refl;
      })
  take_shows (NextCom sp) old f =
      let this : CallStep = now (Take (NextCom sp)) old in
      pick_less (ShowsNext g steps this) (old / offset_span) (sp.block + 1) _ _
      (λ l. empty steps this g _ (FindsReserved 1) sp f (λ p k. (1, k)) (refl, l, refl) refl)
      (λ l. kept shown steps this (FindsReserved 1) sp f)
  take_shows (Jump from) old f = kept shown steps (now (Take (Jump from)) old) (FindsReserved 1) from f
  take_shows (OpenR from to) old f = kept shown steps (now (Take (OpenR from to)) old) (FindsReserved 1) from f
  take_shows (RaiseC from to) old f = inr (refl, kept shown steps (now (Take (RaiseC from to)) old) (FindsReserved 1) from f)

  pub step_shows : (p : DropPhase) (old : ℕ) → Recalls steps p → ShowsNext g steps (now p old) (after g p old)
  step_shows (Put q) old f =
      put_shows table stage Put SeeM shares shown (λ r word. refl) g entry n steps q old (ShowsNext g steps (now (Put q) old)) (record { next = λ r h. h; fills = λ full h. h; ok = λ place. tt; moved = λ earlier later h. h }) f
  step_shows (SeeM full) old f = find_older full old f
  step_shows (Take q) old f = take_shows q old f

module _ (g : Grid) (events : List Event) (limits : IsWithinLimits g) (suits : AllByRecursion (Suits table g) events) (few : length events < most_puts g) where
  abbrev TellsAt : ℕ → View → DropPhase → After → Type 0
  TellsAt n v p b = TellsNext g (moment table g events n) p b

  told : StepsTell table g events Recalls (ShowsNext g) TellsAt
  told = record {
    put = inl refl;
    take = λ taken. inl refl;
    next = λ steps this p h. h;
    first = λ n entry steps p old is r. step_shows g entry n steps p old r;
    stood = λ n id v p steps here e r.
        let w = moment table g events n in
        let s : IsSound g w.words w.views = moment_sound g events limits suits few n in
        (step_shows g v.entry n steps p (finds table g w.words v p) r, step_tells g s.front w.words w.views limits s.at id v here p e);
  }

  abbrev Ends : List CallStep → CallStep → Answer → Type 0
  Ends = ShownAt table g events Recalls (ShowsNext g) TellsAt

  abbrev recalled : IsRecalled table g events Recalls Ends
  recalled = steps.recalled table g events Recalls (ShowsNext g) TellsAt goes_on told

  pub trail_is : (n id : ℕ) (v : View) → seat_at table g events n id ≡ Some v → Remembers table g events Recalls Ends (steps_of table g events id n) v
  trail_is n id v at = remembered table g events Recalls Ends recalled n id v at

  last : (i seat : ℕ) (a : Answer) → EndsAt table g events i seat a → LastStep table g events Recalls Ends recalled i seat a
  last i seat a x = last_step table g events Recalls Ends recalled i seat a x

  -- the laws of each answer
  pub never_full : (i seat head : ℕ) (consumed : Cursor) → EndsAt table g events i seat (answer.Put (put.Full head consumed)) → ⊥
  never_full i seat head consumed x = (last i seat _ x).shows.tells

  pub empty_shown : (i seat p : ℕ) → EndsAt table g events i seat (answer.Take (take.Empty p)) → EmptyShown g events (steps_of table g events seat (suc i)) p
  empty_shown i seat p x =
      let l = last i seat _ x in
      let s = l.shows.shows in
      let at : s.last.step.position ≡ l.last.position = ap (λ (t : CallStep). t.position) s.is_this in
      subst (λ (steps : List CallStep). EmptyShown g events steps p) (sym l.whole)
      record {
        reserved = s.reserved;
        committed = unpacked l.last.found;
        first = s.first;
        last = s.last;
        in_order = s.in_order;
        is_last = s.is_last;
        was_empty = subst (λ (n : ℕ). EmptyAt g (moment table g events n) p) (sym at) l.shows.tells;
      }

  pub overrun_shown : (i seat p : ℕ) (now : Cursor) → EndsAt table g events i seat (answer.Take (take.Overrun p now)) → OverrunShown g events (steps_of table g events seat (suc i)) p now
  overrun_shown i seat p now x =
      let l = last i seat _ x in
      let s = l.shows.shows in
      let told : OverrunIn g (moment table g events s.last.step.position) now s.last.step.phase = subst (λ (t : CallStep). OverrunIn g (moment table g events t.position) now t.phase) (sym s.is_this) l.shows.tells.0 in
      subst (λ (steps : List CallStep). OverrunShown g events steps p now) (sym l.whole)
      record {
        at = s.at;
        is_place = s.is_place;
        reserves = s.reserves;
        last = s.last;
        in_order = s.in_order;
        is_last = s.is_last;
        was_overrun = subst (OverrunIn g (moment table g events s.last.step.position) now) s.last.kind told;
      }

  pub put_busy : (i seat : ℕ) (reason : Why) → EndsAt table g events i seat (answer.Put (put.Busy reason)) → BusyShown (PutPair g reason) (steps_of table g events seat (suc i)) reason
  put_busy i seat reason x = let l = last i seat _ x in busy_ended table g events Recalls (ShowsNext g) TellsAt goes_on told shown (PutPair g reason) Differ i seat _ reason l l.shows.shows l.shows.tells

  pub take_busy : (i seat : ℕ) (reason : Why) → EndsAt table g events i seat (answer.Take (take.Busy reason)) → BusyShown (TakePair reason) (steps_of table g events seat (suc i)) reason
  take_busy i seat reason x = let l = last i seat _ x in busy_ended table g events Recalls (ShowsNext g) TellsAt goes_on told shown (TakePair reason) Differ i seat _ reason l l.shows.shows l.shows.tells
