-- What the steps of a call show of its answer, along a schedule of a queue where no call ends by its first step.
use Rattle.std.proofs.Common.{◌≡◌, ℕ, suc, ◌⊎◌, List, [], ◌∷◌, ◌++◌, sym, subst, ⊎_elim, inl, inr}
use Rattle.std.specs.Prelude.{Some}
use Rattle.cursor_word.specs.Shape.{Grid}
use Rattle.cursor_word.specs.declared.cursor.Cursor.{Cursor}
use Rattle.rail.specs.declared.answer.Answer.{Answer}
use Rattle.rail.specs.declared.answer.Why.{Why}
use Rattle.rail.specs.declared.entry.Placed.{Placed}
use Rattle.machine.specs.declared.event.Event.{Event}
use Rattle.machine.specs.declared.op.After.{After}
use Rattle.machine.specs.declared.op.After.TheVariants.{Next, Done}
use Rattle.machine.specs.declared.view.View.{View}
use Rattle.machine.specs.Moments.{CallStep, EndsAt, moment, seat_at, steps_of, taken_step}
use Rattle.machine.specs.Steps.{finds}
use Rattle.machine.specs.Table.{Table}
use Rattle.machine.proofs.Lone.{GoesOn}
use Rattle.machine.proofs.Schedules as schedules
use Rattle.machine.proofs.Schedules.{IsRecalled, LastStep, last_step, stood_or_begins}
use Rattle.put_side.specs.Causes.{BusyShown}
use Rattle.put_side.proofs.Recalled.{BusyFound, busy_shown}

-- a call begins in this phase
abbrev pub IsFirst : {P : Type 0} → Table P → Grid → P → Type 0
IsFirst table g p = (table.first_put ≡ p) ⊎ ((taken : List Placed) × (table.first_take g taken ≡ p))

-- ShowsNext is what the steps of a call show with one more, by what follows it; Tells n is what the step of a seat with a view tells at moment n
module _ {P : Type 0} (table : Table P) (g : Grid) (events : List Event) (Recalls : List (CallStep P) → P → Type 0) (ShowsNext : List (CallStep P) → CallStep P → After P → Type 0)
    (Tells : ℕ → View P → P → After P → Type 0) where
  -- what the steps of a call show with the one that answers, and what that one tells
  pub record ShownAt (steps : List (CallStep P)) (this : CallStep P) (a : Answer) : Type 0 where
    pub shows : ShowsNext steps this (Done a)
    pub view : View P
    pub tells : Tells this.position view this.phase (Done a)

  -- what a queue knows of the steps of its calls along the schedule
  pub record StepsTell : Type 0 where
    pub put : Recalls [] table.first_put
    pub take : (taken : List Placed) → Recalls [] (table.first_take g taken)
    pub next : (steps : List (CallStep P)) (this : CallStep P) (p : P) → ShowsNext steps this (Next p) → Recalls (steps ++ this ∷ []) p
    pub first : (n : ℕ) (entry : List ℕ) (steps : List (CallStep P)) (p : P) (found : ℕ) → IsFirst table g p → Recalls steps p → ShowsNext steps (taken_step table g entry n p found) (table.after g p found)
    pub stood : (n id : ℕ) (v : View P) (p : P) (steps : List (CallStep P)) → seat_at table g events n id ≡ Some v → v.phase ≡ Some p → Recalls steps p
        → (let found = finds table g (moment table g events n).words v p in ShowsNext steps (taken_step table g v.entry n p found) (table.after g p found) × Tells n v p (table.after g p found))

  module _ (goes_on : GoesOn table) (law : StepsTell) where
    abbrev NextIs : List (CallStep P) → CallStep P → After P → Type 0
    NextIs steps this b = schedules.ShowsNext table g events Recalls ShownAt steps this b

    with_told : (steps : List (CallStep P)) (this : CallStep P) (v : View P) (b : After P) → ShowsNext steps this b → Tells this.position v this.phase b → NextIs steps this b
    with_told steps this v (Next p) s t = law.next steps this p s
    with_told steps this v (Done a) s t = record { shows = s; view = v; tells = t }

    -- the first step of a call does not answer
    goes : (p : P) (found : ℕ) → IsFirst table g p → (q : P) × (table.after g p found ≡ Next q)
    goes p found (inl e) = subst (λ (x : P). (q : P) × (table.after g x found ≡ Next q)) e (goes_on.put g found)
    goes p found (inr e) = subst (λ (x : P). (q : P) × (table.after g x found ≡ Next q)) e.1 (goes_on.take g e.0 found)

    begun : (n : ℕ) (entry : List ℕ) (steps : List (CallStep P)) (p : P) (found : ℕ) → IsFirst table g p → Recalls steps p → NextIs steps (taken_step table g entry n p found) (table.after g p found)
    begun n entry steps p found first r =
        let this : CallStep P = taken_step table g entry n p found in
        let on = goes p found first in
        subst (NextIs steps this) (sym on.1) (law.next steps this on.0 (subst (ShowsNext steps this) on.1 (law.first n entry steps p found first r)))

    pub recalled : IsRecalled table g events Recalls ShownAt
    recalled = record {
      put = law.put;
      take = λ v. law.take v.taken;
      step = λ n id v p steps at e r.
          let found : ℕ = finds table g (moment table g events n).words v p in
          ⊎_elim (λ here. let s = law.stood n id v p steps here e r in with_told steps (taken_step table g v.entry n p found) v (table.after g p found) s.0 s.1)
          (λ begins. begun n v.entry steps p found (⊎_elim (λ q. inl q) (λ q. inr (at.before.taken, q)) begins) r)
          (stood_or_begins table g v p events n id at e);
    }

    pub last : (i seat : ℕ) (a : Answer) → EndsAt table g events i seat a → LastStep table g events Recalls ShownAt recalled i seat a
    last i seat a x = last_step table g events Recalls ShownAt recalled i seat a x

    -- the law of a Busy answer
    pub busy_ended : (shown : P → ℕ → Cursor) (Pair : P → P → Type 0) (Differ : Why → P → Type 0) (i seat : ℕ) (a : Answer) (reason : Why) (l : LastStep table g events Recalls ShownAt recalled i seat a)
        → BusyFound shown Pair (l.before ++ l.last ∷ []) reason l.last → Differ reason l.last.phase → BusyShown shown Pair Differ (steps_of table g events seat (suc i)) reason
    busy_ended shown Pair Differ i seat a reason l f d =
        subst (λ (steps : List (CallStep P)). BusyShown shown Pair Differ steps reason) (sym l.whole) (busy_shown shown Pair Differ (l.before ++ l.last ∷ []) l.last reason f d)
