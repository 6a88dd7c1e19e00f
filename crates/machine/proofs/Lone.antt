-- A call that no other seat's call overlaps, along a schedule.
use Rattle.std.proofs.Common.{◌≡◌, ◌≢◌, ℕ, zero, suc, ◌<◌, ◌≤◌, ◌⊎◌, List, refl, sym, ap, ◌∙◌, subst, inl, ⊎_elim, arith}
use Rattle.std.specs.Prelude.{Option, Some, None, slice_get}
use Rattle.std.proofs.lemmas.Bool.{cases_eq, cases_lt}
use Rattle.cursor_word.specs.Shape.{Grid}
use Rattle.rail.specs.declared.answer.Answer.{Answer}
use Rattle.machine.specs.declared.event.Event.{Event}
use Rattle.machine.specs.declared.event.Start.{Start}
use Rattle.machine.specs.declared.event.Start.TheVariants as start
use Rattle.machine.specs.declared.view.View.{View}
use Rattle.rail.specs.declared.entry.Placed.{Placed}
use Rattle.machine.specs.declared.op.After.TheVariants.{Next}
use Rattle.machine.specs.Table.{Table}
use Rattle.machine.specs.Steps.{MachineState, begun, finds, moves, phase_after, turn}
use Rattle.machine.specs.Moments.{BeginsCall, EndsAt, IsCall, IsMidCall, IsOverlapped, IsUnmixed, answer_in, answer_of, moment, phase_in, phase_of}
use Rattle.machine.proofs.Lists.{get_set_same}
use Rattle.machine.proofs.Runs.{stepped}
use Rattle.machine.proofs.Calls.{at_next, call_of, not_mid, other_or_not, phase_stays, view_at}

-- the seat is in its call, with what is known while it is alone; or it is at rest again, with an answer that such a call gives
abbrev pub Comes : {P : Type 0} → ℕ → (Option Answer → Type 0) → (MachineState P → P → Type 0) → MachineState P → Type 0
Comes {P} seat Answers Lone w = ((p : P) × Lone w p) ⊎ ((phase_in (slice_get w.views seat) ≡ None) × Answers (answer_in (slice_get w.views seat)))

-- What a call done alone owes, from the state w0 in which it begins: what is known of it (Lone) holds after its first step, lasts over each step of its own,
-- and over each turn of another seat that doesn't leave that seat in mid-call.
pub record IsLoneRule {P : Type 0} (t : Table P) (g : Grid) (seat : ℕ) (begins : Start) (Answers : Option Answer → Type 0) (Lone : MachineState P → P → Type 0) (w0 : MachineState P) : Type 0 where
  pub first : Comes seat Answers Lone (turn t g w0 seat begins (slice_get w0.views seat))
  pub stands : (w : MachineState P) (p : P) → Lone w p → phase_in (slice_get w.views seat) ≡ Some p
  pub own : (w : MachineState P) (p : P) (s : Start) → Lone w p → Comes seat Answers Lone (turn t g w seat s (slice_get w.views seat))
  pub other : (w : MachineState P) (p : P) (j : ℕ) (s : Start) → j ≢ seat → Lone w p
      → (let w' = turn t g w j s (slice_get w.views j) in Lone w' p ⊎ IsMidCall (phase_in (slice_get w'.views j)))

-- no call ends by its first step
pub record GoesOn {P : Type 0} (t : Table P) : Type 0 where
  pub put : (g : Grid) (old : ℕ) → (q : P) × (t.after g t.first_put old ≡ Next q)
  pub take : (g : Grid) (taken : List Placed) (old : ℕ) → (q : P) × (t.after g (t.first_take g taken) old ≡ Next q)

module _ {P : Type 0} (t : Table P) (g : Grid) (goes_on : GoesOn t) where
  mid_moves : (w : MachineState P) (id : ℕ) (v : View P) (s : Start) (ph : Option P) → slice_get w.views id ≡ Some v → v.phase ≡ ph → ph ≡ None → BeginsCall s
      → (let m = moves t g w.words (begun t g v ph s) (begun t g v ph s).phase in IsMidCall m.view.phase)
  mid_moves w id v s (Some p) at e none begins = cc
  mid_moves w id v (start.Put entry) None at e none begins = let b : View P = begun t g v None (start.Put entry) in subst (λ b. IsMidCall (phase_after b)) (sym (goes_on.put g (finds t g w.words b t.first_put)).1) tt
  mid_moves w id v start.Take None at e none begins = let b : View P = begun t g v None start.Take in subst (λ b. IsMidCall (phase_after b)) (sym (goes_on.take g v.taken (finds t g w.words b (t.first_take g v.taken))).1) tt
  mid_moves w id v start.Go None at e none begins = absurd begins

  -- the first step of a call does not end it
  pub begins_mid : (w : MachineState P) (id : ℕ) (v : View P) (s : Start) → slice_get w.views id ≡ Some v → v.phase ≡ None → BeginsCall s → IsMidCall (phase_in (slice_get (turn t g w id s (slice_get w.views id)).views id))
  begins_mid w id v s at rest begins =
      subst (λ (o : Option (View P)). IsMidCall (phase_in (slice_get (turn t g w id s o).views id))) (sym at)
      (subst (λ (o : Option (View P)). IsMidCall (phase_in o)) (sym (get_set_same w.views id v _ at)) (mid_moves w id v s v.phase at refl rest begins))

module _ {P : Type 0} (t : Table P) (g : Grid) (events : List Event) (seat n m : ℕ) (begins : Start) (call : IsCall t g events seat n m begins) where
  module _ (goes_on : GoesOn t) (within : seat < g.seats) where
    pub first_mid : IsMidCall (phase_of t g events (suc n) seat)
    first_mid =
        let v = view_at t g events n seat within in
        at_next t g events (λ (w : MachineState P). IsMidCall (phase_in (slice_get w.views seat))) n
        (subst (λ (o : Option Event). IsMidCall (phase_in (slice_get (stepped t g (moment t g events n) o).views seat))) (sym call.event)
        (begins_mid t g goes_on (moment t g events n) seat v.0 begins v.1 (ap phase_in (sym v.1) ∙ call.rested) call.is_begun))

    pub two_steps : suc n < m
    two_steps = ⊎_elim (λ l. l) (λ l. let e : m ≡ suc n = (let q = call.later in omega arith) in absurd (not_mid _ (ap (λ (k : ℕ). phase_of t g events k seat) (sym e) ∙ call.rests) first_mid)) (cases_lt (suc n) m)

    -- all seats are at rest where an unmixed call begins
    pub all_rest : IsUnmixed t g events seat n m → (j : ℕ) → phase_of t g events n j ≡ None
    all_rest alone j =
        ⊎_elim (λ same. ap (phase_of t g events n) same ∙ call.rested)
        (λ apart. sym (phase_stays t g events n j (λ e h q. apart (let z : record { seat = seat; start = begins } ≡ e = (let y = call.event in cc) in sym (ap (λ (x : Event). x.seat) z ∙ q)))) ∙ alone (suc n) j (omega arith) two_steps apart)
        (cases_eq j seat)

  module _ (Answers : Option Answer → Type 0) (Lone : MachineState P → P → Type 0) (rule : IsLoneRule t g seat begins Answers Lone (moment t g events n)) (alone : IsUnmixed t g events seat n m) where
    abbrev ComesTo : MachineState P → Type 0
    ComesTo w = Comes seat Answers Lone w

    -- while the call goes on
    still_lone : (k : ℕ) → n < k → k < m → ComesTo (moment t g events k) → (p : P) × Lone (moment t g events k) p
    still_lone k l r c = ⊎_elim (λ x. x) (λ x. absurd (not_mid _ x.0 (call.mid k l r))) c

    advances : (k : ℕ) (p : P) (o : Option Event) → slice_get events k ≡ o → n < k → k < m → Lone (moment t g events k) p → ComesTo (stepped t g (moment t g events k) o)
    advances k p None at l r lone = inl (p, lone)
    advances k p (Some e) at l r lone =
        let w : MachineState P = moment t g events k in
        ⊎_elim
        (λ same. subst (λ (j : ℕ). ComesTo (turn t g w j e.start (slice_get w.views j))) (sym same) (rule.own w p e.start lone))
        (λ apart. ⊎_elim (λ x. inl (p, x))
        (λ mid. let stays : phase_of t g events (suc k) seat ≡ phase_of t g events k seat = phase_stays t g events k seat (λ x h q. apart (let z : e ≡ x = cc in ap (λ (y : Event). y.seat) z ∙ q)) in
        let later : suc k < m = ⊎_elim (λ z. z) (λ z. let y : m ≡ suc k = omega arith in absurd (not_mid _ (sym stays ∙ ap (λ (i : ℕ). phase_of t g events i seat) (sym y) ∙ call.rests) (call.mid k l r))) (cases_lt (suc k) m) in
        let here : IsMidCall (phase_of t g events (suc k) e.seat) = at_next t g events (λ (u : MachineState P). IsMidCall (phase_in (slice_get u.views e.seat))) k (subst (λ (o : Option Event). IsMidCall (phase_in (slice_get (stepped t g w o).views e.seat))) (sym at) mid) in
        absurd (not_mid _ (alone (suc k) e.seat (omega arith) later apart) here))
        (rule.other w p e.seat e.start apart lone))
        (cases_eq e.seat seat)

    comes_at : (k : ℕ) → n < k → k ≤ m → ComesTo (moment t g events k)
    comes_at zero l r = absurd (omega arith)
    comes_at (suc k) l r =
        ⊎_elim
        (λ later. let x = still_lone k later (omega arith) (comes_at k later (omega arith)) in at_next t g events ComesTo k (advances k x.0 (slice_get events k) refl later (omega arith) x.1))
        (λ first. let e : n ≡ k = omega arith in
        subst (λ (i : ℕ). ComesTo (moment t g events (suc i))) e
        (at_next t g events ComesTo n (subst (λ (o : Option Event). ComesTo (stepped t g (moment t g events n) o)) (sym call.event) rule.first)))
        (cases_lt n k)

    -- the answer is one that such a call gives
    pub answers_alone : Answers (answer_of t g events m seat)
    answers_alone = ⊎_elim (λ x. absurd (not_mid _ call.rests (subst IsMidCall (sym (rule.stands (moment t g events m) x.0 x.1)) tt))) (λ x. x.1) (comes_at m call.later (omega arith))

-- a call whose answer is that of no lone call was overlapped
pub overlaps : {P : Type 0} (t : Table P) (g : Grid) (events : List Event) (i seat : ℕ) (a : Answer) → EndsAt t g events i seat a
    → ((n : ℕ) (begins : Start) → IsCall t g events seat n (suc i) begins → IsUnmixed t g events seat n (suc i) → answer_of t g events (suc i) seat ≡ Some a → ⊥) → IsOverlapped t g events seat i
overlaps t g events i seat a x never =
    let c = call_of t g events i seat a x in
    ⊎_elim
    (λ h. record { first = c.0; begins = c.1; call = c.2; during = h.during; after_first = h.from; before_last = let t = h.to in omega arith; other = h.other; apart = h.apart; mid = h.mid })
    (λ alone. absurd (never c.0 c.1 c.2 alone (ap answer_in x.view_after ∙ x.answers)))
    (other_or_not t g events seat c.0 (suc i))
