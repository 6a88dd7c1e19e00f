-- An invariant of the machine holds along each schedule.
use Rattle.std.proofs.Common.{◌≡◌, ℕ, zero, suc, ◌<◌, ◌≤◌, List, [], ◌∷◌, ◌++◌, length, take, refl, sym, subst, arith}
use Rattle.std.specs.Prelude.{Option, Some, None, slice_get, slice_set}
use Rattle.std.specs.List.{AllByRecursion}
use Rattle.cursor_word.specs.Shape.{Grid, IsWithinLimits}
use Rattle.cursor_word.specs.Cursor.{most_puts, place_span}
use Rattle.cursor_word.proofs.Places.{most_puts_to}
use Rattle.machine.specs.declared.view.View.{View}
use Rattle.machine.specs.declared.event.Start.{Start}
use Rattle.machine.specs.declared.event.Event.{Event}
use Rattle.machine.specs.Table.{Table}
use Rattle.machine.specs.Steps.{IsWide, MachineState, Scene, Suits, begun, moves, run, start_state, step, turn, view_after, words_after}
use Rattle.machine.specs.Invariant.{CanStep, Fact, IsInvariant, made_count, made_total}
use Rattle.machine.specs.Moments.{moment}
use Rattle.machine.proofs.Lists.{all_at, get_set_same, one_le_sum, set_twice}
use Rattle.machine.proofs.Turns.{begun_made, run_more, start_total, total_same}

-- the state after one more event
abbrev pub stepped : {P : Type 0} → Table P → Grid → MachineState P → Option Event → MachineState P
stepped t g w None = w
stepped t g w (Some e) = step t g w e

pub run_next : {P : Type 0} (t : Table P) (g : Grid) (w : MachineState P) (es : List Event) (n : ℕ) → run t g w (take (suc n) es) ≡ stepped t g (run t g w (take n es)) (slice_get es n)
run_next t g w [] zero = refl
run_next t g w [] (suc n) = refl
run_next t g w (e ∷ es) zero = refl
run_next t g w (e ∷ es) (suc n) = run_next t g (step t g w e) es n

pub run_push : {P : Type 0} (t : Table P) (g : Grid) (w : MachineState P) (es : List Event) (x : Event) → run t g w (es ++ x ∷ []) ≡ step t g (run t g w es) x
run_push t g w [] x = refl
run_push t g w (e ∷ es) x = run_push t g (step t g w e) es x

take_most : (es : List Event) (n : ℕ) → length (take n es) ≤ length es
take_most es zero = omega arith
take_most [] (suc n) = omega arith
take_most (e ∷ es) (suc n) = omega (arith, take_most es n)

-- few entries are made at each moment of a schedule
module _ {P : Type 0} (t : Table P) (g : Grid) (events : List Event) (n : ℕ) where
  pub moment_total : length events < most_puts g → made_total (moment t g events n).views ≤ place_span g
  moment_total few = omega (arith, run_more t g (start_state P g) (take n events), take_most events n, start_total P g, most_puts_to g)

  -- no seat makes more entries than there were events
  pub made_few : (id : ℕ) (v : View P) → slice_get (moment t g events n).views id ≡ Some v → made_count v ≤ length events
  made_few id v at = let o = one_le_sum made_count _ id v at in omega (arith, run_more t g (start_state P g) (take n events), take_most events n, start_total P g)

module _ {P : Type 0} (t : Table P) (Holds : Fact P) (law : IsInvariant t Holds) (g : Grid) (limits : IsWithinLimits g) where
  -- after a seat's turn
  abbrev AfterTurn : List (View P) → ℕ → Scene P → Type 0
  AfterTurn vs id c = Holds g c.words (slice_set vs id c.view)

  -- a seat that has just begun a call, or none
  first_moves : (ws : List ℕ) (vs : List (View P)) (id : ℕ) (v b : View P) (o : Option P) → Holds g ws (slice_set vs id b) → made_total (slice_set vs id b) ≤ place_span g → slice_get vs id ≡ Some v → b.phase ≡ o
      → AfterTurn vs id (moves t g ws b o)
  first_moves ws vs id v b None h room at e = h
  first_moves ws vs id v b (Some p) h room at e =
      subst (λ (us : List (View P)). Holds g (words_after t g ws b p) us) (set_twice vs id b (view_after t g ws b p)) (law.steps g ws (slice_set vs id b) id b p limits h room (get_set_same vs id v b at) e)

  pub turns : (ws : List ℕ) (vs : List (View P)) (id : ℕ) (v : View P) (s : Start) (ph : Option P) → Holds g ws vs → made_total vs ≤ place_span g → slice_get vs id ≡ Some v → v.phase ≡ ph → IsWide g s → t.MayBegin g id s
      → AfterTurn vs id (moves t g ws (begun t g v ph s) (begun t g v ph s).phase)
  turns ws vs id v s (Some p) h room at e wide may = subst (λ (o : Option P). AfterTurn vs id (moves t g ws v o)) (sym e) (law.steps g ws vs id v p limits h room at e)
  turns ws vs id v s None h room at e wide may =
      let b : View P = begun t g v None s in
      first_moves ws vs id v b b.phase (law.begins g ws vs id v s limits h at e wide may) (let n = total_same vs id v b at (begun_made t g v None s) in omega arith) at refl

  -- a seat at its turn can step
  pub can_turn : (ws : List ℕ) (vs : List (View P)) (id : ℕ) (v : View P) (s : Start) (ph : Option P) (p : P) → Holds g ws vs → made_total vs ≤ place_span g → slice_get vs id ≡ Some v → v.phase ≡ ph → IsWide g s → t.MayBegin g id s
      → (begun t g v ph s).phase ≡ Some p → CanStep t g ws (begun t g v ph s) p
  can_turn ws vs id v s (Some q) p h room at e wide may is = law.can_step g ws vs id v p limits h room at is
  can_turn ws vs id v s None p h room at e wide may is =
      let b : View P = begun t g v None s in
      law.can_step g ws (slice_set vs id b) id b p limits (law.begins g ws vs id v s limits h at e wide may) (let n = total_same vs id v b at (begun_made t g v None s) in omega arith) (get_set_same vs id v b at) is

  abbrev HoldsOf : MachineState P → Type 0
  HoldsOf w = Holds g w.words w.views

  turns_any : (w : MachineState P) (id : ℕ) (s : Start) (o : Option (View P)) → HoldsOf w → made_total w.views ≤ place_span g → slice_get w.views id ≡ o → IsWide g s → t.MayBegin g id s → HoldsOf (turn t g w id s o)
  turns_any w id s None h room at wide may = h
  turns_any w id s (Some v) h room at wide may = turns w.words w.views id v s v.phase h room at refl wide may

  -- an event keeps the invariant
  pub step_holds : (w : MachineState P) (o : Option Event) → HoldsOf w → made_total w.views ≤ place_span g → ((e : Event) → o ≡ Some e → Suits t g e) → HoldsOf (stepped t g w o)
  step_holds w None h room suits = h
  step_holds w (Some e) h room suits = turns_any w e.seat e.start (slice_get w.views e.seat) h room refl (suits e refl).wide (suits e refl).may_begin

  -- the invariant holds at each moment of a schedule
  pub moment_holds : (events : List Event) (n : ℕ) → AllByRecursion (Suits t g) events → length events < most_puts g → HoldsOf (moment t g events n)
  moment_holds events zero suits few = law.starts g limits
  moment_holds events (suc n) suits few =
      subst HoldsOf (sym (run_next t g (start_state P g) events n))
      (step_holds (moment t g events n) (slice_get events n) (moment_holds events n suits few) (moment_total t g events n few) (λ e h. all_at (Suits t g) events n e suits h))
