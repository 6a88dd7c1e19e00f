-- Each answer that a seat has was given by an event that ended a call.
use Rattle.std.proofs.Common.{◌≡◌, ℕ, zero, suc, ◌<◌, List, refl, sym, ap, ◌∙◌, ⊎_elim, arith}
use Rattle.std.specs.Prelude.{Option, Some, None}
use Rattle.cursor_word.specs.Shape.{Grid}
use Rattle.rail.specs.declared.answer.Answer.{Answer}
use Rattle.machine.specs.declared.op.After.{After}
use Rattle.machine.specs.declared.op.After.TheVariants.{Next, Done}
use Rattle.machine.specs.declared.view.View.{View}
use Rattle.machine.specs.declared.event.Event.{Event}
use Rattle.machine.specs.Table.{Table}
use Rattle.machine.specs.Steps.{answer_after, finds, moves, phase_after, resting, view_after}
use Rattle.machine.specs.Moments.{EndsAt, moment, seat_at}
use Rattle.machine.proofs.Lists.{get_replicate}
use Rattle.machine.proofs.Turns.{begun_answer}
use Rattle.machine.proofs.Schedules.{IsTurn, began, idle_view, next_case, turn_view}

module _ {P : Type 0} (t : Table P) (g : Grid) (events : List Event) (id : ℕ) (a : Answer) where
  abbrev IsGiven : ℕ → Type 0
  IsGiven n = (i : ℕ) × (i < n) × EndsAt t g events i id a

  later : (n : ℕ) → IsGiven n → IsGiven (suc n)
  later n x = (x.0, omega (arith, x.1), x.2)

  step_answered : (n : ℕ) (x : IsTurn t g events id n) (v : View P) (p : P) → seat_at t g events (suc n) id ≡ Some v → v.answer ≡ Some a → (began t g events id n x).phase ≡ Some p
      → (b : After P) → t.after g p (finds t g (moment t g events n).words (began t g events id n x) p) ≡ b → view_after t g (moment t g events n).words (began t g events id n x) p ≡ v
      → ((began t g events id n x).answer ≡ Some a → IsGiven n) → IsGiven (suc n)
  step_answered n x v p here is step (Next q) e to old = later n (old (sym (ap (answer_after (began t g events id n x).answer) e) ∙ ap (λ (u : View P). u.answer) to ∙ is))
  step_answered n x v p here is step (Done c) e to old = (
    n,
    omega arith,
    record {
      event = x.event;
      here = x.here;
      own = x.own;
      before = x.before;
      view_before = x.view_before;
      phase = p;
      is_step = step;
      after = v;
      view_after = here;
      rests = sym (ap (λ (u : View P). u.phase) to) ∙ ap phase_after e;
      answers = is;
    },
  )

  turn_answered : (n : ℕ) (x : IsTurn t g events id n) (v : View P) → seat_at t g events (suc n) id ≡ Some v → v.answer ≡ Some a → (o : Option P) → (began t g events id n x).phase ≡ o
      → (moves t g (moment t g events n).words (began t g events id n x) o).view ≡ v → (x.before.answer ≡ Some a → IsGiven n) → IsGiven (suc n)
  turn_answered n x v here is None step to old = later n (old (sym (begun_answer t g x.before x.before.phase x.event.start) ∙ ap (λ (u : View P). u.answer) to ∙ is))
  turn_answered n x v here is (Some p) step to old =
      step_answered n x v p here is step (t.after g p (finds t g (moment t g events n).words (began t g events id n x) p)) refl to (λ q. old (sym (begun_answer t g x.before x.before.phase x.event.start) ∙ q))

  pub answered : (n : ℕ) (v : View P) → seat_at t g events n id ≡ Some v → v.answer ≡ Some a → IsGiven n
  answered zero v here is = let e = ap (λ (u : View P). u.answer) (get_replicate g.seats (resting P g) id v here) in cc
  answered (suc n) v here is =
      ⊎_elim
      (λ idle. later n (answered n v (sym (idle_view t g events id n idle) ∙ here) is))
      (λ x. turn_answered n x v here is (began t g events id n x).phase refl (turn_view t g events id n x v here) (answered n x.before x.view_before))
      (next_case t g events id n v here)
