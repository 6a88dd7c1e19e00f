-- A call that no other seat's call overlaps answers as one thread is answered.
use Rattle.std.proofs.Common.{◌≡◌, ℕ, suc, ◌<◌, ◌≤◌, List, length, refl, subst}
use Rattle.std.specs.Prelude.{Some, None}
use Rattle.std.specs.List.{AllByRecursion}
use Rattle.cursor_word.specs.Shape.{Grid, IsWithinLimits}
use Rattle.cursor_word.specs.Cursor.{most_puts, place_span}
use Rattle.rail.specs.declared.answer.Answer.{Answer}
use Rattle.rail.specs.declared.answer.Answer.TheVariants as answer
use Rattle.rail.specs.declared.answer.Put.TheVariants as put
use Rattle.rail.specs.declared.answer.Take.TheVariants as take
use Rattle.rail.specs.declared.answer.Why.{Why}
use Rattle.machine.specs.declared.op.After.TheVariants.{Next, Done}
use Rattle.machine.specs.declared.event.Event.{Event}
use Rattle.machine.specs.declared.event.Start.{Start}
use Rattle.machine.specs.Steps.{Suits, finds}
use Rattle.machine.specs.Moments.{EndsAt, IsCall, IsDoneAlone, IsOverlapped, IsUnmixed, moment, phase_of}
use Rattle.machine.proofs.Runs.{moment_total}
use Rattle.machine.proofs.Calls.{rest_at, unmixed}
use Rattle.machine.proofs.Lone.{overlaps}
use Rattle.bbq_core.specs.Types.{After, MachineState, View}
use Rattle.bbq_core.specs.Table.{table}
use Rattle.bbq_core.specs.declared.phase.Phase.{Phase}
use Rattle.bbq_core.specs.PutSteps.{after}
use Rattle.put_side.specs.Counts.{taken_total}
use Rattle.machine.specs.Invariant.{made_total}
use Rattle.bbq_core.specs.Alone.{GoesOnAlone, IsAlone, IsStill}
use Rattle.bbq_core.specs.Rest.{AnsweredAsOne}
use Rattle.put_side.specs.AsOne.{AnswersAlone, AnswersAsOne}
use Rattle.put_side.proofs.AsOne.{answers_kind, put_busy_never, take_busy_never}
use Rattle.put_side.proofs.LoneCalls as calls
use Rattle.bbq_core.proofs.CallTable.{call_table, never_at_once}
use Rattle.bbq_core.proofs.AloneCalls.{goes_alone, put_alone, take_alone}
use Rattle.bbq_core.proofs.Reached.{moment_sound}

-- after a step of the seat alone
module _ (g : Grid) (n t seat : ℕ) (begins : Start) where
  abbrev Alone : List ℕ → List View → Phase → Type 0
  Alone ws vs p = IsAlone g n t ws vs seat p

  abbrev GoesAlone : List ℕ → List View → After → Type 0
  GoesAlone ws vs b = calls.GoesAlone table call_table g seat begins Alone (AnswersAlone g n t) (AnswersAsOne g n t begins) (answers_kind g n t begins table) ws vs b

  leads : (ws : List ℕ) (vs : List View) (b : After) → GoesOnAlone g n t ws vs seat b → GoesAlone ws vs b
  leads ws vs (Next p) h = h
  leads ws vs (Done a) h = h.0

module _ (g : Grid) (events : List Event) (limits : IsWithinLimits g) (suits : AllByRecursion (Suits table g) events) (few : length events < most_puts g) where
  still_at : (n : ℕ) → ((j : ℕ) → phase_of table g events n j ≡ None) → (let w = moment table g events n in IsStill g (made_total w.views) (taken_total w.views) w.words w.views)
  still_at n rest =
      let s = moment_sound g events limits suits few n in
      record { front = s.front; back = s.back; sound = s.sound; manned = s.manned; rest = rest_at (moment table g events n).views rest; made = refl; taken = refl }

  module _ (seat n m : ℕ) (begins : Start) (call : IsCall table g events seat n m begins) where
    pub unmixed_answers : IsUnmixed table g events seat n m → AnsweredAsOne g events seat n m begins
    unmixed_answers alone =
        let w : MachineState = moment table g events n in
        let N : ℕ = made_total w.views in
        let T : ℕ = taken_total w.views in
        let room : N ≤ place_span g = moment_total table g events n few in
        calls.unmixed_answers table call_table never_at_once g events suits seat n m begins call (Alone g N T seat begins) (AnswersAlone g N T) (AnswersAsOne g N T begins) (answers_kind g N T begins table)
        (λ ws vs v p alone at e. leads g N T seat begins _ _ (after g p (finds table g ws v p)) (goes_alone g N T ws vs seat v p limits alone room at e)) (λ ws vs p alone. alone.others)
        (λ rest. let still = still_at n rest in record { put = λ v entry at wide. put_alone g limits N T w.words w.views seat v still at entry wide; take = λ v at. take_alone g limits N T w.words w.views seat v still at }) alone

    pub alone_answers : IsDoneAlone table g events seat n m → AnsweredAsOne g events seat n m begins
    alone_answers alone = unmixed_answers (unmixed table g events seat n m alone)

  overlapped : (i seat : ℕ) (a : Answer) → EndsAt table g events i seat a → ((n t : ℕ) (begins : Start) → AnswersAsOne g n t begins (Some a) → ⊥) → IsOverlapped table g events seat i
  overlapped i seat a x never = overlaps table g events i seat a x
      (λ n begins call alone is. never _ _ begins (subst (AnswersAsOne g (made_total (moment table g events n).views) (taken_total (moment table g events n).views) begins) is (unmixed_answers seat n (suc i) begins call alone)))

  -- a Busy answer shows another seat in mid-call at one of the call's moments
  pub put_overlapped : (i seat : ℕ) (reason : Why) → EndsAt table g events i seat (answer.Put (put.Busy reason)) → IsOverlapped table g events seat i
  put_overlapped i seat reason x = overlapped i seat _ x (λ n t begins. put_busy_never g n t begins reason)

  pub take_overlapped : (i seat : ℕ) (reason : Why) → EndsAt table g events i seat (answer.Take (take.Busy reason)) → IsOverlapped table g events seat i
  take_overlapped i seat reason x = overlapped i seat _ x (λ n t begins. take_busy_never g n t begins reason)
