-- Places are accepted and given out in order of time.
use Rattle.std.proofs.Common.{◌≡◌, ℕ, ◌+◌, ◌<◌, ◌≤◌, ◌≢◌, Bool, true, false, List, [], ◌∷◌, ◌++◌, length, ap, ◌∙◌, arith}
use Rattle.std.specs.Prelude.{Some, None, if◌then◌else◌, nat_lt}
use Rattle.std.specs.List.{AllByRecursion, sum_by}
use Rattle.std.proofs.lemmas.List.{append-nil}
use Rattle.cursor_word.specs.Shape.{Grid, IsWithinLimits}
use Rattle.cursor_word.specs.Cursor.{most_puts, place_at}
use Rattle.cursor_word.specs.declared.cursor.Cursor.{Cursor}
use Rattle.rail.specs.declared.answer.Answer.TheVariants as answer
use Rattle.rail.specs.declared.answer.Put.TheVariants as put
use Rattle.rail.specs.declared.answer.Take.TheVariants as take
use Rattle.rail.specs.Items.{placed, places}
use Rattle.machine.specs.declared.event.Event.{Event}
use Rattle.machine.specs.declared.event.Start.{Start}
use Rattle.machine.specs.declared.event.Start.TheVariants as start
use Rattle.machine.specs.declared.op.After.TheVariants.{Next}
use Rattle.machine.specs.Steps.{Suits, begun, phase_after, seen, taken_after}
use Rattle.machine.specs.Moments.{EndsAt, IsInOrder, IsLaterCall, moment}
use Rattle.machine.proofs.InTime.{in_order, lasts_by}
use Rattle.put_side.specs.Counts.{takes, times}
use Rattle.put_side.proofs.Sums.{one_to}
use Rattle.put_side.proofs.Orders.{places_append}
use Rattle.put_side.proofs.InTime.{not_made_later, once_dense, puts_in_order, take_takes, takes_last, takes_more, times_front}
use Rattle.bbq_core.specs.declared.phase.Phase.{Phase}
use Rattle.bbq_core.specs.declared.phase.Phase.TheVariants.{Put, SeeX, SeeR, Take}
use Rattle.bbq_core.specs.declared.take_phase.TakePhase.TheVariants.{HeadC, SeeRes, SeeCom, SeeAll, Reserve, Read, Consume, NextCom, OpenX, OpenR, RaiseC}
use Rattle.bbq_core.specs.Types.{After, View}
use Rattle.bbq_core.specs.Counts.{fetches, reading}
use Rattle.bbq_core.specs.Stage.{stage}
use Rattle.bbq_core.specs.Table.{table}
use Rattle.bbq_core.specs.PutSteps.{after}
use Rattle.bbq_core.proofs.PutSteps.{puts}
use Rattle.bbq_core.proofs.Reached.{dense, moment_sound, taken_once}
use Rattle.bbq_core.proofs.Shown.{empty_there}

module _ (g : Grid) where
  -- where a call begins nothing is being read yet
  begun_fetches : (p : ℕ) (v : View) (s : Start) → v.phase ≡ None → fetches g p v ≤ fetches g p (begun table g v None s)
  begun_fetches p v (start.Put entry) e = let was = ap (λ o. times p (places v.taken ++ reading g o)) e in omega arith
  begun_fetches p v start.Take e = let was = ap (λ o. times p (places v.taken ++ reading g o)) e in omega arith
  begun_fetches p v start.Go e = omega arith

  module _ (p : ℕ) (v : View) (found : ℕ) where
    abbrev FromPhase : Phase → Type 0
    FromPhase phase = times p (places v.taken ++ reading g (Some phase)) ≤ fetches g p (seen table g v phase found)

    -- a seat that reads nothing loses nothing
    from_none : (b : After) → times p (places v.taken ++ []) ≤ times p (places (taken_after v.taken v.read b) ++ reading g (phase_after b))
    from_none b = let e = ap (times p) (append-nil (places v.taken)) in let m = takes_more v.taken v.read p b in let l = times_front p (places (taken_after v.taken v.read b)) (reading g (phase_after b)) in omega arith

    reads_on : (at : Cursor) (next : ℕ) (more : Bool)
        → (let b : After = if more then Next (Take (Read at next)) else Next (Take (Consume at)) in times p (places v.taken ++ place_at g at ∷ []) ≤ times p (places (taken_after v.taken v.read b) ++ reading g (phase_after b)))
    reads_on at next true = omega arith
    reads_on at next false = omega arith

    by_phase : (phase : Phase) → FromPhase phase
    by_phase (Take (Read at next)) = reads_on at (next + 1) (nat_lt (next + 1) g.width)
    by_phase (Take (Consume at)) =
        let e = ap (times p) (append-nil (places (v.taken ++ placed (place_at g at) v.read ∷ []))) in
        let f = ap (times p) (places_append v.taken (placed (place_at g at) v.read ∷ [])) in omega arith
    by_phase (Take (HeadC turn first)) = from_none (after g (Take (HeadC turn first)) found)
    by_phase (Take (SeeRes turn first head)) = from_none (after g (Take (SeeRes turn first head)) found)
    by_phase (Take (SeeCom r)) = from_none (after g (Take (SeeCom r)) found)
    by_phase (Take (SeeAll r m)) = from_none (after g (Take (SeeAll r m)) found)
    by_phase (Take (Reserve r)) = from_none (after g (Take (Reserve r)) found)
    by_phase (Take (NextCom spent)) = from_none (after g (Take (NextCom spent)) found)
    by_phase (Take (OpenX spent)) = from_none (after g (Take (OpenX spent)) found)
    by_phase (Take (OpenR spent)) = from_none (after g (Take (OpenR spent)) found)
    by_phase (Take (RaiseC spent)) = from_none (after g (Take (RaiseC spent)) found)
    by_phase (Put q) = from_none (after g (Put q) found)
    by_phase (SeeX full) = from_none (after g (SeeX full) found)
    by_phase (SeeR full x) = from_none (after g (SeeR full x) found)

  step_fetches : (p : ℕ) (v : View) (phase : Phase) (found : ℕ) → v.phase ≡ Some phase → fetches g p v ≤ fetches g p (seen table g v phase found)
  step_fetches p v phase found e =
      let was = ap (λ o. times p (places v.taken ++ reading g o)) e in
      let l = by_phase p v found phase in omega arith

  rest_fetches : (p : ℕ) (v : View) → v.phase ≡ None → fetches g p v ≡ takes p v
  rest_fetches p v e = ap (λ o. times p (places v.taken ++ reading g o)) e ∙ ap (times p) (append-nil (places v.taken))

  module _ (events : List Event) where
    module _ (limits : IsWithinLimits g) (suits : AllByRecursion (Suits table g) events) (few : length events < most_puts g) where
      pub puts_ordered : IsInOrder table g events (λ p. answer.Put (put.Ok p))
      puts_ordered = puts_in_order stage table puts g events (λ n. let d = dense g (moment table g events n) (moment_sound g events limits suits few n) in (d.count, d.once))

      pub takes_ordered : IsInOrder table g events (λ p. answer.Take (take.Ok p))
      takes_ordered =
          in_order table g events (fetches g) takes (λ p. answer.Take (take.Ok p))
          record {
            once = λ n p. let d = taken_once g (moment table g events n) (moment_sound g events limits suits few n) in let e = d.once p in let o = one_to p d.count in omega arith;
            dense = λ n. let d = taken_once g (moment table g events n) (moment_sound g events limits suits few n) in once_dense (λ p. sum_by (fetches g p) (moment table g events n).views) d.count d.once;
            claims_last = λ p. lasts_by table g (fetches g p) (begun_fetches p) (step_fetches p);
            had_lasts = takes_last table g;
            at_rest = rest_fetches;
            gains = take_takes table g events;
          }

      -- a take that finds the queue empty after a put has ended
      pub empty_after : (i seat p j other place : ℕ) → EndsAt table g events i seat (answer.Put (put.Ok p)) → IsLaterCall table g events i j other (answer.Take (take.Empty place))
          → (place ≢ p) × (p < place → 1 ≤ sum_by (fetches g p) (moment table g events j).views)
      empty_after i seat p j other place ends later =
          let at = empty_there g events limits suits few j other place later.ends in
          (not_made_later stage table puts g events i seat p j other place _ ends later at.not_made, λ less. at.reserved p less)
