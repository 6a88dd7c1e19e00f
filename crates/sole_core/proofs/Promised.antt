-- Each answer of a step is as a queue promises, where the seat's trail has what its call found.
use Rattle.std.proofs.Common.{◌≡◌, ℕ, false, List, refl, subst}
use Rattle.std.specs.Prelude.{Some, slice_get}
use Rattle.cursor_word.specs.Shape.{Grid, IsWithinLimits}
use Rattle.rail.specs.declared.answer.Answer.{Answer}
use Rattle.rail.specs.declared.answer.Answer.TheVariants as answer
use Rattle.rail.specs.declared.answer.Put.TheVariants as put
use Rattle.rail.specs.declared.answer.Take.TheVariants as take
use Rattle.machine.specs.declared.op.After.TheVariants.{Done}
use Rattle.machine.specs.Steps.{finds}
use Rattle.call_laws.specs.Answers.{KeepsPromises}
use Rattle.call_laws.proofs.Promised.{Adds}
use Rattle.call_laws.proofs.Promised as calls
use Rattle.sole_core.specs.Types.{View}
use Rattle.sole_core.specs.declared.phase.SolePhase.{SolePhase}
use Rattle.sole_core.specs.PutSteps.{after}
use Rattle.sole_core.specs.Table.{table}
use Rattle.sole_core.specs.Sound.{IsSound}
use Rattle.sole_core.proofs.CallTable.{call_table, reads_in_order}
use Rattle.sole_core.proofs.Outcomes.{Tells, sound_tells}
use Rattle.put_side.proofs.PutTrails.{busy_told}
use Rattle.sole_core.proofs.Trails.{TrailShows, apart, trail_shows}

module _ (g : Grid) (ws : List ℕ) (vs : List View) (id : ℕ) (v : View) (p : SolePhase) (limits : IsWithinLimits g) (holds : IsSound g ws vs) (at : slice_get vs id ≡ Some v) (here : v.phase ≡ Some p) (trail : List ℕ) where
  tells : (a : Answer) → after g p (finds table g ws v p) ≡ Done a → Tells g (record { words = ws; views = vs }) v (Done a)
  tells a is = subst (Tells g (record { words = ws; views = vs }) v) is (sound_tells g ws vs id v p limits holds at here)

  adds : (a : Answer) → Tells g (record { words = ws; views = vs }) v (Done a) → TrailShows trail (Done a) → Adds g false v trail a
  adds (answer.Put (put.Ok place)) t s = t
  adds (answer.Put (put.Full head x)) t s = let f = t.0 in (refl, refl, f.not_consumed, t.1)
  adds (answer.Put (put.Busy reason)) t s = (refl, busy_told trail reason s (apart reason t))
  adds (answer.Take (take.Ok place)) t s = t
  adds (answer.Take (take.Empty place)) t s = (refl, refl, t.1, t.2)
  adds (answer.Take (take.Busy reason)) t s = (refl, refl, busy_told trail reason s (apart reason t))
  adds (answer.Take (take.Overrun place now)) t s = absurd t

pub keeps_promises : KeepsPromises table IsSound false
keeps_promises = calls.keeps_promises table IsSound false TrailShows call_table reads_in_order trail_shows
    (λ g ws vs id v p a limits holds at here is trail shown. adds g ws vs id v p limits holds at here trail a (tells g ws vs id v p limits holds at here trail a is) shown)
