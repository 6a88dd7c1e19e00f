-- What holds at each moment of each schedule.
use Rattle.std.proofs.Common.{ℕ, ◌<◌, List, length, sym, ap, ◌∙◌}
use Rattle.std.specs.List.{AllByRecursion}
use Rattle.cursor_word.specs.Cursor.{most_puts}
use Rattle.cursor_word.specs.Shape.{Grid, IsWithinLimits}
use Rattle.rail.specs.Outcome.{numbers_below}
use Rattle.machine.specs.declared.event.Event.{Event}
use Rattle.machine.specs.Steps.{Suits}
use Rattle.machine.specs.Moments.{moment}
use Rattle.machine.proofs.Runs.{moment_holds}
use Rattle.put_side.proofs.Moments as moments
use Rattle.put_side.proofs.Moments.{places_dense}
use Rattle.sole_core.specs.Types.{MachineState}
use Rattle.sole_core.specs.Stage.{stage}
use Rattle.sole_core.specs.Table.{table}
use Rattle.put_side.specs.Laws.{MadeRises, PlacesAreDense, TakenIsMade}
use Rattle.sole_core.specs.Laws.{NoneElseTakes, TakenInOrder}
use Rattle.sole_core.specs.Sound.{IsSound}
use Rattle.sole_core.proofs.Keeping.{keeps}
use Rattle.sole_core.proofs.Starts.{taken_long}

module _ (g : Grid) (events : List Event) (limits : IsWithinLimits g) (suits : AllByRecursion (Suits table g) events) (few : length events < most_puts g) where
  pub moment_sound : (n : ℕ) → (let w = moment table g events n in IsSound g w.words w.views)
  moment_sound n = moment_holds table IsSound keeps g limits events n suits few

module _ (g : Grid) (w : MachineState) (k : IsSound g w.words w.views) where
  pub dense : PlacesAreDense stage g w.views
  dense = places_dense stage g k.front w.words w.views k.sound.puts

  pub made_rises : MadeRises w.views
  made_rises = moments.made_rises stage g k.front w.words w.views k.sound.puts

  pub taken_is_made : TakenIsMade w.views
  taken_is_made id v at i item there = (k.sound.each id v at).items i item there

  pub taken_in_order : TakenInOrder w.views
  taken_in_order v at = let e = k.sound.taken v at in e ∙ ap numbers_below (sym (taken_long v.taken k.next e))

  pub none_else : NoneElseTakes w.views
  none_else id v n at = (k.sound.others id v n at).none
