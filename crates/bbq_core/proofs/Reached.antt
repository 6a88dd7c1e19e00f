-- What holds at each moment of each schedule.
use Rattle.std.proofs.Common.{ℕ, ◌<◌, List, length}
use Rattle.std.specs.List.{AllByRecursion}
use Rattle.cursor_word.specs.Cursor.{most_puts}
use Rattle.cursor_word.specs.Shape.{Grid, IsWithinLimits}
use Rattle.machine.specs.declared.event.Event.{Event}
use Rattle.machine.specs.Steps.{Suits}
use Rattle.machine.specs.Moments.{moment}
use Rattle.machine.proofs.Runs.{moment_holds}
use Rattle.put_side.proofs.Sums.{rising_front}
use Rattle.bbq_core.specs.Types.{MachineState}
use Rattle.bbq_core.specs.Table.{table}
use Rattle.bbq_core.specs.Counts.{reading}
use Rattle.put_side.proofs.Moments as moments
use Rattle.put_side.proofs.Moments.{places_dense}
use Rattle.put_side.specs.Laws.{MadeRises, PlacesAreDense, TakenIsMade, TakenRises}
use Rattle.bbq_core.specs.Laws.{TakenOnce}
use Rattle.bbq_core.specs.Stage.{stage}
use Rattle.bbq_core.specs.Sound.{IsSound}
use Rattle.bbq_core.proofs.Keeping.{keeps}

module _ (g : Grid) (events : List Event) (limits : IsWithinLimits g) (suits : AllByRecursion (Suits table g) events) (few : length events < most_puts g) where
  pub moment_sound : (n : ℕ) → (let w = moment table g events n in IsSound g w.words w.views)
  moment_sound n = moment_holds table IsSound keeps g limits events n suits few

pub dense : (g : Grid) (w : MachineState) → IsSound g w.words w.views → PlacesAreDense stage g w.views
dense g w k = places_dense stage g k.front w.words w.views k.sound.puts

pub made_rises : (g : Grid) (w : MachineState) → IsSound g w.words w.views → MadeRises w.views
made_rises g w k = moments.made_rises stage g k.front w.words w.views k.sound.puts

pub taken_is_made : (g : Grid) (w : MachineState) → IsSound g w.words w.views → TakenIsMade w.views
taken_is_made g w k id v at i item there = (k.sound.each id v at).items i item there

pub taken_rises : (g : Grid) (w : MachineState) → IsSound g w.words w.views → TakenRises w.views
taken_rises g w k id v at = rising_front _ (reading g v.phase) ((k.sound.each id v at).rising)

pub taken_once : (g : Grid) (w : MachineState) → IsSound g w.words w.views → TakenOnce g w.views
taken_once g w k = record { count = k.back.next; once = k.sound.counts.read_once }
