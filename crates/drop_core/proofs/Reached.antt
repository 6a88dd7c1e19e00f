-- What holds at each moment of each schedule.
use Rattle.std.proofs.Common.{ℕ, ◌<◌, List, length}
use Rattle.std.specs.List.{AllByRecursion}
use Rattle.cursor_word.specs.Shape.{Grid, IsWithinLimits}
use Rattle.machine.specs.declared.event.Event.{Event}
use Rattle.machine.specs.Steps.{Suits}
use Rattle.machine.specs.Moments.{moment}
use Rattle.machine.proofs.Runs.{moment_holds}
use Rattle.drop_core.specs.Steps.{table}
use Rattle.drop_core.specs.Sound.{IsSound}
use Rattle.cursor_word.specs.Cursor.{most_puts}
use Rattle.drop_core.proofs.Keeping.{keeps}

module _ (g : Grid) (events : List Event) (limits : IsWithinLimits g) (suits : AllByRecursion (Suits table g) events) (few : length events < most_puts g) where
  pub moment_sound : (n : ℕ) → (let w = moment table g events n in IsSound g w.words w.views)
  moment_sound n = moment_holds table IsSound keeps g limits events n suits few
