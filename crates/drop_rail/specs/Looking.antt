-- What a seat has looked at, and what a look leaves of it.
use Rattle.std.specs.Prelude.{◌≡◌, ℕ, List, Contains}
use Rattle.std.specs.List.{All}
use Rattle.cursor_word.specs.Shape.{Grid}
use Rattle.rail.specs.declared.entry.Placed.{Placed}
use Rattle.call_steps.specs.Queue.{SeatedWith}
use Rattle.drop_core.specs.declared.phase.DropPhase.{DropPhase}
use Rattle.block_looks.specs.declared.look.LookAfter.{LookAfter}
use Rattle.block_looks.specs.declared.look.LookPhase.{LookPhase}
use Rattle.block_looks.specs.declared.looks.Looks.{Looks}
use Rattle.block_looks.specs.Looks.{found_before, looked_on}
use Rattle.block_looks.specs.Shown.{LookShows, TookLook}
use Rattle.block_looks.specs.Table.{look_after}
use Rattle.drop_core.specs.Types.{View}

-- a seat of the queue
abbrev pub Looker : Type 0
Looker = SeatedWith DropPhase Looks

-- each item that the seat has looked at is accepted
abbrev pub HasSeenAccepted : List Placed → Looker → Type 0
HasSeenAccepted accepted seat = All (Contains accepted) seat.memory.looked

-- A look changes nothing that puts and takes know of its seat, and did exactly the loads that lead
-- from this phase to this answer.
pub record HasLooked (shape : Grid) (old new : Looker) (first : LookPhase) (answer : LookAfter)
    : Type 0 where
  pub of : new.of ≡ old.of
  pub number : new.number ≡ old.number
  pub view : new.view ≡ old.view
  pub steps : TookLook shape first new.memory.look_trail answer old.log new.log

-- a step of a look found this: the seat remembers it, and it shows what is said of its answer
abbrev pub IsStepTold : LookPhase → Grid → View → Looks → ℕ → Looks → Type 0
IsStepTold phase shape view old found new =
    (new ≡ looked_on shape old phase found)
    × LookShows shape view.made phase (found_before shape old phase) (look_after shape phase found)
