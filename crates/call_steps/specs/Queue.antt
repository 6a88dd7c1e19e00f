-- What clauses see of a queue, of its seats, and of a queue that is closed.
use Rattle.std.specs.Prelude.{◌≡◌, ℕ, List}
use Rattle.cursor_word.specs.Shape.{Grid}
use Rattle.rail.specs.declared.entry.Placed.{Placed}
use Rattle.rail.specs.declared.answer.Put.{Put}
use Rattle.rail.specs.declared.answer.Put.TheVariants as put
use Rattle.rail.specs.declared.answer.Take.{Take}
use Rattle.rail.specs.declared.answer.Take.TheVariants as take
use Rattle.rail.specs.Told as told
use Rattle.step_log.specs.Log.{TableId}
use Rattle.step_log.specs.declared.log.Step.{Step}
use Rattle.machine.specs.declared.view.View.{View}
use Rattle.machine.specs.Steps.{resting}

pub record Queue : Type 0 where
  pub id : TableId
  pub shape : Grid

-- the shape of a seat that was taken in, which stands for no queue
abbrev pub no_grid : Grid
no_grid = record { blocks = 0; size = 0; width = 0; seats = 0 }

-- a seat: its queue, its number, what the machine knows of it, what it remembers beside the
-- machine, and the steps that it took
pub record SeatedWith (P M : Type 0) : Type 0 where
  pub of : Queue
  pub number : ℕ
  pub view : View P
  pub memory : M
  pub log : List Step

-- a seat that remembers nothing beside the machine
abbrev pub Seated : Type 0 → Type 0
Seated P = SeatedWith P (Unit {0})

module _ {P M : Type 0} where
  abbrev pub IsSeatOf : Queue → SeatedWith P M → Type 0
  IsSeatOf queue seat = seat.of ≡ queue

  -- a seat that has made and taken nothing
  abbrev pub IsFresh : Queue → SeatedWith P M → Type 0
  IsFresh queue seat = (seat.of ≡ queue) × (seat.view ≡ resting P queue.shape)

  -- what contracts see of a seat's last call
  abbrev pub told_of : SeatedWith P M → told.Told
  told_of seat = record { found = seat.view.trail; answer = seat.view.answer }

-- how many entries an answer adds to what its seat made, and to what it took
abbrev pub puts_by : Put → ℕ
puts_by (put.Ok place) = 1
puts_by answer = 0

abbrev pub takes_by : Take → ℕ
takes_by (take.Ok place) = 1
takes_by answer = 0

-- a closed queue: its lists, in order of place
pub record Closed : Type 0 where
  pub shape : Grid
  pub accepted : List Placed
  pub taken : List Placed
  pub left : List Placed
