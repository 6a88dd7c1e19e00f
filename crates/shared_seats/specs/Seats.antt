-- What all seats of a queue made and took, and the queue when it is stopped.
use Rattle.std.specs.Prelude.{◌≡◌, ℕ, ◌<◌, List, [], ◌∷◌, ◌++◌, All, IsPermutation, None, Some, ◌==◌, flat_map, if◌then◌else◌, length, map, slice_get}
use Rattle.cursor_word.specs.Shape.{Grid, IsWithinLimits}
use Rattle.rail.specs.Items.{placed}
use Rattle.rail.specs.Outcome.{numbers_below}
use Rattle.rail.specs.declared.entry.Placed.{Placed}
use Rattle.step_log.specs.Log.{Sitting}
use Rattle.machine.specs.declared.view.View.{View}
use Rattle.machine.specs.Table.{Table}
use Rattle.machine.specs.Invariant.{Fact}
use Rattle.machine.specs.Steps.{AllRest}
use Rattle.call_steps.specs.Queue.{Queue, SeatedWith}
use Rattle.call_steps.specs.Rule.{HasRoom}
use Rattle.shared_seats.specs.declared.holding.Holding.{Holding}
use Rattle.shared_seats.specs.declared.holding.Numbered.{Numbered}
use Rattle.shared_seats.specs.Holding.{AreInOrder, numbered}
use Rattle.shared_seats.specs.Memory.{Knowledge}

-- the item of a place
abbrev pub item_at : List Placed → ℕ → Placed
item_at [] place = placed place []
item_at (item ∷ items) place = if item.place == place then item else item_at items place

-- items whose places are the first numbers, in order of place
abbrev pub in_order : List Placed → List Placed
in_order items = map (item_at items) (numbers_below (length items))

-- each of these seats is at rest
abbrev pub EachRests : {P : Type 0} → List (Numbered P) → Type 0
EachRests {P} seats = (at : ℕ) (seat : Numbered P) → slice_get seats at ≡ Some seat
    → seat.view.phase ≡ None

module _ {P M : Type 0} where
  -- what all seats made and took, what the machine knows of them, and what they remember
  abbrev pub made_by_all : List (SeatedWith P M) → List Placed
  made_by_all seats = flat_map (λ (seat : SeatedWith P M). seat.view.made) seats

  abbrev pub taken_by_all : List (SeatedWith P M) → List Placed
  taken_by_all seats = flat_map (λ (seat : SeatedWith P M). seat.view.taken) seats

  abbrev pub numbered_of_all : List (SeatedWith P M) → List (Numbered P)
  numbered_of_all seats = map (λ (seat : SeatedWith P M). numbered seat.number seat.view) seats

  abbrev pub views_of_all : List (SeatedWith P M) → List (View P)
  views_of_all seats = map (λ (seat : SeatedWith P M). seat.view) seats

  abbrev pub memories_of_all : List (SeatedWith P M) → List M
  memories_of_all seats = map (λ (seat : SeatedWith P M). seat.memory) seats

-- no step is done any more: these are the words, and all seats are at rest with these views
pub record HasStopped {P : Type 0} (table : Table P) (Holds : Fact P) (shape : Grid)
    (words : List ℕ) (views : List (View P)) : Type 0 where
  pub limits : IsWithinLimits shape
  pub holds : Holds shape words views
  pub all : length views ≡ shape.seats
  pub rest : AllRest views
  pub few : (at : ℕ) (view : View P) → slice_get views at ≡ Some view → HasRoom table shape view

-- no step is done any more: all seats of the queue are at rest, with these views in order of their
-- numbers, and what each remembers holds
pub record StandStill {P M : Type 0} (table : Table P) (Holds : Fact P) (Knows : Knowledge P M)
    (shape : Grid) (words : List ℕ) (seats : List (SeatedWith P M)) : Type 0 where
  pub views : List (View P)
  pub in_order : AreInOrder (numbered_of_all seats) views
  pub stopped : HasStopped table Holds shape words views
  pub memories : All (λ (seat : SeatedWith P M). Knows shape words views seat.memory) seats

-- one seat has taken in those of the list that no longer stand in `left`
pub record Gathering {P M : Type 0} (of : Queue) (all : Sitting (Holding P M))
    (left seats : List (SeatedWith P M)) : Type 0 where
  pub same : all.id ≡ of.id
  pub shape : all.view.shape ≡ of.shape
  pub gathered : IsPermutation (numbered_of_all seats) (all.view.seats ++ numbered_of_all left)
  pub memories : IsPermutation (memories_of_all seats)
      (all.view.memories ++ memories_of_all left)
  pub rest : EachRests all.view.seats
  pub some_seats : 0 < length all.view.seats
  pub own : All (λ seat. (seat.of.id ≡ of.id) × (seat.of.shape ≡ of.shape)) left
