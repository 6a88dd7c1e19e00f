-- The one seat of a queue that keeps its entries in a list.
use Rattle.std.specs.Prelude.{◌≡◌, ◌+◌, ◌≤◌, List, length, take}
use Rattle.std.specs.List.{All}
use Rattle.cursor_word.specs.Shape.{Grid}
use Rattle.cursor_word.specs.Cursor.{place_span}
use Rattle.rail.specs.declared.entry.Placed.{Placed}
use Rattle.rail_tests.specs.declared.list_rail.ListSeat.{ListSeat}
use Rattle.rail.specs.Items.{places}
use Rattle.rail.specs.Outcome.{numbers_below}

abbrev pub taken_of : ListSeat → List Placed
taken_of seat = take seat.taken seat.made.items

pub record IsSeatOf (g : Grid) (seat : ListSeat) : Type 0 where
  pub same : seat.shape ≡ g
  pub one_seat : g.seats ≡ 1
  pub in_place : places seat.made.items ≡ numbers_below (length seat.made.items)
  pub made_first : seat.taken ≤ length seat.made.items
  pub wide : All (λ (i : Placed). length i.words ≡ g.width) seat.made.items
  pub room : seat.most ≤ length seat.made.items + seat.made.spare
  pub within : length seat.made.items ≤ seat.most
  pub few : seat.most ≤ place_span g
