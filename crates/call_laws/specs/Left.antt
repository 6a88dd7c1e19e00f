-- What no take has reserved.
use Rattle.std.specs.Prelude.{ℕ, ◌%◌, Bool, List, filter, nat_le, slice_index}
use Rattle.cursor_word.specs.Shape.{Grid}
use Rattle.cursor_word.specs.Cursor.{cursor_of, packed}
use Rattle.cursor_word.specs.Layout.{index_of, reserved}
use Rattle.rail.specs.declared.entry.Placed.{Placed}
use Rattle.machine.specs.Entries.{left_in}

-- no take has reserved the item's place: the reserved cursor of its physical block is not beyond it
abbrev pub is_unreserved : Grid → List ℕ → Placed → Bool
is_unreserved shape words item =
    nat_le
    (slice_index words
    (index_of shape (reserved ((cursor_of shape item.place).block % shape.blocks))))
    (packed (cursor_of shape item.place))

-- those of these items whose places no take has reserved
abbrev pub unreserved_in : Grid → List ℕ → ℕ → ℕ → List Placed
unreserved_in shape words from to =
    filter (is_unreserved shape words) (left_in shape words from to)
