-- What a closed queue has: the accepted items are all that was made, and in their order those of
-- them that were taken.
use Rattle.std.specs.Prelude.{ℕ, ◌-◌, ◌^◌, Bool, List, filter, length, min, ◌==◌}
use Rattle.std.specs.List.{list_any}
use Rattle.cursor_word.specs.Cursor.{low}
use Rattle.cursor_word.specs.Shape.{Grid}
use Rattle.rail.specs.declared.entry.Placed.{Placed}
use Rattle.call_steps.specs.Queue.{Closed, SeatedWith}
use Rattle.shared_seats.specs.Seats.{in_order, made_by_all, taken_by_all}

-- an item of this place was taken
abbrev pub is_taken : List Placed → Placed → Bool
is_taken taken item = list_any (λ (t : Placed). t.place == item.place) taken

abbrev pub taken_in_order : {P M : Type 0} → List (SeatedWith P M) → List Placed
taken_in_order seats = filter (is_taken (taken_by_all seats)) (in_order (made_by_all seats))

-- how many entries a close lays out, as these seats count, to 2^64 - 1, what they put
abbrev pub counted_live : {P M : Type 0} → Grid → List (SeatedWith P M) → ℕ
counted_live g seats =
    min (length (made_by_all seats)) (2 ^ 64 - 1)
    - low g (min (length (made_by_all seats)) (2 ^ 64 - 1))

abbrev pub closed : {P M : Type 0} → Grid → List (SeatedWith P M) → List Placed → Closed
closed g seats left =
    record {
      shape = g;
      accepted = in_order (made_by_all seats);
      taken = taken_in_order seats;
      left = left;
    }
