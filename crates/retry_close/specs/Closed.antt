-- What a closed queue has: the accepted items are all that was made, and the first of them are
-- taken.
use Rattle.std.specs.Prelude.{ℕ, ◌-◌, ◌^◌, List, length, min, take}
use Rattle.cursor_word.specs.Shape.{Grid}
use Rattle.rail.specs.declared.entry.Placed.{Placed}
use Rattle.call_steps.specs.Queue.{Closed, SeatedWith}
use Rattle.shared_seats.specs.Seats.{in_order, made_by_all, taken_by_all}

abbrev pub first_taken : {P M : Type 0} → List (SeatedWith P M) → List Placed
first_taken seats = take (length (taken_by_all seats)) (in_order (made_by_all seats))

-- how many entries a close lays out, as these seats count, to 2^64 - 1, what they put and took
abbrev pub counted_left : {P M : Type 0} → List (SeatedWith P M) → ℕ
counted_left seats =
    min (length (made_by_all seats)) (2 ^ 64 - 1) - min (length (taken_by_all seats)) (2 ^ 64 - 1)

abbrev pub closed : {P M : Type 0} → Grid → List (SeatedWith P M) → List Placed → Closed
closed g seats left =
    record {
      shape = g;
      accepted = in_order (made_by_all seats);
      taken = first_taken seats;
      left = left;
    }
