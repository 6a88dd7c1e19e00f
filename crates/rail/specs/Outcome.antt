-- What a closed queue has.
use Rattle.std.specs.Prelude.{◌≡◌, ℕ, ◌+◌, ◌-◌, ◌*◌, ◌<◌, ◌≤◌, ◌⊎◌, List, length, drop, take, filter, not, nat_eq, nat_le, ◌==◌, ◌&&◌, Bool, Contains, IsPermutation}
use Rattle.std.specs.List.{range_with_len, All, IsDistinct, list_any}
use Rattle.rail.specs.declared.entry.Placed.{Placed}
use Rattle.rail.specs.Items.{places}
use Rattle.cursor_word.specs.Shape.{Grid}
use Rattle.cursor_word.specs.Cursor.{low}

-- the numbers below n
abbrev pub numbers_below : ℕ → List ℕ
numbers_below n = range_with_len 0 n

-- the accepted items are all that were made, in order of place, and their places have no gap
pub record IsAccepted (made accepted : List Placed) : Type 0 where
  pub all_made : IsPermutation made accepted
  pub no_gap : places accepted ≡ numbers_below (length accepted)

-- the first t are taken, each once, and the rest is left
pub record RetryOutcome (accepted taken left : List Placed) : Type 0 where
  pub count : ℕ
  pub within : count ≤ length accepted
  pub first_taken : IsPermutation taken (take count accepted)
  pub rest_left : left ≡ drop count accepted

-- not taken, and not in a block that was reused
abbrev pub is_left : Grid → ℕ → List Placed → Placed → Bool
is_left g n taken item =
    nat_le (low g n) item.place && not (list_any (λ (t : Placed). t.place == item.place) taken)

-- what is taken is accepted and taken once, and the rest from the oldest block on is left
pub record DropOutcome (g : Grid) (accepted taken left : List Placed) : Type 0 where
  pub taken_accepted : All (Contains accepted) taken
  pub taken_once : IsDistinct nat_eq (places taken)
  pub rest_left : left ≡ filter (is_left g (length accepted) taken) accepted

-- an accepted item was taken, or is left
abbrev pub IsTakenOrLeft : List Placed → List Placed → Placed → Type 0
IsTakenOrLeft taken left item = Contains taken item ⊎ Contains left item

-- What a drop outcome comes to: an accepted item that is neither taken nor left lies in a block
-- that was reused, and the newest items, as many as all blocks but one hold, are taken or left.
pub record KeepsNewest (g : Grid) (accepted taken left : List Placed) : Type 0 where
  pub reused : (item : Placed) → Contains accepted item
      → (item.place < low g (length accepted)) ⊎ IsTakenOrLeft taken left item
  pub newest : (item : Placed) → Contains accepted item
      → length accepted ≤ item.place + (g.blocks - 1) * g.size → IsTakenOrLeft taken left item
