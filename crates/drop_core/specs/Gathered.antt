-- What is left in the words.
use Rattle.std.specs.Prelude.{ℕ, List, filter, map}
use Rattle.std.specs.List.{range_with_len}
use Rattle.cursor_word.specs.Shape.{Grid}
use Rattle.rail.specs.declared.entry.Placed.{Placed}
use Rattle.rail.specs.Items.{placed}
use Rattle.rail.specs.Outcome.{DropOutcome, IsAccepted, KeepsNewest, is_left}
use Rattle.machine.specs.Invariant.{made_total}
use Rattle.machine.specs.Entries.{entry_at}
use Rattle.put_side.specs.Gathered.{all_made, all_taken}
use Rattle.drop_core.specs.Types.{MachineState}

-- of the first places, so many, those that lie in no reused block and weren't taken, each with the
-- words that stand there
abbrev pub left_in : Grid → List ℕ → List Placed → ℕ → List Placed
left_in shape words taken count =
    filter (is_left shape count taken)
    (map (λ (p : ℕ). placed p (entry_at shape words p)) (range_with_len 0 count))

-- All that was made, in order of place: each taken item is one of it, no place was taken twice, and
-- the rest from the oldest block on that isn't reused stands in the words.
pub record IsSettled (shape : Grid) (state : MachineState) : Type 0 where
  pub accepted : List Placed
  pub is_accepted : IsAccepted (all_made state.views) accepted
  pub outcome : DropOutcome shape accepted (all_taken state.views)
      (left_in shape state.words (all_taken state.views) (made_total state.views))
  pub newest : KeepsNewest shape accepted (all_taken state.views)
      (left_in shape state.words (all_taken state.views) (made_total state.views))
