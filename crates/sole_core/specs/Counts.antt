-- How often places are made or held.
use Rattle.std.specs.Prelude.{ℕ}
use Rattle.cursor_word.specs.Shape.{Grid}
use Rattle.put_side.specs.Counts as counts
use Rattle.sole_core.specs.Types.{View}
use Rattle.sole_core.specs.Stage.{stage_of}

-- how often a place is among those that a seat has made or holds
abbrev pub claims : Grid → ℕ → View → ℕ
claims shape p view = counts.claims stage_of shape p view
