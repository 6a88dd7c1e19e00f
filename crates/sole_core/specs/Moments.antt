-- The facts of one moment that license an answer.
use Rattle.std.specs.Prelude.{◌≡◌, ℕ, ◌<◌, ◌≤◌}
use Rattle.std.specs.List.{sum_by}
use Rattle.cursor_word.specs.Shape.{Grid}
use Rattle.cursor_word.specs.declared.cursor.Cursor.{Cursor}
use Rattle.sole_core.specs.Types.{MachineState}
use Rattle.sole_core.specs.Stage.{stage_of}
use Rattle.put_side.specs.Counts.{makes, takes}
use Rattle.put_side.specs.Full as full

-- the queue is full up to a block, as x shows
abbrev pub FullAt : Grid → MachineState → ℕ → Cursor → Type 0
FullAt shape w block x = full.FullAt stage_of shape w block x

-- no entry stands at place p, the next for a take: p is not made, each place below p is taken, and
-- no place from p on is
pub record EmptyAt (w : MachineState) (p : ℕ) : Type 0 where
  pub not_made : sum_by (makes p) w.views ≡ 0
  pub taken : (q : ℕ) → q < p → 1 ≤ sum_by (takes q) w.views
  pub not_taken : (q : ℕ) → p ≤ q → sum_by (takes q) w.views ≡ 0
