-- The law of the machine: it keeps the invariant.
use Rattle.std.proofs.Common.{◌≡◌, ℕ, ◌≤◌, List}
use Rattle.std.specs.Prelude.{Some, slice_get, slice_set}
use Rattle.cursor_word.specs.Shape.{Grid, IsWithinLimits}
use Rattle.cursor_word.specs.Cursor.{place_span}
use Rattle.machine.specs.Invariant.{IsInvariant, made_total}
use Rattle.machine.specs.Steps.{view_after, words_after}
use Rattle.sole_core.specs.declared.phase.SolePhase.{SolePhase}
use Rattle.sole_core.specs.Types.{View}
use Rattle.sole_core.specs.Table.{table}
use Rattle.sole_core.specs.Sound.{IsSound}
use Rattle.sole_core.proofs.Ready.{can_step, last_few}
use Rattle.sole_core.proofs.Starts.{begins, starts}
use Rattle.sole_core.proofs.Steps.{step_at}

-- a step keeps the invariant
pub steps : (g : Grid) (ws : List ℕ) (vs : List View) (id : ℕ) (v : View) (p : SolePhase) → IsWithinLimits g → IsSound g ws vs → made_total vs ≤ place_span g → slice_get vs id ≡ Some v → v.phase ≡ Some p
    → IsSound g (words_after table g ws v p) (slice_set vs id (view_after table g ws v p))
steps g ws vs id v p limits s room at e =
    let n = step_at g limits s.front s.next ws vs s.sound s.manned (last_few g ws vs limits s room) room id v at p e in
    record { front = n.front'; next = n.next'; sound = n.sound; manned = n.manned }

pub keeps : IsInvariant table IsSound
keeps = record { starts = starts; begins = begins; steps = steps; can_step = can_step }
