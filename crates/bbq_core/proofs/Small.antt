-- No cursor word overflows.
use Rattle.std.proofs.Common.{ℕ, ◌≤◌, List, arith}
use Rattle.cursor_word.specs.Shape.{Grid, IsWithinLimits}
use Rattle.cursor_word.specs.Cursor.{place_span}
use Rattle.machine.specs.Invariant.{made_total}
use Rattle.put_side.specs.Cursors.{consumed_word}
use Rattle.put_side.specs.Laws.{BlocksAreSmall, WordsAreSmall}
use Rattle.put_side.proofs.Facts.{physical}
use Rattle.put_side.proofs.Moments as moments
use Rattle.bbq_core.specs.Types.{View}
use Rattle.bbq_core.specs.Stage.{stage}
use Rattle.bbq_core.specs.Sound.{IsSound}
use Rattle.bbq_core.proofs.Ready.{last_few}
use Rattle.bbq_core.proofs.TakeFacts.{consumed_below, reserved_below}

pub words_small : (g : Grid) (ws : List ℕ) (vs : List View) → IsWithinLimits g → IsSound g ws vs → made_total vs ≤ place_span g → WordsAreSmall g ws
words_small g ws vs limits k room =
    let takes = k.sound.takes in
    let behind = takes.behind in
    moments.words_small stage g k.front ws vs k.sound.puts limits (last_few g ws vs limits k room) (λ b h. let e = reserved_below takes limits.blocks_from (physical g ws 4) b in omega arith) (omega (arith, takes.head_to))

pub consumed_small : (g : Grid) (ws : List ℕ) (vs : List View) → IsWithinLimits g → IsSound g ws vs → made_total vs ≤ place_span g → BlocksAreSmall g (consumed_word g ws)
consumed_small g ws vs limits k room b h =
    let s = k.sound in
    let few = last_few g ws vs limits k room in
    let behind = s.takes.behind in
    let e = consumed_below s.takes limits.blocks_from (physical g ws 5) b in omega arith
