-- What the invariant tells at one moment.
use Rattle.std.proofs.Common.{ℕ, ◌≤◌, List}
use Rattle.cursor_word.specs.Shape.{Grid, IsWithinLimits}
use Rattle.cursor_word.specs.Cursor.{place_span}
use Rattle.machine.specs.Steps.{MachineState}
use Rattle.machine.specs.Invariant.{made_total}
use Rattle.put_side.specs.Cursors.{put_cursors}
use Rattle.put_side.specs.PutTable.{stage_of}
use Rattle.put_side.proofs.Sums.{rising_front}
use Rattle.drop_core.specs.declared.phase.DropPhase.{DropPhase}
use Rattle.drop_core.specs.Types.{View}
use Rattle.drop_core.specs.Stage.{stage}
use Rattle.drop_core.specs.Counts.{reading}
use Rattle.drop_core.specs.Sound.{IsSound}
use Rattle.put_side.specs.Laws.{MadeRises, PlacesAreDense, TakenIsMade, TakenRises, WordsAreSmall}
use Rattle.drop_core.specs.Laws.{TakenOnce}
use Rattle.put_side.proofs.Few.{last_small}
use Rattle.put_side.proofs.Moments as side
use Rattle.put_side.proofs.Moments.{places_dense}
use Rattle.drop_core.proofs.Reserves.{head_opened}

pub dense : (g : Grid) (w : MachineState DropPhase) → IsSound g w.words w.views → PlacesAreDense stage g w.views
dense g w s = places_dense stage g s.front w.words w.views s.at.puts

pub made_rises : (g : Grid) (w : MachineState DropPhase) → IsSound g w.words w.views → MadeRises w.views
made_rises g w s = side.made_rises stage g s.front w.words w.views s.at.puts

pub taken_is_made : (g : Grid) (w : MachineState DropPhase) → IsSound g w.words w.views → TakenIsMade w.views
taken_is_made g w s id v at i item there = (s.at.each id v at).items i item there

pub taken_rises : (g : Grid) (w : MachineState DropPhase) → IsSound g w.words w.views → TakenRises w.views
taken_rises g w s id v at = rising_front _ (reading g v.phase) (s.at.each id v at).rising

pub taken_once : (g : Grid) (w : MachineState DropPhase) → IsSound g w.words w.views → TakenOnce g w.views
taken_once g w s = s.at.counts.once

pub words_small : (g : Grid) (ws : List ℕ) (vs : List View) → IsWithinLimits g → IsSound g ws vs → made_total vs ≤ place_span g → WordsAreSmall g ws
words_small g ws vs limits k room =
    let s = k.at in
    side.words_small stage g k.front ws vs s.puts limits (last_small (stage_of stage) g k.front (put_cursors g ws) vs s.puts.places limits room) (λ b h. s.takes.to b) (head_opened g k.front ws vs limits s)
