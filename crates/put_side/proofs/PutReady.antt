-- What the side of puts says of a seat that is about to take a shared step: its phase is in range, and so is what the step finds.
use Rattle.std.proofs.Common.{ℕ, ◌<◌, ◌≤◌, List, inl, inr, arith}
use Rattle.std.specs.Prelude.{slice_index}
use Rattle.cursor_word.specs.Shape.{Grid, IsWithinLimits}
use Rattle.cursor_word.specs.Cursor.{most_block}
use Rattle.cursor_word.specs.declared.cursor.Cursor.{Cursor}
use Rattle.machine.specs.Invariant.{IsRead}
use Rattle.machine.specs.Ops.{index}
use Rattle.machine.specs.declared.view.View.{View}
use Rattle.put_side.specs.declared.put_phase.PutPhase.{PutPhase}
use Rattle.put_side.specs.declared.put_phase.PutPhase.TheVariants.{HeadP, SeeA, AddA, Write, Commit, OpenM, OpenA, RaiseP}
use Rattle.put_side.specs.Cursors.{Front, put_cursors}
use Rattle.put_side.specs.PutSteps as puts
use Rattle.put_side.specs.PutSteps.{IsBlock}
use Rattle.put_side.specs.Stages.{PutStage, At}
use Rattle.put_side.specs.Places.{IsCurrent, IsFilled, IsTurn, PutKnows, PutPlaces}
use Rattle.put_side.proofs.Facts.{filled_opened, physical}
use Rattle.put_side.proofs.PutFollows.{follows}

turn_is : (g : Grid) (turn : ℕ) (first : Cursor) (head : ℕ) → IsTurn g turn first head → puts.IsTurn turn
turn_is g turn first head (inl e) = inl e
turn_is g turn first head (inr r) = inr r.is

-- the phase and what its step finds
pub record IsPutReady (g : Grid) (ws entry : List ℕ) (q : PutPhase) : Type 0 where
  pub range : puts.IsInRange g q
  pub found : puts.FindsFit q (slice_index ws (index (puts.want g q entry)))

module _ {P : Type 0} (stage : View P → PutStage) (g : Grid) (front : Front) (ws : List ℕ) (vs : List (View P)) (limits : IsWithinLimits g) (p : PutPlaces stage g front (put_cursors g ws) vs) (few : front.last ≤ most_block) where
  pub filled_in : (full : Cursor) → IsFilled g (put_cursors g ws) full → IsBlock g full.block
  filled_in full f = let to = filled_opened p.words limits.blocks_from (physical g ws 2) full f in (f.from, omega arith)

  pub current_in : (at : Cursor) (b : ℕ) → b ≤ front.last → IsCurrent g b at → IsBlock g at.block × (at.offset < g.size)
  current_in at b le c = ((c.from, omega (arith, c.to)), c.within)

  pub put_ready : (entry : List ℕ) (q : PutPhase) → PutKnows g front.last (put_cursors g ws) (At q) → IsPutReady g ws entry q
  put_ready entry (HeadP turn first) k = record { range = turn_is g turn first _ k; found = omega (arith, p.words.head_to) }
  put_ready entry (SeeA turn first head) k = record { range = (turn_is g turn first _ k.0, (k.1.from, omega (arith, k.1.to, p.words.head_to))); found = tt }
  put_ready entry (AddA turn first head) k = record { range = (turn_is g turn first _ k.0, (k.1.from, omega (arith, k.1.to, p.words.head_to))); found = tt }
  put_ready entry (Write at next) k = let c = current_in at front.last (omega arith) k.0 in record { range = (c.0, c.1, k.1); found = tt }
  put_ready entry (Commit at) k = record { range = current_in at front.last (omega arith) k; found = tt }
  put_ready entry (OpenM full) k = record { range = filled_in full k; found = tt }
  put_ready entry (OpenA full) k = record { range = filled_in full k.0; found = tt }
  put_ready entry (RaiseP full) k = record { range = filled_in full k.0; found = tt }

-- a put ends with no entry that was read
pub put_reads_none : {P : Type 0} (to_phase : PutPhase → P) (to_fill : Cursor → P) (g : Grid) (q : PutPhase) (found : ℕ) (read : List ℕ) → IsRead g (puts.after to_phase to_fill g q found) read
put_reads_none to_phase to_fill g q found read = follows to_phase to_fill (λ b. IsRead g b read) (record { next = λ q led. tt; fills = λ full. tt; ok = λ place. tt; moved = λ earlier later. tt }) g q found
