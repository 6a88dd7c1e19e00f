-- What a seat remembers of its looks lasts, since cursors and made lists only grow.
use Rattle.std.proofs.Common.{◌≡◌, ℕ, ◌≤◌, List, IsPermutation, refl, arith}
use Rattle.std.specs.Prelude.{Option, Some, None, slice_get, slice_set}
use Rattle.cursor_word.specs.Shape.{Grid, IsWithinLimits}
use Rattle.cursor_word.specs.Cursor.{place_span}
use Rattle.cursor_word.specs.declared.cursor.Cursor.{Cursor}
use Rattle.machine.specs.declared.event.Start.{Start}
use Rattle.machine.specs.declared.event.Start.TheVariants as start
use Rattle.machine.specs.Invariant.{made_total}
use Rattle.machine.specs.Steps.{begun, finds, view_after, words_after}
use Rattle.put_side.specs.Cursors.{PutCursors, place, put_cursors}
use Rattle.put_side.specs.PutTable.{stage_of}
use Rattle.put_side.proofs.Few.{last_small}
use Rattle.put_side.proofs.Frames.{IsGrown, grown_same}
use Rattle.put_side.proofs.Made.{KeepsMade, made_same, step_keeps_made}
use Rattle.put_side.proofs.Permutes.{permuted_made}
use Rattle.drop_core.specs.declared.phase.DropPhase.{DropPhase}
use Rattle.drop_core.specs.Types.{View}
use Rattle.drop_core.specs.Stage.{stage}
use Rattle.drop_core.specs.Steps.{table}
use Rattle.drop_core.specs.Sound.{IsSound}
use Rattle.block_looks.specs.declared.look.LookPhase.{LookPhase}
use Rattle.block_looks.specs.declared.look.LookPhase.TheVariants.{Head, HeadA, Com, All, Word, Check}
use Rattle.block_looks.specs.declared.looks.Looks.{Looks}
use Rattle.block_looks.specs.Looks.{IsLooking, IsReading, LookKnows, LooksHold, no_looks}
use Rattle.block_looks.proofs.Grows.{grows}

module _ (g : Grid) (cs cs' : PutCursors) (vs vs' : List View) (grown : IsGrown cs cs') (grow : KeepsMade vs vs') where
  reading_lasts : (at : Cursor) (n : ℕ) (read : List ℕ) → IsReading g cs vs at n read → IsReading g cs' vs' at n read
  reading_lasts at n read f = record {
    from = f.from;
    within = f.within;
    words = f.words;
    made = grow.items _ f.made;
    long = f.long;
    front = λ h. f.front (let e = grown.allocated at.block in omega (arith, h));
  }

  knows_lasts : (trail : List ℕ) (ph : Option LookPhase) → LookKnows g cs vs trail ph → LookKnows g cs' vs' trail ph
  knows_lasts trail (Some (HeadA head)) k = (k.0, let e = grown.producer in omega (arith, k.1))
  knows_lasts trail (Some (All block found)) k = record { from = k.from; later = k.later; within = k.within; known = let e = grown.committed block in omega (arith, k.known) }
  knows_lasts trail (Some (Word at next)) k = (reading_lasts at next trail k.0, k.1)
  knows_lasts trail (Some (Check at)) k = reading_lasts at g.width trail k
  knows_lasts trail (Some Head) k = tt
  knows_lasts trail (Some (Com block)) k = tt
  knows_lasts trail None k = tt

  looking_lasts : (looking : Option Cursor) → IsLooking g vs looking → IsLooking g vs' looking
  looking_lasts None k = tt
  looking_lasts (Some c) k = record { from = k.from; within = k.within; made = λ o l. let e = grow.counts (place g c.block o) in let h = k.made o l in omega arith }

module _ (g : Grid) (ws ws' : List ℕ) (vs vs' : List View) where
  pub lasts : IsGrown (put_cursors g ws) (put_cursors g ws') → KeepsMade vs vs' → (looks : Looks) → LooksHold g ws vs looks → LooksHold g ws' vs' looks
  lasts grown grow looks h = record {
    knows = knows_lasts g (put_cursors g ws) (put_cursors g ws') vs vs' grown grow looks.look_trail looks.phase h.knows;
    looking = looking_lasts g (put_cursors g ws) (put_cursors g ws') vs vs' grown grow looks.looking h.looking;
    looked = λ i item e. grow.items item (h.looked i item e);
  }

-- a seat that has looked at nothing remembers nothing
pub starts : (g : Grid) (ws : List ℕ) (vs : List View) → LooksHold g ws vs no_looks
starts g ws vs = record { knows = tt; looking = tt; looked = λ i item e. cc }

begun_made : (g : Grid) (v : View) (call : Start) → (begun table g v None call).made ≡ v.made
begun_made g v (start.Put entry) = refl
begun_made g v start.Take = refl
begun_made g v start.Go = refl

module _ (g : Grid) (ws : List ℕ) (vs : List View) (looks : Looks) (h : LooksHold g ws vs looks) where
  -- a call that begins changes no word and no made list
  pub begins : (id : ℕ) (v : View) (call : Start) → slice_get vs id ≡ Some v → LooksHold g ws (slice_set vs id (begun table g v None call)) looks
  begins id v call at = lasts g ws ws vs _ (grown_same (put_cursors g ws)) (made_same vs id v _ at (begun_made g v call)) looks h

  -- nor is the order of seats of any matter
  pub permuted : (us : List View) → IsPermutation vs us → LooksHold g ws us looks
  permuted us moved = lasts g ws ws vs us (grown_same (put_cursors g ws)) (permuted_made vs us moved) looks h

  pub steps : (id : ℕ) (v : View) (p : DropPhase) → IsWithinLimits g → IsSound g ws vs → made_total vs ≤ place_span g → slice_get vs id ≡ Some v
      → LooksHold g (words_after table g ws v p) (slice_set vs id (view_after table g ws v p)) looks
  steps id v p limits sound room at =
      let small = last_small (stage_of stage) g sound.front (put_cursors g ws) vs sound.at.puts.places limits room in
      lasts g ws (words_after table g ws v p) vs _ (grows g sound.front ws vs limits sound.at small v p) (step_keeps_made table g vs id v p (finds table g ws v p) at) looks h
