-- A call that is done alone, from its beginning to its answer.
use Rattle.std.proofs.Common.{◌≡◌, ℕ, ◌<◌, ◌≤◌, List, length, refl, sym, ◌∙◌, inl, arith}
use Rattle.std.specs.Prelude.{Some, None, slice_get, slice_set}
use Rattle.cursor_word.specs.Shape.{Grid, IsWithinLimits}
use Rattle.cursor_word.specs.Cursor.{most_block, place_span}
use Rattle.machine.specs.Invariant.{made_count}
use Rattle.machine.specs.Steps.{begun}
use Rattle.machine.specs.declared.event.Start.TheVariants as start
use Rattle.machine.proofs.Lists.{get_set_other}
use Rattle.put_side.specs.Cursors.{Front, put_cursors}
use Rattle.put_side.proofs.Few.{last_small}
use Rattle.put_side.proofs.Sums.{sum_same}
use Rattle.sole_core.specs.declared.phase.SolePhase.{SolePhase}
use Rattle.sole_core.specs.declared.phase.SolePhase.TheVariants.{Put, SeeX, Take}
use Rattle.sole_core.specs.Types.{View}
use Rattle.sole_core.specs.PutSteps.{first_put}
use Rattle.sole_core.specs.TakeSteps.{first_take}
use Rattle.sole_core.specs.Table.{consumer, table}
use Rattle.sole_core.specs.Stage.{stage_of}
use Rattle.put_side.specs.Counts.{taken_count}
use Rattle.sole_core.specs.Sound.{IsSoundAt}
use Rattle.sole_core.specs.Alone.{IsAlone, IsStill, LoneKnows}
use Rattle.sole_core.proofs.Alone.{put_goes, see_goes}
use Rattle.sole_core.proofs.AloneTakes.{take_goes}
use Rattle.sole_core.proofs.LoneSteps.{Goes, IsHere}
use Rattle.sole_core.proofs.Starts.{begins_manned, begins_put_at, begins_take_at}

-- each step of a seat alone
goes : (g : Grid) (n t : ℕ) (front : Front) (next : ℕ) (ws : List ℕ) (vs : List View) (id : ℕ) (v : View) (p : SolePhase) → IsHere g n t front next ws vs id v p → Goes g n t ws vs id v p
goes g n t front next ws vs id v (Put q) h = put_goes g n t front next ws vs id v q h
goes g n t front next ws vs id v (SeeX full) h = see_goes g n t front next ws vs id v full h
goes g n t front next ws vs id v (Take q) h = take_goes g n t front next ws vs id v q h

-- a step of a seat alone: it goes on alone, or all seats are at rest and the answer is what one thread is answered
pub goes_alone : (g : Grid) (n t : ℕ) (ws : List ℕ) (vs : List View) (id : ℕ) (v : View) (p : SolePhase) → IsWithinLimits g → IsAlone g n t ws vs id p → n ≤ place_span g → slice_get vs id ≡ Some v → v.phase ≡ Some p → Goes g n t ws vs id v p
goes_alone g n t ws vs id v p limits s room at e =
    let few : s.front.last < most_block = last_small stage_of g s.front (put_cursors g ws) vs s.sound.puts.places limits (omega (arith, s.made)) in
    goes g n t s.front s.next ws vs id v p
    record { limits = limits; sound = s.sound; small = few; room = omega (arith, s.made); manned = s.manned; at = at; phase = e; others = s.others; made = s.made; taken = s.taken; knows = s.knows }

module _ (g : Grid) (limits : IsWithinLimits g) (n t : ℕ) (ws : List ℕ) (vs : List View) (id : ℕ) (v : View) (s : IsStill g n t ws vs) (at : slice_get vs id ≡ Some v) where
  begins : (v' : View) (p : SolePhase) → made_count v' ≡ made_count v → taken_count v' ≡ taken_count v → IsSoundAt g s.front s.next ws (slice_set vs id v') → LoneKnows g n ws p → IsAlone g n t ws (slice_set vs id v') id p
  begins v' p made taken sound knows = record {
    front = s.front;
    next = s.next;
    sound = sound;
    manned = begins_manned g s.front s.next ws vs id v at (s.rest id v at) v' s.manned;
    others = λ j u d e. s.rest j u (sym (get_set_other vs id j v' d) ∙ e);
    made = sum_same made_count vs id v v' at made ∙ s.made;
    taken = sum_same taken_count vs id v v' at taken ∙ s.taken;
    knows = knows;
  }

  -- where all seats are at rest one begins a put, or a take
  pub put_alone : (entry : List ℕ) → length entry ≡ g.width → IsAlone g n t ws (slice_set vs id (begun table g v None (start.Put entry))) id first_put
  put_alone entry wide = begins (begun table g v None (start.Put entry)) first_put refl refl (begins_put_at g s.front s.next ws vs id v at (s.rest id v at) entry s.sound wide) (inl refl)

  pub take_alone : id ≡ consumer → IsAlone g n t ws (slice_set vs id (begun table g v None start.Take)) id (first_take g v.taken)
  take_alone first = begins (begun table g v None start.Take) (first_take g v.taken) refl refl (begins_take_at g s.front s.next ws vs id v at (s.rest id v at) s.sound first) tt
