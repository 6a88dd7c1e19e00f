-- A call that is done alone, from its beginning to its answer.
use Rattle.std.proofs.Common.{◌≡◌, ℕ, ◌<◌, ◌≤◌, List, length, refl, sym, ◌∙◌, inl, arith}
use Rattle.std.specs.Prelude.{Some, None, slice_get, slice_set}
use Rattle.cursor_word.specs.Shape.{Grid, IsWithinLimits}
use Rattle.cursor_word.specs.Cursor.{most_block, place_span}
use Rattle.machine.specs.Invariant.{made_count}
use Rattle.machine.specs.Steps.{begun}
use Rattle.machine.specs.declared.event.Start.TheVariants as start
use Rattle.machine.proofs.Lists.{get_set_other}
use Rattle.put_side.specs.Cursors.{Front, put_cursors}
use Rattle.put_side.proofs.Few.{last_small}
use Rattle.put_side.proofs.Sums.{sum_same}
use Rattle.bbq_core.specs.declared.phase.Phase.{Phase}
use Rattle.bbq_core.specs.declared.phase.Phase.TheVariants.{Put, SeeX, SeeR, Take}
use Rattle.bbq_core.specs.declared.take_phase.TakePhase.TheVariants.{HeadC, SeeRes, SeeCom, SeeAll, Reserve, Read, Consume, NextCom, OpenX, OpenR, RaiseC}
use Rattle.bbq_core.specs.Types.{View}
use Rattle.bbq_core.specs.PutSteps.{first_put}
use Rattle.bbq_core.specs.TakeSteps.{first_take}
use Rattle.bbq_core.specs.Table.{table}
use Rattle.bbq_core.specs.Stage.{stage_of}
use Rattle.put_side.specs.Counts.{taken_count}
use Rattle.bbq_core.specs.Sound.{IsSoundAt}
use Rattle.bbq_core.specs.Alone.{IsAlone, IsStill, LoneKnows}
use Rattle.bbq_core.proofs.Alone.{lone_Put, lone_SeeR, lone_SeeX}
use Rattle.bbq_core.proofs.AloneTakes.{lone_Consume, lone_HeadC, lone_NextCom, lone_OpenR, lone_OpenX, lone_RaiseC, lone_Read, lone_Reserve, lone_SeeAll, lone_SeeCom, lone_SeeRes}
use Rattle.bbq_core.proofs.LoneSteps.{Goes, IsHere}
use Rattle.bbq_core.proofs.Starts.{begins_manned, begins_put_at, begins_take_at}

-- each step of a seat alone
goes : (g : Grid) (n t : ℕ) (front back : Front) (ws : List ℕ) (vs : List View) (id : ℕ) (v : View) (p : Phase) → IsHere g n t front back ws vs id v p → Goes g n t ws vs id v p
goes g n t front back ws vs id v (Put q) h = lone_Put g n t front back ws vs id v q h
goes g n t front back ws vs id v (SeeX full) h = lone_SeeX g n t front back ws vs id v full h
goes g n t front back ws vs id v (SeeR full x) h = lone_SeeR g n t front back ws vs id v full x h
goes g n t front back ws vs id v (Take (HeadC turn first)) h = lone_HeadC g n t front back ws vs id v turn first h
goes g n t front back ws vs id v (Take (SeeRes turn first head)) h = lone_SeeRes g n t front back ws vs id v turn first head h
goes g n t front back ws vs id v (Take (SeeCom r)) h = lone_SeeCom g n t front back ws vs id v r h
goes g n t front back ws vs id v (Take (SeeAll r m)) h = lone_SeeAll g n t front back ws vs id v r m h
goes g n t front back ws vs id v (Take (Reserve r)) h = lone_Reserve g n t front back ws vs id v r h
goes g n t front back ws vs id v (Take (Read at next)) h = lone_Read g n t front back ws vs id v at next h
goes g n t front back ws vs id v (Take (Consume at)) h = lone_Consume g n t front back ws vs id v at h
goes g n t front back ws vs id v (Take (NextCom sp)) h = lone_NextCom g n t front back ws vs id v sp h
goes g n t front back ws vs id v (Take (OpenX sp)) h = lone_OpenX g n t front back ws vs id v sp h
goes g n t front back ws vs id v (Take (OpenR sp)) h = lone_OpenR g n t front back ws vs id v sp h
goes g n t front back ws vs id v (Take (RaiseC sp)) h = lone_RaiseC g n t front back ws vs id v sp h

-- a step of a seat alone: it goes on alone, or all seats are at rest and the answer is what one thread is answered
pub goes_alone : (g : Grid) (n t : ℕ) (ws : List ℕ) (vs : List View) (id : ℕ) (v : View) (p : Phase) → IsWithinLimits g → IsAlone g n t ws vs id p → n ≤ place_span g → slice_get vs id ≡ Some v → v.phase ≡ Some p → Goes g n t ws vs id v p
goes_alone g n t ws vs id v p limits s room at e =
    let few : s.front.last < most_block = last_small stage_of g s.front (put_cursors g ws) vs s.sound.puts.places limits (omega (arith, s.made)) in
    goes g n t s.front s.back ws vs id v p
    record { limits = limits; sound = s.sound; small = few; manned = s.manned; at = at; phase = e; others = s.others; made = s.made; taken = s.taken; knows = s.knows }

module _ (g : Grid) (limits : IsWithinLimits g) (n t : ℕ) (ws : List ℕ) (vs : List View) (id : ℕ) (v : View) (s : IsStill g n t ws vs) (at : slice_get vs id ≡ Some v) where
  begins : (v' : View) (p : Phase) → made_count v' ≡ made_count v → taken_count v' ≡ taken_count v → IsSoundAt g s.front s.back ws (slice_set vs id v') → LoneKnows g s.back.last n t ws p → IsAlone g n t ws (slice_set vs id v') id p
  begins v' p made taken sound knows = record {
    front = s.front;
    back = s.back;
    sound = sound;
    manned = begins_manned g s.front s.back ws vs id v at (s.rest id v at) limits v' s.sound s.manned;
    others = λ j u d e. s.rest j u (sym (get_set_other vs id j v' d) ∙ e);
    made = sum_same made_count vs id v v' at made ∙ s.made;
    taken = sum_same taken_count vs id v v' at taken ∙ s.taken;
    knows = knows;
  }

  -- where all seats are at rest one begins a put, or a take
  pub put_alone : (entry : List ℕ) → length entry ≡ g.width → IsAlone g n t ws (slice_set vs id (begun table g v None (start.Put entry))) id first_put
  put_alone entry wide = begins (begun table g v None (start.Put entry)) first_put refl refl (begins_put_at g s.front s.back ws vs id v at (s.rest id v at) entry s.sound wide) (inl refl)

  pub take_alone : IsAlone g n t ws (slice_set vs id (begun table g v None start.Take)) id first_take
  take_alone = begins (begun table g v None start.Take) first_take refl refl (begins_take_at g s.front s.back ws vs id v at (s.rest id v at) s.sound) (inl refl)
