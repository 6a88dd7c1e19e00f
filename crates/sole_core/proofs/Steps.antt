-- Each step keeps the invariant: one law for the shared steps of a put, and one for each kind of the queue's own.
use Rattle.std.proofs.Common.{◌≡◌, ℕ, ◌+◌, ◌*◌, ◌%◌, ◌<◌, ◌≤◌, ◌⊎◌, List, refl, sym, ap, subst, inl}
use Rattle.std.specs.Prelude.{Some, slice_get, slice_set, slice_index}
use Rattle.std.proofs.lemmas.List.{set-get_or}
use Rattle.cursor_word.specs.Shape.{Grid, IsWithinLimits}
use Rattle.cursor_word.specs.Cursor.{most_block, place_span}
use Rattle.machine.specs.Invariant.{made_total}
use Rattle.cursor_word.specs.Layout.{entry_index}
use Rattle.machine.specs.Steps.{view_after, words_after}
use Rattle.put_side.specs.Cursors.{Front, put_cursors}
use Rattle.put_side.specs.Manned as put_work
use Rattle.put_side.specs.PutTable.{stage_in}
use Rattle.put_side.proofs.Attends.{IsIdle}
use Rattle.put_side.proofs.Keeps.{OpensNext}
use Rattle.put_side.proofs.Owns.{manned_own}
use Rattle.put_side.specs.declared.put_phase.PutPhase.{PutPhase}
use Rattle.put_side.proofs.TakeWords.{same_words}
use Rattle.sole_core.specs.declared.phase.SolePhase.{SolePhase}
use Rattle.sole_core.specs.declared.phase.SolePhase.TheVariants.{Put, SeeX, Take}
use Rattle.sole_core.specs.declared.take_phase.SoleTake.TheVariants.{Com, All, Word, Consume}
use Rattle.sole_core.specs.Types.{View}
use Rattle.sole_core.specs.Table.{table}
use Rattle.sole_core.specs.Stage.{stage, stage_of}
use Rattle.sole_core.specs.Sound.{IsSoundAt}
use Rattle.sole_core.proofs.Puts.{keeps_put, shared_step}
use Rattle.sole_core.proofs.Loads.{keeps_SeeX}
use Rattle.sole_core.proofs.TakeLoads.{keeps_All, keeps_Com, keeps_Word}
use Rattle.sole_core.proofs.Consumes.{keeps_Consume}

-- what a step of this phase leaves: puts have come as far as before, or have opened the next block
pub record IsAfter (g : Grid) (p : SolePhase) (front : Front) (next : ℕ) (ws' : List ℕ) (vs' : List View) : Type 0 where
  pub front' : Front
  pub next' : ℕ
  pub opened : (front'.last ≡ front.last) ⊎ OpensNext (stage p) front front'
  pub sound : IsSoundAt g front' next' ws' vs'
  pub manned : put_work.IsManned stage_of g front' (put_cursors g ws') vs'

module _ (g : Grid) (limits : IsWithinLimits g) (front : Front) (next : ℕ) (ws : List ℕ) (vs : List View) (s : IsSoundAt g front next ws vs) (m : put_work.IsManned stage_of g front (put_cursors g ws) vs) (small : front.last < most_block) (few : made_total vs ≤ place_span g) (id : ℕ) (v : View)
    (at : slice_get vs id ≡ Some v) where
  abbrev After : SolePhase → Type 0
  After p = IsAfter g p front next (words_after table g ws v p) (slice_set vs id (view_after table g ws v p))

  after_put : (q : PutPhase) → v.phase ≡ Some (Put q) → After (Put q)
  after_put q e =
      let k = (shared_step g limits front next ws vs s id v at q e small).0 in
      record { front' = k.to; next' = next; opened = k.further; sound = keeps_put g limits front next ws vs s id v at q e small; manned = k.manned m }

  -- a load of the queue's own
  after_load : (p : SolePhase) (i : ℕ) → v.phase ≡ Some p → IsIdle front.last (stage p)
      → (let ws' = slice_set ws i (slice_index ws i) in let vs' = slice_set vs id (view_after table g ws v p) in IsSoundAt g front next ws' vs' → IsAfter g p front next ws' vs')
  after_load p i e idle sound = record {
    front' = front;
    next' = next;
    opened = inl refl;
    sound = sound;
    manned = let v' : View = view_after table g ws v p in
        subst (λ (l : List ℕ). put_work.IsManned stage_of g front (put_cursors g l) (slice_set vs id v')) (sym (set-get_or ws i 0)) (manned_own stage_of g front ws ws vs id v v' (stage p) (stage p) at (ap (stage_in stage) e) (same_words g ws) idle m);
  }

  -- one law for each kind of step
  pub step_at : (p : SolePhase) → v.phase ≡ Some p → After p
  step_at (Put q) e = after_put q e
  step_at (SeeX full) e = after_load (SeeX full) (5 + 4 * ((full.block + 1) % g.blocks)) e record { allocated = refl; producer = refl; entered = refl } (keeps_SeeX g front next ws vs s id v at full e)
  step_at (Take (Com r)) e = after_load (Take (Com r)) (3 + 4 * (r.block % g.blocks)) e record { allocated = refl; producer = refl; entered = refl } (keeps_Com g limits front next ws vs s id v at r e)
  step_at (Take (All r c)) e = after_load (Take (All r c)) (2 + 4 * (r.block % g.blocks)) e record { allocated = refl; producer = refl; entered = refl } (keeps_All g limits front next ws vs s id v at r c e)
  step_at (Take (Word r count)) e = after_load (Take (Word r count)) (entry_index g (r.block % g.blocks) r.offset count) e record { allocated = refl; producer = refl; entered = refl } (keeps_Word g limits front next ws vs s id v at r count e)
  step_at (Take (Consume r)) e =
      let k = keeps_Consume g limits front next ws vs s few id v at r e in
      record { front' = front; next' = next + 1; opened = inl refl; sound = k.sound; manned = k.manned m }
