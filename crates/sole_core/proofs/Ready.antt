-- What the invariant says of a seat that is about to step: its phase is in range, and so is what the step finds.
use Rattle.std.proofs.Common.{◌≡◌, ℕ, ◌+◌, ◌/◌, ◌%◌, ◌<◌, ◌≤◌, List, subst, ap, sym, arith}
use Rattle.std.specs.Prelude.{Some, slice_get, nat_le, nat_lt, ◌==◌}
use Rattle.cursor_word.specs.Shape.{Grid, IsWithinLimits}
use Rattle.cursor_word.specs.Cursor.{cursor_of, most_block, offset_span, packed, place_span, unpacked}
use Rattle.cursor_word.specs.declared.cursor.Cursor.{Cursor}
use Rattle.cursor_word.proofs.Places.{block_of_place_from, block_of_place_to, offset_of_place}
use Rattle.rail.specs.Items.{placed}
use Rattle.machine.specs.Invariant.{CanStep, IsRead, made_total}
use Rattle.machine.specs.Steps.{finds}
use Rattle.put_side.specs.Cursors.{Front, put_cursors}
use Rattle.put_side.specs.Places.{PutKnows}
use Rattle.put_side.specs.PutSteps.{is_same, older_full}
use Rattle.put_side.specs.PutTable.{stage_in}
use Rattle.put_side.proofs.Few.{last_small}
use Rattle.put_side.proofs.Loads as put_loads
use Rattle.put_side.proofs.PutReady.{filled_in, put_reads_none, put_ready}
use Rattle.sole_core.specs.declared.phase.SolePhase.{SolePhase}
use Rattle.sole_core.specs.declared.phase.SolePhase.TheVariants.{Put, SeeX, Take}
use Rattle.sole_core.specs.declared.take_phase.SoleTake.TheVariants.{Com, All, Word, Consume}
use Rattle.sole_core.specs.Types.{View}
use Rattle.sole_core.specs.Table.{table}
use Rattle.sole_core.specs.PutSteps.{FindsFit, IsInRange, after}
use Rattle.sole_core.specs.TakeSteps as take_steps
use Rattle.sole_core.specs.Stage.{stage, stage_of}
use Rattle.sole_core.specs.Sound.{IsSound, IsSoundAt, Knows, scene}
use Rattle.put_side.proofs.Choices.{pick_any}

-- the phase and what its step finds
record IsReady (g : Grid) (ws : List ℕ) (v : View) (p : SolePhase) : Type 0 where
  pub range : IsInRange g p
  pub found : FindsFit p (finds table g ws v p)

module _ (g : Grid) (front : Front) (next : ℕ) (ws : List ℕ) (vs : List View) (limits : IsWithinLimits g) (s : IsSoundAt g front next ws vs) (few : front.last ≤ most_block) where
  next_in : (r : Cursor) → r ≡ cursor_of g next → take_steps.IsNext g r
  next_in r e = let to = block_of_place_to g next limits s.room in subst (take_steps.IsNext g) (sym e) (λ l. ((block_of_place_from g next, omega arith), offset_of_place g next l))

  ready : (v : View) (p : SolePhase) → PutKnows g front.last (put_cursors g ws) (stage p) → Knows g (scene g next ws vs) v.read (Some p) → IsReady g ws v p
  ready v (Put phase) k q = let r = put_ready stage_of g front ws vs limits s.puts.places few v.entry phase k in record { range = r.range; found = r.found }
  ready v (SeeX full) k q = record { range = filled_in stage_of g front ws vs limits s.puts.places few full k; found = tt }
  ready v (Take (Com r)) k q = record { range = next_in r q.0; found = tt }
  ready v (Take (All r m)) k q = record { range = next_in r q.0; found = tt }
  ready v (Take (Word r count)) k q = record { range = (next_in r q.0, q.1.0); found = tt }
  ready v (Take (Consume r)) k q = record { range = next_in r q.0; found = tt }

  -- a take ends with an entry only where it has read all its words
  read_in : (v : View) (p : SolePhase) (found : ℕ) → Knows g (scene g next ws vs) v.read (Some p) → IsRead g (after g p found) v.read
  read_in v (Put phase) found q = put_reads_none Put SeeX g phase found v.read
  read_in v (SeeX full) found q = pick_any (λ b. IsRead g b v.read) (nat_le (older_full g full.block) found) _ _ tt tt
  read_in v (Take (Com r)) found q = pick_any (λ b. IsRead g b v.read) (found == packed r) _ _ tt (pick_any (λ b. IsRead g b v.read) (nat_lt (found / offset_span) r.block) _ _ tt (pick_any (λ b. IsRead g b v.read) ((found % offset_span) == g.size) _ _ tt tt))
  read_in v (Take (All r m)) found q = pick_any (λ b. IsRead g b v.read) (is_same (unpacked found) m) _ _ tt tt
  read_in v (Take (Word r count)) found q = pick_any (λ b. IsRead g b v.read) (nat_lt (count + 1) g.width) _ _ tt tt
  read_in v (Take (Consume r)) found q = let m = q.1 in (s.puts.entries m.seat m.view m.at).made_wide m.number (placed next v.read) m.there

pub last_few : (g : Grid) (ws : List ℕ) (vs : List View) → IsWithinLimits g → (s : IsSound g ws vs) → made_total vs ≤ place_span g → s.front.last < most_block
last_few g ws vs limits s room = last_small stage_of g s.front (put_cursors g ws) vs s.sound.puts.places limits room

pub can_step : (g : Grid) (ws : List ℕ) (vs : List View) (id : ℕ) (v : View) (p : SolePhase) → IsWithinLimits g → IsSound g ws vs → made_total vs ≤ place_span g → slice_get vs id ≡ Some v → v.phase ≡ Some p → CanStep table g ws v p
can_step g ws vs id v p limits s room at e =
    let few = last_few g ws vs limits s room in
    let knows = subst (Knows g (scene g s.next ws vs) v.read) e (s.sound.each id v at).knows in
    let r = ready g s.front s.next ws vs limits s.sound (omega arith) v p (put_loads.knows_at stage_of g s.front ws vs id v v s.sound.puts.places at (stage p) (ap (stage_in stage) e)) knows in
    record {
      range = r.range;
      found = r.found;
      wide = (s.sound.puts.entries id v at).wide;
      read = read_in g s.front s.next ws vs limits s.sound (omega arith) v p (finds table g ws v p) knows;
    }
