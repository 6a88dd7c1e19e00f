-- What the invariant says of a seat that is about to step: its phase is in range, and so is what the step finds.
use Rattle.std.proofs.Common.{◌≡◌, ℕ, ◌+◌, ◌/◌, ◌%◌, ◌<◌, ◌≤◌, List, subst, ap, inl, inr, arith}
use Rattle.std.specs.Prelude.{Some, slice_get, nat_le, nat_lt, ◌==◌}
use Rattle.cursor_word.specs.Shape.{Grid, IsWithinLimits}
use Rattle.cursor_word.specs.Cursor.{most_block, offset_span, packed, place_at, place_span, unpacked}
use Rattle.cursor_word.specs.declared.cursor.Cursor.{Cursor}
use Rattle.rail.specs.Items.{placed}
use Rattle.machine.specs.Invariant.{CanStep, IsRead, made_total}
use Rattle.machine.specs.Steps.{finds}
use Rattle.put_side.specs.Cursors.{Front, put_cursors, reserved_word}
use Rattle.put_side.specs.Places.{PutKnows}
use Rattle.put_side.specs.PutTable.{stage_in}
use Rattle.put_side.proofs.Facts.{physical}
use Rattle.put_side.proofs.Few.{last_small}
use Rattle.put_side.proofs.Loads as put_loads
use Rattle.bbq_core.specs.declared.phase.Phase.{Phase}
use Rattle.bbq_core.specs.declared.phase.Phase.TheVariants.{Put, SeeX, SeeR, Take}
use Rattle.bbq_core.specs.declared.take_phase.TakePhase.TheVariants.{HeadC, SeeRes, SeeCom, SeeAll, Reserve, Read, Consume, NextCom, OpenX, OpenR, RaiseC}
use Rattle.bbq_core.specs.Types.{View}
use Rattle.bbq_core.specs.Table.{table}
use Rattle.bbq_core.specs.PutSteps.{FindsFit, IsInRange, after}
use Rattle.put_side.specs.PutSteps as puts
use Rattle.put_side.specs.PutSteps.{is_same, older_full}
use Rattle.put_side.proofs.PutReady.{current_in, filled_in, put_reads_none, put_ready}
use Rattle.bbq_core.specs.Stage.{stage, stage_of}
use Rattle.bbq_core.specs.Sound.{IsSound, IsSoundAt, Knows, TakeTurn, scene}
use Rattle.put_side.proofs.Choices.{pick_any}
use Rattle.bbq_core.proofs.TakeFacts.{reserved_below}

take_turn_is : (g : Grid) (turn : ℕ) (first : Cursor) (head : ℕ) → TakeTurn g turn first head → puts.IsTurn turn
take_turn_is g turn first head (inl e) = inl e
take_turn_is g turn first head (inr r) = inr r.is

-- the phase and what its step finds
record IsReady (g : Grid) (ws : List ℕ) (v : View) (p : Phase) : Type 0 where
  pub range : IsInRange g p
  pub found : FindsFit p (finds table g ws v p)

module _ (g : Grid) (front back : Front) (ws : List ℕ) (vs : List View) (limits : IsWithinLimits g) (s : IsSoundAt g front back ws vs) (few : front.last ≤ most_block) where
  known_in : (r : Cursor) → g.blocks ≤ r.block → packed r ≤ reserved_word g ws r.block → (g.blocks ≤ r.block) × (r.block ≤ most_block)
  known_in r from known = let b = reserved_below s.takes limits.blocks_from (physical g ws 4) r.block in (from, omega (arith, s.takes.behind))

  ready : (v : View) (p : Phase) → PutKnows g front.last (put_cursors g ws) (stage p) → Knows g (scene g back ws vs) v.made v.read (Some p) → IsReady g ws v p
  ready v (Put q) k r = let p = put_ready stage_of g front ws vs limits s.puts.places few v.entry q k in record { range = p.range; found = p.found }
  ready v (SeeX full) k q = record { range = filled_in stage_of g front ws vs limits s.puts.places few full k; found = tt }
  ready v (SeeR full x) k q = record { range = filled_in stage_of g front ws vs limits s.puts.places few full k; found = tt }
  ready v (Take (HeadC turn first)) k q = record { range = take_turn_is g turn first _ q; found = omega (arith, s.takes.head_to, s.takes.behind) }
  ready v (Take (SeeRes turn first head)) k q = record { range = (take_turn_is g turn first _ q.0, (q.1, omega (arith, q.2, s.takes.head_to, s.takes.behind))); found = tt }
  ready v (Take (SeeCom r)) k q = record { range = (known_in r q.from q.known, q.within); found = tt }
  ready v (Take (SeeAll r m)) k q = let n = known_in r q.0.from q.0.known in record { range = (n, q.0.within); found = tt }
  ready v (Take (Reserve r)) k q = record { range = (known_in r q.0.from q.0.known, q.0.within); found = tt }
  ready v (Take (Read at next)) k q = let c = current_in stage_of g front ws vs limits s.puts.places few at back.last s.takes.behind q.0 in record { range = (c.0, c.1, q.1); found = tt }
  ready v (Take (Consume at)) k q = record { range = current_in stage_of g front ws vs limits s.puts.places few at back.last s.takes.behind q.0; found = tt }
  ready v (Take (NextCom spent)) k q = record { range = known_in spent q.from q.known; found = tt }
  ready v (Take (OpenX spent)) k q = record { range = known_in spent q.0.from q.0.known; found = tt }
  ready v (Take (OpenR spent)) k q = record { range = known_in spent q.0.from q.0.known; found = tt }
  ready v (Take (RaiseC spent)) k q = record { range = known_in spent q.0.from q.0.known; found = tt }

  -- a take ends with an entry only where it has read all its words
  read_in : (v : View) (p : Phase) (found : ℕ) → Knows g (scene g back ws vs) v.made v.read (Some p) → IsRead g (after g p found) v.read
  read_in v (Put p) found q = put_reads_none Put SeeX g p found v.read
  read_in v (SeeX full) found q = pick_any (λ b. IsRead g b v.read) (nat_le (older_full g full.block) found) _ _ tt tt
  read_in v (SeeR full x) found q = pick_any (λ b. IsRead g b v.read) (is_same x (unpacked found)) _ _ tt tt
  read_in v (Take (HeadC turn first)) found q = tt
  read_in v (Take (SeeRes turn first head)) found q = pick_any (λ b. IsRead g b v.read) (nat_lt (found % offset_span) g.size) _ _ tt (pick_any (λ b. IsRead g b v.read) (turn == 1) _ _ tt tt)
  read_in v (Take (SeeCom r)) found q = pick_any (λ b. IsRead g b v.read) (found == packed r) _ _ tt (pick_any (λ b. IsRead g b v.read) (nat_lt r.block (found / offset_span)) _ _ tt (pick_any (λ b. IsRead g b v.read) ((found % offset_span) == g.size) _ _ tt tt))
  read_in v (Take (SeeAll r m)) found q = pick_any (λ b. IsRead g b v.read) (is_same (unpacked found) m) _ _ tt (pick_any (λ b. IsRead g b v.read) ((found / offset_span) == m.block) _ _ tt tt)
  read_in v (Take (Reserve r)) found q = pick_any (λ b. IsRead g b v.read) (found == packed r) _ _ tt tt
  read_in v (Take (Read at next)) found q = pick_any (λ b. IsRead g b v.read) (nat_lt (next + 1) g.width) _ _ tt tt
  read_in v (Take (Consume at)) found q = let m = q.1 in (s.puts.entries m.seat m.view m.at).made_wide m.number (placed (place_at g at) v.read) m.there
  read_in v (Take (NextCom spent)) found q = pick_any (λ b. IsRead g b v.read) (nat_lt (found / offset_span) (spent.block + 1)) _ _ tt tt
  read_in v (Take (OpenX spent)) found q = tt
  read_in v (Take (OpenR spent)) found q = tt
  read_in v (Take (RaiseC spent)) found q = tt

pub last_few : (g : Grid) (ws : List ℕ) (vs : List View) → IsWithinLimits g → (s : IsSound g ws vs) → made_total vs ≤ place_span g → s.front.last < most_block
last_few g ws vs limits s room = last_small stage_of g s.front (put_cursors g ws) vs s.sound.puts.places limits room

pub can_step : (g : Grid) (ws : List ℕ) (vs : List View) (id : ℕ) (v : View) (p : Phase) → IsWithinLimits g → IsSound g ws vs → made_total vs ≤ place_span g → slice_get vs id ≡ Some v → v.phase ≡ Some p → CanStep table g ws v p
can_step g ws vs id v p limits s room at e =
    let few = last_few g ws vs limits s room in
    let knows = subst (Knows g (scene g s.back ws vs) v.made v.read) e (s.sound.each id v at).knows in
    let r = ready g s.front s.back ws vs limits s.sound (omega arith) v p (put_loads.knows_at stage_of g s.front ws vs id v v s.sound.puts.places at (stage p) (ap (stage_in stage) e)) knows in
    record {
      range = r.range;
      found = r.found;
      wide = (s.sound.puts.entries id v at).wide;
      read = read_in g s.front s.back ws vs limits s.sound (omega arith) v p (finds table g ws v p) knows;
    }
