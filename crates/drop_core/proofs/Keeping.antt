-- The law of the machine: it keeps the invariant, and while few entries are made block numbers are small, so that each step can be done.
use Rattle.std.specs.Prelude.{Some, slice_get, slice_index, nat_le, slice_set}
use Rattle.std.proofs.Common.{◌≡◌, ℕ, ◌<◌, ◌≤◌, List, length, ap, ◌∙◌, arith}
use Rattle.cursor_word.specs.Shape.{Grid, IsWithinLimits}
use Rattle.cursor_word.specs.Cursor.{most_block, place_span}
use Rattle.cursor_word.specs.declared.cursor.Cursor.{Cursor}
use Rattle.machine.specs.Steps.{finds, view_after, words_after}
use Rattle.machine.specs.Invariant.{CanStep, IsRead, made_total, IsInvariant}
use Rattle.put_side.specs.Cursors.{put_cursors, Front}
use Rattle.put_side.specs.PutTable.{stage_in, stage_of}
use Rattle.put_side.specs.Stages.{At, Fills}
use Rattle.put_side.specs.PutSteps.{older_full}
use Rattle.put_side.proofs.Few.{last_small}
use Rattle.put_side.proofs.Choices.{pick_any}
use Rattle.put_side.proofs.Loads.{knows_at}
use Rattle.put_side.proofs.PutReady.{filled_in, put_reads_none, put_ready}
use Rattle.drop_core.specs.declared.phase.DropPhase.{DropPhase}
use Rattle.drop_core.specs.declared.phase.DropPhase.TheVariants.{Put, SeeM, Take}
use Rattle.drop_core.specs.declared.take_phase.DropTake.{DropTake}
use Rattle.drop_core.specs.declared.take_phase.DropTake.TheVariants.{HeadC, SeeRes, SeeCom, SeeAll, Reserve, Read, Verify, NextCom, Jump, OpenR, RaiseC}
use Rattle.drop_core.specs.Types.{After, View}
use Rattle.drop_core.specs.PutSteps.{FindsFit, IsInRange, after}
use Rattle.drop_core.specs.TakeSteps.{IsTakeInRange, TakeFindsFit}
use Rattle.drop_core.specs.Steps.{table}
use Rattle.drop_core.specs.Stage.{stage}
use Rattle.drop_core.specs.Words.{cursors}
use Rattle.drop_core.specs.Sound.{IsSoundAt, TakeKnows, IsSound}
use Rattle.drop_core.proofs.Loads.{knows_take, turn_of, keeps_HeadC, keeps_Jump, keeps_NextCom, keeps_SeeAll, keeps_SeeCom, keeps_SeeM, keeps_SeeRes}
use Rattle.drop_core.proofs.CallTable.{follows}
use Rattle.drop_core.proofs.Reserves.{head_opened, keeps_Read, keeps_Verify}
use Rattle.drop_core.proofs.Puts.{keeps_put}
use Rattle.drop_core.proofs.Reserves.{keeps_OpenR, keeps_RaiseC, keeps_Reserve}
use Rattle.drop_core.proofs.Starts.{begins_at, starts}

read_by : (g : Grid) (p : DropPhase) (old : ℕ) (read : List ℕ) → ((at : Cursor) → p ≡ Take (Verify at) → length read ≡ g.width) → IsRead g (after g p old) read
read_by g (Put q) old read h = put_reads_none Put SeeM g q old read
read_by g (SeeM full) old read h = pick_any (λ (b : After). IsRead g b read) (nat_le (older_full g full.block) old) _ _ tt tt
read_by g (Take q) old read h =
    follows (λ (b : After). IsRead g b read) g q old record { next = λ r. tt; ok = λ at is place. h at (ap Take is); empty = λ place. tt; busy = λ reason. tt; overrun = λ place now. tt }

module _ (g : Grid) (f : Front) (ws : List ℕ) (vs : List View) (limits : IsWithinLimits g) (s : IsSoundAt g f ws vs) (room : made_total vs ≤ place_span g) where
  -- block numbers are small
  small : f.last < most_block
  small = last_small (stage_of stage) g f (put_cursors g ws) vs s.puts.places limits room

  module _ (id : ℕ) (v : View) (at : slice_get vs id ≡ Some v) where
    take_range : (q : DropTake) → TakeKnows g f.last (cursors g ws) vs v.taken v.read q → IsTakeInRange g q
    take_range (HeadC turn first) h = turn_of g turn first (slice_index ws 1) h
    take_range (SeeRes turn first head) h = let k = h.1 in (turn_of g turn first head h.0, (k.from, omega (arith, k.to, head_opened g f ws vs limits s, small)))
    take_range (SeeCom turn r) h = let k = h.1 in (h.0, (k.from, omega (arith, k.to, head_opened g f ws vs limits s, small)), k.within)
    take_range (SeeAll r m) h = let k = h.0 in ((k.from, omega (arith, k.to, head_opened g f ws vs limits s, small)), k.within)
    take_range (Reserve r) h = let k = h.0 in ((k.from, omega (arith, k.to, head_opened g f ws vs limits s, small)), k.within)
    take_range (Read at next) h = let k = h.0 in ((k.from, omega (arith, k.to, head_opened g f ws vs limits s, small)), k.within, h.1)
    take_range (Verify at) h = ((h.from, omega (arith, h.to, head_opened g f ws vs limits s, small)), h.within)
    take_range (NextCom sp) h = let t = s.takes.to sp.block in (h.from, omega (arith, h.known, small))
    take_range (Jump from) h = (h.first, omega (arith, h.opened, small))
    take_range (OpenR from to) h = ((h.first, omega (arith, h.later, h.opened, small)), (omega (arith, h.first, h.later), omega (arith, h.opened, small)))
    take_range (RaiseC from to) h = let t = s.takes.to to in let r = h.2 in ((h.0, omega (arith, h.1, small)), (omega (arith, h.0, h.1), omega (arith, small)))

    take_fits : (q : DropTake) → TakeFindsFit q (finds table g ws v (Take q))
    take_fits (HeadC turn first) = omega (arith, head_opened g f ws vs limits s, small)
    take_fits (Jump from) = omega (arith, s.puts.places.words.head_to, small)
    take_fits q = tt

    -- the phase and what its step finds
    ready : (p : DropPhase) → v.phase ≡ Some p → IsInRange g p × FindsFit p (finds table g ws v p)
    ready (Put q) e =
        let r = put_ready (stage_of stage) g f ws vs limits s.puts.places (omega (arith, small)) v.entry q (knows_at (stage_of stage) g f ws vs id v v s.puts.places at (At q) (ap (stage_in stage) e)) in (r.range, r.found)
    ready (SeeM full) e = (filled_in (stage_of stage) g f ws vs limits s.puts.places (omega (arith, small)) full (knows_at (stage_of stage) g f ws vs id v v s.puts.places at (Fills full) (ap (stage_in stage) e)), tt)
    ready (Take q) e = (take_range q (knows_take g f ws vs limits s id v at q e), take_fits q)

    -- each step can be done
    pub can_step : (p : DropPhase) → v.phase ≡ Some p → CanStep table g ws v p
    can_step p e =
        let r = ready p e in
        record {
          range = r.0;
          found = r.1;
          wide = (s.puts.entries id v at).wide;
          read = read_by g p (finds table g ws v p) v.read (λ c z. let k = knows_take g f ws vs limits s id v at (Verify c) (e ∙ ap Some z) in k.long);
        }

    step_take : (q : DropTake) → v.phase ≡ Some (Take q) → IsSoundAt g f (words_after table g ws v (Take q)) (slice_set vs id (view_after table g ws v (Take q)))
    step_take (HeadC turn first) e = keeps_HeadC g f ws vs limits s id v at turn first e
    step_take (SeeRes turn first head) e = keeps_SeeRes g f ws vs limits s id v at turn first head e
    step_take (SeeCom turn r) e = keeps_SeeCom g f ws vs limits s id v at turn r e
    step_take (SeeAll r m) e = keeps_SeeAll g f ws vs limits s id v at r m e
    step_take (Reserve r) e = keeps_Reserve g f ws vs limits s id v at r e
    step_take (Read c next) e = keeps_Read g f ws vs limits s id v at c next e
    step_take (Verify c) e = keeps_Verify g f ws vs limits s id v at c e
    step_take (NextCom sp) e = keeps_NextCom g f ws vs limits s id v at sp e
    step_take (Jump from) e = keeps_Jump g f ws vs limits s id v at from e
    step_take (OpenR from to) e = keeps_OpenR g f ws vs limits s id v at from to e
    step_take (RaiseC from to) e = keeps_RaiseC g f ws vs limits s id v at from to e

    pub step_at : (p : DropPhase) → v.phase ≡ Some p → (f' : Front) × IsSoundAt g f' (words_after table g ws v p) (slice_set vs id (view_after table g ws v p))
    step_at (Put q) e = keeps_put g f ws vs limits s id v at q e small
    step_at (SeeM full) e = (f, keeps_SeeM g f ws vs limits s id v at full e)
    step_at (Take q) e = (f, step_take q e)

pub keeps : IsInvariant table IsSound
keeps = record {
  starts = starts;
  begins = λ g ws vs id v b limits s at e wide may. record { front = s.front; at = begins_at g s.front ws vs s.at id v at e b wide };
  steps = λ g ws vs id v p limits s room at e. let n = step_at g s.front ws vs limits s.at room id v at p e in record { front = n.0; at = n.1 };
  can_step = λ g ws vs id v p limits s room at e. can_step g s.front ws vs limits s.at room id v at p e;
}
