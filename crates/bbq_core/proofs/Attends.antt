-- Where a cursor or a head that takes move lags, some take is at work: each step keeps this.
use Rattle.std.proofs.Common.{◌≡◌, ℕ, ◌+◌, ◌*◌, ◌/◌, ◌<◌, ◌≤◌, ◌⊎◌, List, sym, ap, ◌∙◌, subst, inl, inr, ⊎_elim, arith}
use Rattle.std.specs.Prelude.{Option, Some, slice_get, slice_set, slice_index}
use Rattle.std.proofs.lemmas.List.{set-get_or}
use Rattle.cursor_word.specs.Shape.{Grid, IsWithinLimits}
use Rattle.cursor_word.specs.Cursor.{offset_span}
use Rattle.cursor_word.specs.declared.cursor.Cursor.{Cursor}
use Rattle.machine.proofs.Lists.{get_set_same, one_le_sum, sum_set}
use Rattle.put_side.specs.Cursors.{Front, consumed_word, put_cursors, reserved_word}
use Rattle.put_side.specs.Counts.{one_at}
use Rattle.put_side.specs.Manned as put_work
use Rattle.put_side.specs.PutTable.{stage_in}
use Rattle.put_side.proofs.Attends.{IsIdle}
use Rattle.put_side.proofs.Commits.{one_met}
use Rattle.put_side.proofs.Owns.{manned_own}
use Rattle.bbq_core.specs.declared.phase.Phase.{Phase}
use Rattle.bbq_core.specs.declared.phase.Phase.TheVariants.{Take}
use Rattle.bbq_core.specs.declared.take_phase.TakePhase.TheVariants.{OpenR}
use Rattle.bbq_core.specs.Types.{View}
use Rattle.bbq_core.specs.Stage.{stage, stage_of}
use Rattle.bbq_core.specs.Cursors.{TakeCursors, TakeWords, take_cursors}
use Rattle.bbq_core.specs.Sound.{IsManned, in_all, opens_reserved, raises_consumer}
use Rattle.put_side.proofs.TakeWords.{same_words}

-- the part of takes
pub record IsTakeManned (g : Grid) (last : ℕ) (c : TakeCursors) (vs : List View) : Type 0 where
  pub reserved : (c.reserved last / offset_span ≡ last) ⊎ (1 ≤ in_all (opens_reserved last) vs)
  pub consumer : (c.consumer ≡ last) ⊎ (1 ≤ in_all (raises_consumer last) vs)
  pub before : (b : ℕ) → b < g.blocks → b * offset_span + g.size ≤ c.consumed b

pub take_part : (g : Grid) (front back : Front) (ws : List ℕ) (vs : List View) → IsManned g front back ws vs → IsTakeManned g back.last (take_cursors g ws) vs
take_part g front back ws vs m = record { reserved = m.reserved; consumer = m.consumer; before = m.before }

pub both_parts : (g : Grid) (front back : Front) (ws : List ℕ) (vs : List View) → put_work.IsManned stage_of g front (put_cursors g ws) vs → IsTakeManned g back.last (take_cursors g ws) vs → IsManned g front back ws vs
both_parts g front back ws vs p t = record { puts = p; reserved = t.reserved; consumer = t.consumer; before = t.before }

module _ (g : Grid) (limits : IsWithinLimits g) (opened : ℕ) (back : Front) (c c' : TakeCursors) (vs : List View) (id : ℕ) (v v' : View) (at : slice_get vs id ≡ Some v) (w : TakeWords g opened back c') where
  works_on : (f : Option Phase → ℕ) → f v.phase ≤ f v'.phase → 1 ≤ in_all f vs → 1 ≤ in_all f (slice_set vs id v')
  works_on f le h = let n = sum_set (λ (u : View). f u.phase) vs id v v' at in omega arith

  -- a step that settles what its seat no longer stands for
  pub stays_take : IsTakeManned g back.last c vs → c.consumer ≤ c'.consumer → ((k : ℕ) → c.reserved k ≤ c'.reserved k) → ((k : ℕ) → c.consumed k ≤ c'.consumed k)
      → (opens_reserved back.last v.phase ≤ opens_reserved back.last v'.phase) ⊎ (c'.reserved back.last / offset_span ≡ back.last)
      → (raises_consumer back.last v.phase ≤ raises_consumer back.last v'.phase) ⊎ (c'.consumer ≡ back.last) → IsTakeManned g back.last c' (slice_set vs id v')
  stays_take m consumer reserved consumed o r =
      let j : ℕ = back.last in
      let x = reserved j in
      record {
        reserved = ⊎_elim (λ le. ⊎_elim (λ e. inl (⊎_elim (λ q. q.block) (λ q. absurd (omega (arith, q.older, limits.blocks_from))) w.newest)) (λ h. inr (works_on (opens_reserved j) le h)) m.reserved) (λ e. inl e) o;
        consumer = ⊎_elim (λ le. ⊎_elim (λ e. inl (let y = w.head_to in omega arith)) (λ h. inr (works_on (raises_consumer j) le h)) m.consumer) (λ e. inl e) r;
        before = λ b l. let y = consumed b in let z = m.before b l in omega arith;
      }

  -- a seat that opens the next block stands for it
  pub opens_take : ((b : ℕ) → b < g.blocks → b * offset_span + g.size ≤ c'.consumed b) → (spent : Cursor) → spent.block + 1 ≡ back.last → v'.phase ≡ Some (Take (OpenR spent)) → IsTakeManned g back.last c' (slice_set vs id v')
  opens_take before spent e to =
      let j : ℕ = back.last in
      let here = get_set_same vs id v v' at in
      let one = one_met (spent.block + 1) j e in
      let o = one_le_sum (λ (u : View). opens_reserved j u.phase) (slice_set vs id v') id v' here in let o' : opens_reserved j v'.phase ≡ one_at (spent.block + 1) j = ap (opens_reserved j) to in
      let r = one_le_sum (λ (u : View). raises_consumer j u.phase) (slice_set vs id v') id v' here in let r' : raises_consumer j v'.phase ≡ one_at (spent.block + 1) j = ap (raises_consumer j) to in
      record { reserved = inr (omega arith); consumer = inr (omega arith); before = before }

-- a phase in which a take is at work for no other
pub record IsIdleTake (last : ℕ) (p : Phase) : Type 0 where
  pub reserved : opens_reserved last (Some p) ≡ 0
  pub consumer : raises_consumer last (Some p) ≡ 0

module _ (g : Grid) (limits : IsWithinLimits g) (front back : Front) (ws : List ℕ) (vs : List View) (id : ℕ) (v v' : View) (at : slice_get vs id ≡ Some v) (p : Phase) (e : v.phase ≡ Some p) (m : IsManned g front back ws vs) where
  -- a step of a seat that is at work for no other take
  pub idle_take : (opened : ℕ) (c' : TakeCursors) → TakeWords g opened back c' → slice_index ws 1 ≤ c'.consumer → ((k : ℕ) → reserved_word g ws k ≤ c'.reserved k) → ((k : ℕ) → consumed_word g ws k ≤ c'.consumed k) → IsIdleTake back.last p
      → IsTakeManned g back.last c' (slice_set vs id v')
  idle_take opened c' w consumer reserved consumed idle =
      let o : opens_reserved back.last v.phase ≡ 0 = ap (opens_reserved back.last) e ∙ idle.reserved in
      let r : raises_consumer back.last v.phase ≡ 0 = ap (raises_consumer back.last) e ∙ idle.consumer in
      stays_take g limits opened back (take_cursors g ws) c' vs id v v' at w (take_part g front back ws vs m) consumer reserved consumed (inl (omega arith)) (inl (omega arith))

  -- a step that changes no word, of a seat that is at work for no other
  pub load_manned : (opened i : ℕ) → TakeWords g opened back (take_cursors g ws) → IsIdle front.last (stage p) → IsIdleTake back.last p → IsManned g front back (slice_set ws i (slice_index ws i)) (slice_set vs id v')
  load_manned opened i w idle take =
      subst (λ (l : List ℕ). IsManned g front back l (slice_set vs id v')) (sym (set-get_or ws i 0))
      (both_parts g front back ws (slice_set vs id v')
      (manned_own stage_of g front ws ws vs id v v' (stage p) (stage p) at (ap (stage_in stage) e) (same_words g ws) idle m.puts)
      (idle_take opened (take_cursors g ws) w (omega arith) (λ k. omega arith) (λ k. omega arith) take))
