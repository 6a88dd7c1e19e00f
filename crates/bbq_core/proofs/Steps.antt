-- Each step keeps the invariant: one law for the shared steps of a put, and one for each kind of the queue's own.
use Rattle.std.proofs.Common.{◌≡◌, ℕ, ◌+◌, ◌*◌, ◌/◌, ◌%◌, ◌^◌, ◌<◌, ◌≤◌, ◌⊎◌, max, List, length, refl, sym, ap, subst, inl, inr, ⊎_elim, arith}
use Rattle.std.specs.Prelude.{Some, slice_get, slice_set, slice_index}
use Rattle.std.proofs.lemmas.Bool.{cases_eq}
use Rattle.std.proofs.lemmas.List.{get_or-set_same}
use Rattle.cursor_word.specs.Shape.{Grid, IsWithinLimits}
use Rattle.cursor_word.specs.Cursor.{most_block, offset_span, packed}
use Rattle.cursor_word.specs.Layout.{entry_index}
use Rattle.cursor_word.specs.declared.cursor.Cursor.{Cursor}
use Rattle.machine.specs.Steps.{view_after, words_after}
use Rattle.machine.proofs.Lists.{get_set_same}
use Rattle.put_side.specs.Cursors.{Front, reserved_word}
use Rattle.put_side.specs.declared.put_phase.PutPhase.{PutPhase}
use Rattle.put_side.specs.Counts.{one_at}
use Rattle.put_side.proofs.Facts.{physical}
use Rattle.put_side.proofs.Attends.{IsIdle}
use Rattle.put_side.proofs.Commits.{one_apart}
use Rattle.put_side.proofs.Keeps.{OpensNext}
use Rattle.bbq_core.specs.declared.phase.Phase.{Phase}
use Rattle.bbq_core.specs.declared.phase.Phase.TheVariants.{Put, SeeX, SeeR, Take}
use Rattle.bbq_core.specs.declared.take_phase.TakePhase.{TakePhase}
use Rattle.bbq_core.specs.declared.take_phase.TakePhase.TheVariants.{HeadC, SeeRes, SeeCom, SeeAll, Reserve, Read, Consume, NextCom, OpenX, OpenR, RaiseC}
use Rattle.put_side.specs.PutTable.{stage_in}
use Rattle.bbq_core.specs.Types.{View}
use Rattle.bbq_core.specs.Table.{table}
use Rattle.bbq_core.specs.Stage.{stage, stage_of}
use Rattle.bbq_core.specs.Cursors.{TakeWords, take_cursors}
use Rattle.bbq_core.specs.Sound.{IsManned, IsSoundAt, opens_reserved, raises_consumer}
use Rattle.bbq_core.proofs.Frames.{raised_later}
use Rattle.bbq_core.proofs.Puts.{keeps_put, shared_step}
use Rattle.bbq_core.proofs.Loads.{keeps_SeeR, keeps_SeeX}
use Rattle.bbq_core.proofs.TakeLoads.{keeps_HeadC, keeps_NextCom, keeps_SeeAll, keeps_SeeCom, keeps_SeeRes}
use Rattle.bbq_core.proofs.PutSteps.{take_makes_none}
use Rattle.bbq_core.proofs.TakeFacts.{consumed_below}
use Rattle.put_side.proofs.TakeWords.{IsTakeWord, consumed_at, head_at, long_enough, reserved_at}
use Rattle.bbq_core.proofs.TakeRaises.{keeps_OpenR, keeps_RaiseC}
use Rattle.bbq_core.proofs.Reserves.{keeps_Reserve}
use Rattle.bbq_core.proofs.Consumes.{keeps_Consume, keeps_Read}
use Rattle.bbq_core.proofs.TakeOpens.{PassesNext, keeps_OpenX}
use Rattle.put_side.proofs.TakeWords.{manned_stays}
use Rattle.bbq_core.proofs.Attends.{IsIdleTake, IsTakeManned, both_parts, idle_take, load_manned, opens_take, stays_take, take_part}

-- what a step of this phase leaves: puts and takes have come as far as before, or have opened the next block
pub record IsAfter (g : Grid) (p : Phase) (front back : Front) (ws' : List ℕ) (vs' : List View) : Type 0 where
  pub front' : Front
  pub back' : Front
  pub opened : (front'.last ≡ front.last) ⊎ OpensNext (stage p) front front'
  pub passed : (back'.last ≡ back.last) ⊎ PassesNext p back back'
  pub sound : IsSoundAt g front' back' ws' vs'
  pub manned : IsManned g front' back' ws' vs'

module _ (g : Grid) (limits : IsWithinLimits g) (front back : Front) (ws : List ℕ) (vs : List View) (s : IsSoundAt g front back ws vs) (m : IsManned g front back ws vs) (small : front.last < most_block) (id : ℕ) (v : View) (at : slice_get vs id ≡ Some v) where
  abbrev After : Phase → Type 0
  After p = IsAfter g p front back (words_after table g ws v p) (slice_set vs id (view_after table g ws v p))

  after_put : (q : PutPhase) → v.phase ≡ Some (Put q) → After (Put q)
  after_put q e =
      let p : Phase = Put q in
      let v' : View = view_after table g ws v p in
      let n = shared_step g limits front back ws vs s id v at q e small in
      let k = n.0 in
      let moved = n.1 in
      let sound = keeps_put g limits front back ws vs s id v at q e small in
      let c = moved.consumer in
      record {
        front' = k.to;
        back' = back;
        opened = k.further;
        passed = inl refl;
        sound = sound;
        manned = both_parts g k.to back _ _ (k.manned m.puts) (idle_take g limits front back ws vs id v v' at p e m k.to.last _ sound.takes (omega arith) (λ i. let z = moved.reserved i in omega arith) (λ i. let z = moved.consumed i in omega arith) (record { reserved = refl; consumer = refl }));
      }

  -- a load of the queue's own
  after_load : (p : Phase) (i : ℕ) → v.phase ≡ Some p → IsIdle front.last (stage p) → IsIdleTake back.last p
      → (let ws' = slice_set ws i (slice_index ws i) in let vs' = slice_set vs id (view_after table g ws v p) in IsSoundAt g front back ws' vs' → IsAfter g p front back ws' vs')
  after_load p i e idle take sound = record {
    front' = front;
    back' = back;
    opened = inl refl;
    passed = inl refl;
    sound = sound;
    manned = load_manned g limits front back ws vs id v (view_after table g ws v p) at p e m front.last i s.takes idle take;
  }

  -- a take that moves a word
  after_take : (q : TakePhase) (n i x : ℕ) → v.phase ≡ Some (Take q) → IsTakeWord g i → slice_index ws i ≤ x
      → (let ws' = slice_set ws i x in let v' = view_after table g ws v (Take q) in let back' : Front = record { last = back.last; next = n } in v'.made ≡ v.made → IsSoundAt g front back' ws' (slice_set vs id v')
      → (opens_reserved back.last v.phase ≤ opens_reserved back.last v'.phase) ⊎ (reserved_word g ws' back.last / offset_span ≡ back.last)
      → (raises_consumer back.last v.phase ≤ raises_consumer back.last v'.phase) ⊎ (slice_index ws' 1 ≡ back.last) → IsAfter g (Take q) front back ws' (slice_set vs id v'))
  after_take q n i x e word up made sound o r =
      let v' : View = view_after table g ws v (Take q) in
      let back' : Front = record { last = back.last; next = n } in
      let long = long_enough g ws i x word stage_of front vs id v v' at (ap (stage_in stage) e) s.puts in
      let later = raised_later g back ws vs id v v' at made i x long up in
      record {
        front' = front;
        back' = back';
        opened = inl refl;
        passed = inl refl;
        sound = sound;
        manned = both_parts g front back' _ _ (manned_stays g ws i x word stage_of front vs id v v' at (ap (stage_in stage) e) m.puts)
            (stays_take g limits front.last back' (take_cursors g ws) (take_cursors g (slice_set ws i x)) vs id v v' at sound.takes (take_part g front back ws vs m) later.consumer later.reserved later.consumed o r);
      }

  after_Reserve : (c : Cursor) → v.phase ≡ Some (Take (Reserve c)) → After (Take (Reserve c))
  after_Reserve c e =
      let n = keeps_Reserve g limits front back ws vs s id v at c e in
      let o : opens_reserved back.last v.phase ≡ 0 = ap (opens_reserved back.last) e in
      let r : raises_consumer back.last v.phase ≡ 0 = ap (raises_consumer back.last) e in
      after_take (Reserve c) n.0 (4 + 4 * (c.block % g.blocks)) (max (slice_index ws (4 + 4 * (c.block % g.blocks))) (packed c + 1)) e (reserved_at g c.block limits) (omega arith)
      (take_makes_none g (Reserve c) _ v.made v.entry) n.1 (inl (omega arith)) (inl (omega arith))

  after_Consume : (c : Cursor) → v.phase ≡ Some (Take (Consume c)) → After (Take (Consume c))
  after_Consume c e =
      let sound = keeps_Consume g limits front back ws vs s id v at c small e in
      let word = consumed_at g c.block limits in
      let i : ℕ = 5 + 4 * (c.block % g.blocks) in
      let b = consumed_below s.takes limits.blocks_from (physical g ws 5) c.block in
      let behind = s.takes.behind in
      let up : slice_index ws i ≤ (slice_index ws i + 1) % 2 ^ 64 = omega arith in
      let o : opens_reserved back.last v.phase ≡ 0 = ap (opens_reserved back.last) e in
      let r : raises_consumer back.last v.phase ≡ 0 = ap (raises_consumer back.last) e in
      after_take (Consume c) back.next i ((slice_index ws i + 1) % 2 ^ 64) e word up refl sound (inl (omega arith)) (inl (omega arith))

  after_RaiseC : (spent : Cursor) → v.phase ≡ Some (Take (RaiseC spent)) → After (Take (RaiseC spent))
  after_RaiseC spent e =
      let sound = keeps_RaiseC g limits front back ws vs s id v at spent e in
      let x : ℕ = spent.block + 1 in
      let ws' : List ℕ = slice_set ws 1 (max (slice_index ws 1) x) in
      let word = head_at g limits in
      let long : 1 < length ws = omega (arith, s.puts.all) in
      let is : slice_index ws' 1 ≡ max (slice_index ws 1) x = get_or-set_same ws 1 _ 0 long in
      let to = sound.takes.head_to in
      let o : opens_reserved back.last v.phase ≡ 0 = ap (opens_reserved back.last) e in
      let r : raises_consumer back.last v.phase ≡ one_at x back.last = ap (raises_consumer back.last) e in
      after_take (RaiseC spent) back.next 1 (max (slice_index ws 1) x) e word (omega arith) refl sound (inl (omega arith))
      (⊎_elim (λ h. inr (omega arith)) (λ h. inl (let z = one_apart x back.last h in omega arith)) (cases_eq x back.last))

  after_OpenR : (spent : Cursor) → v.phase ≡ Some (Take (OpenR spent)) → After (Take (OpenR spent))
  after_OpenR spent e =
      let sound = keeps_OpenR g limits front back ws vs s id v at spent e in
      let h : ℕ = spent.block + 1 in
      let i : ℕ = 4 + 4 * (h % g.blocks) in
      let x : ℕ = max (slice_index ws i) (h * offset_span) in
      let ws' : List ℕ = slice_set ws i x in
      let v' : View = view_after table g ws v (Take (OpenR spent)) in
      let f = (sound.each id v' (get_set_same vs id v v' at)).knows in
      let o : opens_reserved back.last v.phase ≡ one_at h back.last = ap (opens_reserved back.last) e in
      let r : raises_consumer back.last v.phase ≡ one_at h back.last = ap (raises_consumer back.last) e in
      after_take (OpenR spent) back.next i x e (reserved_at g h limits) (omega arith) refl sound
      (⊎_elim (λ z. inr (let y = ap (reserved_word g ws') z in ⊎_elim (λ q. q.block) (λ q. absurd (omega (arith, q.older, f.1, limits.blocks_from))) sound.takes.newest)) (λ z. inl (let y = one_apart h back.last z in omega arith)) (cases_eq h back.last))
      (inl (omega arith))

  after_OpenX : (spent : Cursor) → v.phase ≡ Some (Take (OpenX spent)) → After (Take (OpenX spent))
  after_OpenX spent e =
      let n = keeps_OpenX g limits front back ws vs s id v at spent e in
      let i : ℕ = 5 + 4 * ((spent.block + 1) % g.blocks) in
      let x : ℕ = max (slice_index ws i) ((spent.block + 1) * offset_span) in
      let ws' : List ℕ = slice_set ws i x in
      let v' : View = view_after table g ws v (Take (OpenX spent)) in
      let word = consumed_at g (spent.block + 1) limits in
      let long = long_enough g ws i x word stage_of front vs id v v' at (ap (stage_in stage) e) s.puts in
      let later = raised_later g back ws vs id v v' at refl i x long (omega arith) in
      let back' : Front = record { last = n.0; next = back.next } in
      let t = take_part g front back ws vs m in
      let o : opens_reserved back.last v.phase ≡ 0 = ap (opens_reserved back.last) e in
      let r : raises_consumer back.last v.phase ≡ 0 = ap (raises_consumer back.last) e in
      let takes = n.2.takes in
      record {
        front' = front;
        back' = back';
        opened = inl refl;
        passed = n.1;
        sound = n.2;
        manned = both_parts g front back' ws' _ (manned_stays g ws i x word stage_of front vs id v v' at (ap (stage_in stage) e) m.puts)
            (⊎_elim
            (λ z. subst (λ (k : ℕ). IsTakeManned g k (take_cursors g ws') (slice_set vs id v')) (sym z)
            (stays_take g limits front.last back (take_cursors g ws) (take_cursors g ws') vs id v v' at (subst (λ (k : ℕ). TakeWords g front.last (record { last = k; next = back.next }) (take_cursors g ws')) z takes) t later.consumer later.reserved later.consumed (inl (omega arith)) (inl (omega arith))))
            (λ z. let same : z.spent ≡ spent = let y = z.opens in cc in
            opens_take g limits front.last back' (take_cursors g ws) (take_cursors g ws') vs id v v' at takes (λ b l. let y = later.consumed b in let w = t.before b l in omega arith) spent (let y = ap (λ (c : Cursor). c.block) same in omega (arith, z.next, z.newest)) refl)
            n.1);
      }

  -- one law for each kind of step
  pub step_at : (p : Phase) → v.phase ≡ Some p → After p
  step_at (Put q) e = after_put q e
  step_at (SeeX full) e = after_load (SeeX full) (5 + 4 * ((full.block + 1) % g.blocks)) e record { allocated = refl; producer = refl; entered = refl } record { reserved = refl; consumer = refl } (keeps_SeeX g limits front back ws vs s id v at full e)
  step_at (SeeR full x) e = after_load (SeeR full x) (4 + 4 * ((full.block + 1) % g.blocks)) e record { allocated = refl; producer = refl; entered = refl } record { reserved = refl; consumer = refl } (keeps_SeeR g limits front back ws vs s id v at full x e)
  step_at (Take (HeadC turn first)) e = after_load (Take (HeadC turn first)) 1 e record { allocated = refl; producer = refl; entered = refl } record { reserved = refl; consumer = refl } (keeps_HeadC g limits front back ws vs s id v at turn first e)
  step_at (Take (SeeRes turn first head)) e = after_load (Take (SeeRes turn first head)) (4 + 4 * (head % g.blocks)) e record { allocated = refl; producer = refl; entered = refl } record { reserved = refl; consumer = refl } (keeps_SeeRes g limits front back ws vs s id v at turn first head e)
  step_at (Take (SeeCom r)) e = after_load (Take (SeeCom r)) (3 + 4 * (r.block % g.blocks)) e record { allocated = refl; producer = refl; entered = refl } record { reserved = refl; consumer = refl } (keeps_SeeCom g limits front back ws vs s id v at r e)
  step_at (Take (SeeAll r c)) e = after_load (Take (SeeAll r c)) (2 + 4 * (r.block % g.blocks)) e record { allocated = refl; producer = refl; entered = refl } record { reserved = refl; consumer = refl } (keeps_SeeAll g limits front back ws vs s id v at r c e)
  step_at (Take (Reserve r)) e = after_Reserve r e
  step_at (Take (Read c next)) e = after_load (Take (Read c next)) (entry_index g (c.block % g.blocks) c.offset next) e record { allocated = refl; producer = refl; entered = refl } record { reserved = refl; consumer = refl } (keeps_Read g limits front back ws vs s id v at c next e)
  step_at (Take (Consume c)) e = after_Consume c e
  step_at (Take (NextCom spent)) e = after_load (Take (NextCom spent)) (3 + 4 * ((spent.block + 1) % g.blocks)) e record { allocated = refl; producer = refl; entered = refl } record { reserved = refl; consumer = refl } (keeps_NextCom g limits front back ws vs s id v at spent e)
  step_at (Take (OpenX spent)) e = after_OpenX spent e
  step_at (Take (OpenR spent)) e = after_OpenR spent e
  step_at (Take (RaiseC spent)) e = after_RaiseC spent e
