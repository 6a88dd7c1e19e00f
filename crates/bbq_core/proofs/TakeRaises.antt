-- Steps of a take that raise a word where blocks are opened.
use Rattle.std.proofs.Common.{◌≡◌, ℕ, ◌+◌, ◌*◌, ◌/◌, ◌%◌, ◌≤◌, ◌≢◌, ◌⊎◌, max, List, ◌++◌, refl, sym, ap, ◌∙◌, subst, inl, inr, ⊎_elim, arith}
use Rattle.std.specs.Prelude.{Some, slice_get, slice_set, slice_index}
use Rattle.std.proofs.lemmas.List.{get_or-set_same, get_or-set_other}
use Rattle.std.proofs.lemmas.Bool.{cases_lt}
use Rattle.std.proofs.lemmas.Nat.{mod_below}
use Rattle.cursor_word.specs.Shape.{Grid, IsWithinLimits}
use Rattle.cursor_word.specs.Cursor.{offset_span}
use Rattle.cursor_word.specs.declared.cursor.Cursor.{Cursor}
use Rattle.cursor_word.proofs.Blocks.{same_near}
use Rattle.rail.specs.Items.{places}
use Rattle.machine.specs.declared.op.After.TheVariants.{Next}
use Rattle.machine.specs.Steps.{view_after, words_after}
use Rattle.put_side.specs.Cursors.{Front, consumed_word, place, reserved_word}
use Rattle.put_side.proofs.Facts.{physical}
use Rattle.bbq_core.specs.declared.phase.Phase.TheVariants.{Take}
use Rattle.bbq_core.specs.declared.take_phase.TakePhase.TheVariants.{OpenR, RaiseC}
use Rattle.put_side.specs.PutTable.{stage_in}
use Rattle.bbq_core.specs.Stage.{stage, stage_of}
use Rattle.bbq_core.specs.Types.{View}
use Rattle.bbq_core.specs.Table.{table}
use Rattle.bbq_core.specs.Cursors.{IsHalfOpen, IsOpen, TakeCursors, TakeWords, take_cursors}
use Rattle.bbq_core.specs.Counts.{reading}
use Rattle.bbq_core.specs.Sound.{IsSoundAt}
use Rattle.bbq_core.proofs.Frames.{quiet, take_cursors_are, raised_later}
use Rattle.bbq_core.proofs.Loads.{go_on, loads}
use Rattle.bbq_core.proofs.TakeFacts.{consumed_below, lags_R, reserved_below}
use Rattle.bbq_core.proofs.TakeLoads.{knows_at}
use Rattle.put_side.proofs.TakeWords.{head_at, long_enough, puts_stay, reserved_at}

module _ (g : Grid) (limits : IsWithinLimits g) (front back : Front) (ws : List ℕ) (vs : List View) (s : IsSoundAt g front back ws vs) (id : ℕ) (v : View) (at : slice_get vs id ≡ Some v) (spent : Cursor) where
  -- the consumer head is raised
  pub keeps_RaiseC : v.phase ≡ Some (Take (RaiseC spent)) → IsSoundAt g front back (words_after table g ws v (Take (RaiseC spent))) (slice_set vs id (view_after table g ws v (Take (RaiseC spent))))
  keeps_RaiseC e =
      let f = knows_at g limits front back ws vs s id v at (RaiseC spent) e in
      let x : ℕ = max (slice_index ws 1) (spent.block + 1) in
      let ws' : List ℕ = slice_set ws 1 x in
      let v' : View = view_after table g ws v (Take (RaiseC spent)) in
      let c : TakeCursors = take_cursors g ws in
      let other : (j : ℕ) → j ≢ 1 → slice_index ws' j ≡ slice_index ws j = λ j h. get_or-set_other ws 1 j x 0 h in
      let b = reserved_below s.takes limits.blocks_from (physical g ws 4) (spent.block + 1) in
      let le : spent.block + 1 ≤ back.last = omega (arith, f.1) in
      let w = s.takes in
      let word = head_at g limits in
      let long = long_enough g ws 1 x word stage_of front vs id v v' at (ap (stage_in stage) e) s.puts in
      let top : IsOpen g back (c.reserved back.last) ⊎ IsHalfOpen g back x (c.reserved back.last) = ⊎_elim (λ q. inl q) (λ q. inr record {
        older = q.older;
        spent = q.spent;
        behind = ⊎_elim (λ n. omega (arith, q.behind)) (λ n. let k : spent.block + 1 ≡ back.last = omega arith in let y = ap c.reserved k in absurd (omega (arith, q.older, f.1, limits.blocks_from))) (cases_lt (spent.block + 1) back.last);
        at = q.at;
      }) w.newest in
      let takes : TakeWords g front.last back record { consumer = x; reserved = c.reserved; consumed = c.consumed } =
      record { from = w.from; behind = w.behind; near = w.near; head_from = omega (arith, w.head_from); head_to = omega (arith, w.head_to); consumed = w.consumed; reused = w.reused; passed = w.passed; newest = top } in
      let is : slice_index ws' 1 ≡ x = get_or-set_same ws 1 x 0 long in
      let own = s.each id v at in
      quiet g front front back ws ws' vs id v v' s at (raised_later g back ws vs id v v' at refl 1 x long (omega arith)) (λ k. other _ (λ q. omega arith))
      (ap (λ (l : List ℕ). places v.taken ++ l) (sym (ap (reading g) e))) refl
      (puts_stay g ws 1 x word stage_of front vs id v v' at (ap (stage_in stage) e) s.puts record { made = refl; entry = refl; stands = refl })
      (subst (TakeWords g front.last back) (take_cursors_are g ws' record { consumer = x; reserved = c.reserved; consumed = c.consumed } is (λ k. other _ (λ q. omega arith)) (λ k. other _ (λ q. omega arith))) takes)
      (inr record { is = refl; from = f.0.from; full = f.0.full; below = omega arith })
      (λ q h n. own.unread (RaiseC spent) e refl)

  -- the reserved cursor of the next block is opened
  pub keeps_OpenR : v.phase ≡ Some (Take (OpenR spent)) → IsSoundAt g front back (words_after table g ws v (Take (OpenR spent))) (slice_set vs id (view_after table g ws v (Take (OpenR spent))))
  keeps_OpenR e =
      let f = knows_at g limits front back ws vs s id v at (OpenR spent) e in
      let h : ℕ = spent.block + 1 in
      let i : ℕ = 4 + 4 * (h % g.blocks) in
      let old : ℕ = slice_index ws i in
      let x : ℕ = max old (h * offset_span) in
      let ws' : List ℕ = slice_set ws i x in
      let v' : View = view_after table g ws v (Take (OpenR spent)) in
      let c : TakeCursors = take_cursors g ws in
      let b = consumed_below s.takes limits.blocks_from (physical g ws 5) h in
      let le : h ≤ back.last = omega (arith, f.1) in
      let m = mod_below h g.blocks (omega (arith, limits.blocks_from)) in
      let word = reserved_at g h limits in
      let long = long_enough g ws i x word stage_of front vs id v v' at (ap (stage_in stage) e) s.puts in
      let w = s.takes in
      let own = s.each id v at in
      ⊎_elim
      (λ n. let lag = lags_R w limits.blocks_from (physical g ws 4) h le (omega arith) in
      let half = lag.1 in
      let is : (k : ℕ) → k % g.blocks ≡ h % g.blocks → reserved_word g ws' k ≡ h * offset_span = λ k q. let z = ap (λ (r : ℕ). slice_index ws' (4 + 4 * r)) q ∙ get_or-set_same ws i x 0 long in omega arith in
      let other : (k : ℕ) → k % g.blocks ≢ h % g.blocks → reserved_word g ws' k ≡ reserved_word g ws k = λ k q. get_or-set_other ws i _ x 0 (λ r. q (omega arith)) in
      let top = is back.last (ap (λ (b : ℕ). b % g.blocks) (sym lag.0)) in
      let later = raised_later g back ws vs id v v' at refl i x long (omega arith) in
      let takes : TakeWords g front.last back record { consumer = c.consumer; reserved = reserved_word g ws'; consumed = c.consumed } = record {
        from = w.from;
        behind = w.behind;
        near = w.near;
        head_from = w.head_from;
        head_to = w.head_to;
        consumed = w.consumed;
        reused = w.reused;
        passed = λ k l r. let q = other k (λ z. let y = same_near g.blocks k h back.last z (omega arith) r le (omega (arith, lag.0)) in omega (arith, lag.0)) in let p = w.passed k l r in (ap (λ (w : ℕ). w / offset_span) q ∙ p.0, ap (λ (w : ℕ). w % offset_span) q ∙ p.1);
        newest = inl record { block = omega (arith, lag.0, top); within = omega (arith, top); at = half.at ∙ ap (place g back.last) (omega (arith, top)) };
      } in
      let sx : (k : ℕ) → consumed_word g ws' k ≡ consumed_word g ws k = λ k. get_or-set_other ws i _ x 0 (λ r. omega arith) in
      quiet g front front back ws ws' vs id v v' s at later sx (ap (λ (l : List ℕ). places v.taken ++ l) (sym (ap (reading g) e))) refl
      (puts_stay g ws i x word stage_of front vs id v v' at (ap (stage_in stage) e) s.puts record { made = refl; entry = refl; stands = refl })
      (subst (TakeWords g front.last back) (take_cursors_are g ws' record { consumer = c.consumer; reserved = reserved_word g ws'; consumed = c.consumed } (get_or-set_other ws i 1 x 0 (λ r. omega arith)) (λ k. refl) sx) takes)
      (record { from = f.0.from; full = f.0.full; known = let z = later.reserved spent.block in omega (arith, f.0.known) }, let z = is h refl in omega arith)
      (λ q h n. own.unread (OpenR spent) e refl))
      (λ n. subst (λ (z : ℕ). IsSoundAt g front back (slice_set ws i z) (slice_set vs id v')) (let z : old ≡ x = omega arith in z)
      (loads g limits front back ws vs s id v at i old (Take (OpenR spent)) (Next (Take (RaiseC spent))) v.read e refl (go_on g limits front back ws vs s id v at (OpenR spent) (RaiseC spent) e refl refl (f.0, n))))
      (cases_lt old (h * offset_span))
