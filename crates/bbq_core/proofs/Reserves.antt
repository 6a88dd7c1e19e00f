-- A place is reserved, or was reserved by another take.
use Rattle.std.proofs.Common.{◌≡◌, ℕ, ◌+◌, ◌*◌, ◌/◌, ◌%◌, ◌<◌, ◌≤◌, ◌≢◌, max, List, [], ◌∷◌, ◌++◌, length, refl, sym, ap, ◌∙◌, subst, inl, ⊎_elim, arith}
use Rattle.std.specs.Prelude.{Some, slice_get, slice_set, slice_index}
use Rattle.std.specs.List.{sum_by}
use Rattle.std.proofs.lemmas.List.{length-append, get_or-set_same, get_or-set_other, append-nil}
use Rattle.std.proofs.lemmas.Bool.{cases_lt}
use Rattle.std.proofs.lemmas.Nat.{mod_below}
use Rattle.cursor_word.specs.Shape.{Grid, IsWithinLimits}
use Rattle.cursor_word.specs.Cursor.{offset_span, packed, place_at, unpacked}
use Rattle.cursor_word.specs.declared.cursor.Cursor.{Cursor}
use Rattle.cursor_word.proofs.Blocks.{latest, latest_is, same_near}
use Rattle.rail.specs.Items.{IsRising, places}
use Rattle.rail.specs.declared.answer.Answer.{Answer}
use Rattle.rail.specs.declared.answer.Answer.TheVariants as answer
use Rattle.rail.specs.declared.answer.Take.TheVariants as taking
use Rattle.rail.specs.declared.answer.Why.TheVariants as why
use Rattle.machine.specs.declared.op.After.TheVariants.{Next, Done}
use Rattle.machine.specs.Steps.{view_after, words_after}
use Rattle.machine.proofs.Lists.{one_le_sum, sum_set}
use Rattle.put_side.specs.Cursors.{Front, consumed_word, place, reserved_word}
use Rattle.put_side.specs.Counts.{one_at, takes, times}
use Rattle.put_side.proofs.Sums.{none_from, rising_push, sum_same, times_push, upto_same}
use Rattle.put_side.proofs.Facts.{physical}
use Rattle.put_side.proofs.Items.{made_there}
use Rattle.put_side.proofs.Draws.{below_more}
use Rattle.bbq_core.specs.declared.phase.Phase.TheVariants.{Take}
use Rattle.bbq_core.specs.declared.take_phase.TakePhase.TheVariants.{Reserve, Read}
use Rattle.put_side.specs.PutTable.{stage_in}
use Rattle.bbq_core.specs.Stage.{stage, stage_of}
use Rattle.bbq_core.specs.Types.{After, View}
use Rattle.bbq_core.specs.Table.{table}
use Rattle.bbq_core.specs.Cursors.{TakeCursors, TakeWords, take_cursors}
use Rattle.bbq_core.specs.Counts.{fetch_count, fetched, fetches, reading}
use Rattle.bbq_core.specs.Sound.{IsSoundAt}
use Rattle.bbq_core.proofs.Frames.{after_step, fits_later, take_cursors_are, raised_later}
use Rattle.put_side.proofs.Choices.{pick_equal}
use Rattle.put_side.proofs.TakeWords.{seen_by}
use Rattle.bbq_core.proofs.Loads.{answers, loads}
use Rattle.bbq_core.proofs.TakeFacts.{reserved_below}
use Rattle.bbq_core.proofs.TakeLoads.{knows_at}
use Rattle.put_side.proofs.TakeWords.{long_enough, puts_stay, reserved_at}

-- the next place to be reserved is one further
abbrev pub and_one : Front → Front
and_one back = record { last = back.last; next = back.next + 1 }

module _ (g : Grid) (limits : IsWithinLimits g) (front back : Front) (ws : List ℕ) (vs : List View) (s : IsSoundAt g front back ws vs) (id : ℕ) (v : View) (at : slice_get vs id ≡ Some v) (r : Cursor) (e : v.phase ≡ Some (Take (Reserve r))) where
  abbrev old : ℕ
  old = slice_index ws (4 + 4 * (r.block % g.blocks))

  abbrev words' : List ℕ
  words' = slice_set ws (4 + 4 * (r.block % g.blocks)) (max old (packed r + 1))

  -- what a take has taken is below what is reserved
  fetched_below : reading g v.phase ≡ [] → (q : ℕ) → back.next ≤ q → times q (places v.taken) ≡ 0
  fetched_below none q le =
      let own : fetches g q v ≡ times q (places v.taken) = ap (times q) (ap (λ (l : List ℕ). places v.taken ++ l) none ∙ append-nil _) in
      let o = s.counts.read_once q in let m = one_le_sum (fetches g q) vs id v at in let z = none_from q back.next le in omega arith

  -- the reserved cursor is raised past a place, where the place is free
  reserves : old ≡ packed r → IsSoundAt g front (and_one back) words' (slice_set vs id (seen_by v (Next (Take (Read r 0))) v.read old))
  reserves found =
      let i : ℕ = 4 + 4 * (r.block % g.blocks) in
      let x : ℕ = max old (packed r + 1) in
      let ws' : List ℕ = words' in
      let b : After = Next (Take (Read r 0)) in
      let v' : View = seen_by v b v.read old in
      let t : ℕ = back.next in
      let own = s.each id v at in
      let f = knows_at g limits front back ws vs s id v at (Reserve r) e in
      let w = s.takes in
      let n = s.counts in
      let c : TakeCursors = take_cursors g ws in
      let two = limits.blocks_from in
      let low = reserved_below w two (physical g ws 4) r.block in
      let le : r.block ≤ back.last = omega (arith, f.0.known) in
      let l = latest_is g.blocks r.block back.last (omega arith) le in
      let block : old / offset_span ≡ r.block = omega (arith, f.0.within, limits.size_to) in
      let offset : old % offset_span ≡ r.offset = omega (arith, f.0.within, limits.size_to) in
      let there : reserved_word g ws (latest g.blocks r.block back.last) ≡ old = physical g ws 4 _ r.block l.same in
      -- the block is the newest
      let top : (r.block ≡ back.last) × (t ≡ place g back.last r.offset) = ⊎_elim
      (λ n. let p = w.passed _ n l.near in absurd (omega (arith, p.1, f.0.within)))
      (λ n. let k : latest g.blocks r.block back.last ≡ back.last = omega (arith, l.to) in let z = ap (reserved_word g ws) k in
      ⊎_elim (λ q. let y : reserved_word g ws back.last % offset_span ≡ r.offset = omega arith in (omega (arith, q.block), q.at ∙ ap (place g back.last) y)) (λ q. absurd (omega (arith, q.spent, f.0.within))) w.newest)
      (cases_lt (latest g.blocks r.block back.last) back.last) in
      let m = mod_below r.block g.blocks (omega arith) in
      let word = reserved_at g r.block limits in
      let long = long_enough g ws i x word stage_of front vs id v v' at (ap (stage_in stage) e) s.puts in
      let same_J : back.last % g.blocks ≡ r.block % g.blocks = ap (λ (b : ℕ). b % g.blocks) (sym top.0) in
      let is : reserved_word g ws' back.last ≡ x = ap (λ (b : ℕ). slice_index ws' (4 + 4 * b)) same_J ∙ get_or-set_same ws i x 0 long in
      let other : (k : ℕ) → k < back.last → back.last < k + g.blocks → reserved_word g ws' k ≡ reserved_word g ws k = λ k n near. get_or-set_other ws i _ x 0
      (λ q. let y : k % g.blocks ≡ r.block % g.blocks = omega arith in let z = same_near g.blocks k back.last back.last (y ∙ sym same_J) (omega arith) near (omega arith) (omega arith) in omega arith) in
      let sx : (k : ℕ) → consumed_word g ws' k ≡ consumed_word g ws k = λ k. get_or-set_other ws i _ x 0 (λ q. omega arith) in
      let none : reading g v.phase ≡ [] = ap (reading g) e in
      let mine : fetched g v ≡ places v.taken = ap (λ (l : List ℕ). places v.taken ++ l) none ∙ append-nil _ in
      let here : place_at g r ≡ t = ap (λ (k : ℕ). place g k r.offset) top.0 ∙ sym top.1 in
      let mine' : fetched g v' ≡ places v.taken ++ t ∷ [] = ap (λ (p : ℕ). places v.taken ++ p ∷ []) here in
      let taken_same : (q : ℕ) → sum_by (takes q) (slice_set vs id v') ≡ sum_by (takes q) vs = λ q. sum_same (takes q) vs id v v' at refl in
      let first = made_there vs (place_at g r) (f.1 r.offset (omega arith)) in
      let later = raised_later g back ws vs id v v' at refl i x long (omega arith) in
      let made = later.made in
      let c' : TakeCursors = record { consumer = c.consumer; reserved = reserved_word g ws'; consumed = c.consumed } in
      let takes : TakeWords g front.last (and_one back) c' = record {
        from = w.from;
        behind = w.behind;
        near = w.near;
        head_from = w.head_from;
        head_to = w.head_to;
        consumed = w.consumed;
        reused = w.reused;
        passed = λ k l n. let q = other k l n in let p = w.passed k l n in (ap (λ (w : ℕ). w / offset_span) q ∙ p.0, ap (λ (w : ℕ). w % offset_span) q ∙ p.1);
        newest = let small = limits.size_to in let within = f.0.within in inl record { block = omega (arith, top.0); within = omega arith; at = let y : reserved_word g ws' back.last % offset_span ≡ r.offset + 1 = omega arith in omega (arith, top.1) };
      } in
      after_step g front front back ws ws' vs id v v' s at (and_one back)
      (puts_stay g ws i x word stage_of front vs id v v' at (ap (stage_in stage) e) s.puts record { made = refl; entry = refl; stands = refl })
      (subst (TakeWords g front.last (and_one back)) (take_cursors_are g ws' c' (get_or-set_other ws i 1 x 0 (λ q. omega arith)) (λ k. refl) sx) takes)
      record {
        read_once = λ p. let n' = sum_set (fetches g p) vs id v v' at in let o : fetches g p v ≡ times p (places v.taken) = ap (times p) mine in
            let o' : fetches g p v' ≡ times p (places v.taken) + one_at t p = ap (times p) mine' ∙ times_push p t (places v.taken) in
            let d = below_more p t in let k = n.read_once p in omega arith;
        read_number = let n' = sum_set (fetch_count g) vs id v v' at in let o : fetch_count g v ≡ length (places v.taken) = ap (λ (l : List ℕ). length l) mine in
            let o' : fetch_count g v' ≡ length (places v.taken ++ t ∷ []) = ap (λ (l : List ℕ). length l) mine' in
            let z = length-append (places v.taken) (t ∷ []) in omega (arith, n.read_number);
        taken = λ k l near o. ap (λ (w : ℕ). w % offset_span) (sx k) ∙ n.taken k l near o ∙ upto_same g.size _ _ (λ q h. sym (taken_same (place g k q)));
        taken_made = λ p. let y = made.counts p in let q = taken_same p in omega (arith, n.taken_made p);
      }
      (λ j u q. fits_later g _ _ later u (s.each j u q))
      record {
        knows = (record { from = f.0.from; to = le; near = omega (arith, top.0); within = f.0.within }, limits.width_from, record { words = first.0; made = made.items _ first.1; front = own.unread _ e refl });
        rising = subst IsRising (sym mine') (rising_push (places v.taken) t (subst IsRising mine own.rising) (fetched_below none));
        items = λ j item q. made.items item (own.items j item q);
        unread = λ q h n. let z = ap (reading g) h ∙ n in cc;
      }

  -- the reserved cursor is raised past a place
  pub keeps_Reserve : (n : ℕ) × IsSoundAt g front (record { last = back.last; next = n }) (words_after table g ws v (Take (Reserve r))) (slice_set vs id (view_after table g ws v (Take (Reserve r))))
  keeps_Reserve =
      let i : ℕ = 4 + 4 * (r.block % g.blocks) in
      let x : ℕ = max old (packed r + 1) in
      let f = knows_at g limits front back ws vs s id v at (Reserve r) e in
      let no : Answer = answer.Take (taking.Busy (why.Moved r (unpacked old))) in
      pick_equal (λ b. (n : ℕ) × IsSoundAt g front (record { last = back.last; next = n }) (slice_set ws i x) (slice_set vs id (seen_by v b v.read old))) old (packed r) _ _
      (λ q. (back.next + 1, reserves q))
      (λ q. (
        back.next,
        subst (λ (z : ℕ). IsSoundAt g front back (slice_set ws i z) (slice_set vs id (seen_by v (Done no) v.read old))) (let known = f.0.known in let ne : old ≢ packed r = q in let z : old ≡ x = omega arith in z)
            (loads g limits front back ws vs s id v at i old (Take (Reserve r)) (Done no) v.read e refl (answers g limits front back ws vs s id v at no refl refl (ap (reading g) e))),
      ))
