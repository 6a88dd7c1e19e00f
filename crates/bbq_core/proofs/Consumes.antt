-- Words are read, and the entry is consumed.
use Rattle.std.proofs.Common.{◌≡◌, ℕ, ◌+◌, ◌*◌, ◌/◌, ◌%◌, ◌^◌, ◌<◌, ◌≤◌, List, [], ◌∷◌, ◌++◌, length, refl, sym, ap, ◌∙◌, subst, inl, ⊎_elim, arith}
use Rattle.std.specs.Prelude.{Some, slice_get, slice_set, slice_index, take}
use Rattle.std.specs.List.{sum_by}
use Rattle.std.proofs.lemmas.List.{set-get_or, get_or-set_other, append-nil, map-append, take_all, take_more}
use Rattle.std.proofs.lemmas.Bool.{cases_eq}
use Rattle.std.proofs.lemmas.Bool.Decides.{nat_tests}
use Rattle.cursor_word.specs.Shape.{Grid, IsWithinLimits}
use Rattle.cursor_word.specs.Cursor.{most_block, offset_span, place_at}
use Rattle.cursor_word.specs.Layout.{entry_index}
use Rattle.cursor_word.specs.declared.cursor.Cursor.{Cursor}
use Rattle.cursor_word.proofs.Blocks.{same_near}
use Rattle.rail.specs.declared.entry.Placed.{Placed}
use Rattle.rail.specs.Items.{IsRising, placed, places}
use Rattle.machine.specs.declared.op.After.TheVariants.{Next}
use Rattle.machine.specs.Steps.{view_after, words_after}
use Rattle.machine.proofs.Lists.{sum_set}
use Rattle.put_side.specs.Cursors.{Front, consumed_word, place}
use Rattle.put_side.specs.Counts.{makes, one_at, sum_below, takes, times}
use Rattle.put_side.specs.Entries.{IsMade}
use Rattle.put_side.specs.Stages.{Away}
use Rattle.put_side.specs.PutTable.{stage_in}
use Rattle.put_side.proofs.Sums.{get_push, sum_same, times_push, upto_same}
use Rattle.put_side.proofs.Items.{made_counts}
use Rattle.put_side.proofs.Draws.{HasOneMore, one_more_at}
use Rattle.put_side.proofs.Commits.{bumped, one_apart, one_met}
use Rattle.put_side.proofs.Made.{made_same}
use Rattle.put_side.proofs.Owns.{keeps_own}
use Rattle.bbq_core.specs.declared.phase.Phase.TheVariants.{Take}
use Rattle.bbq_core.specs.declared.take_phase.TakePhase.{TakePhase}
use Rattle.bbq_core.specs.declared.take_phase.TakePhase.TheVariants.{Read, Consume}
use Rattle.bbq_core.specs.Types.{View}
use Rattle.bbq_core.specs.Table.{table}
use Rattle.bbq_core.specs.Stage.{stage, stage_of}
use Rattle.bbq_core.specs.Cursors.{TakeCursors, TakeWords, take_cursors}
use Rattle.bbq_core.specs.Counts.{fetch_count, fetched, fetches, reading, reading_in}
use Rattle.bbq_core.specs.Sound.{IsSoundAt, TakeKnows, scene}
use Rattle.bbq_core.proofs.Frames.{IsLater, after_step, fits_later, knows_later, quiet, take_cursors_are, raised_later}
use Rattle.put_side.proofs.Choices.{pick_less}
use Rattle.put_side.proofs.Moments.{made_words_at, still_present}
use Rattle.put_side.proofs.TakeWords.{same_words, seen_by}
use Rattle.bbq_core.proofs.TakeFacts.{unread}
use Rattle.bbq_core.proofs.TakeLoads.{knows_at}
use Rattle.put_side.proofs.TakeWords.{consumed_at, long_enough, puts_stay}

one_most : (p q : ℕ) → one_at p q ≤ 1
one_most p q = grind (arith, nat_tests)

module _ (g : Grid) (limits : IsWithinLimits g) (front back : Front) (ws : List ℕ) (vs : List View) (s : IsSoundAt g front back ws vs) where
  module _ (id : ℕ) (v : View) (here : slice_get vs id ≡ Some v) (at : Cursor) where
    -- load of an entry word, by what follows it
    reads : (next i : ℕ) (r : TakePhase) (x : ℕ) (read : List ℕ) → v.phase ≡ Some (Take (Read at next)) → reading_in g r ≡ place_at g at ∷ [] → TakeKnows g (scene g back ws vs) read r
        → IsSoundAt g front back (slice_set ws i (slice_index ws i)) (slice_set vs id (seen_by v (Next (Take r)) read x))
    reads next i r x read e holds knows =
        let v' : View = seen_by v (Next (Take r)) read x in
        let vs' : List View = slice_set vs id v' in
        let later : IsLater (scene g back ws vs) (scene g back ws vs') = record { passed = refl; consumer = omega arith; reserved = λ k. omega arith; consumed = λ k. omega arith; committed = λ k. omega arith; made = made_same vs id v v' here refl } in
        subst (λ (w : List ℕ). IsSoundAt g front back w vs') (sym (set-get_or ws i 0))
        (quiet g front front back ws ws vs id v v' s here later (λ k. refl) (ap (λ (l : List ℕ). places v.taken ++ l) (holds ∙ sym (ap (reading g) e))) refl
        (keeps_own stage_of g front ws ws vs id v v' Away Away here (ap (stage_in stage) e) (same_words g ws) refl record { made = refl; entry = refl; stands = refl } record { holds = refl; knows = tt; adds = λ k. inl refl } s.puts)
        s.takes (knows_later g (scene g back ws vs) (scene g back ws vs') later v.made read (Some (Take r)) knows)
        (λ q h n. let z : Some (Take r) ≡ Some (Take q) = h in let y : reading_in g r ≡ reading_in g q = ap (reading g) z in let u = sym holds ∙ y ∙ n in cc))

    -- load of an entry word
    pub keeps_Read : (next : ℕ) → v.phase ≡ Some (Take (Read at next)) → IsSoundAt g front back (words_after table g ws v (Take (Read at next))) (slice_set vs id (view_after table g ws v (Take (Read at next))))
    keeps_Read next e =
        let i : ℕ = entry_index g (at.block % g.blocks) at.offset next in
        let w : ℕ = slice_index ws i in
        let f = knows_at g limits front back ws vs s id v here (Read at next) e in
        let cur = f.0 in
        let of = f.2 in
        let un = unread g front back ws vs s id v at here (ap (reading g) e) cur in
        let known = made_words_at stage g front ws vs s.puts at of.words cur.from cur.within of.made in
        let has = known.0 (still_present stage g front ws vs s.puts limits at.block (omega (arith, cur.to, s.takes.behind)) un.near) in
        let short : next < length of.words = omega (arith, f.1, known.1) in
        let more : v.read ++ w ∷ [] ≡ take (next + 1) of.words =
        ap (λ (l : List ℕ). l ++ w ∷ []) of.front ∙ ap (λ (z : ℕ). take next of.words ++ z ∷ []) (has next f.1) ∙ sym (take_more of.words next 0 short) in
        pick_less (λ b. IsSoundAt g front back (slice_set ws i w) (slice_set vs id (seen_by v b (v.read ++ w ∷ []) w))) (next + 1) g.width _ _
        (λ l. reads next i (Read at (next + 1)) w (v.read ++ w ∷ []) e refl (cur, l, record { words = of.words; made = of.made; front = more }))
        (λ l. let all : v.read ++ w ∷ [] ≡ of.words = more ∙ take_all (next + 1) of.words (omega (arith, known.1)) in
        reads next i (Consume at) w (v.read ++ w ∷ []) e refl (cur, subst (λ (z : List ℕ). IsMade vs (placed (place_at g at) z)) (sym all) of.made))

    -- one added to the consumed cursor
    pub keeps_Consume : front.last < most_block → v.phase ≡ Some (Take (Consume at)) → IsSoundAt g front back (words_after table g ws v (Take (Consume at))) (slice_set vs id (view_after table g ws v (Take (Consume at))))
    keeps_Consume small e =
        let p : ℕ = place_at g at in
        let i : ℕ = 5 + 4 * (at.block % g.blocks) in
        let x : ℕ = (slice_index ws i + 1) % 2 ^ 64 in
        let ws' : List ℕ = slice_set ws i x in
        let v' : View = view_after table g ws v (Take (Consume at)) in
        let own = s.each id v here in
        let f = knows_at g limits front back ws vs s id v here (Consume at) e in
        let cur = f.0 in
        let un = unread g front back ws vs s id v at here (ap (reading g) e) cur in
        let w = s.takes in
        let n = s.counts in
        let c : TakeCursors = take_cursors g ws in
        let b = w.consumed at.block cur.to cur.near in
        let word = consumed_at g at.block limits in
        let long = long_enough g ws i x word stage_of front vs id v v' here (ap (stage_in stage) e) s.puts in
        let u : HasOneMore g at.block (consumed_word g ws) (consumed_word g ws') = one_more_at g ws 5 at.block limits.blocks_from (omega arith) long (omega (arith, cur.to, w.behind, b.0)) (omega (arith, un.room, limits.size_to)) in
        let up : slice_index ws i ≤ x = omega (arith, cur.to, w.behind, b.0) in
        let later = raised_later g back ws vs id v v' here refl i x long up in
        let made = later.made in
        let mine : fetched g v ≡ places v.taken ++ p ∷ [] = ap (λ (l : List ℕ). places v.taken ++ l) (ap (reading g) e) in
        let same : fetched g v' ≡ fetched g v = append-nil _ ∙ map-append (λ (z : Placed). z.place) v.taken _ ∙ sym mine in
        let more : (q : ℕ) → sum_by (takes q) (slice_set vs id v') ≡ sum_by (takes q) vs + one_at p q = λ q. let n = sum_set (takes q) vs id v v' here in
        let y : takes q v' ≡ takes q v + one_at p q = ap (times q) (map-append (λ (z : Placed). z.place) v.taken _) ∙ times_push q p (places v.taken) in omega arith in
        let made_p = made_counts vs (placed p v.read) f.1 in
        let c' : TakeCursors = record { consumer = c.consumer; reserved = c.reserved; consumed = consumed_word g ws' } in
        let takes' : TakeWords g front.last back c' = record {
          from = w.from;
          behind = w.behind;
          near = w.near;
          head_from = w.head_from;
          head_to = w.head_to;
          consumed = λ k l n. let o = w.consumed k l n in ⊎_elim (λ q. let t = u.there k q in let y = ap (λ (z : ℕ). z % offset_span) t.2 in let r = un.room in (t.0 ∙ o.0, omega (arith, t.1)))
              (λ q. let y = u.elsewhere k q in (ap (λ (z : ℕ). z / offset_span) y ∙ o.0, omega (arith, o.1))) (cases_eq (k % g.blocks) (at.block % g.blocks));
          reused = λ k l n r. let y = u.elsewhere k (λ q. let z = same_near g.blocks k at.block back.last q l n cur.to cur.near in let h = un.near in omega arith) in ap (λ (z : ℕ). z % offset_span) y ∙ w.reused k l n r;
          passed = w.passed;
          newest = w.newest;
        } in
        after_step g front front back ws ws' vs id v v' s here back
        (puts_stay g ws i x word stage_of front vs id v v' here (ap (stage_in stage) e) s.puts record { made = refl; entry = refl; stands = refl })
        (subst (TakeWords g front.last back) (take_cursors_are g ws' c' (get_or-set_other ws i 1 x 0 (λ r. omega arith)) (λ k. get_or-set_other ws i _ x 0 (λ r. omega arith)) (λ k. refl)) takes')
        record {
          read_once = λ q. sum_same (fetches g q) vs id v v' here (ap (times q) same) ∙ n.read_once q;
          read_number = sum_same (fetch_count g) vs id v v' here (ap (λ (l : List ℕ). length l) same) ∙ n.read_number;
          taken = λ k l near old.
              let o = n.taken k l near old in
              let y : sum_below g.size (λ o. sum_by (takes (place g k o)) (slice_set vs id v')) ≡ sum_below g.size (λ o. sum_by (takes (place g k o)) vs) + one_at at.block k =
              upto_same g.size _ (λ o. sum_by (takes (place g k o)) vs + one_at p (place g k o)) (λ o l. more (place g k o)) ∙ bumped g k at (λ q. sum_by (takes q) vs) old cur.from cur.within in
              ⊎_elim (λ q. let t = u.there k q in let z = same_near g.blocks k at.block back.last q l near cur.to cur.near in let one : one_at at.block k ≡ 1 = one_met at.block k (sym z) in omega (arith, t.1))
              (λ q. let t = u.elsewhere k q in let one : one_at at.block k ≡ 0 = one_apart at.block k (λ z. q (ap (λ (b : ℕ). b % g.blocks) (sym z))) in omega arith)
              (cases_eq (k % g.blocks) (at.block % g.blocks));
          taken_made = λ q. let y = more q in let j = made.counts q in ⊎_elim
              (λ z. let n = ap (λ (r : ℕ). sum_by (takes r) vs) z in let n' = ap (λ (r : ℕ). sum_by (makes r) vs) z in let none = un.none in let o = one_most p q in omega arith)
              (λ z. let o = one_apart p q z in let h = n.taken_made q in omega arith) (cases_eq p q);
        }
        (λ j z q. fits_later g _ _ later z (s.each j z q))
        record {
          knows = tt;
          rising = subst IsRising (sym same) own.rising;
          items = λ j item h. ⊎_elim (λ q. made.items item (own.items j item q)) (λ q. subst (IsMade (slice_set vs id v')) q (made.items _ f.1)) (get_push v.taken (placed p v.read) j item h);
          unread = λ q h n. cc;
        }
