-- Steps of a take that reserve a place, or find it reserved, that open a reserved cursor further on, that raise the consumer head, and that look whether the words that were read are still the entry's.
use Rattle.std.specs.Prelude.{Some, slice_get, slice_set, slice_index, Option, take}
use Rattle.std.specs.List.{sum_by}
use Rattle.std.proofs.Common.{◌≡◌, ℕ, ◌+◌, ◌-◌, ◌*◌, ◌/◌, ◌%◌, ◌<◌, ◌≤◌, max, List, [], length, refl, sym, ap, ◌∙◌, subst, ⊎_elim, arith, inl, inr, ◌≢◌, ◌∷◌, ◌++◌}
use Rattle.std.proofs.lemmas.Bool.{cases_eq, cases_lt}
use Rattle.std.proofs.lemmas.Bool.Decides.{nat_tests}
use Rattle.std.proofs.lemmas.List.{append-nil, get_or-set_same, get_or-set_other, length-append, map-append, set-get_or, take_all, take_more}
use Rattle.std.proofs.lemmas.Nat.{mod_below, same_from_place}
use Rattle.cursor_word.specs.Shape.{Grid, IsWithinLimits}
use Rattle.cursor_word.specs.Cursor.{offset_span, packed, place_at, unpacked}
use Rattle.cursor_word.specs.declared.cursor.Cursor.{Cursor}
use Rattle.cursor_word.proofs.Blocks.{same_block}
use Rattle.rail.specs.Items.{IsRising, places, placed}
use Rattle.machine.specs.declared.op.After.TheVariants.{Next, Done}
use Rattle.machine.specs.Steps.{view_after, words_after}
use Rattle.machine.proofs.Lists.{sum_set, get_set_same, one_le_sum}
use Rattle.put_side.specs.Cursors.{Front, place, reserved_word, allocated_word, put_cursors}
use Rattle.put_side.specs.Counts.{makes, one_at, times}
use Rattle.put_side.specs.PutTable.{stage_in, stage_of}
use Rattle.put_side.proofs.Sums.{rising_push, times_push, sum_same, get_push, rising_front}
use Rattle.put_side.proofs.Commits.{one_apart, one_met}
use Rattle.put_side.proofs.Choices.{pick_equal, pick_less}
use Rattle.put_side.proofs.Made.{made_same}
use Rattle.put_side.proofs.Items.{made_there}
use Rattle.put_side.proofs.TakeWords.{manned_stays, puts_stay, reserved_at, seen_by, head_at, same_words}
use Rattle.drop_core.specs.declared.phase.DropPhase.TheVariants.{Take}
use Rattle.drop_core.specs.declared.take_phase.DropTake.{DropTake}
use Rattle.drop_core.specs.declared.take_phase.DropTake.TheVariants.{Reserve, Read, OpenR, RaiseC, Verify}
use Rattle.drop_core.specs.Types.{View, After}
use Rattle.drop_core.specs.Steps.{table}
use Rattle.drop_core.specs.Stage.{stage}
use Rattle.drop_core.specs.Words.{IsGone, cursors}
use Rattle.drop_core.specs.Counts.{fetched, fetches, raises_consumer, reading, reading_in, raising}
use Rattle.drop_core.specs.Sound.{AreBelow, IsSoundAt, DropKnows, IsReading}
use Rattle.drop_core.proofs.Frames.{after_step, attended_stays, below_more, fetched_reading, passed_later, raised, take_later, IsLater, IsQuiet, knows_later, quiet, quiet_later, quiet_own}
use Rattle.drop_core.proofs.Loads.{IsNextDrop, knows_take, loads_take, moved_next}
use Rattle.cursor_word.specs.Layout.{entry_index}
use Rattle.rail.specs.declared.entry.Placed.{Placed}
use Rattle.put_side.proofs.Facts.{place_next}
use Rattle.put_side.proofs.Frames.{Leaves, grown_same}
use Rattle.put_side.proofs.Owns.{keeps_own, manned_own}
use Rattle.put_side.specs.PutSide.{PutSide}
use Rattle.put_side.specs.Manned.{IsManned}
use Rattle.drop_core.specs.declared.phase.DropPhase.{DropPhase}
use Rattle.put_side.proofs.Lows.{rows}
use Rattle.put_side.specs.Entries.{IsMade, IsPresent}
use Rattle.put_side.proofs.Moments.{made_words_at}
use Rattle.rail.specs.declared.answer.Answer.TheVariants as answer
use Rattle.rail.specs.declared.answer.Take.TheVariants as taking
use Rattle.put_side.specs.Stages as place
use Rattle.put_side.proofs.Stores as side

one_is : (p : ℕ) → one_at p p ≡ 1
one_is p = grind (arith, nat_tests)

pub reads_some : (g : Grid) (r : Cursor) (q : DropTake) → Some (Take (Read r 0)) ≡ Some (Take q) → reading_in g q ≡ [] → (read : List ℕ) → read ≡ []
reads_some g r q e n read = let z : reading g (Some (Take (Read r 0))) ≡ reading g (Some (Take q)) = ap (reading g) e in let y = z ∙ n in cc

-- the place of a cursor is that of no other
pub same_place : (g : Grid) (k o : ℕ) (r : Cursor) → g.blocks ≤ k → g.blocks ≤ r.block → o < g.size → r.offset < g.size → place_at g r ≡ place g k o → (k ≡ r.block) × (o ≡ r.offset)
same_place g k o r lk lr lo lw e = let q = same_from_place (r.block - g.blocks) r.offset (k - g.blocks) o g.size lw lo e in (omega (arith, q.0), sym q.1)

module _ (g : Grid) (f : Front) (ws : List ℕ) (vs : List View) (limits : IsWithinLimits g) (s : IsSoundAt g f ws vs) (id : ℕ) (v : View) (at : slice_get vs id ≡ Some v) (r : Cursor) (e : v.phase ≡ Some (Take (Reserve r))) where
  abbrev found : ℕ
  found = reserved_word g ws r.block

  abbrev past : ℕ
  past = max found (packed r + 1)

  abbrev after_reserve : List ℕ
  after_reserve = slice_set ws (4 + 4 * (r.block % g.blocks)) past

  -- the reserved cursor is raised past a place, which no seat has taken or reads
  reserves : found ≡ packed r → IsSoundAt g f after_reserve (slice_set vs id (seen_by v (Next (Take (Read r 0))) v.read found))
  reserves is =
      let v' : View = seen_by v (Next (Take (Read r 0))) v.read found in
      let vs' : List View = slice_set vs id v' in
      let p : ℕ = place_at g r in
      let k = knows_take g f ws vs limits s id v at (Reserve r) e in
      let h = k.0 in
      let small = limits.size_to in
      let within = h.within in
      let t = s.takes in
      let c = s.counts in
      let low = mod_below r.block g.blocks (omega (arith, limits.blocks_from)) in
      let long : 4 + 4 * (r.block % g.blocks) < length ws = omega (arith, s.puts.all) in
      let up = raised g ws r.block past long in
      let x : past ≡ packed r + 1 = omega arith in
      let later = take_later g f.last ws (4 + 4 * (r.block % g.blocks)) past (omega arith) long in
      let grow = made_same vs id v v' at refl in
      let none : reading g v.phase ≡ [] = ap (reading g) e in
      let mine : fetched g v ≡ places v.taken = fetched_reading g v [] none ∙ append-nil _ in
      let more : (q : ℕ) → sum_by (fetches g q) vs' ≡ sum_by (fetches g q) vs + one_at p q = λ q.
      let n = sum_set (fetches g q) vs id v v' at in let a : fetches g q v ≡ times q (places v.taken) = ap (times q) mine in let b : fetches g q v' ≡ times q (places v.taken) + one_at p q = times_push q p (places v.taken) in omega arith in
      let free : sum_by (fetches g p) vs ≡ 0 = ⊎_elim (λ z. omega arith) (λ z. absurd (let w = c.gone r.block r.offset h.from h.within z in omega arith)) (cases_lt (sum_by (fetches g p) vs) 1) in
      let block : past / offset_span ≡ found / offset_span = omega arith in
      let by : (b : ℕ) → (b % g.blocks ≡ r.block % g.blocks → reserved_word g ws b ≡ found) = λ b q. ap (λ (z : ℕ). slice_index ws (4 + 4 * z)) q in
      let same : (b : ℕ) → reserved_word g after_reserve b / offset_span ≡ reserved_word g ws b / offset_span =
      λ b. ⊎_elim (λ q. let y = up.there b q in let z = by b q in omega arith) (λ q. ap (λ (w : ℕ). w / offset_span) (up.elsewhere b q)) (cases_eq (b % g.blocks) (r.block % g.blocks)) in
      let first = made_there vs p k.1 in
      let own = s.each id v at in
      let empty : v.read ≡ [] = own.unread (Reserve r) e refl in
      after_step g f f ws after_reserve vs id v v' s at later grow
      (puts_stay g ws (4 + 4 * (r.block % g.blocks)) past (reserved_at g r.block limits) (stage_of stage) f vs id v v' at (ap (stage_in stage) e) s.puts record { made = refl; entry = refl; stands = refl })
      (manned_stays g ws (4 + 4 * (r.block % g.blocks)) past (reserved_at g r.block limits) (stage_of stage) f vs id v v' at (ap (stage_in stage) e) s.manned)
      record {
        same = λ b. ap (λ (w : ℕ). w % g.blocks) (same b) ∙ t.same b;
        to = λ b. let q = same b in let n = t.to b in omega arith;
        most = λ b. ⊎_elim (λ q. let y = up.there b q in omega arith) (λ q. let y = up.elsewhere b q in let n = t.most b in omega arith) (cases_eq (b % g.blocks) (r.block % g.blocks));
        made = λ b o from in_block above here.
            let m = grow.counts (place g b o) in
            let there = sym (same b) ∙ here in
            ⊎_elim
            (λ q. let y = up.there b q in let z = by b q in
            ⊎_elim (λ l. let n = t.made b o from in_block (omega arith) there in omega arith)
            (λ l. let bk : b ≡ r.block = omega arith in let ok : o ≡ r.offset = omega arith in
            let n : 1 ≤ sum_by (makes (place g b o)) vs = subst (λ (z : ℕ). 1 ≤ sum_by (makes (place g z o)) vs) (sym bk) (subst (λ (z : ℕ). 1 ≤ sum_by (makes (place g r.block z)) vs) (sym ok) k.1) in omega arith)
            (cases_lt (b * offset_span + o) (packed r)))
            (λ q. let y = up.elsewhere b q in let n = t.made b o from in_block (omega arith) there in omega arith)
            (cases_eq (b % g.blocks) (r.block % g.blocks));
        passed = λ b j l. let q = same b in passed_later g f.last f.last (cursors g ws) (cursors g after_reserve) later j (t.passed b j (omega arith));
        head_from = let q = up.consumer in let n = t.head_from in omega arith;
        head = let q = up.consumer in let n = t.head in let m = later.reserved (slice_index ws 1) in let z : reserved_word g after_reserve (slice_index after_reserve 1) ≡ reserved_word g after_reserve (slice_index ws 1) = ap (reserved_word g after_reserve) q in omega arith;
      }
      record {
        once = λ q. let n = more q in let o = c.once q in ⊎_elim (λ z. let y = ap (λ (w : ℕ). sum_by (fetches g w) vs) z in let one = one_met p q z in omega arith) (λ z. let y = one_apart p q z in omega arith) (cases_eq p q);
        gone = λ b o from in_block taken. let n = more (place g b o) in
            ⊎_elim (λ z. let y = same_place g b o r from h.from in_block h.within z in let w = up.there b (ap (λ (m : ℕ). m % g.blocks) y.0) in omega (arith, y.0, y.1))
            (λ z. let y = one_apart p (place g b o) z in let w = c.gone b o from in_block (omega arith) in let m = later.reserved b in omega arith)
            (cases_eq p (place g b o));
        kept = λ b o from near in_block gone. let n = more (place g b o) in
            ⊎_elim (λ z. let one = one_met p (place g b o) z in omega arith)
            (λ z. let old : IsGone (cursors g ws) b o = ⊎_elim
            (λ q. let y = up.there b q in let w = by b q in ⊎_elim (λ l. omega arith) (λ l. let bk : b ≡ r.block = omega arith in let ok : o ≡ r.offset = omega arith in
            absurd (z (ap (λ (m : ℕ). place g m r.offset) (sym bk) ∙ ap (place g b) (sym ok)))) (cases_lt (b * offset_span + o) (packed r)))
            (λ q. let y = up.elsewhere b q in omega arith) (cases_eq (b % g.blocks) (r.block % g.blocks)) in
            let w = c.kept b o from near in_block old in omega arith)
            (cases_eq p (place g b o));
      }
      (λ b. attended_stays vs id v v' at (cursors g ws) (cursors g after_reserve) b (same b) (let q = up.consumer in omega arith) (ap (raises_consumer _) e) (s.attended b))
      record {
        knows = (record { from = h.from; to = let q = up.consumer in omega (arith, h.to); within = h.within; words = first.0; made = grow.items _ first.1; long = ap (λ (l : List ℕ). length l) empty; front = λ z. empty }, limits.width_from);
        rising = rising_push (places v.taken) p (subst IsRising mine own.rising) h.above;
        items = λ i item z. grow.items item (own.items i item z);
        to_head = subst (λ (n : ℕ). AreBelow v.taken (place g (n + 1) 0)) (sym up.consumer) own.to_head;
        unread = λ q z n. reads_some g r q z n v.read;
      }

  -- the reserved cursor is raised past a place
  pub keeps_Reserve : IsSoundAt g f (words_after table g ws v (Take (Reserve r))) (slice_set vs id (view_after table g ws v (Take (Reserve r))))
  keeps_Reserve =
      let i : ℕ = 4 + 4 * (r.block % g.blocks) in
      let h = (knows_take g f ws vs limits s id v at (Reserve r) e).0 in
      ⊎_elim
      (λ q. pick_equal (λ b. IsSoundAt g f after_reserve (slice_set vs id (seen_by v b v.read found))) found (packed r) _ _ (λ z. reserves q) (λ z. absurd (z q)))
      (λ q. let x : past ≡ found = let known = h.known in omega arith in
      subst (λ (z : ℕ). IsSoundAt g f (slice_set ws i z) (slice_set vs id (view_after table g ws v (Take (Reserve r))))) (sym x)
      (loads_take g f ws vs limits s id v at (Reserve r) i e (λ b. refl) refl refl
      (pick_equal (λ b. IsNextDrop g f.last (cursors g ws) vs v.taken v.read b) found (packed r) _ _ (λ z. absurd (q z)) (λ z. moved_next g f.last (cursors g ws) vs v.taken v.read r (unpacked found)))))
      (cases_eq found (packed r))

module _ (g : Grid) (f : Front) (ws : List ℕ) (vs : List View) (limits : IsWithinLimits g) (s : IsSoundAt g f ws vs) (id : ℕ) (v : View) (at : slice_get vs id ≡ Some v) where
  -- the reserved cursor of the block to go on in is opened, or was
  pub keeps_OpenR : (from : Cursor) (to : ℕ) → v.phase ≡ Some (Take (OpenR from to)) → IsSoundAt g f (words_after table g ws v (Take (OpenR from to))) (slice_set vs id (view_after table g ws v (Take (OpenR from to))))
  keeps_OpenR from to e =
      let i : ℕ = 4 + 4 * (to % g.blocks) in
      let old : ℕ = slice_index ws i in
      let x : ℕ = max old (to * offset_span) in
      let h = knows_take g f ws vs limits s id v at (OpenR from to) e in
      let v' : View = view_after table g ws v (Take (OpenR from to)) in
      let vs' : List View = slice_set vs id v' in
      let first : g.blocks ≤ from.block = h.first in
      ⊎_elim
      (λ less.
      let ws' : List ℕ = slice_set ws i x in
      let is : x ≡ to * offset_span = omega arith in
      let t = s.takes in
      let c = s.counts in
      let low = mod_below to g.blocks (omega (arith, limits.blocks_from)) in
      let long : i < length ws = omega (arith, s.puts.all) in
      let up = raised g ws to x long in
      let later = take_later g f.last ws i x (omega arith) long in
      let grow = made_same vs id v v' at refl in
      let own = s.each id v at in
      let none : reading g v.phase ≡ [] = ap (reading g) e in
      let same : fetched g v' ≡ fetched g v = fetched_reading g v' [] refl ∙ sym (fetched_reading g v [] none) in
      let sums : (p : ℕ) → sum_by (fetches g p) vs' ≡ sum_by (fetches g p) vs = λ p. sum_same (fetches g p) vs id v v' at (ap (times p) same) in
      after_step g f f ws ws' vs id v v' s at later grow
      (puts_stay g ws i x (reserved_at g to limits) (stage_of stage) f vs id v v' at (ap (stage_in stage) e) s.puts record { made = refl; entry = refl; stands = refl })
      (manned_stays g ws i x (reserved_at g to limits) (stage_of stage) f vs id v v' at (ap (stage_in stage) e) s.manned)
      record {
        same = λ k. ⊎_elim (λ q. let y = up.there k q in let z : reserved_word g ws' k / offset_span ≡ to = omega arith in ap (λ (b : ℕ). b % g.blocks) z ∙ sym q) (λ q. ap (λ (w : ℕ). (w / offset_span) % g.blocks) (up.elsewhere k q) ∙ t.same k) (cases_eq (k % g.blocks) (to % g.blocks));
        to = λ k. ⊎_elim (λ q. let y = up.there k q in let o = h.opened in omega arith) (λ q. let y = up.elsewhere k q in let n = t.to k in omega arith) (cases_eq (k % g.blocks) (to % g.blocks));
        most = λ k. ⊎_elim (λ q. let y = up.there k q in omega arith) (λ q. let y = up.elsewhere k q in let n = t.most k in omega arith) (cases_eq (k % g.blocks) (to % g.blocks));
        made = λ k o lk in_block above here. ⊎_elim (λ q. let y = up.there k q in absurd (omega arith))
            (λ q. let y = up.elsewhere k q in let n = t.made k o lk in_block (omega arith) (sym (ap (λ (w : ℕ). w / offset_span) y) ∙ here) in let m = grow.counts (place g k o) in omega arith) (cases_eq (k % g.blocks) (to % g.blocks));
        passed = λ k j l. passed_later g f.last f.last (cursors g ws) (cursors g ws') later j (⊎_elim (λ q. let y = up.there k q in h.passed j (omega arith)) (λ q. let y = up.elsewhere k q in t.passed k j (omega arith)) (cases_eq (k % g.blocks) (to % g.blocks)));
        head_from = let q = up.consumer in let n = t.head_from in omega arith;
        head = let q = up.consumer in let n = t.head in let m = later.reserved (slice_index ws 1) in let z : reserved_word g ws' (slice_index ws' 1) ≡ reserved_word g ws' (slice_index ws 1) = ap (reserved_word g ws') q in omega arith;
      }
      record {
        once = λ p. let n = sums p in let o = c.once p in omega arith;
        gone = λ k o lk in_block z. let n = sums (place g k o) in let m = c.gone k o lk in_block (omega arith) in let l = later.reserved k in omega arith;
        kept = λ k o lk near in_block gone. let n = sums (place g k o) in let old : IsGone (cursors g ws) k o = ⊎_elim
            (λ q. let y = up.there k q in let b = h.opened in absurd (let z = same_block g.blocks k to q (omega arith) (omega arith) in omega arith))
            (λ q. let y = up.elsewhere k q in omega arith) (cases_eq (k % g.blocks) (to % g.blocks)) in
            let m = c.kept k o lk near in_block old in omega arith;
      }
      (λ k. ⊎_elim
      (λ q. let y = up.there k q in let z : reserved_word g ws' k / offset_span ≡ to = omega arith in
      inr (subst (λ (b : ℕ). 1 ≤ sum_by (raising b) vs') (sym z) (let n = one_le_sum (raising to) vs' id v' (get_set_same vs id v v' at) in let o = one_met to to refl in omega arith)))
      (λ q. attended_stays vs id v v' at (cursors g ws) (cursors g ws') k (ap (λ (w : ℕ). w / offset_span) (up.elsewhere k q)) (let y = up.consumer in omega arith) (ap (raises_consumer _) e) (s.attended k))
      (cases_eq (k % g.blocks) (to % g.blocks)))
      record {
        knows = (h.first, h.later, let y = up.there to refl in omega arith);
        rising = subst IsRising (sym same) own.rising;
        items = λ n item z. grow.items item (own.items n item z);
        to_head = subst (λ (n : ℕ). AreBelow v.taken (place g (n + 1) 0)) (sym up.consumer) own.to_head;
        unread = λ q z n. own.unread (OpenR from to) e refl;
      })
      (λ enough. let is : x ≡ old = omega arith in
      subst (λ (z : ℕ). IsSoundAt g f (slice_set ws i z) vs') (sym is)
      (loads_take g f ws vs limits s id v at (OpenR from to) i e (λ b. refl) refl refl record { keeps = refl; none = refl; away = refl; knows = (h.first, h.later, omega arith) }))
      (cases_lt old (to * offset_span))

  -- the consumer head is raised
  pub keeps_RaiseC : (from : Cursor) (to : ℕ) → v.phase ≡ Some (Take (RaiseC from to)) → IsSoundAt g f (words_after table g ws v (Take (RaiseC from to))) (slice_set vs id (view_after table g ws v (Take (RaiseC from to))))
  keeps_RaiseC from to e =
      let old : ℕ = slice_index ws 1 in
      let x : ℕ = max old to in
      let ws' : List ℕ = slice_set ws 1 x in
      let h = knows_take g f ws vs limits s id v at (RaiseC from to) e in
      let v' : View = view_after table g ws v (Take (RaiseC from to)) in
      let vs' : List View = slice_set vs id v' in
      let t = s.takes in
      let c = s.counts in
      let long : 1 < length ws = omega (arith, s.puts.all) in
      let head : slice_index ws' 1 ≡ x = get_or-set_same ws 1 x 0 long in
      let sr : (k : ℕ) → reserved_word g ws' k ≡ reserved_word g ws k = λ k. get_or-set_other ws 1 _ x 0 (λ q. omega arith) in
      let later = take_later g f.last ws 1 x (omega arith) long in
      let grow = made_same vs id v v' at refl in
      let own = s.each id v at in
      let none : reading g v.phase ≡ [] = ap (reading g) e in
      let same : fetched g v' ≡ fetched g v = fetched_reading g v' [] refl ∙ sym (fetched_reading g v [] none) in
      let sums : (p : ℕ) → sum_by (fetches g p) vs' ≡ sum_by (fetches g p) vs = λ p. sum_same (fetches g p) vs id v v' at (ap (times p) same) in
      after_step g f f ws ws' vs id v v' s at later grow
      (puts_stay g ws 1 x (head_at g limits) (stage_of stage) f vs id v v' at (ap (stage_in stage) e) s.puts record { made = refl; entry = refl; stands = refl })
      (manned_stays g ws 1 x (head_at g limits) (stage_of stage) f vs id v v' at (ap (stage_in stage) e) s.manned)
      record {
        same = λ k. ap (λ (w : ℕ). (w / offset_span) % g.blocks) (sr k) ∙ t.same k;
        to = λ k. let q = sr k in let n = t.to k in omega arith;
        most = λ k. let q = sr k in let n = t.most k in omega arith;
        made = λ k o lk in_block above here. let q = sr k in let n = t.made k o lk in_block (omega arith) (sym (ap (λ (w : ℕ). w / offset_span) q) ∙ here) in let m = grow.counts (place g k o) in omega arith;
        passed = λ k j l. let q = sr k in passed_later g f.last f.last (cursors g ws) (cursors g ws') later j (t.passed k j (omega arith));
        head_from = let n = t.head_from in omega arith;
        head = let n = t.head in ⊎_elim
            (λ q. let y : slice_index ws' 1 ≡ to = omega arith in let z : reserved_word g ws' (slice_index ws' 1) ≡ reserved_word g ws to = ap (reserved_word g ws') y ∙ sr to in omega (arith, h.2))
            (λ q. let y : slice_index ws' 1 ≡ old = omega arith in let z : reserved_word g ws' (slice_index ws' 1) ≡ reserved_word g ws old = ap (reserved_word g ws') y ∙ sr old in omega arith)
            (cases_lt old to);
      }
      record {
        once = λ p. let n = sums p in let o = c.once p in omega arith;
        gone = λ k o lk in_block z. let n = sums (place g k o) in let m = c.gone k o lk in_block (omega arith) in let q = sr k in omega arith;
        kept = λ k o lk near in_block gone. let n = sums (place g k o) in let q = sr k in let m = c.kept k o lk near in_block (omega arith) in omega arith;
      }
      (λ k. let b : ℕ = reserved_word g ws k / offset_span in let same : reserved_word g ws' k / offset_span ≡ b = ap (λ (w : ℕ). w / offset_span) (sr k) in
      ⊎_elim
      (λ q. inl (⊎_elim (λ l. omega arith) (λ l. omega arith) (cases_lt old to)))
      (λ n. attended_stays vs id v v' at (cursors g ws) (cursors g ws') k same (omega arith) (ap (raises_consumer b) e ∙ one_apart to b n) (s.attended k))
      (cases_eq to b))
      record {
        knows = inr (refl, h.0, omega (arith, h.1));
        rising = subst IsRising (sym same) own.rising;
        items = λ n item z. grow.items item (own.items n item z);
        to_head = below_more g f.last f.last (cursors g ws) (cursors g ws') later vs vs' grow v.taken (old + 1) (slice_index ws' 1 + 1) (omega arith) own.to_head;
        unread = λ q z n. own.unread (RaiseC from to) e refl;
      }

holds_take : (g : Grid) (at : Cursor) (q : DropTake) (ph : Option DropPhase) → reading g ph ≡ place_at g at ∷ [] → ph ≡ Some (Take q) → reading_in g q ≡ [] → (read : List ℕ) → read ≡ []
holds_take g at q ph holds e n read = let z : reading g ph ≡ reading_in g q = ap (reading g) e in let y : place_at g at ∷ [] ≡ [] = sym holds ∙ z ∙ n in cc

module _ (g : Grid) (f : Front) (ws : List ℕ) (vs : List View) (limits : IsWithinLimits g) (s : IsSoundAt g f ws vs) where
  -- a made place lies below the next one to be allocated
  pub made_below : (item : Placed) → IsMade vs item → item.place < f.next
  made_below item m = side.made_below (stage_of stage) g limits f ws vs s.puts.places m.seat m.view m.number item m.at m.there

  -- no block up to the consumer head is unopened
  pub head_opened : slice_index ws 1 ≤ f.last
  head_opened = let h = s.takes.head in let t = s.takes.to (slice_index ws 1) in omega arith

  -- where the allocated cursor of a made place's physical block is of another block, the place's block was reused
  pub overrun : (at : Cursor) (words : List ℕ) → g.blocks ≤ at.block → at.block ≤ f.last → at.offset < g.size → IsMade vs (placed (place_at g at) words) → allocated_word g ws at.block / offset_span ≢ at.block → at.block + g.blocks ≤ f.last
  overrun at words from to within m other =
      let b = made_below _ m in
      let w = s.puts.places.words in
      ⊎_elim
      (λ near. absurd (⊎_elim (λ l. other (w.full at.block l near).0)
      (λ l. let k : at.block ≡ f.last = omega arith in let r = ap (allocated_word g ws) k in let z = ap (λ (b : ℕ). (b - g.blocks) * g.size) k in
      ⊎_elim (λ q. other (omega (arith, q.block))) (λ q. omega (arith, q.at)) w.newest) (cases_lt at.block f.last)))
      (λ far. far)
      (cases_lt f.last (at.block + g.blocks))

  module _ (id : ℕ) (v : View) (here : slice_get vs id ≡ Some v) where
    -- the side of puts, where no word changes
    away_stays : (v' : View) → stage_of stage v ≡ place.Away → Leaves (stage_of stage) v v' place.Away → PutSide (stage_of stage) g f ws (slice_set vs id v')
    away_stays v' e to = keeps_own (stage_of stage) g f ws ws vs id v v' place.Away place.Away here e (same_words g ws) refl to record { holds = refl; knows = tt; adds = λ k. inl refl } s.puts

    manned_read : (v' : View) → stage_of stage v ≡ place.Away → IsManned (stage_of stage) g f (put_cursors g ws) (slice_set vs id v')
    manned_read v' e = manned_own (stage_of stage) g f ws ws vs id v v' place.Away place.Away here e (same_words g ws) record { allocated = refl; producer = refl; entered = refl } s.manned

    -- a word that is read is the item's, while its block has not made way
    pub keeps_Read : (at : Cursor) (next : ℕ) → v.phase ≡ Some (Take (Read at next)) → IsSoundAt g f (words_after table g ws v (Take (Read at next))) (slice_set vs id (view_after table g ws v (Take (Read at next))))
    keeps_Read at next e =
        let i : ℕ = entry_index g (at.block % g.blocks) at.offset next in
        let w : ℕ = slice_index ws i in
        let k = knows_take g f ws vs limits s id v here (Read at next) e in
        let of = k.0 in
        let has = made_words_at stage g f ws vs s.puts at of.words of.from of.within of.made in
        let read : List ℕ = v.read ++ w ∷ [] in
        let long : length read ≡ next + 1 = let a = length-append v.read (w ∷ []) in let b = of.long in omega arith in
        let more : IsPresent (allocated_word g ws) at.block → read ≡ take (next + 1) of.words = λ z.
        let short : next < length of.words = omega (arith, k.1, has.1) in
        ap (λ (l : List ℕ). l ++ w ∷ []) (of.front z) ∙ ap (λ (y : ℕ). take next of.words ++ y ∷ []) (has.0 z next k.1) ∙ sym (take_more of.words next 0 short) in
        let now : IsReading g (cursors g ws) vs at (next + 1) read = record { from = of.from; to = of.to; within = of.within; words = of.words; made = of.made; long = long; front = more } in
        let mine : fetched g v ≡ places v.taken ++ place_at g at ∷ [] = fetched_reading g v _ (ap (reading g) e) in
        let goes : (q : DropTake) → reading_in g q ≡ place_at g at ∷ [] → DropKnows g f.last (cursors g ws) vs v.taken read (Some (Take q)) → IsSoundAt g f (slice_set ws i w) (slice_set vs id (seen_by v (Next (Take q)) read w)) =
        λ q holds knows.
        let v' : View = seen_by v (Next (Take q)) read w in
        let still : IsQuiet g f.last f.last ws ws v v' = record { last_to = omega arith; consumer = refl; puts = grown_same (put_cursors g ws); reserved = λ k. refl; fetched = ap (λ (l : List ℕ). places v.taken ++ l) holds ∙ sym mine; unraised = λ b. ap (raises_consumer b) e } in
        let grow = made_same vs id v v' here refl in
        subst (λ (l : List ℕ). IsSoundAt g f l (slice_set vs id v')) (sym (set-get_or ws i 0))
        (quiet g f f ws ws vs id v v' s here still refl grow
        (away_stays v' (ap (stage_in stage) e) record { made = refl; entry = refl; stands = refl })
        (manned_read v' (ap (stage_in stage) e))
        (knows_later g f.last f.last (cursors g ws) (cursors g ws) (quiet_later g f.last f.last ws ws v v' still) vs (slice_set vs id v') grow v.taken read (Some (Take q)) knows)
        (λ r z n. holds_take g at r (Some (Take q)) holds z n read)) in
        pick_less (λ b. IsSoundAt g f (slice_set ws i w) (slice_set vs id (seen_by v b read w))) (next + 1) g.width _ _
        (λ l. goes (Read at (next + 1)) refl (now, l))
        (λ l. goes (Verify at) refl (let z : next + 1 ≡ g.width = omega (arith, k.1) in subst (λ (n : ℕ). IsReading g (cursors g ws) vs at n read) z now))

    -- the words that were read are the item's where the block hasn't made way; else the place is given up
    pub keeps_Verify : (at : Cursor) → v.phase ≡ Some (Take (Verify at)) → IsSoundAt g f (words_after table g ws v (Take (Verify at))) (slice_set vs id (view_after table g ws v (Take (Verify at))))
    keeps_Verify at e =
        let i : ℕ = 2 + 4 * (at.block % g.blocks) in
        let w : ℕ = slice_index ws i in
        let p : ℕ = place_at g at in
        let of = knows_take g f ws vs limits s id v here (Verify at) e in
        let has = made_words_at stage g f ws vs s.puts at of.words of.from of.within of.made in
        let own = s.each id v here in
        let mine : fetched g v ≡ places v.taken ++ p ∷ [] = fetched_reading g v _ (ap (reading g) e) in
        let yes : After = Done (answer.Take (taking.Ok p)) in
        let no : After = Done (answer.Take (taking.Overrun p (unpacked w))) in
        subst (λ (l : List ℕ). IsSoundAt g f l (slice_set vs id (view_after table g ws v (Take (Verify at))))) (sym (set-get_or ws i 0))
        (pick_equal (λ b. IsSoundAt g f ws (slice_set vs id (seen_by v b v.read w))) (w / offset_span) at.block yes no
        (λ same. let v' : View = seen_by v yes v.read w in
        let present : IsPresent (allocated_word g ws) at.block = omega arith in
        let whole : v.read ≡ of.words = of.front present ∙ take_all g.width of.words (omega (arith, has.1)) in
        let grow = made_same vs id v v' here refl in
        let taken' : places v'.taken ≡ places v.taken ++ p ∷ [] = map-append (λ (z : Placed). z.place) v.taken _ in
        let fetch : fetched g v' ≡ fetched g v = append-nil _ ∙ taken' ∙ sym mine in
        let below : p < place g (slice_index ws 1 + 1) 0 = let z = rows g (at.block + 1) (slice_index ws 1 + 1) (let t = of.to in omega arith) in let y = place_next g at.block of.from in let within = of.within in omega arith in
        quiet_own g f f ws ws vs id v v' s here record { last_to = omega arith; consumer = refl; puts = grown_same (put_cursors g ws); reserved = λ k. refl; fetched = fetch; unraised = λ b. ap (raises_consumer b) e } grow
        (away_stays v' (ap (stage_in stage) e) record { made = refl; entry = refl; stands = refl })
        (manned_read v' (ap (stage_in stage) e))
        record {
          knows = tt;
          rising = subst IsRising (sym fetch) own.rising;
          items = λ j item h. ⊎_elim (λ q. grow.items item (own.items j item q)) (λ q. subst (IsMade (slice_set vs id v')) q (grow.items _ (subst (λ (l : List ℕ). IsMade vs (placed p l)) (sym whole) of.made))) (get_push v.taken (placed p v.read) j item h);
          to_head = λ q le. let z = own.to_head q le in let y = one_apart p q (λ z. omega arith) in let t : times q (places v'.taken) ≡ times q (places v.taken) + one_at p q = ap (times q) taken' ∙ times_push q p (places v.taken) in omega arith;
          unread = λ q h n. cc;
        })
        (λ other. let v' : View = seen_by v no v.read w in
        let reused = overrun at of.words of.from (let h = head_opened in let t = of.to in omega arith) of.within of.made other in
        let grow = made_same vs id v v' here refl in
        let fetch : fetched g v' ≡ places v.taken = append-nil _ in
        let less : (q : ℕ) → sum_by (fetches g q) (slice_set vs id v') + one_at p q ≡ sum_by (fetches g q) vs = λ q.
        let n = sum_set (fetches g q) vs id v v' here in let a : fetches g q v ≡ times q (places v.taken) + one_at p q = ap (times q) mine ∙ times_push q p (places v.taken) in let b : fetches g q v' ≡ times q (places v.taken) = ap (times q) fetch in omega arith in
        let later : IsLater f.last f.last (cursors g ws) (cursors g ws) = record { last_to = omega arith; consumer = omega arith; puts = grown_same (put_cursors g ws); reserved = λ k. omega arith } in
        let t = s.takes in
        let c = s.counts in
        after_step g f f ws ws vs id v v' s here later grow
        (away_stays v' (ap (stage_in stage) e) record { made = refl; entry = refl; stands = refl })
        (manned_read v' (ap (stage_in stage) e))
        record {
          same = t.same;
          to = t.to;
          most = t.most;
          made = λ k o from in_block above there. let n = t.made k o from in_block above there in let m = grow.counts (place g k o) in omega arith;
          passed = t.passed;
          head_from = t.head_from;
          head = t.head;
        }
        record {
          once = λ q. let n = less q in let o = c.once q in omega arith;
          gone = λ k o from in_block h. let n = less (place g k o) in c.gone k o from in_block (omega arith);
          kept = λ k o from near in_block gone. let n = less (place g k o) in let m = c.kept k o from near in_block gone in
              ⊎_elim (λ z. let y = same_place g k o at from of.from in_block of.within z in absurd (omega (arith, y.0))) (λ z. let y = one_apart p (place g k o) z in omega arith) (cases_eq p (place g k o));
        }
        (λ k. attended_stays vs id v v' here (cursors g ws) (cursors g ws) k refl (omega arith) (ap (raises_consumer _) e) (s.attended k))
        record {
          knows = tt;
          rising = subst IsRising (sym fetch) (rising_front (places v.taken) (p ∷ []) (subst IsRising mine own.rising));
          items = λ j item h. grow.items item (own.items j item h);
          to_head = own.to_head;
          unread = λ q h n. cc;
        }))
