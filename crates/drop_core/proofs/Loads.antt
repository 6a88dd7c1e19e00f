-- Loads: of a put that looks at the older block, and of a take.
use Rattle.std.proofs.Common.{◌≡◌, ℕ, ◌+◌, ◌-◌, ◌*◌, ◌/◌, ◌%◌, ◌<◌, ◌≤◌, ◌≢◌, List, [], ◌++◌, Bool, true, false, refl, sym, ap, ◌∙◌, subst, inl, inr, ⊎_elim, arith}
use Rattle.std.specs.Prelude.{Option, Some, None, slice_get, slice_set, slice_index, if◌then◌else◌, ◌==◌}
use Rattle.std.specs.List.{sum_by}
use Rattle.std.proofs.lemmas.Bool.{cases_lt}
use Rattle.std.proofs.lemmas.List.{set-get_or}
use Rattle.std.proofs.lemmas.List.Sums.{sum_by-append, sum_by-le-sum_by}
use Rattle.cursor_word.specs.Shape.{Grid, IsWithinLimits}
use Rattle.cursor_word.specs.Cursor.{cursor, offset_span, packed, unpacked}
use Rattle.cursor_word.specs.declared.cursor.Cursor.{Cursor}
use Rattle.cursor_word.proofs.Blocks.{latest, latest_is, same_block}
use Rattle.rail.specs.declared.entry.Placed.{Placed}
use Rattle.rail.specs.Items.{places}
use Rattle.rail.specs.declared.answer.Answer.TheVariants as answer
use Rattle.rail.specs.declared.answer.Put.TheVariants as put
use Rattle.rail.specs.declared.answer.Why.TheVariants as why
use Rattle.machine.specs.declared.op.After.TheVariants.{Next, Done}
use Rattle.machine.specs.Steps.{phase_after, seen, taken_after, view_after, words_after}
use Rattle.machine.proofs.Lists.{one_le_sum}
use Rattle.put_side.specs.Cursors.{Front, PutCursors, committed_word, place, put_cursors, reserved_word}
use Rattle.put_side.specs.declared.put_phase.PutPhase.TheVariants.{OpenM}
use Rattle.put_side.specs.PutSteps.{IsTurn, older_full}
use Rattle.put_side.specs.Stages.{PutStage, Away, Fills, held}
use Rattle.put_side.proofs.Choices.{pick_equal, pick_less, pick_same}
use Rattle.put_side.specs.Counts.{claims, makes, one_at, sum_below, times}
use Rattle.put_side.specs.PutTable.{IsNoCommit, stage_after, stage_in, stage_of}
use Rattle.put_side.proofs.Facts.{committed_below, found_open, physical, place_next, repacked}
use Rattle.put_side.proofs.Sums.{by_test_le, none_from, upto_le, upto_all, upto_cut, upto_from}
use Rattle.put_side.proofs.Frames.{IsNext, Leaves, grown_same, makes_le}
use Rattle.put_side.proofs.Keeps.{stage_next}
use Rattle.put_side.proofs.Loads.{knows_at}
use Rattle.put_side.proofs.TakeWords.{same_words}
use Rattle.put_side.proofs.Attends.{IsIdle}
use Rattle.put_side.proofs.Owns.{keeps_own, manned_own}
use Rattle.drop_core.specs.declared.phase.DropPhase.{DropPhase}
use Rattle.drop_core.specs.declared.phase.DropPhase.TheVariants.{Put, SeeM, Take}
use Rattle.drop_core.specs.declared.take_phase.DropTake.{DropTake}
use Rattle.drop_core.specs.declared.take_phase.DropTake.TheVariants.{HeadC, SeeRes, SeeCom, SeeAll, NextCom, Jump}
use Rattle.drop_core.specs.Types.{After, View}
use Rattle.drop_core.specs.PutSteps.{after, older_or_not}
use Rattle.drop_core.specs.TakeSteps.{after_take, moved_on}
use Rattle.drop_core.specs.Steps.{table}
use Rattle.drop_core.specs.Stage.{stage}
use Rattle.drop_core.specs.Words.{Cursors, IsGone, IsPassed, cursors}
use Rattle.drop_core.specs.Counts.{fetches, raises_consumer, reading, reading_in}
use Rattle.drop_core.specs.Sound.{AreBelow, DropKnows, IsFound, IsSoundAt, TakeKnows, TakeTurn}
use Rattle.drop_core.proofs.CallTable.{puts}
use Rattle.put_side.specs.Places.{IsFilled}
use Rattle.put_side.proofs.Commits.{made_once}
use Rattle.put_side.proofs.Made.{step_keeps_made}
use Rattle.drop_core.proofs.Frames.{IsQuiet, knows_later, quiet, quiet_later}

-- what follows takes nothing and reads no place, and what it remembers holds
pub record IsNextDrop (g : Grid) (last : ℕ) (c : Cursors) (vs : List View) (taken : List Placed) (read : List ℕ) (b : After) : Type 0 where
  pub keeps : taken_after taken read b ≡ taken
  pub none : reading g (phase_after b) ≡ []
  pub knows : DropKnows g last c vs taken read (phase_after b)
  pub away : stage_after stage b ≡ Away

pub record IsNextPut (g : Grid) (last : ℕ) (c : Cursors) (vs : List View) (taken : List Placed) (read : List ℕ) (b : After) : Type 0 where
  pub keeps : taken_after taken read b ≡ taken
  pub none : reading g (phase_after b) ≡ []
  pub knows : DropKnows g last c vs taken read (phase_after b)
  pub no_take : (q : DropTake) → phase_after b ≡ Some (Take q) → ⊥
  pub side : IsNext g last c.puts [] (stage_after stage b)

idle : (g : Grid) (last : ℕ) (cs : PutCursors) (s : PutStage) → s ≡ Away → IsNext g last cs [] s
idle g last cs s e = subst (IsNext g last cs []) (sym e) record { holds = refl; knows = tt; adds = λ k. inl refl }

opens_no_take : (full : Cursor) (q : DropTake) → phase_after (Next (Put (OpenM full))) ≡ Some (Take q) → ⊥
opens_no_take full q e = cc

rests_no_take : (q : DropTake) → (let n : Option DropPhase = None in n ≡ Some (Take q)) → ⊥
rests_no_take q e = cc

pub takes_le : (g : Grid) (p : ℕ) (v : View) → times p (places v.taken) ≤ fetches g p v
takes_le g p v = let s = sum_by-append (λ (q : ℕ). one_at q p) (places v.taken) (reading g v.phase) in omega arith

pub turn_of : (g : Grid) (turn : ℕ) (first : Cursor) (b : ℕ) → TakeTurn g turn first b → IsTurn turn
turn_of g turn first b f = ⊎_elim (λ q. inl q) (λ q. inr q.0) f

module _ (g : Grid) (last : ℕ) (c : Cursors) (vs : List View) (taken : List Placed) (read : List ℕ) where
  pub moved_next : (earlier later : Cursor) → IsNextDrop g last c vs taken read (moved_on earlier later)
  moved_next earlier later = record { keeps = refl; none = refl; knows = tt; away = refl }

  -- in the first turn the take goes on
  pub first_next : (t : Bool) (q : DropTake) (earlier later : Cursor) → reading_in g q ≡ [] → TakeKnows g last c vs taken read q → IsNextDrop g last c vs taken read (if t then Next (Take q) else moved_on earlier later)
  first_next true q earlier later none f = record { keeps = refl; none = none; knows = f; away = refl }
  first_next false q earlier later none f = moved_next earlier later

module _ (g : Grid) (f : Front) (ws : List ℕ) (vs : List View) (limits : IsWithinLimits g) (s : IsSoundAt g f ws vs) (id : ℕ) (v : View) (at : slice_get vs id ≡ Some v) where
  abbrev NextDrop : After → Type 0
  NextDrop b = IsNextDrop g f.last (cursors g ws) vs v.taken v.read b

  -- no word changes
  pub loads_drop : (p : DropPhase) (i : ℕ) → v.phase ≡ Some p → IsNoCommit (stage p) → IsIdle f.last (stage p) → held g (stage p) ≡ [] → ((b : ℕ) → raises_consumer b (Some p) ≡ 0) → reading g (Some p) ≡ [] → (let b = after g p (slice_index ws i) in let v' = seen table g v p (slice_index ws i) in
      v'.read ≡ v.read → taken_after v.taken v.read b ≡ v.taken → reading g (phase_after b) ≡ [] → DropKnows g f.last (cursors g ws) vs v.taken v.read (phase_after b)
      → IsNext g f.last (put_cursors g ws) [] (stage_after stage b)
      → ((q : DropTake) → phase_after b ≡ Some (Take q) → reading_in g q ≡ [] → v.read ≡ []) → IsSoundAt g f (slice_set ws i (slice_index ws i)) (slice_set vs id v'))
  loads_drop p i e commit still holds raises reads same taken none knows next unread =
      let old : ℕ = slice_index ws i in
      let b : After = after g p old in
      let v' : View = seen table g v p old in
      let vs' : List View = slice_set vs id v' in
      let to : Leaves (stage_of stage) v v' (stage_after stage b) = record { made = puts.makes_none g p old v.made v.entry commit; entry = refl; stands = stage_next stage b } in
      let q : IsQuiet g f.last f.last ws ws v v' = record {
        last_to = omega arith;
        consumer = refl;
        puts = grown_same (put_cursors g ws);
        reserved = λ k. refl;
        fetched = ap (λ (l : List Placed). places l ++ reading g (phase_after b)) taken ∙ ap (λ (l : List ℕ). places v.taken ++ l) (none ∙ sym reads ∙ ap (reading g) (sym e));
        unraised = λ b. ap (raises_consumer b) e ∙ raises b;
      } in
      let grow = step_keeps_made table g vs id v p old at in
      let keeps = same_words g ws in
      let side = keeps_own (stage_of stage) g f ws ws vs id v v' (stage p) (stage_after stage b) at (ap (stage_in stage) e) keeps holds to next s.puts in
      let known = knows_later g f.last f.last (cursors g ws) (cursors g ws) (quiet_later g f.last f.last ws ws v v' q) vs vs' grow v.taken v.read (phase_after b) knows in
      subst (λ (w : List ℕ). IsSoundAt g f w vs') (sym (set-get_or ws i 0))
      (quiet g f f ws ws vs id v v' s at q taken grow side (manned_own (stage_of stage) g f ws ws vs id v v' (stage p) (stage_after stage b) at (ap (stage_in stage) e) keeps still s.manned)
      (subst (λ (l : List Placed). DropKnows g f.last (cursors g ws) vs' l v'.read (phase_after b)) (sym taken) (subst (λ (l : List ℕ). DropKnows g f.last (cursors g ws) vs' v.taken l (phase_after b)) (sym same) known))
      (λ q z n. same ∙ unread q z n))

  -- a load of a take that reads no word of an entry
  pub loads_take : (q : DropTake) (i : ℕ) → v.phase ≡ Some (Take q) → ((b : ℕ) → raises_consumer b (Some (Take q)) ≡ 0) → reading_in g q ≡ [] → (let v' = seen table g v (Take q) (slice_index ws i) in v'.read ≡ v.read → NextDrop (after_take g q (slice_index ws i)) → IsSoundAt g f (slice_set ws i (slice_index ws i)) (slice_set vs id v'))
  loads_take q i e raises none same next = loads_drop (Take q) i e tt record { allocated = refl; producer = refl; entered = refl } refl raises none same next.keeps next.none next.knows (idle g _ _ _ next.away) (λ r z n. (s.each id v at).unread q e none)

  pub knows_take : (q : DropTake) → v.phase ≡ Some (Take q) → TakeKnows g f.last (cursors g ws) vs v.taken v.read q
  knows_take q e = subst (DropKnows g f.last (cursors g ws) vs v.taken v.read) e (s.each id v at).knows

  -- a put finds the older block wholly committed, or answers
  pub keeps_SeeM : (full : Cursor) → v.phase ≡ Some (SeeM full) → IsSoundAt g f (words_after table g ws v (SeeM full)) (slice_set vs id (view_after table g ws v (SeeM full)))
  keeps_SeeM full e =
      let i : ℕ = 3 + 4 * ((full.block + 1) % g.blocks) in
      let w : ℕ = slice_index ws i in
      let filled : IsFilled g (put_cursors g ws) full = knows_at (stage_of stage) g f ws vs id v v s.puts.places at (Fills full) (ap (stage_in stage) e) in
      let next : IsNextPut g f.last (cursors g ws) vs v.taken v.read (older_or_not g full w) =
      by_test_le (older_full g full.block) w (λ t. IsNextPut g f.last (cursors g ws) vs v.taken v.read (if t then Next (Put (OpenM full)) else Done (answer.Put (put.Busy (why.Unfinished (full.block + 1 - g.blocks) full (unpacked w))))))
      (λ l. record { keeps = refl; none = refl; knows = l; no_take = opens_no_take full; side = record { holds = refl; knows = filled; adds = λ k. inl refl } })
      (λ l. record { keeps = refl; none = refl; knows = tt; no_take = rests_no_take; side = idle g _ _ _ refl }) in
      loads_drop (SeeM full) i e tt record { allocated = refl; producer = refl; entered = refl } refl (λ b. refl) refl refl next.keeps next.none next.knows next.side (λ q z n. absurd (next.no_take q z))

  -- load of the consumer head
  pub keeps_HeadC : (turn : ℕ) (first : Cursor) → v.phase ≡ Some (Take (HeadC turn first)) → IsSoundAt g f (words_after table g ws v (Take (HeadC turn first))) (slice_set vs id (view_after table g ws v (Take (HeadC turn first))))
  keeps_HeadC turn first e =
      loads_take (HeadC turn first) 1 e (λ b. refl) refl refl record {
        keeps = refl;
        none = refl;
        away = refl;
        knows = (knows_take (HeadC turn first) e, record { from = s.takes.head_from; to = omega arith; opened = s.takes.head; above = (s.each id v at).to_head });
      }

  -- what a seat has taken is below a reserved cursor of the last block in which it took
  below_reserved : (k n : ℕ) → g.blocks ≤ k → n ≤ g.size → AreBelow v.taken (place g (k + 1) 0) → ((o : ℕ) → n ≤ o → IsGone (cursors g ws) k o → ⊥) → AreBelow v.taken (place g k n)
  below_reserved k n from most above free q le =
      ⊎_elim
      (λ l. let o : ℕ = q - place g k 0 in
      let next = place_next g k from in
      let is : q ≡ place g k o = omega arith in
      let t = takes_le g q v in
      let m = one_le_sum (fetches g q) vs id v at in
      ⊎_elim (λ z. omega arith)
      (λ z. let h : 1 ≤ sum_by (fetches g (place g k o)) vs = subst (λ (p : ℕ). 1 ≤ sum_by (fetches g p) vs) is z in absurd (free o (omega arith) (s.counts.gone k o from (omega arith) h)))
      (cases_lt (sum_by (fetches g q) vs) 1))
      (λ l. above q l)
      (cases_lt q (place g (k + 1) 0))

  -- load of the reserved cursor
  pub keeps_SeeRes : (turn : ℕ) (first : Cursor) (head : ℕ) → v.phase ≡ Some (Take (SeeRes turn first head)) → IsSoundAt g f (words_after table g ws v (Take (SeeRes turn first head))) (slice_set vs id (view_after table g ws v (Take (SeeRes turn first head))))
  keeps_SeeRes turn first head e =
      let i : ℕ = 4 + 4 * (head % g.blocks) in
      let w : ℕ = slice_index ws i in
      let k = knows_take (SeeRes turn first head) e in
      let h = k.1 in
      let p = repacked w in
      let next : NextDrop (after_take g (SeeRes turn first head) w) =
      pick_equal NextDrop (w / offset_span) head _ _
      (λ b. let known : packed (unpacked w) ≤ reserved_word g ws (w / offset_span) = let q = ap (reserved_word g ws) b in omega arith in
      pick_less NextDrop (w % offset_span) g.size _ _
      (λ l. record {
        keeps = refl;
        none = refl;
        away = refl;
        knows = (
          turn_of g turn first head k.0,
          record {
            from = omega (arith, h.from);
            to = omega (arith, h.to);
            within = l;
            known = known;
            above = subst (λ (z : ℕ). AreBelow v.taken (place g z (w % offset_span))) (sym b) (below_reserved head (w % offset_span) h.from (omega arith) h.above (λ o le gone. omega arith));
          },
        );
      })
      (λ l. first_next g f.last (cursors g ws) vs v.taken v.read (turn == 1) (NextCom (unpacked w)) first (unpacked w) refl record { from = omega (arith, h.from); full = let m = s.takes.most head in omega arith; known = known }))
      (λ n. moved_next g f.last (cursors g ws) vs v.taken v.read (cursor head 0) (unpacked w)) in
      loads_take (SeeRes turn first head) i e (λ b. refl) refl refl next

  -- the reserved cursor of a block that was found is of no earlier block, and of that block where it isn't reused
  pub reserved_from : (r : Cursor) → IsFound g (cursors g ws) v.taken r → (r.block ≤ f.last) × (r.block ≤ reserved_word g ws r.block / offset_span) × (f.last < r.block + g.blocks → reserved_word g ws r.block / offset_span ≡ r.block)
  reserved_from r h =
      let low : r.block ≤ reserved_word g ws r.block / offset_span = omega (arith, h.known) in
      let to = s.takes.to r.block in
      (omega arith, low, λ near. sym (same_block g.blocks r.block (reserved_word g ws r.block / offset_span) (sym (s.takes.same r.block)) low (omega arith)))

  -- the committed cursor of such a block
  pub committed_from : (k : ℕ) → k ≤ f.last → (k ≤ committed_word g ws k / offset_span) × (committed_word g ws k / offset_span ≤ f.last) × ((committed_word g ws k / offset_span) % g.blocks ≡ k % g.blocks) × (committed_word g ws k / offset_span ≡ k → f.last < k + g.blocks)
  committed_from k le =
      let l = latest_is g.blocks k f.last (omega (arith, limits.blocks_from)) le in
      let c = s.puts.places.words.committed _ l.to l.near in
      let z = physical g ws 3 _ k l.same in
      let is : committed_word g ws k / offset_span ≡ latest g.blocks k f.last = sym (ap (λ (b : ℕ). b / offset_span) z) ∙ c in
      (omega (arith, l.from), omega (arith, l.to), ap (λ (b : ℕ). b % g.blocks) is ∙ l.same, λ e. let y : latest g.blocks k f.last ≡ k = sym is ∙ e in omega (arith, l.near))

  -- load of the committed cursor
  pub keeps_SeeCom : (turn : ℕ) (r : Cursor) → v.phase ≡ Some (Take (SeeCom turn r)) → IsSoundAt g f (words_after table g ws v (Take (SeeCom turn r))) (slice_set vs id (view_after table g ws v (Take (SeeCom turn r))))
  keeps_SeeCom turn r e =
      let i : ℕ = 3 + 4 * (r.block % g.blocks) in
      let w : ℕ = slice_index ws i in
      let h = (knows_take (SeeCom turn r) e).1 in
      let k : ℕ = r.block in
      let res = reserved_from r h in
      let mark = committed_from k res.0 in
      let two = limits.blocks_from in
      let next : NextDrop (after_take g (SeeCom turn r) w) =
      pick_equal NextDrop w (packed r) _ _
      (λ q. record { keeps = refl; none = refl; knows = tt; away = refl })
      (λ ne. pick_less NextDrop r.block (w / offset_span) _ _
      (λ l. let reused : k + g.blocks ≤ f.last = ⊎_elim (λ z. absurd (let y = same_block g.blocks k (w / offset_span) (sym mark.2) (omega arith) z in omega arith)) (λ z. omega (arith, mark.1)) (cases_lt (w / offset_span) (k + g.blocks)) in
      first_next g f.last (cursors g ws) vs v.taken v.read (turn == 1) (Jump r) r (unpacked w) refl record {
        later = omega arith;
        first = h.from;
        passed = λ j l. ⊎_elim (λ z. s.takes.passed k j (omega (arith, res.1))) (λ z. inr (inl (omega arith))) (cases_lt j k);
        opened = omega arith;
      })
      (λ l. let b : w / offset_span ≡ k = omega (arith, mark.0) in
      let near = mark.3 b in
      let is = res.2 near in
      let count = s.puts.places.counts.made k res.0 near h.from in
      let prefix : (o : ℕ) → o < r.offset → 1 ≤ sum_by (makes (place g k o)) vs = λ o less. s.takes.made k o h.from (omega (arith, h.within)) (omega (arith, h.known)) is in
      let once : (o : ℕ) → sum_by (makes (place g k o)) vs ≤ 1 = λ o. made_once (stage_of stage) g f (put_cursors g ws) vs s.puts.places (place g k o) in
      pick_equal NextDrop (w % offset_span) g.size _ _
      (λ q. record { keeps = refl; none = refl; away = refl; knows = (h, let z = upto_all g.size r.offset (λ o. sum_by (makes (place g k o)) vs) once (sym count ∙ q) h.within in omega arith) })
      (λ q. let least = upto_from g.size r.offset (λ o. sum_by (makes (place g k o)) vs) (omega (arith, h.within)) prefix in
      let most = upto_le g.size (λ o. sum_by (makes (place g k o)) vs) once in
      let p = repacked w in
      let apart : w % offset_span ≢ r.offset = λ z. ne (omega arith) in
      record { keeps = refl; none = refl; away = refl; knows = (h, record { same = b; above = omega arith; within = omega arith; known = omega arith }) }))) in
      loads_take (SeeCom turn r) i e (λ b. refl) refl refl next

  -- load of the allocated cursor: where it is the committed one, all that is allocated of the block is committed
  pub keeps_SeeAll : (r m : Cursor) → v.phase ≡ Some (Take (SeeAll r m)) → IsSoundAt g f (words_after table g ws v (Take (SeeAll r m))) (slice_set vs id (view_after table g ws v (Take (SeeAll r m))))
  keeps_SeeAll r m e =
      let i : ℕ = 2 + 4 * (r.block % g.blocks) in
      let w : ℕ = slice_index ws i in
      let k : ℕ = r.block in
      let know = knows_take (SeeAll r m) e in
      let h = know.0 in
      let d = know.1 in
      let small = limits.size_to in
      let res = reserved_from r h in
      let once : (o : ℕ) → sum_by (makes (place g k o)) vs ≤ 1 = λ o. made_once (stage_of stage) g f (put_cursors g ws) vs s.puts.places (place g k o) in
      let next : NextDrop (after_take g (SeeAll r m) w) =
      pick_same NextDrop w m _ _
      (λ q. let b : w / offset_span ≡ k = omega (arith, d.same, d.within) in
      let o : w % offset_span ≡ m.offset = omega (arith, d.same, d.within) in
      let newest = found_open s.puts.places.words limits.blocks_from (physical g ws 2) k res.0 (omega (arith, d.within)) in
      let top : k ≡ f.last = sym b ∙ newest.0 in
      let near : f.last < k + g.blocks = omega (arith, limits.blocks_from) in
      let block = s.puts.places.words.committed k res.0 near in
      let count = s.puts.places.counts.made k res.0 near h.from in
      let much : m.offset ≤ committed_word g ws k % offset_span = omega (arith, d.same, d.known) in
      let edge : f.next ≡ place g k m.offset = newest.1 ∙ ap (place g f.last) o ∙ ap (λ (b : ℕ). place g b m.offset) (sym top) in
      let none : (o : ℕ) → m.offset ≤ o → sum_by (makes (place g k o)) vs ≡ 0 = λ o l. let z = none_from (place g k o) f.next (omega arith) in let y = s.puts.places.counts.once (place g k o) in let u = sum_by-le-sum_by (makes (place g k o)) (claims (stage_of stage) g (place g k o)) vs (makes_le (stage_of stage) g (place g k o)) in omega arith in
      let cut = upto_cut g.size m.offset (λ o. sum_by (makes (place g k o)) vs) (omega (arith, d.within)) none in
      let most = upto_le m.offset (λ o. sum_by (makes (place g k o)) vs) once in
      let full : sum_below m.offset (λ o. sum_by (makes (place g k o)) vs) ≡ m.offset = omega arith in
      record { keeps = refl; none = refl; away = refl; knows = (h, let z = upto_all m.offset r.offset (λ o. sum_by (makes (place g k o)) vs) once full d.above in omega arith) })
      (λ n. pick_equal NextDrop (w / offset_span) m.block _ _ (λ z. record { keeps = refl; none = refl; knows = tt; away = refl }) (λ z. moved_next g f.last (cursors g ws) vs v.taken v.read m (unpacked w))) in
      loads_take (SeeAll r m) i e (λ b. refl) refl refl next

  -- load of the committed cursor of the next block
  pub keeps_NextCom : (spent : Cursor) → v.phase ≡ Some (Take (NextCom spent)) → IsSoundAt g f (words_after table g ws v (Take (NextCom spent))) (slice_set vs id (view_after table g ws v (Take (NextCom spent))))
  keeps_NextCom spent e =
      let i : ℕ = 3 + 4 * ((spent.block + 1) % g.blocks) in
      let w : ℕ = slice_index ws i in
      let h = knows_take (NextCom spent) e in
      let top = committed_below s.puts.places.words limits.blocks_from (physical g ws 3) (spent.block + 1) in
      let next : NextDrop (after_take g (NextCom spent) w) =
      pick_less NextDrop (w / offset_span) (spent.block + 1) _ _
      (λ l. record { keeps = refl; none = refl; knows = tt; away = refl })
      (λ l. record {
        keeps = refl;
        none = refl;
        away = refl;
        knows = record {
          later = omega arith;
          first = h.from;
          passed = λ j l. ⊎_elim (λ z. s.takes.passed spent.block j (omega (arith, h.known)))
              (λ z. let y : j ≡ spent.block = omega arith in subst (IsPassed g f.last (cursors g ws)) (sym y) (inr (inr (omega (arith, h.known, h.full))))) (cases_lt j spent.block);
          opened = omega arith;
        };
      }) in
      loads_take (NextCom spent) i e (λ b. refl) refl refl next

  -- load of the producer head: no block that is neither passed nor reused is jumped over
  pub keeps_Jump : (from : Cursor) → v.phase ≡ Some (Take (Jump from)) → IsSoundAt g f (words_after table g ws v (Take (Jump from))) (slice_set vs id (view_after table g ws v (Take (Jump from))))
  keeps_Jump from e =
      let w : ℕ = slice_index ws 0 in
      let h = knows_take (Jump from) e in
      let head = s.puts.places.words.head_to in
      loads_take (Jump from) 0 e (λ b. refl) refl refl record {
        keeps = refl;
        none = refl;
        away = refl;
        knows = record {
          later = omega arith;
          first = h.first;
          passed = λ j l. ⊎_elim (λ z. h.passed j z) (λ z. inr (inl (omega arith))) (cases_lt j (from.block + 1));
          opened = omega (arith, h.opened);
        };
      }
