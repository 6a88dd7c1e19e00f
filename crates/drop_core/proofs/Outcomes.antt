-- What each answer tells of the state in which its step was done, and what a take has shown where it gives no entry.
use Rattle.std.proofs.Common.{◌≡◌, ℕ, ◌+◌, ◌/◌, ◌%◌, ◌<◌, ◌≤◌, ◌≢◌, ◌⊎◌, List, ◌++◌, refl, sym, ap, ◌∙◌, subst, inl, inr, ⊎_elim, arith, ◌-◌, ◌*◌}
use Rattle.std.specs.Prelude.{Some, slice_get, if◌then◌else◌}
use Rattle.std.specs.List.{sum_by}
use Rattle.std.proofs.lemmas.Bool.{cases_eq, cases_lt}
use Rattle.std.proofs.lemmas.List.Sums.{sum_by-le-sum_by}
use Rattle.cursor_word.specs.Shape.{Grid, IsWithinLimits}
use Rattle.cursor_word.specs.Cursor.{offset_span, packed, place_at, unpacked, IsBefore}
use Rattle.cursor_word.specs.declared.cursor.Cursor.{Cursor}
use Rattle.cursor_word.proofs.Blocks.{latest, latest_is, same_block}
use Rattle.rail.specs.Items.{places}
use Rattle.machine.proofs.Lists.{one_le_sum}
use Rattle.put_side.specs.Cursors.{Front, allocated_word, committed_word, place, reserved_word}
use Rattle.put_side.specs.Counts.{claims, makes, one_at, times}
use Rattle.put_side.specs.PutTable.{stage_of, stage_in}
use Rattle.put_side.proofs.Facts.{allocated_to, physical, place_next}
use Rattle.put_side.proofs.Frames.{makes_le}
use Rattle.put_side.proofs.Sums.{none_from, times_push, upto_beyond, upto_from, by_test_le, upto_none}
use Rattle.drop_core.specs.declared.phase.DropPhase.TheVariants.{Take, Put, SeeM}
use Rattle.drop_core.specs.declared.take_phase.DropTake.TheVariants.{NextCom, SeeCom, Verify, HeadC, SeeRes, SeeAll, Reserve, Read, Jump, OpenR, RaiseC}
use Rattle.drop_core.specs.Types.{View, After, MachineState}
use Rattle.drop_core.specs.Stage.{stage}
use Rattle.drop_core.specs.Words.{IsGone, IsPassed, cursors}
use Rattle.drop_core.specs.Counts.{fetches, reading}
use Rattle.drop_core.specs.Sound.{IsSoundAt, IsAhead, IsFound}
use Rattle.drop_core.specs.Alone.{IsBehind}
use Rattle.drop_core.specs.Moments.{EmptyAt, IsReused, OverrunAt}
use Rattle.put_side.proofs.Lows.{of_place, rows}
use Rattle.drop_core.proofs.Loads.{committed_from, knows_take, reserved_from}
use Rattle.put_side.proofs.Commits.{one_met}
use Rattle.drop_core.proofs.Reserves.{head_opened, overrun}
use Rattle.rail.specs.declared.answer.Answer.{Answer}
use Rattle.machine.specs.declared.op.After.TheVariants.{Next, Done}
use Rattle.machine.specs.Steps.{finds}
use Rattle.put_side.specs.declared.put_phase.PutPhase.TheVariants.{OpenM}
use Rattle.put_side.specs.Stages.{Fills}
use Rattle.put_side.proofs.Choices.{pick_equal, pick_less, pick_same}
use Rattle.put_side.proofs.PutOutcomes.{put_tells}
use Rattle.put_side.proofs.Loads.{knows_at}
use Rattle.put_side.specs.PutSteps.{older_full}
use Rattle.drop_core.specs.declared.phase.DropPhase.{DropPhase}
use Rattle.drop_core.specs.declared.take_phase.DropTake.{DropTake}
use Rattle.drop_core.specs.PutSteps.{after}
use Rattle.drop_core.specs.TakeSteps.{in_first}
use Rattle.drop_core.specs.Steps.{table}
use Rattle.drop_core.specs.Causes.{Differ}
use Rattle.rail.specs.declared.answer.Answer.TheVariants as answer
use Rattle.rail.specs.declared.answer.Put.TheVariants as put
use Rattle.rail.specs.declared.answer.Take.TheVariants as take
use Rattle.rail.specs.declared.answer.Why.TheVariants as why

above : {a b : ℕ} → a ≤ b → b ≢ a → a < b
above {a = a} {b = b} le n = ⊎_elim (λ l. l) (λ l. absurd (n (omega arith))) (cases_lt a b)

module _ (g : Grid) (f : Front) (ws : List ℕ) (vs : List View) (limits : IsWithinLimits g) (s : IsSoundAt g f ws vs) (id : ℕ) (v : View) (at : slice_get vs id ≡ Some v) where
  -- block k was reused
  reused : (k : ℕ) → k + g.blocks ≤ f.last → IsReused g ws k
  reused k le =
      let c = committed_from g f ws vs limits s id v at k (omega arith) in
      ⊎_elim (λ l. absurd (let e = same_block g.blocks k (committed_word g ws k / offset_span) (sym c.2) c.0 l in let n = c.3 (sym e) in omega arith)) (λ l. l) (cases_lt (committed_word g ws k / offset_span) (k + g.blocks))

  -- each place before an offset of block k is taken or being read, or lies in a reused block
  before : (k o : ℕ) → g.blocks ≤ k → o ≤ g.size → ((i : ℕ) → i < o → IsGone (cursors g ws) k i) → ((j : ℕ) → j < k → IsPassed g f.last (cursors g ws) j) → (q : ℕ) → q < place g k o
      → (1 ≤ sum_by (fetches g q) vs) ⊎ IsReused g ws (g.blocks + q / g.size)
  before k o from most gone passed q less =
      let j : ℕ = g.blocks + q / g.size in
      let i : ℕ = q % g.size in
      let is = of_place g q limits.size_from in
      let counts : IsGone (cursors g ws) j i → f.last < j + g.blocks → 1 ≤ sum_by (fetches g q) vs = λ h near. subst (λ (p : ℕ). 1 ≤ sum_by (fetches g p) vs) is.0 (s.counts.kept j i (omega arith) near is.1 h) in
      ⊎_elim
      (λ near. inl (⊎_elim
      (λ l. counts (⊎_elim (λ z. absurd (omega arith)) (λ z. ⊎_elim (λ y. absurd (omega arith)) (λ y. let b = is.1 in omega arith) z) (passed j l)) near)
      (λ l. ⊎_elim
      (λ e. let z = ap (λ (b : ℕ). place g b i) e in counts (subst (λ (b : ℕ). IsGone (cursors g ws) b i) (sym e) (gone i (let y = is.0 in omega arith))) near)
      (λ n. absurd (let z = rows g (k + 1) j (omega arith) in let y = place_next g k from in let x = is.0 in omega arith))
      (cases_eq j k))
      (cases_lt j k)))
      (λ far. inr (reused j far))
      (cases_lt f.last (j + g.blocks))

  -- the place of the reserved cursor, where the committed one is found to be the same
  pub empty_SeeCom : (turn : ℕ) (r : Cursor) → v.phase ≡ Some (Take (SeeCom turn r)) → committed_word g ws r.block ≡ packed r → EmptyAt g (record { words = ws; views = vs }) (place_at g r)
  empty_SeeCom turn r e found =
      let h = (knows_take g f ws vs limits s id v at (SeeCom turn r) e).1 in
      let k : ℕ = r.block in
      let small = limits.size_to in
      let within = h.within in
      let res = reserved_from g f ws vs limits s id v at r h in
      let mark = committed_from g f ws vs limits s id v at k res.0 in
      let block : committed_word g ws k / offset_span ≡ k = omega arith in
      let near = mark.3 block in
      let is = res.2 near in
      let count = s.puts.places.counts.made k res.0 near h.from in
      let off : committed_word g ws k % offset_span ≡ r.offset = omega arith in
      let most = s.takes.most k in
      let made : (o : ℕ) → o < reserved_word g ws k % offset_span → 1 ≤ sum_by (makes (place g k o)) vs = λ o l. s.takes.made k o h.from (omega arith) (omega arith) is in
      let least = upto_from g.size (reserved_word g ws k % offset_span) (λ o. sum_by (makes (place g k o)) vs) most made in
      let top : reserved_word g ws k ≡ packed r = let n = h.known in omega arith in
      record {
        not_made = ⊎_elim (λ z. omega arith)
            (λ z. absurd (let y = upto_beyond g.size r.offset r.offset (λ o. sum_by (makes (place g k o)) vs) (omega arith) h.within (λ o l. made o (omega arith)) z in omega arith))
            (cases_lt (sum_by (makes (place_at g r)) vs) 1);
        reserved = before k r.offset h.from (omega arith) (λ i l. omega arith) (λ j l. s.takes.passed k j (omega arith));
        not_reserved = λ j i from in_block le gone.
            ⊎_elim (λ l. let y = rows g (j + 1) k (omega arith) in let x = place_next g j from in omega arith)
            (λ l. ⊎_elim (λ y. let w = ap (reserved_word g ws) y in let u = ap (λ (b : ℕ). place g b i) y in omega arith)
            (λ y. let p = s.takes.passed j k (omega arith) in ⊎_elim (λ x. omega (arith, h.from)) (λ x. ⊎_elim (λ w. omega arith) (λ w. omega arith) x) p)
            (cases_eq j k)) (cases_lt j k);
      }

  -- the first place of the next block, where that is not opened
  pub empty_NextCom : (spent : Cursor) → v.phase ≡ Some (Take (NextCom spent)) → committed_word g ws (spent.block + 1) / offset_span < spent.block + 1 → EmptyAt g (record { words = ws; views = vs }) (place g (spent.block + 1) 0)
  empty_NextCom spent e found =
      let h = knows_take g f ws vs limits s id v at (NextCom spent) e in
      let k : ℕ = spent.block in
      let to = s.takes.to k in
      let known = h.known in
      let full = h.full in
      let last : f.last ≡ k = ⊎_elim (λ l. omega arith) (λ l. absurd (let c = committed_from g f ws vs limits s id v at (k + 1) l in omega (arith, c.0))) (cases_lt f.last (k + 1)) in
      let edge = allocated_to s.puts.places.words in
      let same = ap (λ (b : ℕ). place g (b + 1) 0) last in
      record {
        not_made = let p : ℕ = place g (k + 1) 0 in let z = none_from p f.next (omega arith) in let o = s.puts.places.counts.once p in let u = sum_by-le-sum_by (makes p) (claims (stage_of stage) g p) vs (makes_le (stage_of stage) g p) in omega arith;
        reserved = λ q l. before k g.size h.from (omega arith) (λ i l. omega arith) (λ j l. s.takes.passed k j (omega arith)) q (let z = place_next g k h.from in omega arith);
        not_reserved = λ j i from in_block le gone.
            let top = s.takes.to j in
            let y = rows g (j + 1) (k + 1) (omega arith) in
            let x = place_next g j from in omega arith;
      }

  -- the place that a take has read is reserved
  fetched_Verify : (c : Cursor) → v.phase ≡ Some (Take (Verify c)) → 1 ≤ sum_by (fetches g (place_at g c)) vs
  fetched_Verify c e =
      let p : ℕ = place_at g c in
      let mine : fetches g p v ≡ times p (places v.taken) + one_at p p = ap (times p) (ap (λ (l : List ℕ). places v.taken ++ l) (ap (reading g) e)) ∙ times_push p p (places v.taken) in
      let m = one_le_sum (fetches g p) vs id v at in let one = one_met p p refl in omega arith

  pub behind_Verify : (c : Cursor) → v.phase ≡ Some (Take (Verify c)) → IsBehind g (cursors g ws) (place_at g c)
  behind_Verify c e =
      let of = knows_take g f ws vs limits s id v at (Verify c) e in
      record { block = c.block; offset = c.offset; from = of.from; within = of.within; is_place = refl; gone = s.counts.gone c.block c.offset of.from of.within (fetched_Verify c e); to = of.to }

  -- a take that finds another block than that of the place which it read
  pub overrun_Verify : (c : Cursor) → v.phase ≡ Some (Take (Verify c)) → allocated_word g ws c.block / offset_span ≢ c.block → OverrunAt g (record { words = ws; views = vs }) c (unpacked (allocated_word g ws c.block))
  overrun_Verify c e other =
      let of = knows_take g f ws vs limits s id v at (Verify c) e in
      let two = limits.blocks_from in
      let opened : c.block ≤ f.last = let h = head_opened g f ws vs limits s in let t = of.to in omega arith in
      let far = overrun g f ws vs limits s c of.words of.from opened of.within of.made other in
      let l = latest_is g.blocks c.block f.last (omega arith) opened in
      let same = physical g ws 2 _ c.block l.same in
      let w = s.puts.places.words in
      record {
        reserved = fetched_Verify c e;
        found = refl;
        later = ⊎_elim (λ less. let z = w.full (latest g.blocks c.block f.last) less l.near in let from = l.from in above (omega (arith, z.0)) other)
            (λ most. let k : latest g.blocks c.block f.last ≡ f.last = let t = l.to in omega arith in let z = ap (allocated_word g ws) k in
            above (⊎_elim (λ q. omega (arith, q.block)) (λ q. omega (arith, q.older)) w.newest) other)
            (cases_lt (latest g.blocks c.block f.last) f.last);
      }

-- the step that finds an entry overrun
abbrev pub OverrunIn : Grid → MachineState → Cursor → DropPhase → Type 0
OverrunIn g w now (Take (Verify at)) = OverrunAt g w at now
OverrunIn g w now p = ⊥

-- what an answer tells of the state in which the step of this phase gave it
abbrev pub Tells : Grid → MachineState → DropPhase → Answer → Type 0
Tells g w p (answer.Put (put.Ok place)) = Unit {0}
Tells g w p (answer.Put (put.Full head consumed)) = ⊥
Tells g w p (answer.Put (put.Busy reason)) = Differ reason p
Tells g w p (answer.Take (take.Ok place)) = IsBehind g (cursors g w.words) place
Tells g w p (answer.Take (take.Empty place)) = EmptyAt g w place
Tells g w p (answer.Take (take.Busy reason)) = Differ reason p
Tells g w p (answer.Take (take.Overrun place now)) = OverrunIn g w now p × IsBehind g (cursors g w.words) place

abbrev pub TellsNext : Grid → MachineState → DropPhase → After → Type 0
TellsNext g w p (Next q) = Unit {0}
TellsNext g w p (Done a) = Tells g w p a

blocks_apart : (c d : Cursor) → c.block ≢ d.block → c ≢ d
blocks_apart c d n e = n (ap (λ (x : Cursor). x.block) e)

-- a word above a cursor holds a later cursor
before_word : (c : Cursor) (w : ℕ) → c.offset < offset_span → packed c < w → IsBefore c (unpacked w)
before_word c w low less = ⊎_elim (λ l. inl l) (λ l. inr (omega arith, omega arith)) (cases_lt c.block (w / offset_span))

module _ (g : Grid) (f : Front) (ws : List ℕ) (vs : List View) (limits : IsWithinLimits g) (s : IsSoundAt g f ws vs) (id : ℕ) (v : View) (at : slice_get vs id ≡ Some v) where
  abbrev here : MachineState
  here = record { words = ws; views = vs }

  -- the allocated cursor of a block in which a committed cursor was found above a reserved one
  allocated_from : (r m : Cursor) → IsFound g (cursors g ws) v.taken r → IsAhead g (cursors g ws) r m → r.block ≤ allocated_word g ws r.block / offset_span
  allocated_from r m h d =
      let k : ℕ = r.block in
      let res = reserved_from g f ws vs limits s id v at r h in
      let two = limits.blocks_from in
      let w = s.puts.places.words in
      let l = latest_is g.blocks k f.last (omega arith) res.0 in
      let j : ℕ = latest g.blocks k f.last in
      let same = physical g ws 2 j k l.same in
      ⊎_elim
      (λ less. let z = w.full j less l.near in let from = l.from in omega (arith, z.0))
      (λ ge. let top : f.last ≡ j = let to = l.to in omega arith in
      let there : allocated_word g ws f.last ≡ allocated_word g ws k = ap (allocated_word g ws) top ∙ same in
      ⊎_elim (λ q. omega (arith, q.block))
      (λ q. ⊎_elim
      (λ near. let is : k ≡ f.last = same_block g.blocks k f.last (sym (ap (λ (b : ℕ). b % g.blocks) top ∙ l.same)) res.0 near in
      let block = w.committed k res.0 near in
      let count = s.puts.places.counts.made k res.0 near h.from in
      let first = ap (λ (b : ℕ). place g b 0) is in
      let none = upto_none g.size (λ o. sum_by (makes (place g k o)) vs)
      (λ o. let p : ℕ = place g k o in let z = none_from p f.next (omega (arith, q.at)) in let y = s.puts.places.counts.once p in let u = sum_by-le-sum_by (makes p) (claims (stage_of stage) g p) vs (makes_le (stage_of stage) g p) in omega arith) in
      let small = limits.size_to in
      absurd (omega (arith, d.same, d.above, d.within, d.known)))
      (λ far. omega (arith, q.older))
      (cases_lt f.last (k + g.blocks)))
      w.newest)
      (cases_lt j f.last)

  module _ (p : DropPhase) where
    abbrev T : After → Type 0
    T b = TellsNext g here p b

    left_tells : (turn : ℕ) (on : DropTake) (earlier later : Cursor) → (turn ≢ 1 → Differ (why.Moved earlier later) p) → T (in_first turn on earlier later)
    left_tells turn on earlier later apart = pick_equal T turn 1 _ _ (λ e. tt) (λ n. apart n)

  pub step_tells : (p : DropPhase) → v.phase ≡ Some p → T p (after g p (finds table g ws v p))
  step_tells (Put q) e =
      put_tells (stage_of stage) Put SeeM g limits f ws vs id v s.puts.places at (T (Put q)) (record { next = λ r. tt; fills = λ full. tt; ok = λ place gains. tt; moved = λ earlier later less. less }) q (ap (stage_in stage) e)
  step_tells (SeeM full) e =
      let w : ℕ = committed_word g ws (full.block + 1) in
      let k = knows_at (stage_of stage) g f ws vs id v v s.puts.places at (Fills full) (ap (stage_in stage) e) in
      by_test_le (older_full g full.block) w (λ t. T (SeeM full) (if t then Next (Put (OpenM full)) else Done (answer.Put (put.Busy (why.Unfinished (full.block + 1 - g.blocks) full (unpacked w))))))
      (λ l. tt) (λ l. blocks_apart full (unpacked w) (λ z. let from = k.from in omega (arith, limits.blocks_from, limits.size_to)))
  step_tells (Take (HeadC turn first)) e = tt
  step_tells (Take (SeeRes turn first head)) e =
      let p : DropPhase = Take (SeeRes turn first head) in
      let w : ℕ = reserved_word g ws head in
      let k = knows_take g f ws vs limits s id v at (SeeRes turn first head) e in
      pick_equal (T p) (w / offset_span) head _ _
      (λ b. pick_less (T p) (w % offset_span) g.size _ _ (λ l. tt)
      (λ l. left_tells p turn (NextCom (unpacked w)) first (unpacked w) (λ n. ⊎_elim (λ z. absurd (n z)) (λ z. omega (arith, z.2)) k.0)))
      (λ n. let opened = k.1.opened in let to : head ≤ w / offset_span = omega arith in ⊎_elim (λ z. z) (λ z. absurd (n (omega arith))) (cases_lt head (w / offset_span)))
  step_tells (Take (SeeCom turn r)) e =
      let p : DropPhase = Take (SeeCom turn r) in
      let w : ℕ = committed_word g ws r.block in
      pick_equal (T p) w (packed r) _ _ (λ q. empty_SeeCom g f ws vs limits s id v at turn r e q)
      (λ n. pick_less (T p) r.block (w / offset_span) _ _ (λ l. left_tells p turn (Jump r) r (unpacked w) (λ m. l))
      (λ l. pick_equal (T p) (w % offset_span) g.size _ _ (λ q. tt) (λ q. tt)))
  step_tells (Take (SeeAll r m)) e =
      let p : DropPhase = Take (SeeAll r m) in
      let w : ℕ = allocated_word g ws r.block in
      let k = knows_take g f ws vs limits s id v at (SeeAll r m) e in
      let from = allocated_from r m k.0 k.1 in
      let same = k.1.same in
      pick_same (T p) w m _ _ (λ q. tt)
      (λ n. pick_equal (T p) (w / offset_span) m.block _ _ (λ z. n) (λ z. let to : m.block ≤ w / offset_span = omega arith in ⊎_elim (λ y. y) (λ y. absurd (z (omega arith))) (cases_lt m.block (w / offset_span))))
  step_tells (Take (Reserve r)) e =
      let p : DropPhase = Take (Reserve r) in
      let w : ℕ = reserved_word g ws r.block in
      let k = knows_take g f ws vs limits s id v at (Reserve r) e in
      let known = k.0.known in
      let within = k.0.within in
      let small = limits.size_to in
      pick_equal (T p) w (packed r) _ _ (λ q. tt) (λ n. before_word r w (omega arith) (⊎_elim (λ z. z) (λ z. absurd (n (omega arith))) (cases_lt (packed r) w)))
  step_tells (Take (Read c next)) e = pick_less (T (Take (Read c next))) (next + 1) g.width _ _ (λ l. tt) (λ l. tt)
  step_tells (Take (Verify c)) e =
      let behind = behind_Verify g f ws vs limits s id v at c e in
      pick_equal (T (Take (Verify c))) (allocated_word g ws c.block / offset_span) c.block _ _ (λ q. behind) (λ n. (overrun_Verify g f ws vs limits s id v at c e n, behind))
  step_tells (Take (NextCom sp)) e =
      let w : ℕ = committed_word g ws (sp.block + 1) in
      pick_less (T (Take (NextCom sp))) (w / offset_span) (sp.block + 1) _ _ (λ l. subst (EmptyAt g here) (first_place (sp.block + 1)) (empty_NextCom g f ws vs limits s id v at sp e l)) (λ l. tt)
    where
      first_place : (k : ℕ) → (k - g.blocks) * g.size + 0 ≡ (k - g.blocks) * g.size
      first_place k = omega arith
  step_tells (Take (Jump from)) e = tt
  step_tells (Take (OpenR from to)) e = tt
  step_tells (Take (RaiseC from to)) e = tt
