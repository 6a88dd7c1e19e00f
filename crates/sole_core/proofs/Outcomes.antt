-- What each step tells of the answer that it gives.
use Rattle.std.proofs.Common.{◌≡◌, ◌≢◌, ℕ, zero, suc, ◌+◌, ◌-◌, ◌/◌, ◌%◌, ◌<◌, ◌≤◌, List, [], ◌∷◌, ◌++◌, sym, ap, ◌∙◌, subst, ⊎_elim, arith}
use Rattle.std.specs.Prelude.{Some, slice_get, if◌then◌else◌}
use Rattle.std.specs.List.{Contains, sum_by}
use Rattle.std.specs.List as lists
use Rattle.std.proofs.lemmas.Bool.{cases_lt}
use Rattle.std.proofs.lemmas.List.Elements.{All-from_recursion}
use Rattle.cursor_word.specs.Shape.{Grid, IsWithinLimits}
use Rattle.cursor_word.specs.Cursor.{cursor_of, first_of, offset_span, packed, place_at, unpacked}
use Rattle.cursor_word.specs.declared.cursor.Cursor.{Cursor}
use Rattle.cursor_word.proofs.Blocks.{shifted}
use Rattle.cursor_word.proofs.Places.{block_of_place_from, first_to, offset_of_place, place_in_block, place_of_cursor}
use Rattle.rail.specs.Items.{IsRising, placed, places}
use Rattle.rail.specs.Outcome.{numbers_below}
use Rattle.rail.specs.Rail.{Gains}
use Rattle.rail.specs.declared.answer.Put.TheVariants as put
use Rattle.rail.specs.declared.answer.Take.TheVariants as take
use Rattle.rail.specs.declared.answer.Answer.TheVariants as answer
use Rattle.machine.specs.declared.op.After.TheVariants.{Next, Done}
use Rattle.machine.specs.Steps.{finds}
use Rattle.machine.proofs.Lists.{one_le_sum}
use Rattle.put_side.specs.Cursors.{Front, allocated_word, committed_word, consumed_word, place, put_cursors}
use Rattle.put_side.specs.Counts.{makes, takes}
use Rattle.put_side.specs.declared.put_phase.PutPhase.TheVariants.{OpenM}
use Rattle.put_side.specs.Places.{IsFilled}
use Rattle.put_side.specs.PutSteps.{older_full}
use Rattle.put_side.specs.Stages.{Fills}
use Rattle.put_side.specs.PutTable.{stage_in}
use Rattle.put_side.proofs.Orders.{range_more}
use Rattle.put_side.proofs.Sums.{by_test_le, none_from, one_in, rising_push, upto_from}
use Rattle.put_side.proofs.Facts.{all_below, allocated_to, filled_opened, physical}
use Rattle.put_side.proofs.Full.{all_allocated, full_seen}
use Rattle.put_side.proofs.Loads as put_loads
use Rattle.put_side.proofs.PutOutcomes.{put_tells}
use Rattle.put_side.proofs.SeatItems.{gains, not_among, own_item}
use Rattle.sole_core.specs.declared.phase.SolePhase.{SolePhase}
use Rattle.sole_core.specs.declared.phase.SolePhase.TheVariants.{Put, SeeX, Take}
use Rattle.sole_core.specs.declared.take_phase.SoleTake.{SoleTake}
use Rattle.sole_core.specs.declared.take_phase.SoleTake.TheVariants.{Com, All, Word, Consume}
use Rattle.sole_core.specs.Types.{After, View, MachineState}
use Rattle.sole_core.specs.Moments.{EmptyAt, FullAt}
use Rattle.sole_core.specs.Causes.{Differ}
use Rattle.sole_core.specs.PutSteps.{after}
use Rattle.sole_core.specs.Table.{consumer, table}
use Rattle.sole_core.specs.Stage.{stage, stage_of}
use Rattle.sole_core.specs.Sound.{IsSound, IsSoundAt, cursor_in}
use Rattle.put_side.proofs.Moments.{made_within}
use Rattle.sole_core.proofs.Frames.{is_consumer}
use Rattle.put_side.proofs.Choices.{pick_equal, pick_less, pick_same}
use Rattle.put_side.proofs.TakeWords.{made_none}
use Rattle.sole_core.proofs.TakeLoads.{committed_is, knows_at}
use Rattle.sole_core.proofs.Takings.{taken_once, times_below}

-- what is so in the state in which a seat does a step, by what follows it: of an answer what it says of the seat's own
-- lists, and that two cursors differ
abbrev pub Tells : Grid → MachineState → View → After → Type 0
Tells g w v (Next q) = Unit {0}
Tells g w v (Done (answer.Put (put.Ok place))) = Gains v.made (v.made ++ placed place v.entry ∷ []) (placed place v.entry)
Tells g w v (Done (answer.Put (put.Full head x))) = FullAt g w head x × lists.All (λ q. q < first_of g (head + 1)) (places v.made)
Tells g w v (Done (answer.Put (put.Busy reason))) = Differ reason
Tells g w v (Done (answer.Take (take.Ok place))) =
    Gains v.taken (v.taken ++ placed place v.read ∷ []) (placed place v.read) × ((words : List ℕ) → Contains v.made (placed place words) → words ≡ v.read)
Tells g w v (Done (answer.Take (take.Empty place))) = EmptyAt w place × ((q : ℕ) → Contains (places v.made) q → q ≢ place) × lists.All (λ q. q < place) (places v.taken)
Tells g w v (Done (answer.Take (take.Busy reason))) = Differ reason
Tells g w v (Done (answer.Take (take.Overrun place now))) = ⊥

-- the numbers below n rise, and n is above them
numbers_rise : (n : ℕ) → IsRising (numbers_below n)
numbers_rise zero = tt
numbers_rise (suc n) =
    let e : 0 + n ≡ n = omega arith in
    subst IsRising (sym (range_more 0 n ∙ ap (λ (k : ℕ). numbers_below n ++ k ∷ []) e)) (rising_push (numbers_below n) n (numbers_rise n) (λ q le. times_below q n ∙ none_from q n le))

rises_on : (n : ℕ) → IsRising (numbers_below n ++ n ∷ [])
rises_on n = rising_push (numbers_below n) n (numbers_rise n) (λ q le. times_below q n ∙ none_from q n le)

module _ (g : Grid) (front : Front) (next : ℕ) (ws : List ℕ) (vs : List View) (id : ℕ) (v : View) (limits : IsWithinLimits g) (s : IsSoundAt g front next ws vs) (here : slice_get vs id ≡ Some v) where
  abbrev w : MachineState
  w = record { words = ws; views = vs }

  abbrev T : After → Type 0
  T b = Tells g w v b

  abbrev c : Cursor
  c = cursor_of g next

  -- a filled block is the last one, where the next block may not be opened
  pub full_last : (full : Cursor) → IsFilled g (put_cursors g ws) full → consumed_word g ws (full.block + 1) < older_full g full.block → front.last ≡ full.block
  full_last full f less =
      let to = filled_opened s.puts.places.words limits.blocks_from (physical g ws 2) full f in
      ⊎_elim
      (λ n. let j : ℕ = full.block + 1 - g.blocks in
      let is : j + g.blocks ≡ full.block + 1 = omega (arith, f.from) in
      let z : consumed_word g ws j ≡ consumed_word g ws (full.block + 1) = physical g ws 5 j (full.block + 1) (shifted g.blocks j (full.block + 1) is) in
      let near = s.near in
      let o = s.takes.shown j (omega arith) in absurd (omega arith))
      (λ n. omega arith) (cases_lt full.block front.last)

  full_tells : (full : Cursor) → IsFilled g (put_cursors g ws) full → consumed_word g ws (full.block + 1) < older_full g full.block → T (Done (answer.Put (put.Full full.block (unpacked (consumed_word g ws (full.block + 1))))))
  full_tells full f less =
      let last = full_last full f less in
      let all = all_allocated stage_of g limits front ws vs s.puts.places full f last in (
        full_seen stage_of g limits front ws vs s.puts.places full f last less,
        All-from_recursion (λ (q : ℕ). q < first_of g (full.block + 1)) (places v.made) (all_below (first_of g (full.block + 1)) (places v.made) (λ p l. made_none stage_of g front (put_cursors g ws) vs s.puts.places id v here p (omega (arith, all)))),
      )

  -- nothing was made at the next place
  empty_seen : sum_by (makes next) vs ≡ 0 → T (Done (answer.Take (take.Empty (place_at g c))))
  empty_seen none =
      let own = one_le_sum (makes next) vs id v here in
      let once = taken_once g front next ws vs s in
      let below = all_below next (places v.taken) (λ q l. let z = once q in let n = none_from q next l in let o = one_le_sum (takes q) vs id v here in omega arith) in
      subst (λ (p : ℕ). T (Done (answer.Take (take.Empty p)))) (sym (place_of_cursor g next)) (
        record {
          not_made = none;
          taken = λ q l. let o = once q in let z = one_in q next l in omega arith;
          not_taken = λ q l. once q ∙ none_from q next l;
        },
        not_among next (places v.made) (omega arith),
        All-from_recursion (λ (q : ℕ). q < next) (places v.taken) below,
      )

  -- where the committed cursor is that of the next place, or of an earlier block, nothing was made there
  pub none_there : committed_word g ws c.block ≡ packed c → sum_by (makes next) vs ≡ 0
  none_there is =
      let k : ℕ = c.block in
      let F : ℕ → ℕ = λ o. sum_by (makes (place g k o)) vs in
      let within = offset_of_place g next limits in
      let from = block_of_place_from g next in
      let at : place g k c.offset ≡ next = place_of_cursor g next in
      let b : committed_word g ws k / offset_span ≡ k = omega (arith, limits.size_to) in
      let d : committed_word g ws k % offset_span ≡ c.offset = omega (arith, limits.size_to) in
      let opened = committed_is g limits front next ws vs s (omega arith) in
      let count = s.puts.places.counts.made k opened.0 s.near from in
      let below : (o : ℕ) → o < c.offset → 1 ≤ F o = λ o l. s.made (place g k o) (omega arith) in
      let more : (1 ≤ F c.offset) → ⊥ = λ h. let m = upto_from g.size (c.offset + 1) F (omega arith) (λ o l. ⊎_elim (λ q. below o q) (λ q. let e : c.offset ≡ o = omega arith in subst (λ (z : ℕ). 1 ≤ F z) e h) (cases_lt o c.offset)) in omega arith in
      let none : F c.offset ≡ 0 = ⊎_elim (λ q. omega arith) (λ q. absurd (more q)) (cases_lt (F c.offset) 1) in
      subst (λ (p : ℕ). sum_by (makes p) vs ≡ 0) at none

  pub none_opened : committed_word g ws c.block / offset_span < c.block → sum_by (makes next) vs ≡ 0
  none_opened less =
      let at = place_of_cursor g next in
      let in_block = place_in_block g c in
      let to = allocated_to s.puts.places.words in
      ⊎_elim (λ l. let w = s.puts.places.words.committed c.block (omega arith) s.near in absurd (omega arith))
      (λ l. let t = first_to g (front.last + 1) c.block l in
      let m = made_within stage g front ws vs s.puts next in let z = none_from next front.next (omega arith) in omega arith)
      (cases_lt c.block (front.last + 1))

  abbrev TellsStep : SoleTake → Type 0
  TellsStep q = v.phase ≡ Some (Take q) → T (after g (Take q) (finds table g ws v (Take q)))

  com_tells : TellsStep (Com c)
  com_tells e =
      let x : ℕ = committed_word g ws c.block in
      pick_equal T x (packed c) _ _ (λ q. empty_seen (none_there q))
      (λ n. pick_less T (x / offset_span) c.block _ _ (λ l. empty_seen (none_opened l)) (λ l. pick_equal T (x % offset_span) g.size _ _ (λ q. tt) (λ q. tt)))

  consume_tells : TellsStep (Consume c)
  consume_tells e =
      let f = (knows_at g limits front next ws vs s id v here (Consume c) e).1 in
      let first : id ≡ consumer = is_consumer g front next ws vs s id v (Consume c) here e in
      let at = place_of_cursor g next in
      let taken = s.taken v (ap (λ (j : ℕ). slice_get vs j) (sym first) ∙ here) in
      subst (λ (p : ℕ). T (Done (answer.Take (take.Ok p)))) (sym at) (
        gains v.taken (placed next v.read) (subst (λ (l : List ℕ). IsRising (l ++ next ∷ [])) (sym taken) (rises_on next)),
        λ words own. own_item stage_of g front (put_cursors g ws) vs s.puts.places id v here next words v.read f own,
      )

  at_cursor : (q : SoleTake) → v.phase ≡ Some (Take q) → cursor_in q ≡ c
  at_cursor q e = (knows_at g limits front next ws vs s id v here q e).0

  pub step_tells : (p : SolePhase) → v.phase ≡ Some p → T (after g p (finds table g ws v p))
  step_tells (Put q) e = put_tells stage_of Put SeeX g limits front ws vs id v s.puts.places here T (record { next = λ q. tt; fills = λ full. tt; ok = λ place own. own; moved = λ earlier later less. less }) q (ap (stage_in stage) e)
  step_tells (SeeX full) e =
      let f = put_loads.knows_at stage_of g front ws vs id v v s.puts.places here (Fills full) (ap (stage_in stage) e) in
      by_test_le (older_full g full.block) (consumed_word g ws (full.block + 1)) (λ b. T (if b then Next (Put (OpenM full)) else Done (answer.Put (put.Full full.block (unpacked (consumed_word g ws (full.block + 1))))))) (λ l. tt) (full_tells full f)
  step_tells (Take (Com r)) e = subst (λ (d : Cursor). TellsStep (Com d)) (sym (at_cursor (Com r) e)) com_tells e
  step_tells (Take (All r m)) e = pick_same T (allocated_word g ws r.block) m _ _ (λ q. tt) (λ n. n)
  step_tells (Take (Word r count)) e = pick_less T (count + 1) g.width _ _ (λ l. tt) (λ l. tt)
  step_tells (Take (Consume r)) e = subst (λ (d : Cursor). TellsStep (Consume d)) (sym (at_cursor (Consume r) e)) consume_tells e

-- the same from the invariant
pub sound_tells : (g : Grid) (ws : List ℕ) (vs : List View) (id : ℕ) (v : View) (p : SolePhase) → IsWithinLimits g → IsSound g ws vs → slice_get vs id ≡ Some v → v.phase ≡ Some p → Tells g (record { words = ws; views = vs }) v (after g p (finds table g ws v p))
sound_tells g ws vs id v p limits k here e = step_tells g k.front k.next ws vs id v limits k.sound here p e
