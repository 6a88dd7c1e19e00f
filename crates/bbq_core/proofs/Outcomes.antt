-- What each step tells of the answer that it gives.
use Rattle.std.proofs.Common.{◌≡◌, ◌≢◌, ℕ, ◌+◌, ◌-◌, ◌*◌, ◌/◌, ◌%◌, ◌<◌, ◌≤◌, List, [], ◌∷◌, ◌++◌, sym, ap, ◌∙◌, subst, ⊎_elim, arith}
use Rattle.std.specs.Prelude.{Option, Some, slice_get, if◌then◌else◌, ◌==◌, ◌&&◌}
use Rattle.std.specs.List.{All, AllByRecursion, Contains, sum_by}
use Rattle.std.proofs.lemmas.Bool.{cases_lt, cond_both}
use Rattle.std.proofs.lemmas.List.Elements.{All-from_recursion}
use Rattle.std.proofs.lemmas.Nat.{mod_below}
use Rattle.cursor_word.specs.Shape.{Grid, IsWithinLimits}
use Rattle.cursor_word.specs.Cursor.{IsBefore, cursor, first_of, offset_span, packed, place_at, unpacked}
use Rattle.cursor_word.specs.declared.cursor.Cursor.{Cursor}
use Rattle.rail.specs.Items.{IsRising, placed, places}
use Rattle.rail.specs.Rail.{Gains}
use Rattle.rail.specs.declared.answer.Put.TheVariants as put
use Rattle.rail.specs.declared.answer.Take.TheVariants as take
use Rattle.bbq_core.specs.declared.phase.Phase.{Phase}
use Rattle.bbq_core.specs.declared.phase.Phase.TheVariants.{Put, SeeX, SeeR, Take}
use Rattle.bbq_core.specs.declared.take_phase.TakePhase.TheVariants.{HeadC, SeeRes, SeeCom, SeeAll, Reserve, Read, Consume, NextCom, OpenX, OpenR, RaiseC}
use Rattle.put_side.proofs.Moments.{made_within}
use Rattle.bbq_core.specs.Types.{After, View, MachineState}
use Rattle.machine.specs.declared.op.After.TheVariants.{Next, Done}
use Rattle.rail.specs.declared.answer.Answer.TheVariants as answer
use Rattle.bbq_core.specs.Moments.{EmptyAt, FullAt}
use Rattle.bbq_core.specs.Causes.{Differ}
use Rattle.machine.proofs.Lists.{one_le_sum}
use Rattle.cursor_word.proofs.Blocks.{latest, latest_is, same_block}
use Rattle.bbq_core.proofs.AtAnswers.{empty_at, empty_past, full_last}
use Rattle.machine.specs.Steps.{finds}
use Rattle.put_side.specs.Cursors.{Front, allocated_word, committed_word, consumed_word, place, put_cursors, reserved_word}
use Rattle.put_side.specs.Counts.{makes}
use Rattle.put_side.specs.Places.{IsFilled, PutKnows}
use Rattle.put_side.specs.PutTable.{stage_in}
use Rattle.put_side.proofs.Sums.{by_test_le, none_from, one_in, upto_none}
use Rattle.put_side.proofs.Facts.{all_below, physical, repacked}
use Rattle.put_side.proofs.Loads as put_loads
use Rattle.put_side.proofs.SeatItems.{gains, not_among, own_item}
use Rattle.bbq_core.specs.PutSteps.{after}
use Rattle.put_side.specs.declared.put_phase.PutPhase.TheVariants.{OpenM}
use Rattle.put_side.specs.PutSteps.{older_full}
use Rattle.put_side.proofs.Full as at_full
use Rattle.put_side.proofs.PutOutcomes.{before_from, put_tells, tested_other}
use Rattle.bbq_core.specs.Table.{table}
use Rattle.bbq_core.specs.Stage.{stage, stage_of}
use Rattle.bbq_core.specs.Counts.{fetches, reading}
use Rattle.bbq_core.specs.Sound.{IsSound, IsSoundAt, Knows, TakeKnows, scene}
use Rattle.put_side.proofs.Choices.{pick_equal, pick_less, pick_same}
use Rattle.bbq_core.proofs.TakeFacts.{found_R, takes_le}
use Rattle.bbq_core.proofs.TakeLoads.{committed_found, knows_at}

-- what is so in the state in which a seat does the step of a phase, by what follows it: of an answer what it says of the
-- seat's own lists, and that two cursors differ
abbrev pub Tells : Grid → MachineState → View → Phase → After → Type 0
Tells g w v p (Next (SeeR full x)) = FullAt g w full.block x
Tells g w v p (Next q) = Unit {0}
Tells g w v p (Done (answer.Put (put.Ok place))) = Gains v.made (v.made ++ placed place v.entry ∷ []) (placed place v.entry)
Tells g w v p (Done (answer.Put (put.Full head x))) = IsBefore x (cursor (head + 1 - g.blocks) g.size) × All (λ q. q < first_of g (head + 1)) (places v.made)
Tells g w v p (Done (answer.Put (put.Busy reason))) = Differ reason p
Tells g w v p (Done (answer.Take (take.Ok place))) =
    Gains v.taken (v.taken ++ placed place v.read ∷ []) (placed place v.read) × ((words : List ℕ) → Contains v.made (placed place words) → words ≡ v.read)
Tells g w v p (Done (answer.Take (take.Empty place))) = EmptyAt g w place × ((q : ℕ) → Contains (places v.made) q → q ≢ place) × All (λ q. q < place) (places v.taken)
Tells g w v p (Done (answer.Take (take.Busy reason))) = Differ reason p
Tells g w v p (Done (answer.Take (take.Overrun place now))) = ⊥

module _ (g : Grid) (front back : Front) (ws : List ℕ) (vs : List View) (id : ℕ) (v : View) (limits : IsWithinLimits g) (s : IsSoundAt g front back ws vs) (here : slice_get vs id ≡ Some v) where
  abbrev w : MachineState
  w = record { words = ws; views = vs }

  pub full_seen : (full : Cursor) → IsFilled g (put_cursors g ws) full → consumed_word g ws (full.block + 1) < older_full g full.block → FullAt g (record { words = ws; views = vs }) full.block (unpacked (consumed_word g ws (full.block + 1)))
  full_seen full f less = at_full.full_seen stage_of g limits front ws vs s.puts.places full f (full_last g limits front back ws vs s full f less) less

  empty_seen : (p : ℕ) → back.next ≡ p → sum_by (makes p) vs ≡ 0 → EmptyAt g (record { words = ws; views = vs }) p × ((q : ℕ) → Contains (places v.made) q → q ≢ p) × All (λ q. q < p) (places v.taken)
  empty_seen p e none =
      let own = one_le_sum (makes p) vs id v here in
      let from : (q : ℕ) → p ≤ q → sum_by (fetches g q) vs ≡ 0 = λ q l. s.counts.read_once q ∙ none_from q back.next (omega arith) in
      let below = all_below p (places v.taken) (λ q l. let z = from q l in let o = one_le_sum (fetches g q) vs id v here in let n = takes_le g q v in omega arith) in (
        record {
          not_made = none;
          reserved = λ q l. let o = s.counts.read_once q in let z = one_in q back.next (omega arith) in omega arith;
          not_reserved = from;
        },
        not_among p (places v.made) (omega arith),
        All-from_recursion (λ (q : ℕ). q < p) (places v.taken) below,
      )

  -- where a committed cursor was found that counts an item, an allocated cursor of another block is of a later one
  later_block : (r m : Cursor) → TakeKnows g (scene g back ws vs) v.read (SeeAll r m) → allocated_word g ws r.block / offset_span ≢ m.block → m.block < allocated_word g ws r.block / offset_span
  later_block r m f apart =
      let c = committed_found g limits front back ws vs s r f.0 in
      let two = limits.blocks_from in
      let le : r.block ≤ front.last = omega (arith, c.opened, s.takes.behind) in
      let l = latest_is g.blocks r.block front.last (omega arith) le in
      let k : ℕ = latest g.blocks r.block front.last in
      let same : allocated_word g ws k ≡ allocated_word g ws r.block = physical g ws 2 _ _ l.same in
      let b = f.1.same in
      let words = s.puts.places.words in
      ⊎_elim
      (λ n. let q = words.full k n l.near in omega (arith, q.0, l.from))
      (λ n. let e : k ≡ front.last = omega (arith, l.to) in
      let z : allocated_word g ws front.last ≡ allocated_word g ws r.block = sym (ap (allocated_word g ws) e) ∙ same in
      ⊎_elim
      (λ q. omega (arith, q.block))
      (λ q. ⊎_elim
      (λ old. ⊎_elim
      (λ near. absurd (let y = same_block g.blocks r.block front.last (sym l.same ∙ ap (λ (h : ℕ). h % g.blocks) e) le near in omega arith))
      (λ far. omega (arith, q.older))
      (cases_lt front.last (r.block + g.blocks)))
      (λ new. let here_K : r.block ≡ front.last = omega arith in
      let m_K : committed_word g ws r.block ≡ committed_word g ws front.last = ap (committed_word g ws) here_K in
      let block_K = words.committed front.last (omega arith) (omega arith) in
      let count = s.puts.places.counts.made front.last (omega arith) (omega arith) words.from in
      let none = upto_none g.size (λ o. sum_by (makes (place g front.last o)) vs) (λ o. let y = made_within stage g front ws vs s.puts (place g front.last o) in let x = none_from (place g front.last o) front.next (omega (arith, q.at)) in omega arith) in
      let a = f.1 in absurd (omega (arith, a.above, a.known)))
      (cases_lt r.block front.last))
      words.newest)
      (cases_lt k front.last)

  -- what the side of puts and what takes remember of the seat
  stood : (p : Phase) → v.phase ≡ Some p → PutKnows g front.last (put_cursors g ws) (stage p)
  stood p e = put_loads.knows_at stage_of g front ws vs id v v s.puts.places here (stage p) (ap (stage_in stage) e)

  known : (p : Phase) → v.phase ≡ Some p → Knows g (scene g back ws vs) v.made v.read (Some p)
  known p e = subst (Knows g (scene g back ws vs) v.made v.read) e (s.each id v here).knows

  pub step_tells : (p : Phase) → v.phase ≡ Some p → Tells g (record { words = ws; views = vs }) v p (after g p (finds table g ws v p))
  step_tells (Put q) e = put_tells stage_of Put SeeX g limits front ws vs id v s.puts.places here (Tells g w v (Put q)) (record { next = λ q. tt; fills = λ full. tt; ok = λ place gains. gains; moved = λ a b less. less }) q (ap (stage_in stage) e)
  step_tells (SeeX full) e =
      let f = stood (SeeX full) e in
      by_test_le (older_full g full.block) (consumed_word g ws (full.block + 1)) (λ c. Tells g w v (SeeX full) (if c then Next (Put (OpenM full)) else Next (SeeR full (unpacked (consumed_word g ws (full.block + 1)))))) (λ l. tt) (full_seen full f)
  step_tells (SeeR full x) e =
      let f = known (SeeR full x) e in
      let y : Cursor = unpacked (reserved_word g ws (full.block + 1)) in
      cond_both ((x.block == y.block) && (x.offset == y.offset)) _ _ (Tells g w v (SeeR full x))
      (λ q. (
        before_from x (cursor (full.block + 1 - g.blocks) g.size) (omega (arith, limits.size_to)) f.0,
        All-from_recursion (λ (q : ℕ). q < first_of g (full.block + 1)) (places v.made) (subst (λ (b : ℕ). AllByRecursion (λ q. q < b) (places v.made)) (omega arith) f.1),
      ))
      (λ q. tested_other x y q)
  step_tells (Take (HeadC turn first)) e = tt
  step_tells (Take (SeeRes turn first head)) e =
      let f = knows_at g limits front back ws vs s id v here (SeeRes turn first head) e in
      let is = found_R s.takes limits.blocks_from (physical g ws 4) head f.2 in
      let T : After → Type 0 = Tells g w v (Take (SeeRes turn first head)) in
      pick_less T (reserved_word g ws head % offset_span) g.size _ _ (λ l. tt)
      (λ l. pick_equal T turn 1 _ _ (λ q. tt) (λ n. ⊎_elim (λ q. absurd (n q)) (λ q. omega (arith, q.below, is.from)) f.0))
  step_tells (Take (SeeCom r)) e =
      let f = knows_at g limits front back ws vs s id v here (SeeCom r) e in
      let x : ℕ = committed_word g ws r.block in
      let T : After → Type 0 = Tells g w v (Take (SeeCom r)) in
      pick_equal T x (packed r) _ _ (λ q. let z = empty_at g limits front back ws vs s r f q in let n = empty_seen (place_at g r) z.0 z.1 in (n.0, n.1, n.2))
      (λ n. pick_less T r.block (x / offset_span) _ _ (λ l. l) (λ l. pick_equal T (x % offset_span) g.size _ _ (λ q. tt) (λ q. tt)))
  step_tells (Take (SeeAll r m)) e =
      let f = knows_at g limits front back ws vs s id v here (SeeAll r m) e in
      let x : ℕ = allocated_word g ws r.block in
      let T : After → Type 0 = Tells g w v (Take (SeeAll r m)) in
      pick_same T x m _ _ (λ q. tt) (λ n. pick_equal T (x / offset_span) m.block _ _ (λ q. n) (λ q. later_block r m f q))
  step_tells (Take (Reserve r)) e =
      let f = knows_at g limits front back ws vs s id v here (Reserve r) e in
      let x : ℕ = reserved_word g ws r.block in
      pick_equal (Tells g w v (Take (Reserve r))) x (packed r) _ _ (λ q. tt)
      (λ n. before_from r (unpacked x) (mod_below x offset_span (omega arith)) (let q = repacked x in omega (arith, f.0.known)))
  step_tells (Take (Read at next)) e = pick_less (Tells g w v (Take (Read at next))) (next + 1) g.width _ _ (λ l. tt) (λ l. tt)
  step_tells (Take (Consume at)) e =
      let f = knows_at g limits front back ws vs s id v here (Consume at) e in
      let place : ℕ = place_at g at in (
        gains v.taken (placed place v.read) (subst IsRising (ap (λ (ph : Option Phase). places v.taken ++ reading g ph) e) (s.each id v here).rising),
        λ words own. own_item stage_of g front (put_cursors g ws) vs s.puts.places id v here place words v.read f.1 own,
      )
  step_tells (Take (NextCom sp)) e =
      let f = knows_at g limits front back ws vs s id v here (NextCom sp) e in
      let p : ℕ = (sp.block + 1 - g.blocks) * g.size in
      pick_less (Tells g w v (Take (NextCom sp))) (committed_word g ws (sp.block + 1) / offset_span) (sp.block + 1) _ _
      (λ l. let z = empty_past g limits front back ws vs s sp f l in let m = made_within stage g front ws vs s.puts p in let n = none_from p front.next (omega (arith, z.0, z.1)) in let x = empty_seen p (omega (arith, z.0)) (omega arith) in (x.0, x.1, x.2))
      (λ l. tt)
  step_tells (Take (OpenX sp)) e = tt
  step_tells (Take (OpenR sp)) e = tt
  step_tells (Take (RaiseC sp)) e = tt

-- the same from the invariant
pub sound_tells : (g : Grid) (ws : List ℕ) (vs : List View) (id : ℕ) (v : View) (p : Phase) → IsWithinLimits g → IsSound g ws vs → slice_get vs id ≡ Some v → v.phase ≡ Some p
    → Tells g (record { words = ws; views = vs }) v p (after g p (finds table g ws v p))
sound_tells g ws vs id v p limits k here e = step_tells g k.front k.back ws vs id v limits k.sound here p e
