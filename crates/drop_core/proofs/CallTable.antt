-- The table of this queue: its puts take the shared steps, each call ends within its bound, and a call goes on as the loop that runs calls asks.
use Rattle.std.specs.Prelude.{◌==◌, nat_lt, nat_le, if◌then◌else◌}
use Rattle.std.proofs.Common.{◌≡◌, ℕ, ◌+◌, ◌/◌, ◌%◌, refl, List, ap, ◌-◌, ◌<◌, ◌≤◌, arith, true, false, inl, inr}
use Rattle.cursor_word.specs.Shape.{Grid}
use Rattle.cursor_word.specs.Cursor.{offset_span, packed, unpacked}
use Rattle.cursor_word.specs.declared.cursor.Cursor.{Cursor}
use Rattle.rail.specs.declared.answer.Why.{Why}
use Rattle.rail.specs.declared.entry.Placed.{Placed}
use Rattle.rail.specs.declared.answer.Answer.TheVariants as answer
use Rattle.rail.specs.declared.answer.Take.TheVariants as take
use Rattle.rail.specs.declared.answer.Put.TheVariants as put
use Rattle.rail.specs.declared.answer.Why.TheVariants as why
use Rattle.machine.specs.declared.op.After.TheVariants.{Next, Done}
use Rattle.machine.specs.Steps.{made_after}
use Rattle.machine.specs.Bounds.{IsBounded, IsRanked, call_bound}
use Rattle.machine.specs.Ops.{noted}
use Rattle.machine.specs.Table.{Unread, Whole, Word, reads_word}
use Rattle.machine.specs.Bounds as bounds
use Rattle.machine.proofs.Lone.{GoesOn}
use Rattle.call_laws.specs.Calls.{IsCallTable, IsOfKind, IsWordWithin, ReadsInOrder, ReadsOn}
use Rattle.put_side.specs.PutSteps.{is_same, older_full, by_turn}
use Rattle.put_side.specs.declared.put_phase.PutPhase.{PutPhase}
use Rattle.put_side.specs.PutTable.{IsPutTable}
use Rattle.put_side.specs.SharesSteps.{IsOwn, SharesSteps}
use Rattle.put_side.specs.Stages.{At}
use Rattle.put_side.specs.declared.put_phase.PutPhase.TheVariants.{OpenM}
use Rattle.put_side.proofs.Choices.{pick_any, pick_equal, pick_less, pick_same, turn_above, turn_falls, turn_one, turn_within}
use Rattle.put_side.proofs.SharedTable.{shared_table}
use Rattle.put_side.proofs.PutRanks.{CountsPuts, put_leads, put_within, ranked_by}
use Rattle.put_side.proofs.Sums.{by_test_le}
use Rattle.put_side.proofs.CallTables.{HasOwnCalls}
use Rattle.put_side.proofs.CallTables as calls
use Rattle.drop_core.specs.declared.phase.DropPhase.TheVariants.{Take, Put, SeeM}
use Rattle.drop_core.specs.declared.take_phase.DropTake.{DropTake}
use Rattle.drop_core.specs.declared.take_phase.DropTake.TheVariants.{HeadC, SeeRes, SeeCom, SeeAll, Reserve, Read, Verify, NextCom, Jump, OpenR, RaiseC}
use Rattle.drop_core.specs.Types.{After}
use Rattle.drop_core.specs.TakeSteps.{after_take, in_first, want_take}
use Rattle.drop_core.specs.declared.phase.DropPhase.{DropPhase}
use Rattle.drop_core.specs.PutSteps.{after, IsInRange, rank, want}
use Rattle.drop_core.specs.Steps.{table, is_put, reading}
use Rattle.drop_core.specs.Stage.{stage}
use Rattle.drop_core.specs.Laws.{steps_of_answer, steps_of_phase}

-- what is so of each thing that may follow this phase
pub record OfEach (K : After → Type 0) (q : DropTake) : Type 0 where
  pub next : (r : DropTake) → K (Next (Take r))
  pub ok : (at : Cursor) → q ≡ Verify at → (place : ℕ) → K (Done (answer.Take (take.Ok place)))
  pub empty : (place : ℕ) → K (Done (answer.Take (take.Empty place)))
  pub busy : (reason : Why) → K (Done (answer.Take (take.Busy reason)))
  pub overrun : (place : ℕ) (now : Cursor) → K (Done (answer.Take (take.Overrun place now)))

pub follows : (K : After → Type 0) (g : Grid) (q : DropTake) (old : ℕ) → OfEach K q → K (after_take g q old)
follows K g (HeadC turn first) old each = each.next _
follows K g (SeeRes turn first head) old each =
    pick_any K ((old / offset_span) == head) _ _ (pick_any K (nat_lt (old % offset_span) g.size) _ _ (each.next _) (pick_any K (turn == 1) _ _ (each.next _) (each.busy _))) (each.busy _)
follows K g (SeeCom turn r) old each =
    pick_any K (old == packed r) _ _ (each.empty _)
    (pick_any K (nat_lt r.block (old / offset_span)) _ _ (pick_any K (turn == 1) _ _ (each.next _) (each.busy _)) (pick_any K ((old % offset_span) == g.size) _ _ (each.next _) (each.next _)))
follows K g (SeeAll r m) old each = pick_any K (is_same (unpacked old) m) _ _ (each.next _) (pick_any K ((old / offset_span) == m.block) _ _ (each.busy _) (each.busy _))
follows K g (Reserve r) old each = pick_any K (old == packed r) _ _ (each.next _) (each.busy _)
follows K g (Read at next) old each = pick_any K (nat_lt (next + 1) g.width) _ _ (each.next _) (each.next _)
follows K g (Verify at) old each = pick_any K ((old / offset_span) == at.block) _ _ (each.ok at refl _) (each.overrun _ _)
follows K g (NextCom sp) old each = pick_any K (nat_lt (old / offset_span) (sp.block + 1)) _ _ (each.empty _) (each.next _)
follows K g (Jump from) old each = each.next _
follows K g (OpenR from to) old each = each.next _
follows K g (RaiseC from to) old each = each.next _

only : (p : DropPhase) (q : PutPhase) → stage p ≡ At q → p ≡ Put q
only (Put r) q e = let is : r ≡ q = cc in ap Put is
only (SeeM full) q e = cc
only (Take t) q e = cc

abbrev MakesNone : List Placed → List ℕ → After → Type 0
MakesNone made entry b = made_after made entry b ≡ made

makes_none : (g : Grid) (p : DropPhase) (old : ℕ) (made : List Placed) (entry : List ℕ) → IsOwn (stage p) → MakesNone made entry (after g p old)
makes_none g (Put q) old made entry h = absurd h
makes_none g (SeeM full) old made entry h = pick_any (MakesNone made entry) (nat_le (older_full g full.block) old) _ _ refl refl
makes_none g (Take q) old made entry h =
    follows (MakesNone made entry) g q old record { next = λ r. refl; ok = λ at is place. refl; empty = λ place. refl; busy = λ reason. refl; overrun = λ place now. refl }

pub shares : SharesSteps table stage Put SeeM
shares = record {
  first_put = refl;
  first_take = λ g taken. refl;
  want = λ g q words. refl;
  after = λ g q found. refl;
  rank = λ g q. refl;
  rank_fills = λ g full. refl;
  is_in_range = λ g q. refl;
  fills_in_range = λ g full. refl;
  finds_fit = λ q found. refl;
  is_put = λ q. refl;
  fills_is_put = λ full. refl;
  reads_none = λ q. refl;
  stands = λ q. refl;
  fills = λ full. refl;
  only = only;
  makes_none = makes_none;
}

pub puts : IsPutTable stage table
puts = shared_table table stage Put SeeM shares

abbrev Leads : Grid → ℕ → ℕ → After → Type 0
Leads g high most b = bounds.Leads (rank g) (steps_of_phase g) (steps_of_answer g) high most b

counts : (g : Grid) → CountsPuts Put SeeM g (steps_of_phase g) (steps_of_answer g)
counts g = record { phase = λ q. refl; fills = λ full. refl; answers = λ a. refl }

-- a block that is left behind leads a take on, or ends it in its second turn
passes : (g : Grid) (high turn : ℕ) (on : DropTake) (earlier later : Cursor) → (turn ≡ 1 → rank g (Take on) < high) → 1 ≤ high → Leads g high (g.width + 12) (in_first turn on earlier later)
passes g high turn on earlier later more least = pick_equal (Leads g high (g.width + 12)) turn 1 _ _ (λ e. (more e, refl)) (λ n. (least, refl))

pub leads : (g : Grid) (p : DropPhase) (old : ℕ) → IsInRange g p → Leads g (rank g p) (steps_of_phase g p) (after g p old)
leads g (Put q) old r = put_leads table stage Put SeeM shares g (steps_of_phase g) (steps_of_answer g) (counts g) q old r
leads g (SeeM full) old r = by_test_le (older_full g full.block) old (λ c. Leads g (g.width + 8) (g.width + 11) (if c then Next (Put (OpenM full)) else Done (answer.Put (put.Busy (why.Unfinished (full.block + 1 - g.blocks) full (unpacked old)))))) (λ l. (omega arith, refl)) (λ l. (omega arith, refl))
leads g (Take (HeadC turn first)) old r = (turn_falls turn (g.width + 12) (g.width + 6) (g.width + 11) (g.width + 5) (omega arith) (omega arith), refl)
leads g (Take (SeeRes turn first head)) old r =
    let high : ℕ = by_turn turn (g.width + 11) (g.width + 5) in
    let least : 1 ≤ high = turn_above turn (g.width + 11) (g.width + 5) 0 (omega arith) (omega arith) in
    pick_equal (Leads g high (g.width + 12)) (old / offset_span) head _ _
    (λ b. pick_less (Leads g high (g.width + 12)) (old % offset_span) g.size _ _ (λ l. (turn_falls turn (g.width + 11) (g.width + 5) (g.width + 10) (g.width + 4) (omega arith) (omega arith), refl))
    (λ l. passes g high turn (NextCom (unpacked old)) first (unpacked old) (λ e. let t = turn_one turn (g.width + 11) (g.width + 5) e in omega arith) least))
    (λ n. (least, refl))
leads g (Take (SeeCom turn c)) old r =
    let high : ℕ = by_turn turn (g.width + 10) (g.width + 4) in
    let least : 1 ≤ high = turn_above turn (g.width + 10) (g.width + 4) 0 (omega arith) (omega arith) in
    let L : After → Type 0 = Leads g high (g.width + 12) in
    pick_equal L old (packed c) _ _ (λ e. (least, refl))
    (λ n. pick_less L c.block (old / offset_span) _ _ (λ l. passes g high turn (Jump c) c (unpacked old) (λ e. let t = turn_one turn (g.width + 10) (g.width + 4) e in omega arith) least)
    (λ l. pick_equal L (old % offset_span) g.size _ _ (λ e. (turn_above turn (g.width + 10) (g.width + 4) (g.width + 2) (omega arith) (omega arith), refl)) (λ e. (turn_above turn (g.width + 10) (g.width + 4) (g.width + 3) (omega arith) (omega arith), refl))))
leads g (Take (SeeAll c m)) old r =
    let L : After → Type 0 = Leads g (g.width + 3) (g.width + 12) in
    pick_same L old m _ _ (λ e. (omega arith, refl)) (λ n. pick_equal L (old / offset_span) m.block _ _ (λ e. (omega arith, refl)) (λ e. (omega arith, refl)))
leads g (Take (Reserve c)) old r = pick_equal (Leads g (g.width + 2) (g.width + 12)) old (packed c) _ _ (λ e. (omega arith, refl)) (λ n. (omega arith, refl))
leads g (Take (Read at next)) old r = let within = r.2 in pick_less (Leads g (g.width - next + 1) (g.width + 12)) (next + 1) g.width _ _ (λ l. (omega arith, refl)) (λ l. (omega arith, refl))
leads g (Take (Verify at)) old r = pick_equal (Leads g 1 (g.width + 12)) (old / offset_span) at.block _ _ (λ e. (omega arith, refl)) (λ e. (omega arith, refl))
leads g (Take (NextCom sp)) old r = pick_less (Leads g (g.width + 10) (g.width + 12)) (old / offset_span) (sp.block + 1) _ _ (λ l. (omega arith, refl)) (λ l. (omega arith, refl))
leads g (Take (Jump from)) old r = (omega arith, refl)
leads g (Take (OpenR from to)) old r = (omega arith, refl)
leads g (Take (RaiseC from to)) old r = (omega arith, refl)

pub bounded : IsBounded table steps_of_phase steps_of_answer
bounded = record { first_put = λ g. omega arith; first_take = λ g taken. omega arith; leads = leads }

rank_within : (g : Grid) (p : DropPhase) → rank g p ≤ call_bound g
rank_within g (Put q) = put_within g q
rank_within g (SeeM full) = omega arith
rank_within g (Take (HeadC turn first)) = turn_within turn (g.width + 12) (g.width + 6) (g.width + 12) (omega arith) (omega arith)
rank_within g (Take (SeeRes turn first head)) = turn_within turn (g.width + 11) (g.width + 5) (g.width + 12) (omega arith) (omega arith)
rank_within g (Take (SeeCom turn r)) = turn_within turn (g.width + 10) (g.width + 4) (g.width + 12) (omega arith) (omega arith)
rank_within g (Take (SeeAll r m)) = omega arith
rank_within g (Take (Reserve r)) = omega arith
rank_within g (Take (Read at next)) = omega arith
rank_within g (Take (Verify at)) = omega arith
rank_within g (Take (NextCom spent)) = omega arith
rank_within g (Take (Jump from)) = omega arith
rank_within g (Take (OpenR from to)) = omega arith
rank_within g (Take (RaiseC from to)) = omega arith

pub ranked : IsRanked table
ranked = ranked_by table steps_of_phase steps_of_answer bounded rank_within

-- each step but a store notes what it found
take_noted : (g : Grid) (q : DropTake) (n : ℕ) → noted (want_take g q) n ≡ n
take_noted g (HeadC turn first) n = refl
take_noted g q n = refl

-- a put goes on as a put, and a take as a take
stays : (g : Grid) (p : DropPhase) (n : ℕ) → IsOwn (stage p) → IsOfKind table (is_put p) (after g p n)
stays g (Put q) n h = absurd h
stays g (SeeM full) n h = pick_any (IsOfKind table true) (nat_le (older_full g full.block) n) _ _ refl refl
stays g (Take q) n h = follows (IsOfKind table false) g q n record { next = λ r. refl; ok = λ at is place. refl; empty = λ place. refl; busy = λ reason. refl; overrun = λ place now. refl }

blind : (g : Grid) (p : DropPhase) (xs ys : List ℕ) → IsOwn (stage p) → want g p xs ≡ want g p ys
blind g (Put q) xs ys h = absurd h
blind g (SeeM full) xs ys h = refl
blind g (Take q) xs ys h = refl

notes : (g : Grid) (p : DropPhase) (entry : List ℕ) (n : ℕ) → IsOwn (stage p) → noted (want g p entry) n ≡ n
notes g (Put q) entry n h = absurd h
notes g (SeeM full) entry n h = refl
notes g (Take q) entry n h = take_noted g q n

own : HasOwnCalls table stage
own = record { begins_take = λ g taken. refl; take_in_range = λ g taken. inl refl; stays = stays; blind = blind; notes = notes }

pub call_table : IsCallTable table
call_table = calls.call_table table stage Put SeeM shares own ranked

-- no call ends by its first step
pub goes_on : GoesOn table
goes_on = record { put = λ g old. (_, refl); take = λ g taken old. (_, refl) }

-- a take reads the words of its entry in order
module _ (g : Grid) where
  abbrev Before : After → Type 0
  Before = ReadsOn table g.width Unread

  take_reads : (q : DropTake) (n : ℕ) → ReadsOn table g.width (reading (Take q)) (after_take g q n)
  take_reads (HeadC turn first) n = inl refl
  take_reads (SeeRes turn first head) n = pick_any Before ((n / offset_span) == head) _ _ (pick_any Before (nat_lt (n % offset_span) g.size) _ _ (inl refl) (pick_any Before (turn == 1) _ _ (inl refl) tt)) tt
  take_reads (SeeCom turn r) n =
      pick_any Before (n == packed r) _ _ tt (pick_any Before (nat_lt r.block (n / offset_span)) _ _ (pick_any Before (turn == 1) _ _ (inl refl) tt) (pick_any Before ((n % offset_span) == g.size) _ _ (inl refl) (inl refl)))
  take_reads (SeeAll r m) n = pick_any Before (is_same (unpacked n) m) _ _ (inl refl) (pick_any Before ((n / offset_span) == m.block) _ _ tt tt)
  take_reads (Reserve r) n = pick_any Before (n == packed r) _ _ (inr refl) tt
  take_reads (Read at next) n = pick_less (ReadsOn table g.width (Word next)) (next + 1) g.width _ _ (λ l. inl (l, refl)) (λ l. inr (l, refl))
  take_reads (Verify at) n = pick_any (ReadsOn table g.width Whole) ((n / offset_span) == at.block) _ _ tt tt
  take_reads (NextCom sp) n = pick_any Before (nat_lt (n / offset_span) (sp.block + 1)) _ _ tt (inl refl)
  take_reads (Jump from) n = inl refl
  take_reads (OpenR from to) n = inl refl
  take_reads (RaiseC from to) n = inl refl

  reads_on : (p : DropPhase) (n : ℕ) → is_put p ≡ false → ReadsOn table g.width (reading p) (after g p n)
  reads_on (Take q) n e = take_reads q n
  reads_on p n e = cc

  within : (p : DropPhase) → IsInRange g p → IsWordWithin (reading p) g.width
  within (Take (Read at next)) range = range.2
  within (Take q) range = tt
  within p range = tt

  finds_read : (p : DropPhase) (entry : List ℕ) (n : ℕ) → reads_word (reading p) ≡ true → noted (want g p entry) n ≡ n
  finds_read (Take q) entry n e = take_noted g q n
  finds_read p entry n e = cc

pub reads_in_order : ReadsInOrder table
reads_in_order = record { begins = λ g taken. refl; within = within; goes_on = reads_on; finds = finds_read }
