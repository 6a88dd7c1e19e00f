-- The table of this queue, as the loop that runs calls asks of it.
use Rattle.std.proofs.Common.{◌≡◌, ℕ, ◌+◌, ◌/◌, ◌%◌, true, false, List, refl, inl, inr}
use Rattle.std.specs.Prelude.{◌==◌, nat_lt, nat_le}
use Rattle.cursor_word.specs.Shape.{Grid}
use Rattle.cursor_word.specs.Cursor.{offset_span, packed, unpacked}
use Rattle.machine.specs.Ops.{noted}
use Rattle.machine.specs.Table.{Unread, Word, reads_word}
use Rattle.machine.proofs.Lone.{GoesOn}
use Rattle.call_laws.specs.Calls.{IsCallTable, IsOfKind, IsWordWithin, ReadsInOrder, ReadsOn}
use Rattle.bbq_core.specs.Types.{After}
use Rattle.bbq_core.specs.declared.phase.Phase.{Phase}
use Rattle.bbq_core.specs.declared.phase.Phase.TheVariants.{Put, SeeX, SeeR, Take}
use Rattle.bbq_core.specs.declared.take_phase.TakePhase.{TakePhase}
use Rattle.bbq_core.specs.declared.take_phase.TakePhase.TheVariants.{HeadC, SeeRes, SeeCom, SeeAll, Reserve, Read, Consume, NextCom, OpenX, OpenR, RaiseC}
use Rattle.bbq_core.specs.PutSteps.{IsInRange, after, want}
use Rattle.bbq_core.specs.TakeSteps.{after_take, want_take}
use Rattle.bbq_core.specs.Stage.{stage}
use Rattle.bbq_core.specs.Table.{is_put, reading, table}
use Rattle.bbq_core.proofs.StepBound.{ranked}
use Rattle.bbq_core.proofs.PutSteps.{shares}
use Rattle.put_side.specs.PutSteps.{is_same, older_full}
use Rattle.put_side.specs.SharesSteps.{IsOwn}
use Rattle.put_side.proofs.CallTables as calls
use Rattle.put_side.proofs.CallTables.{HasOwnCalls}
use Rattle.put_side.proofs.Choices.{pick_any, pick_less}

take_stays : (g : Grid) (q : TakePhase) (n : ℕ) → IsOfKind table false (after_take g q n)
take_stays g (SeeRes turn first head) n = let K : After → Type 0 = IsOfKind table false in pick_any K (nat_lt (n % offset_span) g.size) _ _ refl (pick_any K (turn == 1) _ _ refl refl)
take_stays g (SeeCom r) n = let K : After → Type 0 = IsOfKind table false in pick_any K (n == packed r) _ _ refl (pick_any K (nat_lt r.block (n / offset_span)) _ _ refl (pick_any K ((n % offset_span) == g.size) _ _ refl refl))
take_stays g (SeeAll r m) n = let K : After → Type 0 = IsOfKind table false in pick_any K (is_same (unpacked n) m) _ _ refl (pick_any K ((n / offset_span) == m.block) _ _ refl refl)
take_stays g (Reserve r) n = pick_any (IsOfKind table false) (n == packed r) _ _ refl refl
take_stays g (Read at next) n = pick_any (IsOfKind table false) (nat_lt (next + 1) g.width) _ _ refl refl
take_stays g (NextCom sp) n = pick_any (IsOfKind table false) (nat_lt (n / offset_span) (sp.block + 1)) _ _ refl refl
take_stays g q n = refl

stays : (g : Grid) (p : Phase) (n : ℕ) → IsOwn (stage p) → IsOfKind table (is_put p) (after g p n)
stays g (Put q) n own = absurd own
stays g (SeeX full) n own = pick_any (IsOfKind table true) (nat_le (older_full g full.block) n) _ _ refl refl
stays g (SeeR full x) n own = pick_any (IsOfKind table true) (is_same x (unpacked n)) _ _ refl refl
stays g (Take q) n own = take_stays g q n

blind : (g : Grid) (p : Phase) (xs ys : List ℕ) → IsOwn (stage p) → want g p xs ≡ want g p ys
blind g (Put q) xs ys own = absurd own
blind g p xs ys own = refl

take_notes : (g : Grid) (q : TakePhase) (n : ℕ) → noted (want_take g q) n ≡ n
take_notes g (HeadC turn first) n = refl
take_notes g q n = refl

notes : (g : Grid) (p : Phase) (entry : List ℕ) (n : ℕ) → IsOwn (stage p) → noted (want g p entry) n ≡ n
notes g (Put q) entry n own = absurd own
notes g (Take q) entry n own = take_notes g q n
notes g p entry n own = refl

own : HasOwnCalls table stage
own = record { begins_take = λ g taken. refl; take_in_range = λ g taken. inl refl; stays = stays; blind = blind; notes = notes }

pub call_table : IsCallTable table
call_table = calls.call_table table stage Put SeeX shares own ranked

-- no call ends by its first step
pub never_at_once : GoesOn table
never_at_once = record { put = λ g found. (_, refl); take = λ g taken found. (_, refl) }

-- a take reads the words of its entry in order
take_reads : (g : Grid) (q : TakePhase) (n : ℕ) → ReadsOn table g.width (reading (Take q)) (after_take g q n)
take_reads g (HeadC turn first) n = inl refl
take_reads g (SeeRes turn first head) n = let K : After → Type 0 = ReadsOn table g.width Unread in pick_any K (nat_lt (n % offset_span) g.size) _ _ (inl refl) (pick_any K (turn == 1) _ _ (inl refl) tt)
take_reads g (SeeCom r) n = let K : After → Type 0 = ReadsOn table g.width Unread in pick_any K (n == packed r) _ _ tt (pick_any K (nat_lt r.block (n / offset_span)) _ _ tt (pick_any K ((n % offset_span) == g.size) _ _ (inl refl) (inl refl)))
take_reads g (SeeAll r m) n = let K : After → Type 0 = ReadsOn table g.width Unread in pick_any K (is_same (unpacked n) m) _ _ (inl refl) (pick_any K ((n / offset_span) == m.block) _ _ tt tt)
take_reads g (Reserve r) n = pick_any (ReadsOn table g.width Unread) (n == packed r) _ _ (inr refl) tt
take_reads g (Read at next) n = pick_less (ReadsOn table g.width (Word next)) (next + 1) g.width _ _ (λ l. inl (l, refl)) (λ l. inr (l, refl))
take_reads g (Consume at) n = tt
take_reads g (NextCom sp) n = pick_any (ReadsOn table g.width Unread) (nat_lt (n / offset_span) (sp.block + 1)) _ _ tt (inl refl)
take_reads g (OpenX sp) n = inl refl
take_reads g (OpenR sp) n = inl refl
take_reads g (RaiseC sp) n = inl refl

goes_on : (g : Grid) (p : Phase) (n : ℕ) → is_put p ≡ false → ReadsOn table g.width (reading p) (after g p n)
goes_on g (Take q) n e = take_reads g q n
goes_on g p n e = cc

within : (g : Grid) (p : Phase) → IsInRange g p → IsWordWithin (reading p) g.width
within g (Take (Read at next)) range = range.2
within g (Take q) range = tt
within g p range = tt

finds_read : (g : Grid) (p : Phase) (entry : List ℕ) (n : ℕ) → reads_word (reading p) ≡ true → noted (want g p entry) n ≡ n
finds_read g (Take (Read at next)) entry n e = refl
finds_read g (Take q) entry n e = cc
finds_read g p entry n e = cc

pub reads_in_order : ReadsInOrder table
reads_in_order = record { begins = λ g taken. refl; within = within; goes_on = goes_on; finds = finds_read }
