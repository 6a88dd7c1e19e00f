-- The table of this queue, as the loop that runs calls asks of it.
use Rattle.std.proofs.Common.{◌≡◌, ℕ, ◌+◌, ◌/◌, ◌%◌, true, false, List, length, min, refl, inl, inr, arith}
use Rattle.std.specs.Prelude.{◌==◌, nat_lt, nat_le}
use Rattle.cursor_word.specs.Shape.{Grid}
use Rattle.cursor_word.specs.Cursor.{offset_span, packed, place_span, unpacked}
use Rattle.cursor_word.proofs.Places.{block_of_place_from, block_of_place_to, offset_of_place}
use Rattle.machine.specs.Ops.{noted}
use Rattle.machine.specs.Table.{Unread, reads_word}
use Rattle.machine.specs.Table as table_words
use Rattle.call_laws.specs.Calls.{IsCallTable, IsOfKind, IsWordWithin, ReadsInOrder, ReadsOn}
use Rattle.put_side.specs.PutSteps.{is_same, older_full}
use Rattle.put_side.specs.SharesSteps.{IsOwn}
use Rattle.put_side.proofs.CallTables as calls
use Rattle.put_side.proofs.CallTables.{HasOwnCalls}
use Rattle.put_side.proofs.Choices.{pick_any, pick_less}
use Rattle.sole_core.specs.Types.{After}
use Rattle.sole_core.specs.declared.phase.SolePhase.{SolePhase}
use Rattle.sole_core.specs.declared.phase.SolePhase.TheVariants.{Put, SeeX, Take}
use Rattle.sole_core.specs.declared.take_phase.SoleTake.{SoleTake}
use Rattle.sole_core.specs.declared.take_phase.SoleTake.TheVariants.{Com, All, Word, Consume}
use Rattle.sole_core.specs.PutSteps.{IsInRange, after, want}
use Rattle.sole_core.specs.TakeSteps.{after_take, want_take}
use Rattle.sole_core.specs.Stage.{stage}
use Rattle.sole_core.specs.Table.{is_put, reading, table}
use Rattle.sole_core.proofs.StepBound.{ranked}
use Rattle.sole_core.proofs.Shares.{shares}

take_stays : (g : Grid) (q : SoleTake) (n : ℕ) → IsOfKind table false (after_take g q n)
take_stays g (Com r) n = let K : After → Type 0 = IsOfKind table false in pick_any K (n == packed r) _ _ refl (pick_any K (nat_lt (n / offset_span) r.block) _ _ refl (pick_any K ((n % offset_span) == g.size) _ _ refl refl))
take_stays g (All r m) n = pick_any (IsOfKind table false) (is_same (unpacked n) m) _ _ refl refl
take_stays g (Word r next) n = pick_any (IsOfKind table false) (nat_lt (next + 1) g.width) _ _ refl refl
take_stays g (Consume r) n = refl

-- a put goes on as a put, and a take as a take
stays : (g : Grid) (p : SolePhase) (n : ℕ) → IsOwn (stage p) → IsOfKind table (is_put p) (after g p n)
stays g (Put q) n h = absurd h
stays g (SeeX full) n h = pick_any (IsOfKind table true) (nat_le (older_full g full.block) n) _ _ refl refl
stays g (Take q) n h = take_stays g q n

blind : (g : Grid) (p : SolePhase) (xs ys : List ℕ) → IsOwn (stage p) → want g p xs ≡ want g p ys
blind g (Put q) xs ys h = absurd h
blind g (SeeX full) xs ys h = refl
blind g (Take q) xs ys h = refl

-- each step of the queue's own notes what it found
take_notes : (g : Grid) (q : SoleTake) (n : ℕ) → noted (want_take g q) n ≡ n
take_notes g (Com r) n = refl
take_notes g q n = refl

notes : (g : Grid) (p : SolePhase) (entry : List ℕ) (n : ℕ) → IsOwn (stage p) → noted (want g p entry) n ≡ n
notes g (Put q) entry n h = absurd h
notes g (SeeX full) entry n h = refl
notes g (Take q) entry n h = take_notes g q n

own : HasOwnCalls table stage
own = record {
  begins_take = λ g taken. refl;
  take_in_range = λ g taken l. let p : ℕ = min (length taken) (place_span g) in let to = block_of_place_to g p l (omega arith) in ((block_of_place_from g p, omega arith), offset_of_place g p l);
  stays = stays;
  blind = blind;
  notes = notes;
}

pub call_table : IsCallTable table
call_table = calls.call_table table stage Put SeeX shares own ranked

-- a take reads the words of its entry in order
take_reads : (g : Grid) (q : SoleTake) (n : ℕ) → ReadsOn table g.width (reading (Take q)) (after_take g q n)
take_reads g (Com r) n = let K : After → Type 0 = ReadsOn table g.width Unread in pick_any K (n == packed r) _ _ tt (pick_any K (nat_lt (n / offset_span) r.block) _ _ tt (pick_any K ((n % offset_span) == g.size) _ _ (inr refl) (inl refl)))
take_reads g (All r m) n = pick_any (ReadsOn table g.width Unread) (is_same (unpacked n) m) _ _ (inr refl) tt
take_reads g (Word r next) n = pick_less (ReadsOn table g.width (table_words.Word next)) (next + 1) g.width _ _ (λ l. inl (l, refl)) (λ l. inr (l, refl))
take_reads g (Consume r) n = tt

goes_on : (g : Grid) (p : SolePhase) (n : ℕ) → is_put p ≡ false → ReadsOn table g.width (reading p) (after g p n)
goes_on g (Take q) n e = take_reads g q n
goes_on g p n e = cc

within : (g : Grid) (p : SolePhase) → IsInRange g p → IsWordWithin (reading p) g.width
within g (Take (Word r next)) range = range.1
within g (Take q) range = tt
within g p range = tt

finds_read : (g : Grid) (p : SolePhase) (entry : List ℕ) (n : ℕ) → reads_word (reading p) ≡ true → noted (want g p entry) n ≡ n
finds_read g (Take (Word r next)) entry n e = refl
finds_read g (Take q) entry n e = cc
finds_read g p entry n e = cc

pub reads_in_order : ReadsInOrder table
reads_in_order = record { begins = λ g taken. refl; within = within; goes_on = goes_on; finds = finds_read }
