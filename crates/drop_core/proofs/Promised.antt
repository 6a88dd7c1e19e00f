-- What the trail of a seat shows, and that each answer of a step is as a queue promises, where the trail has what its call found.
use Rattle.std.specs.Prelude.{Some, slice_get}
use Rattle.std.specs.List.{All, Contains, sum_by}
use Rattle.std.proofs.Common.{◌≡◌, ◌≢◌, ℕ, List, refl, sym, ap, ◌∙◌, inl, inr, ⊎_elim, arith, ◌+◌, ◌/◌, ◌%◌, ◌<◌, ◌≤◌, true, [], ◌∷◌, ◌++◌, subst}
use Rattle.std.proofs.lemmas.Bool.{cases_lt}
use Rattle.std.proofs.lemmas.List.{take_all}
use Rattle.std.proofs.lemmas.List.Elements.{All-from_recursion}
use Rattle.cursor_word.specs.Cursor.{packed, cursor_of, offset_span, place_at}
use Rattle.cursor_word.specs.declared.cursor.Cursor.{Cursor}
use Rattle.cursor_word.specs.Shape.{Grid, IsWithinLimits}
use Rattle.cursor_word.proofs.Places.{cursor_of_place}
use Rattle.rail.specs.Told.{Spells}
use Rattle.rail.specs.declared.answer.Why.{Why}
use Rattle.rail.specs.Items.{IsRising, placed, places}
use Rattle.rail.specs.Rail.{Gains}
use Rattle.rail.specs.declared.answer.Answer.{Answer}
use Rattle.rail.specs.declared.answer.Why.TheVariants as why
use Rattle.rail.specs.declared.answer.Answer.TheVariants as answer
use Rattle.rail.specs.declared.answer.Put.TheVariants as put
use Rattle.rail.specs.declared.answer.Take as taking
use Rattle.rail.specs.declared.answer.Take.TheVariants as take
use Rattle.machine.specs.declared.op.After.TheVariants.{Done}
use Rattle.machine.specs.Steps.{finds}
use Rattle.machine.proofs.Lists.{one_le_sum}
use Rattle.call_laws.specs.Answers.{KeepsPromises}
use Rattle.call_laws.specs.Calls.{IsOfKind, ReadsOn}
use Rattle.call_laws.proofs.Trails.{ShowsTrail}
use Rattle.call_laws.proofs.Promised.{Adds, keeps_promises}
use Rattle.put_side.specs.Causes.{first_found, second_found}
use Rattle.put_side.specs.Counts.{makes, times}
use Rattle.put_side.specs.Cursors.{Front, allocated_word, place, put_cursors}
use Rattle.put_side.specs.Entries.{IsMade, IsPresent}
use Rattle.put_side.specs.PutTable.{stage_of}
use Rattle.put_side.proofs.Facts.{repacked, all_below, allocated_same, physical}
use Rattle.put_side.proofs.PutTrails.{blocks_apart, pair_found, busy_told}
use Rattle.put_side.proofs.SeatItems.{gains, not_among, own_item, put_gains}
use Rattle.put_side.proofs.Lows.{of_place}
use Rattle.put_side.proofs.Choices.{pick_equal}
use Rattle.put_side.proofs.Moments.{made_words_at}
use Rattle.put_side.proofs.PutTrails as trails
use Rattle.drop_core.specs.declared.phase.DropPhase.{DropPhase}
use Rattle.drop_core.specs.declared.phase.DropPhase.TheVariants.{Take}
use Rattle.drop_core.specs.declared.take_phase.DropTake.TheVariants.{HeadC, Reserve, Verify}
use Rattle.drop_core.specs.Types.{After, MachineState, View}
use Rattle.drop_core.specs.Steps.{table, is_put, reading}
use Rattle.drop_core.specs.Causes.{Differ, PutPair, TakePair, shown}
use Rattle.drop_core.specs.PutSteps.{after}
use Rattle.drop_core.specs.Stage.{stage}
use Rattle.drop_core.specs.Counts.{fetched, fetches}
use Rattle.drop_core.specs.Sound.{IsSound, IsSoundAt}
use Rattle.drop_core.specs.Moments.{EmptyAt}
use Rattle.drop_core.specs.Counts as counts
use Rattle.drop_core.proofs.Recalled.{Recalls, ShowsNext, step_shows}
use Rattle.drop_core.proofs.CallTable.{call_table, puts, reads_in_order}
use Rattle.drop_core.proofs.Loads.{knows_take, takes_le}
use Rattle.drop_core.proofs.Outcomes.{OverrunIn, Tells, TellsNext, step_tells}
use Rattle.drop_core.proofs.Frames.{fetched_reading}

spelled : (p : DropPhase) (old : ℕ) (c : Cursor) → shown p old ≡ c → Spells old c
spelled (Take (HeadC turn first)) old c e = inr (ap (λ (x : Cursor). x.offset) (sym e), ap (λ (x : Cursor). x.block) e)
spelled p old c e = inl (sym (repacked old) ∙ ap packed e)

abbrev pub TrailShows : List ℕ → After → Type 0
TrailShows trail b = trails.TrailShows table Recalls trail b

pub trail_shows : ShowsTrail table TrailShows
trail_shows = trails.trail_shows table Recalls ShowsNext record {
  begins_put = inl refl;
  begins_take = λ g taken. inl refl;
  step = λ g entry steps p old recalls. step_shows g entry 0 steps p old recalls;
  next = λ g steps this p h. h;
  put_busy = λ g steps this reason h. pair_found shown spelled (PutPair g reason) _ reason this h;
  take_busy = λ g steps this reason h. pair_found shown spelled (TakePair reason) _ reason this h;
}

-- cursors that differ so are two
pub apart : (reason : Why) (p : DropPhase) → Differ reason p → first_found reason ≢ second_found reason
apart (why.Unfinished block before later) p d e = d e
apart (why.Moved earlier later) (Take (Reserve r)) d e = let b = ap (λ (c : Cursor). c.block) e in let o = ap (λ (c : Cursor). c.offset) e in ⊎_elim (λ l. omega arith) (λ l. omega (arith, l.1)) d
apart (why.Moved earlier later) p d e = blocks_apart earlier later d e

-- A take that answers Ok or Overrun has read all words, so its last step looks whether the block is
-- still the same.
verify_ok : (g : Grid) (p : DropPhase) (place : ℕ) → ReadsOn table g.width (reading p) (Done (answer.Take (take.Ok place))) → (at : Cursor) × (p ≡ Take (Verify at))
verify_ok g (Take (Verify at)) place h = (at, refl)
verify_ok g (Take q) place h = absurd h
verify_ok g p place h = absurd h

verify_overrun : (g : Grid) (p : DropPhase) (place : ℕ) (now : Cursor) → ReadsOn table g.width (reading p) (Done (answer.Take (take.Overrun place now))) → (at : Cursor) × (p ≡ Take (Verify at))
verify_overrun g (Take (Verify at)) place now h = (at, refl)
verify_overrun g (Take q) place now h = absurd h
verify_overrun g p place now h = absurd h

-- what that step found, by its answer
ok_found : (g : Grid) (at : Cursor) (old place : ℕ) → after g (Take (Verify at)) old ≡ Done (answer.Take (take.Ok place)) → (old / offset_span ≡ at.block) × (place_at g at ≡ place)
ok_found g at old place = pick_equal (λ (b : After). b ≡ Done (answer.Take (take.Ok place)) → (old / offset_span ≡ at.block) × (place_at g at ≡ place)) (old / offset_span) at.block _ _ (λ same is. (same, cc)) (λ other is. cc)

overrun_place : (g : Grid) (at now : Cursor) (old place : ℕ) → after g (Take (Verify at)) old ≡ Done (answer.Take (take.Overrun place now)) → place_at g at ≡ place
overrun_place g at now old place = pick_equal (λ (b : After). b ≡ Done (answer.Take (take.Overrun place now)) → place_at g at ≡ place) (old / offset_span) at.block _ _ (λ same is. cc) (λ other is. cc)

module _ (g : Grid) (ws : List ℕ) (vs : List View) (id : ℕ) (v : View) (limits : IsWithinLimits g) (f : Front) (s : IsSoundAt g f ws vs) (here : slice_get vs id ≡ Some v) where
  -- a place that none has made, and from which on none was reserved, is beyond the seat's own lists
  beyond_own : (place : ℕ) → EmptyAt g (record { words = ws; views = vs }) place → ((q : ℕ) → Contains (places v.made) q → q ≢ place) × All (λ q. q < place) (places v.taken)
  beyond_own place t =
      let none : (q : ℕ) → place ≤ q → times q (places v.taken) ≡ 0 = λ q le.
      ⊎_elim (λ l. omega arith)
      (λ l. let is = of_place g q limits.size_from in
      let some = one_le_sum (fetches g q) vs id v here in
      let most = takes_le g q v in
      let block : ℕ = g.blocks + q / g.size in
      let gone = s.counts.gone block (q % g.size) (omega arith) is.1 (subst (λ (p : ℕ). 1 ≤ sum_by (fetches g p) vs) (sym is.0) (omega arith)) in
      absurd (t.not_reserved block (q % g.size) (omega arith) is.1 (let e = is.0 in omega arith) gone))
      (cases_lt (times q (places v.taken)) 1) in
      let own = one_le_sum (makes place) vs id v here in
      let made = t.not_made in
      (not_among place (places v.made) (omega arith), All-from_recursion (λ (q : ℕ). q < place) (places v.taken) (all_below place (places v.taken) none))

  module _ (at : Cursor) (e : v.phase ≡ Some (Take (Verify at))) where
    -- an entry whose block is still the same is the item that was made there
    whole_own : (place : ℕ) → after g (Take (Verify at)) (allocated_word g ws at.block) ≡ Done (answer.Take (take.Ok place))
        → Gains v.taken (v.taken ++ placed place v.read ∷ []) (placed place v.read) × ((words : List ℕ) → Contains v.made (placed place words) → words ≡ v.read)
    whole_own place is =
        let of = knows_take g f ws vs limits s id v here (Verify at) e in
        let has = made_words_at stage g f ws vs s.puts at of.words of.from of.within of.made in
        let k = ok_found g at (allocated_word g ws at.block) place is in
        let same = k.0 in
        let present : IsPresent (allocated_word g ws) at.block = omega arith in
        let whole : v.read ≡ of.words = of.front present ∙ take_all g.width of.words (omega (arith, has.1)) in
        let made : IsMade vs (placed place v.read) = subst (λ (q : ℕ). IsMade vs (placed q v.read)) k.1 (subst (λ (l : List ℕ). IsMade vs (placed (place_at g at) l)) (sym whole) of.made) in
        let mine : fetched g v ≡ places v.taken ++ place ∷ [] = fetched_reading g v _ (ap (counts.reading g) e) ∙ ap (λ (q : ℕ). places v.taken ++ q ∷ []) k.1 in
        (gains v.taken (placed place v.read) (subst IsRising mine (s.each id v here).rising), λ words own. own_item (stage_of stage) g f (put_cursors g ws) vs s.puts.places id v here place words v.read made own)

    -- one that was overrun lies in a block that a later one took the place of
    overrun_block : (place : ℕ) (now : Cursor) → after g (Take (Verify at)) (allocated_word g ws at.block) ≡ Done (answer.Take (take.Overrun place now)) → OverrunIn g (record { words = ws; views = vs }) now (Take (Verify at))
        → (now.block % g.blocks ≡ (cursor_of g place).block % g.blocks) × ((cursor_of g place).block < now.block)
    overrun_block place now is told =
        let of = knows_take g f ws vs limits s id v here (Verify at) e in
        let p = overrun_place g at now (allocated_word g ws at.block) place is in
        let block : (cursor_of g place).block ≡ at.block = ap (λ (q : ℕ). (cursor_of g q).block) (sym p) ∙ ap (λ (c : Cursor). c.block) (cursor_of_place g at of.from of.within) in
        let same = allocated_same s.puts.places.words limits.blocks_from (physical g ws 2) at.block in
        (ap (λ (c : Cursor). c.block % g.blocks) (sym told.found) ∙ same ∙ ap (λ (b : ℕ). b % g.blocks) (sym block), let later = told.later in omega arith)

module _ (g : Grid) (ws : List ℕ) (vs : List View) (id : ℕ) (v : View) (p : DropPhase) (limits : IsWithinLimits g) (holds : IsSound g ws vs) (here : slice_get vs id ≡ Some v) (e : v.phase ≡ Some p) (trail : List ℕ) where
  abbrev w : MachineState
  w = record { words = ws; views = vs }

  abbrev old : ℕ
  old = finds table g ws v p

  tells : (a : Answer) → after g p old ≡ Done a → Tells g w p a
  tells a is = subst (TellsNext g w p) is (step_tells g holds.front ws vs limits holds.at id v here p e)

  reads : (a : taking.Take) → after g p old ≡ Done (answer.Take a) → ReadsOn table g.width (reading p) (Done (answer.Take a))
  reads a is =
      let kind = subst (IsOfKind table (is_put p)) is (call_table.stays g p old) in
      subst (ReadsOn table g.width (reading p)) is (reads_in_order.goes_on g p old kind)

  -- where the last step looks at the block, what it found
  at_verify : (a : Answer) (at : Cursor) → p ≡ Take (Verify at) → after g p old ≡ Done a → after g (Take (Verify at)) (allocated_word g ws at.block) ≡ Done a
  at_verify a at q is = subst (λ (r : DropPhase). after g r (finds table g ws v r) ≡ Done a) q is

  adds : (a : Answer) → after g p old ≡ Done a → TrailShows trail (Done a) → Adds g true v trail a
  adds (answer.Put (put.Ok place)) is shown = put_gains stage table puts g holds.front (put_cursors g ws) vs holds.at.puts.places id v here p old place e is
  adds (answer.Put (put.Full head consumed)) is shown = absurd (tells _ is)
  adds (answer.Put (put.Busy reason)) is shown = (refl, busy_told trail reason shown (apart reason p (tells (answer.Put (put.Busy reason)) is)))
  adds (answer.Take (take.Ok place)) is shown =
      let q = verify_ok g p place (reads (take.Ok place) is) in
      whole_own g ws vs id v limits holds.front holds.at here q.0 (e ∙ ap Some q.1) place (at_verify _ q.0 q.1 is)
  adds (answer.Take (take.Empty place)) is shown =
      let own = beyond_own g ws vs id v limits holds.front holds.at here place (tells (answer.Take (take.Empty place)) is) in
      (refl, refl, own.0, own.1)
  adds (answer.Take (take.Busy reason)) is shown = (refl, refl, busy_told trail reason shown (apart reason p (tells (answer.Take (take.Busy reason)) is)))
  adds (answer.Take (take.Overrun place now)) is shown =
      let q = verify_overrun g p place now (reads (take.Overrun place now) is) in
      let told = (tells (answer.Take (take.Overrun place now)) is).0 in
      let block = overrun_block g ws vs id v limits holds.front holds.at here q.0 (e ∙ ap Some q.1) place now (at_verify _ q.0 q.1 is) (subst (OverrunIn g w now) q.1 told) in
      (refl, refl, block.0, block.1)

pub promises_kept : KeepsPromises table IsSound true
promises_kept = keeps_promises table IsSound true TrailShows call_table reads_in_order trail_shows (λ g ws vs id v p a limits holds here e is trail shown. adds g ws vs id v p limits holds here e trail a is shown)
