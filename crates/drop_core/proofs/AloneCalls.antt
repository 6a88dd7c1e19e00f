-- A call that is done alone, from its beginning to its answer; and one that no other seat's call overlaps is answered so.
use Rattle.std.specs.Prelude.{slice_index, if◌then◌else◌, Some, None, slice_get, slice_set}
use Rattle.std.proofs.Common.{◌≡◌, ℕ, ◌+◌, ◌-◌, ◌*◌, ◌%◌, List, refl, ap, ◌∙◌, arith, length, sym, inl, ◌≤◌, suc, ◌<◌, subst}
use Rattle.std.proofs.lemmas.List.{length-append}
use Rattle.cursor_word.specs.Shape.{Grid, IsWithinLimits}
use Rattle.cursor_word.specs.Cursor.{unpacked, place_span, most_puts}
use Rattle.cursor_word.specs.declared.cursor.Cursor.{Cursor}
use Rattle.cursor_word.proofs.Blocks.{shifted}
use Rattle.rail.specs.declared.answer.Answer.{Answer}
use Rattle.rail.specs.declared.entry.Placed.{Placed}
use Rattle.rail.specs.Items.{places}
use Rattle.machine.specs.declared.op.After.TheVariants.{Next, Done}
use Rattle.machine.specs.Steps.{words_after, begun, finds, made_after, phase_after, view_after, Suits}
use Rattle.machine.specs.Invariant.{made_count, made_total}
use Rattle.machine.proofs.Lists.{get_set_other}
use Rattle.put_side.specs.Cursors.{committed_word, Front}
use Rattle.put_side.specs.PutSteps.{older_full}
use Rattle.put_side.specs.declared.put_phase.PutPhase.TheVariants.{OpenM}
use Rattle.put_side.specs.Counts.{takes, times}
use Rattle.put_side.proofs.Facts.{physical}
use Rattle.put_side.proofs.Sums.{by_test_le, sum_same}
use Rattle.put_side.proofs.AlonePuts.{head_of, made_of, open_of, put_goes_on}
use Rattle.put_side.proofs.Lone.{all_still, others_still, total_grows}
use Rattle.drop_core.specs.declared.phase.DropPhase.{DropPhase}
use Rattle.drop_core.specs.declared.phase.DropPhase.TheVariants.{Put, SeeM, Take}
use Rattle.drop_core.specs.Types.{View, After, MachineState}
use Rattle.drop_core.specs.Steps.{table}
use Rattle.drop_core.specs.Stage.{stage}
use Rattle.drop_core.specs.PutSteps.{after, first_put}
use Rattle.drop_core.specs.TakeSteps.{first_take}
use Rattle.drop_core.specs.Words.{cursors}
use Rattle.drop_core.specs.Sound.{IsSound}
use Rattle.drop_core.specs.Alone.{GoesOnAlone, IsAlone, IsNext, IsStill, KnowsAlone, AnswersAlone}
use Rattle.drop_core.proofs.Lone.{IsHere, Leads, StepLeads, full_is, loaded, put_here}
use Rattle.drop_core.proofs.AloneTakes.{take_leads}
use Rattle.drop_core.proofs.Keeping.{keeps}
use Rattle.drop_core.proofs.History.{next_by, next_step, moment_next}
use Rattle.std.specs.List.{AllByRecursion}
use Rattle.rail.specs.Sequential.{drop_next, drop_put, drop_take}
use Rattle.rail.specs.declared.answer.Take as taking
use Rattle.rail.specs.declared.answer.Why.{Why}
use Rattle.machine.specs.declared.event.Event.{Event}
use Rattle.machine.specs.declared.event.Start.{Start}
use Rattle.machine.specs.Moments.{EndsAt, IsCall, IsDoneAlone, IsOverlapped, IsUnmixed, moment, phase_of}
use Rattle.machine.proofs.Runs.{moment_total}
use Rattle.machine.proofs.Calls.{rest_at, unmixed}
use Rattle.machine.proofs.Lone.{overlaps}
use Rattle.drop_core.specs.Rest.{AnsweredAsOne, AnswersAsOne, next_place}
use Rattle.drop_core.proofs.CallTable.{call_table, goes_on}
use Rattle.put_side.specs.AsOne.{accepts}
use Rattle.put_side.proofs.AsOne.{kind_by, put_by, take_by}
use Rattle.put_side.proofs.CallKinds.{IsOfCall}
use Rattle.put_side.proofs.Choices.{by_equal}
use Rattle.drop_core.proofs.Reached.{moment_sound}
use Rattle.rail.specs.declared.answer.Answer.TheVariants as answer
use Rattle.rail.specs.declared.answer.Put.TheVariants as put
use Rattle.rail.specs.declared.answer.Why.TheVariants as why
use Rattle.machine.specs.declared.event.Start.TheVariants as start
use Rattle.rail.specs.declared.answer.Take.TheVariants as take
use Rattle.put_side.proofs.LoneCalls as lone

module _ (g : Grid) (n next : ℕ) (f : Front) (ws : List ℕ) (vs : List View) (id : ℕ) (v : View) where
  abbrev Here : DropPhase → Type 0
  Here p = IsHere g n next f ws vs id v p

  abbrev Goes : DropPhase → Type 0
  Goes p = StepLeads g n next ws v p

  -- the block in whose place the next one will stand is wholly committed
  lone_SeeM : (full : Cursor) → Here (SeeM full) → Goes (SeeM full)
  lone_SeeM full h =
      let i : ℕ = 3 + 4 * ((full.block + 1) % g.blocks) in
      let w : ℕ = slice_index ws i in
      let s = h.sound in
      let top = head_of (put_here h) refl in
      let is : full.block ≡ f.last = h.knows ∙ top in
      let j : ℕ = full.block + 1 - g.blocks in
      let two = h.limits.blocks_from in
      let from = s.puts.places.words.from in
      let near : j + g.blocks ≡ full.block + 1 = omega arith in
      let there : committed_word g ws j ≡ w = physical g ws 3 j (full.block + 1) (shifted g.blocks j (full.block + 1) near) in
      let block = s.puts.places.words.committed j (omega arith) (omega arith) in
      let whole = full_is g f ws vs h.limits s (open_of (put_here h) refl) (made_of (put_here h) refl) j (omega arith) (omega arith) in
      loaded g n next ws i _
      (by_test_le (older_full g full.block) w (λ t. Leads g n next ws (if t then Next (Put (OpenM full)) else Done (answer.Put (put.Busy (why.Unfinished j full (unpacked w))))))
      (λ l. h.knows)
      (λ l. absurd (omega arith)))

  -- each step of a seat alone
  pub step_leads : (p : DropPhase) → Here p → Goes p
  step_leads (Put q) h = put_goes_on stage Put SeeM g n f ws vs id v q (Leads g n next (words_after table g ws v (Put q))) (put_here h) (record { next = λ r knows. knows; fills = λ full knows. knows; ok = λ at current is. ap put.Ok is })
  step_leads (SeeM full) h = lone_SeeM full h
  step_leads (Take q) h = take_leads g n next f ws vs id v q h

accepts_more : (made : List Placed) (entry : List ℕ) (a : Answer) → length (made_after {P = DropPhase} made entry (Done a)) ≡ length made + accepts a
accepts_more made entry (answer.Put (put.Ok place)) = length-append made _
accepts_more made entry (answer.Put (put.Full head consumed)) = omega arith
accepts_more made entry (answer.Put (put.Busy reason)) = omega arith
accepts_more made entry (answer.Take q) = omega arith

module _ (g : Grid) (n next : ℕ) (ws : List ℕ) (vs : List View) (id : ℕ) (v : View) (p : DropPhase) (limits : IsWithinLimits g) (alone : IsAlone g n next ws vs id p) (room : n ≤ place_span g) (at : slice_get vs id ≡ Some v) (e : v.phase ≡ Some p) where
  abbrev ws' : List ℕ
  ws' = words_after table g ws v p

  abbrev v' : View
  v' = view_after table g ws v p

  few : made_total vs ≤ place_span g
  few = let total = alone.made in omega arith

  sound' : IsSound g ws' (slice_set vs id v')
  sound' = keeps.steps g ws vs id v p limits alone.sound few at e

  goes_by : (b : After) → after g p (finds table g ws v p) ≡ b → Leads g n next ws' b → IsNext g (cursors g ws') (slice_set vs id v') (next_by next b) → GoesOnAlone g n next ws' (slice_set vs id v') id b
  goes_by (Next q) is leads answered = record {
    sound = sound';
    others = others_still vs id v' alone.others;
    made = total_grows made_count vs id 0 n v v' at (let z = ap (λ (b : After). length (made_after v.made v.entry b)) is in omega arith) alone.made ∙ omega arith;
    answered = answered;
    knows = leads;
  }
  goes_by (Done a) is leads answered = (
    leads,
    record {
      sound = sound';
      rest = all_still vs id v' alone.others (ap phase_after is);
      made = total_grows made_count vs id (accepts a) n v v' at (ap (λ (b : After). length (made_after v.made v.entry b)) is ∙ accepts_more v.made v.entry a) alone.made;
      answered = answered;
    },
  )

  -- a step of a seat alone: it goes on alone, or all seats are at rest and the answer is what one thread is answered
  pub goes_alone : GoesOnAlone g n next ws' (slice_set vs id v') id (after g p (finds table g ws v p))
  goes_alone =
      let s = alone.sound in
      goes_by (after g p (finds table g ws v p)) refl
      (step_leads g n next s.front ws vs id v p record { limits = limits; sound = s.at; at = at; phase = e; others = alone.others; made = alone.made; answered = alone.answered; knows = alone.knows })
      (next_step g s.front ws vs limits s.at few id v at p e next alone.answered)

module _ (g : Grid) (n next : ℕ) (ws : List ℕ) (vs : List View) (id : ℕ) (v v' : View) (limits : IsWithinLimits g) (s : IsStill g n next ws vs) (at : slice_get vs id ≡ Some v) where
  begins : (p : DropPhase) → v'.made ≡ v.made → v'.taken ≡ v.taken → IsSound g ws (slice_set vs id v') → KnowsAlone g n next ws p → IsAlone g n next ws (slice_set vs id v') id p
  begins p made taken sound knows = record {
    sound = sound;
    others = λ j u d e. s.rest j u (sym (get_set_other vs id j v' d) ∙ e);
    made = sum_same made_count vs id v v' at (ap (λ (l : List Placed). length l) made) ∙ s.made;
    answered = record { taken = λ q le. sum_same (takes q) vs id v v' at (ap (λ (l : List Placed). times q (places l)) taken) ∙ s.answered.taken q le; behind = s.answered.behind };
    knows = knows;
  }

-- where all seats are at rest one begins a put, or a take
pub put_alone : (g : Grid) (n next : ℕ) (ws : List ℕ) (vs : List View) (id : ℕ) (v : View) (entry : List ℕ) → IsWithinLimits g → IsStill g n next ws vs → slice_get vs id ≡ Some v → length entry ≡ g.width
    → IsAlone g n next ws (slice_set vs id (begun table g v None (start.Put entry))) id first_put
put_alone g n next ws vs id v entry limits s at wide =
    begins g n next ws vs id v (begun table g v None (start.Put entry)) limits s at first_put refl refl (keeps.begins g ws vs id v (start.Put entry) limits s.sound at (s.rest id v at) wide tt) (inl refl)

pub take_alone : (g : Grid) (n next : ℕ) (ws : List ℕ) (vs : List View) (id : ℕ) (v : View) → IsWithinLimits g → IsStill g n next ws vs → slice_get vs id ≡ Some v → IsAlone g n next ws (slice_set vs id (begun table g v None start.Take)) id first_take
take_alone g n next ws vs id v limits s at =
    begins g n next ws vs id v (begun table g v None start.Take) limits s at first_take refl refl (keeps.begins g ws vs id v start.Take limits s.sound at (s.rest id v at) tt tt) (inl refl)

answers_kind : (g : Grid) (n next : ℕ) (begins : Start) (a : Answer) → IsOfCall table begins (Done a) → AnswersAlone g n next a → AnswersAsOne g n next begins (Some a)
answers_kind g n next begins a kind h = kind_by (λ p. p ≡ drop_put n) (λ q. q ≡ drop_take g n next) table begins a kind h

module _ (g : Grid) (n next seat : ℕ) (begins : Start) where
  abbrev Alone : List ℕ → List View → DropPhase → Type 0
  Alone ws vs p = IsAlone g n next ws vs seat p

  abbrev GoesOn : List ℕ → List View → After → Type 0
  GoesOn ws vs b = lone.GoesAlone table call_table g seat begins Alone (AnswersAlone g n next) (AnswersAsOne g n next begins) (answers_kind g n next begins) ws vs b

  by_answer : (ws : List ℕ) (vs : List View) (b : After) → GoesOnAlone g n next ws vs seat b → GoesOn ws vs b
  by_answer ws vs (Next p) h = h
  by_answer ws vs (Done a) h = h.0

  goes : IsWithinLimits g → n ≤ place_span g → (ws : List ℕ) (vs : List View) (v : View) (p : DropPhase) → Alone ws vs p → slice_get vs seat ≡ Some v → v.phase ≡ Some p
      → GoesOn (words_after table g ws v p) (slice_set vs seat (view_after table g ws v p)) (after g p (finds table g ws v p))
  goes limits room ws vs v p alone at e = by_answer _ _ _ (goes_alone g n next ws vs seat v p limits alone room at e)

module _ (g : Grid) (events : List Event) (limits : IsWithinLimits g) (suits : AllByRecursion (Suits table g) events) (few : length events < most_puts g) where
  still_at : (n : ℕ) → ((j : ℕ) → phase_of table g events n j ≡ None) → (let w = moment table g events n in IsStill g (made_total w.views) (next_place g events n) w.words w.views)
  still_at n rest = record { sound = moment_sound g events limits suits few n; rest = rest_at (moment table g events n).views rest; made = refl; answered = moment_next g events limits suits few n }

  module _ (seat n m : ℕ) (begins : Start) (call : IsCall table g events seat n m begins) where
    pub unmixed_answers : IsUnmixed table g events seat n m → AnsweredAsOne g events seat n m begins
    unmixed_answers alone =
        let w : MachineState = moment table g events n in
        let N : ℕ = made_total w.views in
        let Q : ℕ = next_place g events n in
        lone.unmixed_answers table call_table goes_on g events suits seat n m begins call (Alone g N Q seat begins) (AnswersAlone g N Q) (AnswersAsOne g N Q begins) (answers_kind g N Q begins)
        (goes g N Q seat begins limits (moment_total table g events n few)) (λ ws vs p here. here.others)
        (λ rest. let still = still_at n rest in
        record { put = λ v entry at wide. put_alone g N Q w.words w.views seat v entry limits still at wide; take = λ v at. take_alone g N Q w.words w.views seat v limits still at })
        alone

    pub alone_answers : IsDoneAlone table g events seat n m → AnsweredAsOne g events seat n m begins
    alone_answers alone = unmixed_answers (unmixed table g events seat n m alone)

  overlapped : (i seat : ℕ) (a : Answer) → EndsAt table g events i seat a → ((n next : ℕ) (begins : Start) → AnswersAsOne g n next begins (Some a) → ⊥) → IsOverlapped table g events seat i
  overlapped i seat a x never = overlaps table g events i seat a x
      (λ n begins call alone is. never _ _ begins (subst (AnswersAsOne g (made_total (moment table g events n).views) (next_place g events n) begins) is (unmixed_answers seat n (suc i) begins call alone)))

  put_busy_never : (reason : Why) (n next : ℕ) (begins : Start) → AnswersAsOne g n next begins (Some (answer.Put (put.Busy reason))) → ⊥
  put_busy_never reason n next begins h = let e : put.Busy reason ≡ drop_put n = put_by (λ p. p ≡ drop_put n) (λ q. q ≡ drop_take g n next) begins (put.Busy reason) h in cc

  take_never : (a : taking.Take) (n next : ℕ) (begins : Start) → (a ≡ take.Empty n → ⊥) → (a ≡ take.Ok (drop_next g n next) → ⊥) → AnswersAsOne g n next begins (Some (answer.Take a)) → ⊥
  take_never a n next begins no_empty no_ok h =
      by_equal (drop_next g n next) n (λ b. a ≡ (if b then take.Empty n else take.Ok (drop_next g n next)) → ⊥) (λ e. no_empty) (λ e. no_ok)
      (take_by (λ p. p ≡ drop_put n) (λ q. q ≡ drop_take g n next) begins a h)

  -- a Busy answer, and an Overrun, show another seat in mid-call at one of the call's moments
  pub put_overlapped : (i seat : ℕ) (reason : Why) → EndsAt table g events i seat (answer.Put (put.Busy reason)) → IsOverlapped table g events seat i
  put_overlapped i seat reason x = overlapped i seat _ x (put_busy_never reason)

  pub take_overlapped : (i seat : ℕ) (reason : Why) → EndsAt table g events i seat (answer.Take (take.Busy reason)) → IsOverlapped table g events seat i
  take_overlapped i seat reason x = overlapped i seat _ x (λ n next begins. take_never (take.Busy reason) n next begins (λ e. cc) (λ e. cc))

  pub overrun_overlapped : (i seat place : ℕ) (now : Cursor) → EndsAt table g events i seat (answer.Take (take.Overrun place now)) → IsOverlapped table g events seat i
  overrun_overlapped i seat place now x = overlapped i seat _ x (λ n next begins. take_never (take.Overrun place now) n next begins (λ e. cc) (λ e. cc))
