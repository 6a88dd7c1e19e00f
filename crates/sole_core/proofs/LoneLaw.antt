-- A call that is done alone answers as one thread is answered.
use Rattle.std.proofs.Common.{◌≡◌, ◌≢◌, ℕ, suc, ◌+◌, ◌*◌, ◌/◌, ◌%◌, ◌<◌, ◌≤◌, ◌⊎◌, List, [], length, refl, sym, ap, ◌∙◌, subst, inl, inr, ⊎_elim, arith}
use Rattle.std.specs.Prelude.{Option, Some, None, slice_get, slice_index, slice_set}
use Rattle.std.specs.List.{AllByRecursion}
use Rattle.cursor_word.specs.Shape.{Grid, IsWithinLimits}
use Rattle.cursor_word.specs.Cursor.{most_puts, offset_span, packed, place_at, place_span}
use Rattle.cursor_word.specs.declared.cursor.Cursor.{Cursor}
use Rattle.rail.specs.declared.entry.Placed.{Placed}
use Rattle.std.proofs.lemmas.List.{set-get_or}
use Rattle.rail.specs.declared.answer.Answer.{Answer}
use Rattle.rail.specs.declared.answer.Answer.TheVariants as answer
use Rattle.rail.specs.declared.answer.Put.TheVariants as put
use Rattle.rail.specs.declared.answer.Take.TheVariants as take
use Rattle.rail.specs.declared.answer.Why.{Why}
use Rattle.machine.specs.declared.op.After.TheVariants.{Next, Done}
use Rattle.machine.specs.declared.event.Event.{Event}
use Rattle.machine.specs.declared.event.Start.{Start}
use Rattle.machine.specs.declared.event.Start.TheVariants as start
use Rattle.machine.specs.Steps as steps
use Rattle.machine.specs.Steps.{IsWide, Suits, begun, finds, view_after, words_after}
use Rattle.machine.specs.Moments.{EndsAt, IsCall, IsDoneAlone, IsMidCall, IsOverlapped, IsUnmixed, moment, phase_in, phase_of}
use Rattle.machine.proofs.Lists.{all_at, get_set, get_set_other, get_set_same, set_again}
use Rattle.machine.proofs.Runs.{moment_total}
use Rattle.machine.proofs.Calls.{phase_stays, rest_at, unmixed, view_at}
use Rattle.machine.proofs.Schedules.{ends_done}
use Rattle.std.proofs.lemmas.Bool.{cases_eq, cases_lt}
use Rattle.machine.proofs.Lone.{IsLoneRule, answers_alone, overlaps}
use Rattle.sole_core.specs.Types.{After, MachineState, View}
use Rattle.sole_core.specs.Table.{MayBegin, table}
use Rattle.sole_core.specs.declared.phase.SolePhase.{SolePhase}
use Rattle.sole_core.specs.PutSteps.{after, first_put}
use Rattle.sole_core.specs.TakeSteps.{committed_or_not, empty, first_take, next_cursor}
use Rattle.put_side.specs.Counts.{taken_count, taken_total}
use Rattle.sole_core.specs.Sound.{IsSoundAt, Knows, scene}
use Rattle.sole_core.specs.Stage.{stage, stage_of}
use Rattle.machine.specs.Invariant.{made_count, made_total}
use Rattle.put_side.specs.Cursors.{Front}
use Rattle.put_side.specs.PutTable.{stage_in}
use Rattle.put_side.proofs.Begins.{begins_away}
use Rattle.put_side.proofs.Made.{made_same}
use Rattle.sole_core.specs.Alone.{GoesOnAlone, IsAlone, IsStill}
use Rattle.sole_core.specs.Rest.{AnsweredAsOne}
use Rattle.put_side.specs.AsOne.{AnswersAlone, AnswersAsOne}
use Rattle.put_side.proofs.AsOne.{answers_kind, put_busy_never, take_busy_never}
use Rattle.put_side.proofs.LoneCalls as lone
use Rattle.sole_core.proofs.CallTable.{call_table}
use Rattle.sole_core.proofs.AloneCalls.{goes_alone, put_alone, take_alone}
use Rattle.sole_core.proofs.Frames.{quiet}
use Rattle.put_side.proofs.Sums.{sum_same}
use Rattle.put_side.proofs.Choices.{pick_equal, pick_less}
use Rattle.put_side.proofs.TakeWords.{seen_by}
use Rattle.sole_core.proofs.Starts.{begins_manned}
use Rattle.sole_core.proofs.Reached.{moment_sound}

-- a seat at rest that ends a call with nothing made or taken keeps the invariant
rests_again : (g : Grid) (front : Front) (next : ℕ) (ws : List ℕ) (vs : List View) (id : ℕ) (v v' : View) → IsSoundAt g front next ws vs → slice_get vs id ≡ Some v → v.phase ≡ None → v'.phase ≡ None → v'.made ≡ v.made → v'.taken ≡ v.taken → v'.entry ≡ v.entry
    → IsSoundAt g front next ws (slice_set vs id v')
rests_again g front next ws vs id v v' s at rest rest' made taken entry =
    quiet g front front next ws ws vs id v v' s at record { consumed = λ k. omega arith; committed = λ k. omega arith; made = made_same vs id v v' at made } (λ k. refl) s.unmoved taken
    (begins_away stage_of g front ws vs id v v' s.puts at (ap (stage_in stage) rest) made (ap (stage_in stage) rest') entry) s.near
    (subst (λ (o : Option SolePhase). Knows g (scene g next ws (slice_set vs id v')) v'.read o) (sym rest') tt)
    (λ q h. let z = sym rest' ∙ h in cc)

module _ (g : Grid) (n t seat : ℕ) (begins : Start) where
  abbrev Alone : List ℕ → List View → SolePhase → Type 0
  Alone ws vs p = IsAlone g n t ws vs seat p

  abbrev Lone : MachineState → SolePhase → Type 0
  Lone = lone.LoneState table call_table g seat begins Alone (AnswersAlone g n t) (AnswersAsOne g n t begins) (answers_kind g n t begins table)

  abbrev GoesAlone : List ℕ → List View → After → Type 0
  GoesAlone = lone.GoesAlone table call_table g seat begins Alone (AnswersAlone g n t) (AnswersAsOne g n t begins) (answers_kind g n t begins table)

  goes_so : (ws : List ℕ) (vs : List View) (b : After) → GoesOnAlone g n t ws vs seat b → GoesAlone ws vs b
  goes_so ws vs (Next p) h = h
  goes_so ws vs (Done a) h = h.0

  goes : IsWithinLimits g → n ≤ place_span g → (ws : List ℕ) (vs : List View) (v : View) (p : SolePhase) → Alone ws vs p → slice_get vs seat ≡ Some v → v.phase ≡ Some p
      → GoesAlone (words_after table g ws v p) (slice_set vs seat (view_after table g ws v p)) (after g p (finds table g ws v p))
  goes limits room ws vs v p alone at e = goes_so _ _ (after g p (finds table g ws v p)) (goes_alone g n t ws vs seat v p limits alone room at e)

  -- another seat's turn
  abbrev AfterOther : MachineState → SolePhase → ℕ → Type 0
  AfterOther w p other = Lone w p ⊎ IsMidCall (phase_in (slice_get w.views other))

  -- it ended a call by its first step, with nothing made or taken
  other_rests : (w : MachineState) (p : SolePhase) (other : ℕ) (u v' : View) → other ≢ seat → Lone w p → slice_get w.views other ≡ Some u → u.phase ≡ None → v'.phase ≡ None → v'.made ≡ u.made → v'.taken ≡ u.taken → v'.entry ≡ u.entry
      → Lone (record { words = w.words; views = slice_set w.views other v' }) p
  other_rests w p other u v' apart l at rest rest' made taken entry =
      let a = l.alone in
      record {
        view = l.view;
        at = get_set_other w.views other seat v' (λ e. apart (sym e)) ∙ l.at;
        is = l.is;
        alone = record {
          front = a.front;
          next = a.next;
          sound = rests_again g a.front a.next w.words w.views other u v' a.sound at rest rest' made taken entry;
          manned = begins_manned g a.front a.next w.words w.views other u at rest v' a.manned;
          others = λ j x d e. ⊎_elim (λ q. subst (λ (y : View). y.phase ≡ None) q.1 rest') (λ q. a.others j x d q.1) (get_set w.views other j v' x e);
          made = sum_same made_count w.views other u v' at (ap (λ (items : List Placed). length items) made) ∙ a.made;
          taken = sum_same taken_count w.views other u v' at (ap (λ (items : List Placed). length items) taken) ∙ a.taken;
          knows = a.knows;
        };
        kind = l.kind;
      }

  -- it began a call, and is in it
  other_mid : (w : MachineState) (p : SolePhase) (other : ℕ) (ws : List ℕ) (u v' : View) (q : SolePhase) → slice_get w.views other ≡ Some u → v'.phase ≡ Some q → AfterOther (record { words = ws; views = slice_set w.views other v' }) p other
  other_mid w p other ws u v' q at is = inr (subst IsMidCall (sym (ap phase_in (get_set_same w.views other u v' at) ∙ is)) tt)

  other_take : (w : MachineState) (p : SolePhase) (other : ℕ) (u : View) → other ≢ seat → Lone w p → slice_get w.views other ≡ Some u → u.phase ≡ None
      → (let b = begun table g u None start.Take in let first = first_take g u.taken in AfterOther (record { words = words_after table g w.words b first; views = slice_set w.views other (view_after table g w.words b first) }) p other)
  other_take w p other u apart l at rest =
      let b : View = begun table g u None start.Take in
      let r : Cursor = next_cursor g (length u.taken) in
      let i : ℕ = 3 + 4 * (r.block % g.blocks) in
      let x : ℕ = slice_index w.words i in
      let P : After → Type 0 = λ a. AfterOther (record { words = w.words; views = slice_set w.views other (seen_by b a [] x) }) p other in
      let none : P (empty g r) = inl (other_rests w p other u (seen_by b (empty g r) [] x) apart l at rest refl refl refl refl) in
      let on : (q : SolePhase) → P (Next q) = λ q. other_mid w p other w.words u (seen_by b (Next q) [] x) q at refl in
      subst (λ (ws : List ℕ). AfterOther (record { words = ws; views = slice_set w.views other (seen_by b (committed_or_not g r x) [] x) }) p other) (sym (set-get_or w.words i 0))
      (pick_equal P x (packed r) _ _ (λ e. none) (λ ne. pick_less P (x / offset_span) r.block _ _ (λ less. none) (λ ge. pick_equal P (x % offset_span) g.size _ _ (λ e. on _) (λ e. on _))))

  other_moves : (w : MachineState) (p : SolePhase) (other : ℕ) (u : View) (s : Start) (ph : Option SolePhase) → other ≢ seat → Lone w p → slice_get w.views other ≡ Some u → u.phase ≡ ph → ph ≡ None
      → (let m = steps.moves table g w.words (begun table g u ph s) (begun table g u ph s).phase in AfterOther (record { words = m.words; views = slice_set w.views other m.view }) p other)
  other_moves w p other u s (Some q) apart l at e none = cc
  other_moves w p other u (start.Put entry) None apart l at e none = other_mid w p other _ u _ _ at refl
  other_moves w p other u start.Take None apart l at e none = other_take w p other u apart l at e
  other_moves w p other u start.Go None apart l at e none =
      subst (λ (o : Option SolePhase). (let m = steps.moves table g w.words u o in AfterOther (record { words = m.words; views = slice_set w.views other m.view }) p other)) (sym e)
      (inl (subst (λ (vs : List View). Lone (record { words = w.words; views = vs }) p) (sym (set_again w.views other u at)) l))

  other_view : (w : MachineState) (p : SolePhase) (other : ℕ) (s : Start) (o : Option View) → other ≢ seat → Lone w p → slice_get w.views other ≡ o → AfterOther (steps.turn table g w other s (slice_get w.views other)) p other
  other_view w p other s None apart l at = inl (subst (λ (o : Option View). Lone (steps.turn table g w other s o) p) (sym at) l)
  other_view w p other s (Some u) apart l at = subst (λ (o : Option View). AfterOther (steps.turn table g w other s o) p other) (sym at) (other_moves w p other u s u.phase apart l at refl (l.alone.others other u apart at))

module _ (g : Grid) (events : List Event) (limits : IsWithinLimits g) (suits : AllByRecursion (Suits table g) events) (few : length events < most_puts g) where
  still_at : (n : ℕ) → ((j : ℕ) → phase_of table g events n j ≡ None) → (let w = moment table g events n in IsStill g (made_total w.views) (taken_total w.views) w.words w.views)
  still_at n rest =
      let s = moment_sound g events limits suits few n in
      record { front = s.front; next = s.next; sound = s.sound; manned = s.manned; rest = rest_at (moment table g events n).views rest; made = refl; taken = refl }

  module _ (seat n m : ℕ) (begins : Start) (call : IsCall table g events seat n m begins) where
    own_event : Suits table g (record { seat = seat; start = begins })
    own_event = all_at (Suits table g) events n _ suits call.event

    -- where all seats are at rest when it begins, and no other is in mid-call at one of its moments
    pub rested_answers : ((j : ℕ) → phase_of table g events n j ≡ None) → IsUnmixed table g events seat n m → AnsweredAsOne g events seat n m begins
    rested_answers rest alone =
        let w : MachineState = moment table g events n in
        let v = view_at table g events n seat own_event.seat in
        let N : ℕ = made_total w.views in
        let T : ℕ = taken_total w.views in
        let room : N ≤ place_span g = moment_total table g events n few in
        let rule : IsLoneRule table g seat begins (AnswersAsOne g N T begins) (Lone g N T seat begins) w =
        record {
          first = lone.first_step table call_table g seat begins (Alone g N T seat begins) (AnswersAlone g N T) (AnswersAsOne g N T begins) (answers_kind g N T begins table) (goes g N T seat begins limits room) w v.0 v.1
              (λ entry is. put_alone g limits N T w.words w.views seat v.0 (still_at n rest) v.1 entry (subst (IsWide g) is own_event.wide))
              (λ is. take_alone g limits N T w.words w.views seat v.0 (still_at n rest) v.1 (subst (MayBegin g seat) is own_event.may_begin))
              (ap phase_in (sym v.1) ∙ call.rested) call.is_begun;
          stands = λ w p l. ap phase_in l.at ∙ l.is;
          own = lone.own_step table call_table g seat begins (Alone g N T seat begins) (AnswersAlone g N T) (AnswersAsOne g N T begins) (answers_kind g N T begins table) (goes g N T seat begins limits room);
          other = λ w p j s apart l. other_view g N T seat begins w p j s (slice_get w.views j) apart l refl;
        } in
        answers_alone table g events seat n m begins call (AnswersAsOne g N T begins) (Lone g N T seat begins) rule alone

    pub alone_answers : IsDoneAlone table g events seat n m → AnsweredAsOne g events seat n m begins
    alone_answers alone = rested_answers alone.rest (unmixed table g events seat n m alone)

  -- no call answers Busy by its first step
  abbrev IsBusy : Answer → Type 0
  IsBusy (answer.Put (put.Busy reason)) = Unit {0}
  IsBusy (answer.Take (take.Busy reason)) = Unit {0}
  IsBusy a = ⊥

  com_not_busy : (r : Cursor) (found : ℕ) (a : Answer) → committed_or_not g r found ≡ Done a → IsBusy a → ⊥
  com_not_busy r found a =
      let P : After → Type 0 = λ b. b ≡ Done a → IsBusy a → ⊥ in
      let none : P (empty g r) = λ e. let z : answer.Take (take.Empty (place_at g r)) ≡ a = cc in subst (λ (c : Answer). IsBusy c → ⊥) z (λ h. h) in
      pick_equal P found (packed r) _ _ (λ e. none) (λ ne. pick_less P (found / offset_span) r.block _ _ (λ l. none) (λ l. pick_equal P (found % offset_span) g.size _ _ (λ e q h. cc) (λ e q h. cc)))

  first_not_busy : (u : View) (ph : Option SolePhase) (s : Start) (p : SolePhase) (found : ℕ) (a : Answer) → u.phase ≡ ph → ph ≡ None → (begun table g u ph s).phase ≡ Some p → after g p found ≡ Done a → IsBusy a → ⊥
  first_not_busy u (Some q) s p found a e none is ends busy = cc
  first_not_busy u None (start.Put entry) p found a e none is ends busy = let z : first_put ≡ p = cc in subst (λ (q : SolePhase). after g q found ≡ Done a → ⊥) z (λ h. cc) ends
  first_not_busy u None start.Take p found a e none is ends busy = let z : first_take g u.taken ≡ p = cc in subst (λ (q : SolePhase). after g q found ≡ Done a → IsBusy a → ⊥) z (com_not_busy (next_cursor g (length u.taken)) found a) ends busy
  first_not_busy u None start.Go p found a e none is ends busy = let z = sym e ∙ is in cc

  module _ (i seat : ℕ) (a : Answer) (x : EndsAt table g events i seat a) (busy : IsBusy a) where
    -- the call began by an earlier event, where all seats were at rest if no other was in mid-call at one of its moments
    began_earlier : (n : ℕ) (begins : Start) → IsCall table g events seat n (suc i) begins → n < i
    began_earlier n begins call = ⊎_elim (λ l. l)
        (λ l. let e : n ≡ i = (let q = call.later in omega arith) in
        let rest : x.before.phase ≡ None = ap phase_in (sym x.view_before) ∙ ap (λ (k : ℕ). phase_of table g events k seat) (sym e) ∙ call.rested in
        absurd (first_not_busy x.before x.before.phase x.event.start x.phase _ a refl rest x.is_step (ends_done table g events i seat a x) busy))
        (cases_lt n i)

    all_rested : (n : ℕ) (begins : Start) → IsCall table g events seat n (suc i) begins → IsUnmixed table g events seat n (suc i) → (j : ℕ) → phase_of table g events n j ≡ None
    all_rested n begins call alone j =
        ⊎_elim (λ same. ap (phase_of table g events n) same ∙ call.rested)
        (λ apart. let l = began_earlier n begins call in
        sym (phase_stays table g events n j (λ e h q. apart (let z : record { seat = seat; start = begins } ≡ e = (let y = call.event in cc) in sym (ap (λ (y : Event). y.seat) z ∙ q)))) ∙ alone (suc n) j (omega arith) (omega arith) apart)
        (cases_eq j seat)

    overlapped : ((n t : ℕ) (begins : Start) → AnswersAsOne g n t begins (Some a) → ⊥) → IsOverlapped table g events seat i
    overlapped never = overlaps table g events i seat a x
        (λ n begins call alone is. never _ _ begins (subst (AnswersAsOne g (made_total (moment table g events n).views) (taken_total (moment table g events n).views) begins) is (rested_answers seat n (suc i) begins call (all_rested n begins call alone) alone)))

  -- a Busy answer shows another seat in mid-call at one of the call's moments
  pub put_overlapped : (i seat : ℕ) (reason : Why) → EndsAt table g events i seat (answer.Put (put.Busy reason)) → IsOverlapped table g events seat i
  put_overlapped i seat reason x = overlapped i seat _ x tt (λ n t begins. put_busy_never g n t begins reason)

  pub take_overlapped : (i seat : ℕ) (reason : Why) → EndsAt table g events i seat (answer.Take (take.Busy reason)) → IsOverlapped table g events seat i
  take_overlapped i seat reason x = overlapped i seat _ x tt (λ n t begins. take_busy_never g n t begins reason)
