-- How far takes have come along a schedule: what was answered was reserved, and what was taken was answered.
use Rattle.std.proofs.Common.{◌≡◌, ℕ, zero, suc, ◌+◌, ◌*◌, ◌%◌, ◌<◌, ◌≤◌, max, List, [], ◌∷◌, ◌++◌, length, refl, sym, ap, ◌∙◌, subst, inl, inr, ⊎_elim, arith}
use Rattle.std.specs.Prelude.{Option, Some, None, slice_get, slice_set, slice_index}
use Rattle.std.specs.List.{AllByRecursion, sum_by}
use Rattle.std.proofs.lemmas.Bool.{cases_lt}
use Rattle.std.proofs.lemmas.List.{append-nil, map-append, set-get_or}
use Rattle.std.proofs.lemmas.List.Concat.{flat_map-append}
use Rattle.std.proofs.lemmas.List.Folds.{sum_by-replicate}
use Rattle.std.proofs.lemmas.Nat.{mod_below}
use Rattle.cursor_word.specs.Shape.{Grid, IsWithinLimits}
use Rattle.cursor_word.specs.Cursor.{most_block, place_span, most_puts}
use Rattle.rail.specs.Items.{placed, places}
use Rattle.rail.specs.Sequential.{beyond}
use Rattle.rail.specs.declared.answer.Answer.TheVariants as answer
use Rattle.rail.specs.declared.answer.Take.TheVariants as take
use Rattle.rail.specs.declared.entry.Placed.{Placed}
use Rattle.machine.specs.declared.event.Event.{Event}
use Rattle.machine.specs.declared.event.Start.{Start}
use Rattle.machine.specs.declared.event.Start.TheVariants as start
use Rattle.machine.specs.declared.op.Op.{Op}
use Rattle.machine.specs.declared.op.After.TheVariants.{Next, Done}
use Rattle.machine.specs.Invariant.{made_total}
use Rattle.machine.specs.Moments.{Ended, ended, ended_by, ended_by_turn, ended_from, ended_with, moment}
use Rattle.machine.specs.Steps.{IsWide, Suits, begun, finds, moves, resting, start_state, taken_after, turn, view_after, words_after}
use Rattle.machine.proofs.Lists.{all_at, get_set_same, set_again, set_twice, sum_set}
use Rattle.machine.proofs.Runs.{moment_total, run_next, stepped}
use Rattle.machine.proofs.Turns.{begun_made, total_same}
use Rattle.put_side.specs.Counts.{one_at, takes, times}
use Rattle.put_side.specs.PutTable.{IsShared}
use Rattle.put_side.specs.Cursors.{put_cursors, reserved_word}
use Rattle.put_side.specs.PutTable.{stage_of}
use Rattle.put_side.proofs.Commits.{one_apart}
use Rattle.put_side.proofs.Moves.{IsMovedByPuts, after_op, moves_by}
use Rattle.put_side.proofs.Few.{last_small}
use Rattle.put_side.proofs.Sums.{sum_same, times_push}
use Rattle.drop_core.specs.declared.phase.DropPhase.{DropPhase}
use Rattle.drop_core.specs.declared.phase.DropPhase.TheVariants.{Put, SeeM, Take}
use Rattle.drop_core.specs.declared.take_phase.DropTake.{DropTake}
use Rattle.drop_core.specs.declared.take_phase.DropTake.TheVariants.{HeadC, SeeRes, SeeCom, SeeAll, Reserve, Read, Verify, NextCom, Jump, OpenR, RaiseC}
use Rattle.drop_core.specs.Types.{After, MachineState, View}
use Rattle.drop_core.specs.PutSteps.{after}
use Rattle.drop_core.specs.Steps.{table}
use Rattle.drop_core.specs.Stage.{stage}
use Rattle.drop_core.specs.Words.{cursors}
use Rattle.drop_core.specs.Sound.{IsSound, IsSoundAt}
use Rattle.drop_core.specs.Rest.{next_place, place_answered, places_answered}
use Rattle.drop_core.specs.Alone.{IsBehind, IsNext, next_after}
use Rattle.drop_core.proofs.CallTable.{puts}
use Rattle.drop_core.proofs.Keeping.{keeps}
use Rattle.drop_core.proofs.Reached.{moment_sound}
use Rattle.put_side.proofs.Raises.{raised_to}
use Rattle.put_side.specs.Cursors.{Front}
use Rattle.drop_core.proofs.Outcomes.{TellsNext, step_tells}

-- the words that takes move only grow
pub record TakesGrow (g : Grid) (ws ws' : List ℕ) : Type 0 where
  pub consumer : slice_index ws 1 ≤ slice_index ws' 1
  pub reserved : (k : ℕ) → reserved_word g ws k ≤ reserved_word g ws' k

module _ (g : Grid) (f : Front) (ws : List ℕ) (vs : List View) (limits : IsWithinLimits g) (s : IsSoundAt g f ws vs) (small : f.last < most_block) (v : View) where
  loads : (i : ℕ) → TakesGrow g ws (slice_set ws i (slice_index ws i))
  loads i = subst (TakesGrow g ws) (sym (set-get_or ws i 0)) record { consumer = omega arith; reserved = λ k. omega arith }

  raises : (i x : ℕ) → i < length ws → TakesGrow g ws (slice_set ws i (max (slice_index ws i) x))
  raises i x long = record { consumer = raised_to ws i _ 1 long (omega arith); reserved = λ k. raised_to ws i _ _ long (omega arith) }

  within : (k : ℕ) → 4 + 4 * (k % g.blocks) < length ws
  within k = let m = mod_below k g.blocks (omega (arith, limits.blocks_from)) in omega (arith, s.puts.all)

  shared : (p : DropPhase) → IsShared (stage p) → TakesGrow g ws (words_after table g ws v p)
  shared p h =
      let grown : IsMovedByPuts g ws (words_after table g ws v p) = subst (λ (o : Op). IsMovedByPuts g ws (after_op ws o)) (sym (puts.want g p v.entry h)) (moves_by (stage_of stage) g limits f ws vs s.puts.places (omega (arith, s.puts.all)) small (stage p) v.entry h) in
      record { consumer = let e = grown.consumer in omega arith; reserved = λ k. let e = grown.reserved k in omega arith }

  take_grows : (q : DropTake) → TakesGrow g ws (words_after table g ws v (Take q))
  take_grows (HeadC turn first) = loads _
  take_grows (SeeRes turn first head) = loads _
  take_grows (SeeCom turn r) = loads _
  take_grows (SeeAll r m) = loads _
  take_grows (Reserve r) = raises _ _ (within r.block)
  take_grows (Read at next) = loads _
  take_grows (Verify at) = loads _
  take_grows (NextCom sp) = loads _
  take_grows (Jump from) = loads _
  take_grows (OpenR from to) = raises _ _ (within to)
  take_grows (RaiseC from to) = raises _ _ (omega (arith, s.puts.all))

  pub takes_grow : (p : DropPhase) → TakesGrow g ws (words_after table g ws v p)
  takes_grow (SeeM full) = loads _
  takes_grow (Take q) = take_grows q
  takes_grow (Put q) = shared (Put q) tt

behind_later : (g : Grid) (ws ws' : List ℕ) (p : ℕ) → TakesGrow g ws ws' → IsBehind g (cursors g ws) p → IsBehind g (cursors g ws') p
behind_later g ws ws' p grow b =
    record { block = b.block; offset = b.offset; from = b.from; within = b.within; is_place = b.is_place; gone = let r = grow.reserved b.block in let h = b.gone in omega arith; to = let c = grow.consumer in let h = b.to in omega arith }

-- the next place, with what follows a step
abbrev pub next_by : ℕ → After → ℕ
next_by next (Next p) = next
next_by next (Done a) = next_after next a

module _ (g : Grid) (ws ws' : List ℕ) (vs : List View) (id : ℕ) (v v' : View) (at : slice_get vs id ≡ Some v) (grow : TakesGrow g ws ws') where
  abbrev vs' : List View
  vs' = slice_set vs id v'

  abbrev Before : ℕ → Type 0
  Before next = IsNext g (cursors g ws) vs next

  abbrev Then : ℕ → Type 0
  Then next = IsNext g (cursors g ws') vs' next

  -- where nothing is answered
  stays : (next : ℕ) → v'.taken ≡ v.taken → Before next → Then next
  stays next same k = record {
    taken = λ p le. sum_same (takes p) vs id v v' at (ap (λ (l : List Placed). times p (places l)) same) ∙ k.taken p le;
    behind = ⊎_elim (λ e. inl e) (λ x. inr (x.0, x.1, behind_later g ws ws' x.0 grow x.2)) k.behind;
  }

  -- where a place is answered Ok, or Overrun
  moves_on : (next place : ℕ) → ((p : ℕ) → max next (max (place + 1) 0) ≤ p → sum_by (takes p) vs' ≡ 0) → IsBehind g (cursors g ws) place → Before next → Then (max next (max (place + 1) 0))
  moves_on next place taken here k = record {
    taken = taken;
    behind = ⊎_elim (λ l. inr (place, omega arith, behind_later g ws ws' place grow here))
        (λ l. ⊎_elim (λ e. absurd (omega arith)) (λ x. inr (x.0, omega (arith, x.1), behind_later g ws ws' x.0 grow x.2)) k.behind)
        (cases_lt next (place + 1));
  }

  taken_more : (next place p : ℕ) (read : List ℕ) → v'.taken ≡ v.taken ++ placed place read ∷ [] → Before next → max next (max (place + 1) 0) ≤ p → sum_by (takes p) vs' ≡ 0
  taken_more next place p read more k le =
      let n = sum_set (takes p) vs id v v' at in
      let t : takes p v' ≡ takes p v + one_at place p = ap (λ (l : List Placed). times p (places l)) more ∙ ap (times p) (map-append (λ (z : Placed). z.place) v.taken _) ∙ times_push p place (places v.taken) in
      let o = one_apart place p (λ e. omega arith) in
      let z = k.taken p (omega arith) in omega arith

module _ (g : Grid) (f : Front) (ws : List ℕ) (vs : List View) (limits : IsWithinLimits g) (s : IsSoundAt g f ws vs) (room : made_total vs ≤ place_span g) (id : ℕ) (v : View) (at : slice_get vs id ≡ Some v) (p : DropPhase) (e : v.phase ≡ Some p) where
  abbrev old : ℕ
  old = finds table g ws v p

  abbrev here : MachineState
  here = record { words = ws; views = vs }

  abbrev Then_by : After → Type 0
  Then_by b = (next : ℕ) → IsNext g (cursors g ws) vs next → IsNext g (cursors g (words_after table g ws v p)) (slice_set vs id (view_after table g ws v p)) (next_by next b)

  grown : TakesGrow g ws (words_after table g ws v p)
  grown = takes_grow g f ws vs limits s (last_small (stage_of stage) g f (put_cursors g ws) vs s.puts.places limits room) v p

  still : (next : ℕ) → (view_after table g ws v p).taken ≡ v.taken → IsNext g (cursors g ws) vs next → IsNext g (cursors g (words_after table g ws v p)) (slice_set vs id (view_after table g ws v p)) next
  still next same k = stays g ws (words_after table g ws v p) vs id v (view_after table g ws v p) at grown next same k

  rests : (next : ℕ) → (view_after table g ws v p).taken ≡ v.taken → IsNext g (cursors g ws) vs next → IsNext g (cursors g (words_after table g ws v p)) (slice_set vs id (view_after table g ws v p)) (max next 0)
  rests next same k = subst (λ (m : ℕ). IsNext g (cursors g (words_after table g ws v p)) (slice_set vs id (view_after table g ws v p)) m) (let z : next ≡ max next 0 = omega arith in z) (still next same k)

  by_after : (b : After) → after g p old ≡ b → TellsNext g here p b → Then_by b
  by_after (Next q) is told next k = still next (ap (taken_after v.taken v.read) is) k
  by_after (Done (answer.Put x)) is told next k = rests next (ap (taken_after v.taken v.read) is) k
  by_after (Done (answer.Take (take.Empty place))) is told next k = rests next (ap (taken_after v.taken v.read) is) k
  by_after (Done (answer.Take (take.Busy reason))) is told next k = rests next (ap (taken_after v.taken v.read) is) k
  by_after (Done (answer.Take (take.Ok place))) is told next k =
      let ws' : List ℕ = words_after table g ws v p in
      let v' : View = view_after table g ws v p in
      moves_on g ws ws' vs id v v' at grown next place (λ q le. taken_more g ws ws' vs id v v' at grown next place q v.read (ap (taken_after v.taken v.read) is) k le) told k
  by_after (Done (answer.Take (take.Overrun place now))) is told next k =
      let ws' : List ℕ = words_after table g ws v p in
      let v' : View = view_after table g ws v p in
      let same : v'.taken ≡ v.taken = ap (taken_after v.taken v.read) is in
      moves_on g ws ws' vs id v v' at grown next place (λ q le. sum_same (takes q) vs id v v' at (ap (λ (l : List Placed). times q (places l)) same) ∙ k.taken q (omega arith)) told.1 k

  -- a step, by what follows it
  pub next_step : Then_by (after g p old)
  next_step = by_after (after g p old) refl (step_tells g f ws vs limits s id v at p e)

-- the next place of a list of ended calls, with some more
abbrev next_of : List Ended → ℕ
next_of calls = beyond (places_answered calls)

pub beyond_append : (xs ys : List ℕ) → beyond (xs ++ ys) ≡ max (beyond xs) (beyond ys)
beyond_append [] ys = omega arith
beyond_append (x ∷ xs) ys = let r = beyond_append xs ys in omega arith

next_more : (calls more : List Ended) → next_of (calls ++ more) ≡ max (next_of calls) (next_of more)
next_more calls more = ap beyond (flat_map-append (λ (call : Ended). place_answered call.answer) calls more) ∙ beyond_append (places_answered calls) (places_answered more)

more_by : (seat next : ℕ) (b : After) → next_by next b ≡ max next (next_of (ended_with seat b))
more_by seat next (Next p) = omega arith
more_by seat next (Done a) = ap (λ (l : List ℕ). max next (beyond l)) (sym (append-nil (place_answered a)))

module _ (g : Grid) (limits : IsWithinLimits g) where
  abbrev Reached : MachineState → ℕ → Type 0
  Reached w next = IsNext g (cursors g w.words) w.views next

  -- a seat at its turn, with the call begun
  module _ (ws : List ℕ) (vs : List View) (id : ℕ) (v b : View) (at : slice_get vs id ≡ Some v) (sound : IsSound g ws (slice_set vs id b)) (room : made_total (slice_set vs id b) ≤ place_span g) (next : ℕ) (k : IsNext g (cursors g ws) (slice_set vs id b) next) where
    moved : (o : Option DropPhase) → b.phase ≡ o → (let m = moves table g ws b o in Reached (record { words = m.words; views = slice_set vs id m.view }) (max next (next_of (ended_from table g ws id b o))))
    moved None e = subst (λ (m : ℕ). IsNext g (cursors g ws) (slice_set vs id b) m) (let z : next ≡ max next 0 = omega arith in z) k
    moved (Some p) e =
        let here = get_set_same vs id v b at in
        let n = next_step g sound.front ws (slice_set vs id b) limits sound.at room id b here p e next k in
        subst (λ (m : ℕ). IsNext g (cursors g (words_after table g ws b p)) (slice_set vs id (view_after table g ws b p)) m) (more_by id next (after g p (finds table g ws b p)))
        (subst (λ (us : List View). IsNext g (cursors g (words_after table g ws b p)) us (next_by next (after g p (finds table g ws b p)))) (set_twice vs id b (view_after table g ws b p)) n)

  begun_sound : (ws : List ℕ) (vs : List View) (id : ℕ) (v : View) (b : Start) (ph : Option DropPhase) → IsSound g ws vs → slice_get vs id ≡ Some v → v.phase ≡ ph → IsWide g b → IsSound g ws (slice_set vs id (begun table g v ph b))
  begun_sound ws vs id v b (Some p) s at e wide = subst (IsSound g ws) (sym (set_again vs id v at)) s
  begun_sound ws vs id v b None s at e wide = keeps.begins g ws vs id v b limits s at e wide tt

  begun_taken : (v : View) (b : Start) (ph : Option DropPhase) → (begun table g v ph b).taken ≡ v.taken
  begun_taken v b (Some p) = refl
  begun_taken v (start.Put entry) None = refl
  begun_taken v start.Take None = refl
  begun_taken v start.Go None = refl

  turn_next : (w : MachineState) (id : ℕ) (b : Start) (o : Option View) (next : ℕ) → IsSound g w.words w.views → made_total w.views ≤ place_span g → IsWide g b → slice_get w.views id ≡ o → Reached w next
      → Reached (turn table g w id b o) (max next (next_of (ended_by_turn table g w.words id b o)))
  turn_next w id b None next s room wide at k = subst (Reached w) (let z : next ≡ max next 0 = omega arith in z) k
  turn_next w id b (Some v) next s room wide at k =
      let u : View = begun table g v v.phase b in
      let same = begun_taken v b v.phase in
      let total = total_same w.views id v u at (begun_made table g v v.phase b) in
      let there : IsNext g (cursors g w.words) (slice_set w.views id u) next = record {
        taken = λ p le. sum_same (takes p) w.views id v u at (ap (λ (l : List Placed). times p (places l)) same) ∙ k.taken p le;
        behind = k.behind;
      } in
      moved w.words w.views id v u at (begun_sound w.words w.views id v b v.phase s at refl wide) (omega arith) next there u.phase refl

  event_next : (w : MachineState) (o : Option Event) (next : ℕ) → IsSound g w.words w.views → made_total w.views ≤ place_span g → ((e : Event) → o ≡ Some e → Suits table g e) → Reached w next
      → Reached (stepped table g w o) (max next (next_of (ended_by table g w o)))
  event_next w None next s room suits k = subst (Reached w) (let z : next ≡ max next 0 = omega arith in z) k
  event_next w (Some e) next s room suits k = turn_next w e.seat e.start (slice_get w.views e.seat) next s room (suits e refl).wide refl k

  start_next : Reached (start_state DropPhase g) 0
  start_next = record { taken = λ p le. let z = sum_by-replicate (takes p) g.seats (resting DropPhase g) in let o : takes p (resting DropPhase g) ≡ 0 = refl in let m = ap (λ (n : ℕ). g.seats * n) o in omega arith; behind = inl refl }

-- how far takes have come at each moment
pub moment_next : (g : Grid) (events : List Event) → IsWithinLimits g → AllByRecursion (Suits table g) events → length events < most_puts g → (n : ℕ) → (let w = moment table g events n in IsNext g (cursors g w.words) w.views (next_place g events n))
moment_next g events limits suits few zero = start_next g limits
moment_next g events limits suits few (suc n) =
    let w : MachineState = moment table g events n in
    let more : List Ended = ended_by table g w (slice_get events n) in
    subst (λ (m : ℕ). (let u = moment table g events (suc n) in IsNext g (cursors g u.words) u.views m)) (sym (next_more (ended table g events n) more))
    (subst (λ (u : MachineState). IsNext g (cursors g u.words) u.views (max (next_place g events n) (next_of more))) (sym (run_next table g (start_state DropPhase g) events n))
    (event_next g limits w (slice_get events n) (next_place g events n) (moment_sound g events limits suits few n) (moment_total table g events n few) (λ e h. all_at (Suits table g) events n e suits h) (moment_next g events limits suits few n)))
