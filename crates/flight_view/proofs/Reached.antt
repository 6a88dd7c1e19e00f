-- What holds of each seat's views at each moment of a schedule.
use Rattle.std.proofs.Common.{◌≡◌, ℕ, suc, ◌+◌, ◌-◌, ◌*◌, ◌<◌, ◌≤◌, List, [], ◌∷◌, ◌++◌, length, length-append, take, refl, sym, ap, ◌∙◌, subst, ⊎_elim, arith}
use Rattle.std.specs.Prelude.{All, Contains, Option, Some, None, slice_get, slice_index}
use Rattle.std.specs.List.{AllByRecursion}
use Rattle.std.proofs.lemmas.List.{length-replicate, length-set, take_all}
use Rattle.std.proofs.lemmas.Bool.{cases_lt}
use Rattle.std.proofs.lemmas.List.Elements.{Contains-append_cases}
use Rattle.std.proofs.Math.Nat.{mul-le-mul_right}
use Rattle.std.proofs.lemmas.Option.{slice_get-get_or}
use Rattle.cursor_word.specs.Shape.{Grid, IsWithinLimits}
use Rattle.cursor_word.specs.Cursor.{cursor_of, most_puts}
use Rattle.cursor_word.specs.declared.cursor.Cursor.{Cursor}
use Rattle.cursor_word.proofs.Places.{offset_of_place, place_of_cursor}
use Rattle.rail.specs.declared.entry.Placed.{Placed}
use Rattle.rail.specs.Items.{IsRising, places}
use Rattle.step_log.specs.declared.log.Step.{Step}
use Rattle.step_log.specs.Log.{loaded}
use Rattle.machine.specs.declared.event.Event.{Event}
use Rattle.machine.specs.Steps.{Suits, resting, run, start_state, step, turn, turned, view_of}
use Rattle.machine.specs.Moments.{moment}
use Rattle.machine.proofs.Lists.{get_replicate, get_set}
use Rattle.machine.proofs.Kept.{made_below}
use Rattle.machine.proofs.Runs.{moment_total, run_push}
use Rattle.put_side.specs.Entries.{IsMade}
use Rattle.put_side.specs.Gathered.{all_made}
use Rattle.drop_core.specs.declared.phase.DropPhase.{DropPhase}
use Rattle.drop_core.specs.Types.{MachineState, View as SeatView}
use Rattle.drop_core.specs.Steps.{table}
use Rattle.drop_core.proofs.Reached.{moment_sound}
use Rattle.block_looks.specs.Laws.{LooksAreKept}
use Rattle.flight_view.specs.declared.schedule.ViewEvent.{ViewEvent}
use Rattle.flight_view.specs.declared.schedule.ViewEvent.TheVariants as event
use Rattle.flight_view.specs.declared.walking.View.{View}
use Rattle.flight_view.specs.Walks.{walk_items}
use Rattle.flight_view.specs.Views.{IsCaused, IsShown, ShowsFrom, gap_blocks}
use Rattle.flight_view.specs.Schedules.{AreShown, HasLoaded, HasStepped, HasViewed, Leads, Moment, RunsTo, SuitsView, Viewer, Views, no_view, start_moment}
use Rattle.flight_view.specs.Promised.{IsAccepted, IsReusedGap, ShowsNewest, ShowsThen}
use Rattle.flight_view.specs.Viewers.{IsGood}
use Rattle.flight_view.proofs.Later.{IsLater, turn_later}
use Rattle.flight_view.proofs.Loaded.{DidSince, since_more, since_until}
use Rattle.flight_view.proofs.LookSteps.{some_seat}
use Rattle.flight_view.proofs.Reuse.{allocated_to, last_opened}
use Rattle.flight_view.proofs.Viewed.{WalkViewed, gaps_later, walk_viewed}

-- what all seats have made, some seat has
record MadeBy (views : List SeatView) (item : Placed) : Type 0 where
  pub seat : ℕ
  pub view : SeatView
  pub at : slice_get views seat ≡ Some view
  pub made : Contains view.made item

made_by : (views : List SeatView) (item : Placed) → Contains (all_made views) item → MadeBy views item
made_by [] item h = absurd (let l = h.1 in omega arith)
made_by (v ∷ vs) item h =
    ⊎_elim (λ own. record { seat = 0; view = v; at = refl; made = own })
    (λ other. let m = made_by vs item other in record { seat = suc m.seat; view = m.view; at = m.at; made = m.made })
    (Contains-append_cases v.made (all_made vs) item h)

suits_more : {X : Type 0} (P : X → Type 0) (xs : List X) (x : X) → AllByRecursion P xs → P x → AllByRecursion P (xs ++ x ∷ [])
suits_more P [] x all h = (h, tt)
suits_more P (y ∷ ys) x all h = (all.0, suits_more P ys x all.1 h)

module _ (g : Grid) where
  turn_all : (w : MachineState) (e : Event) (o : Option SeatView) → length (turn table g w e.seat e.start o).views ≡ length w.views
  turn_all w e None = refl
  turn_all w e (Some v) = length-set w.views e.seat (turned table g w.words v e.start).view

  run_all : (w : MachineState) (es : List Event) → length (run table g w es).views ≡ length w.views
  run_all w [] = refl
  run_all w (e ∷ es) = run_all (step table g w e) es ∙ turn_all w e (slice_get w.views e.seat)

  -- the queue is where a schedule of calls leads
  pub record IsQueue (count : ℕ) (w : MachineState) : Type 0 where
    pub events : List Event
    pub suits : AllByRecursion (Suits table g) events
    pub few : length events ≤ count
    pub is : w ≡ run table g (start_state DropPhase g) events

  -- what was proved of a view stays
  pub record IsView (w : MachineState) (view : View) : Type 0 where
    pub accepted : IsAccepted w view
    pub rising : IsRising (places view.items.items)
    pub gaps : IsRising (gap_blocks view.gaps)
    pub causes : All IsCaused view.gaps
    pub reused : All (IsReusedGap g w) view.gaps

  pub record ViewerKnows (viewer : Viewer) (w : MachineState) : Type 0 where
    pub since : DidSince g viewer.then viewer.loads w
    pub view : (view : View) → viewer.view ≡ Some view → IsView w view
    pub whole : viewer.loads ≡ [] → (view : View) → viewer.view ≡ Some view → ShowsThen g viewer.then view

  pub record Known (count : ℕ) (m : Moment) : Type 0 where
    pub queue : IsQueue count m.queue
    pub viewers : (seat : ℕ) (viewer : Viewer) → slice_get m.viewers seat ≡ Some viewer → ViewerKnows viewer m.queue

  view_later : (old new : MachineState) (view : View) → IsLater g old new → IsView old view → IsView new view
  view_later old new view l k = record {
    accepted = λ i d lt. l.made _ (k.accepted i d lt);
    rising = k.rising;
    gaps = k.gaps;
    causes = k.causes;
    reused = gaps_later g old new view.gaps l k.reused;
  }

  viewer_later : (old new : MachineState) (viewer : Viewer) → IsLater g old new → ViewerKnows viewer old → ViewerKnows viewer new
  viewer_later old new viewer l k = record {
    since = since_until g viewer.then viewer.loads old new k.since l;
    view = λ view is. view_later old new view l (k.view view is);
    whole = k.whole;
  }

  module _ (limits : IsWithinLimits g) (law : LooksAreKept) where
    pub is_good : (count : ℕ) (w : MachineState) → count < most_puts g → IsQueue count w → IsGood g w
    is_good count w few q =
        let n : ℕ = length q.events in
        let there : moment table g q.events n ≡ w = ap (run table g (start_state DropPhase g)) (take_all n q.events (omega arith)) ∙ sym q.is in
        subst (IsGood g) there record {
          sound = moment_sound g q.events limits q.suits (let f = q.few in omega arith) n;
          room = moment_total table g q.events n (let f = q.few in omega arith);
          all = run_all (start_state DropPhase g) (take n q.events) ∙ length-replicate g.seats (resting DropPhase g);
        }

    -- an item among the last places lies in one of the newest blocks
    last_places : (at : MachineState) (good : IsGood g at) (place : ℕ) → good.sound.front.next ≤ place + (g.blocks - 1) * g.size → good.sound.front.last + 1 - g.blocks ≤ (cursor_of g place).block
    last_places at good place late =
        let block : ℕ = (cursor_of g place).block in
        let last : ℕ = good.sound.front.last in
        let x : ℕ = block - g.blocks in let y : ℕ = g.blocks - 1 in
        ⊎_elim
        (λ far. absurd (
        let here = place_of_cursor g place in
        let short = offset_of_place g place limits in
        let split : (x + 1) * g.size + y * g.size ≡ (x + 1 + y) * g.size = omega arith in
        let sum : (x + 1 + y) * g.size ≡ block * g.size = ap (λ (n : ℕ). n * g.size) (omega (arith, limits.blocks_from)) in
        let under : block * g.size ≤ (last - g.blocks) * g.size = mul-le-mul_right g.size (omega arith) in
        let from : (last - g.blocks) * g.size ≤ good.sound.front.next = ⊎_elim (λ q. omega (arith, q.at)) (λ q. omega (arith, q.at)) good.sound.at.puts.places.words.newest in omega arith))
        (λ near. omega arith)
        (cases_lt (block + g.blocks) (last + 1))

    shows_then : (view : View) (at : MachineState) (good : IsGood g at) → ShowsFrom g (good.sound.front.last + 1 - g.blocks) (all_made at.views) view.items.items view.gaps → ShowsNewest g at view
    shows_then view at good shows = record {
      last = good.sound.front.last;
      is_last = last_opened g limits at good;
      shows = shows;
      allocated = record { count = good.sound.front.next; once = good.sound.at.puts.places.counts.once };
      shows_last = λ item h late. shows item h (last_places at good item.place late);
    }

    -- a view that has just ended
    ended_is : (loads : List Step) (then : Option MachineState) (w : MachineState) (view : View) → (a : AreShown g loads view) → WalkViewed g limits law then a.walk w → IsView w view × ShowsThen g then view
    ended_is loads then w view a v =
        let some = some_seat g limits law v.at v.saw.good in
        let first = v.viewed 0 some.0 some.1 in
        let good = v.saw.good in
        let items : first.looks.looked ≡ view.items.items = first.looked ∙ sym a.items in (
          record {
            accepted = subst (All (IsMade w.views)) items (λ i d lt. first.holds.looked i _ (slice_get-get_or first.looks.looked i d lt));
            rising = subst (λ (l : List Placed). IsRising (places l)) (sym a.items) first.rising;
            gaps = subst (λ l. IsRising (gap_blocks l)) (sym a.gaps) first.gaps_rising;
            causes = subst (All IsCaused) (sym a.gaps) first.caused;
            reused = subst (All (IsReusedGap g w)) (sym a.gaps) first.reused;
          },
          subst (λ (o : Option MachineState). ShowsThen g o view) (sym v.is) (shows_then view v.at good (λ item h from.
              let m = made_by v.at.views item h in
              let to = allocated_to g limits v.at good v.saw.head in
              let found = ap (λ (c : Cursor). c.block) v.saw.found in
              let shown = (v.viewed m.seat m.view m.at).shown item m.made (omega arith) in
              subst (λ l. IsShown g l view.gaps item) (sym a.items) (subst (λ l. IsShown g (walk_items g a.walk) l item) (sym a.gaps) shown))),
        )

    loaded_more : (w : MachineState) (old new : Viewer) → IsGood g w → HasLoaded g w old new → ViewerKnows old w → ViewerKnows new w
    loaded_more w old new good l k =
        let one : Step = loaded l.index (slice_index w.words l.index) in
        let did : DidSince g new.then (old.loads ++ one ∷ []) w = subst (λ (o : Option MachineState). DidSince g o (old.loads ++ one ∷ []) w) (sym l.then) (since_more g old.then old.loads w one k.since record { good = good; index = l.index; is = refl }) in
        ⊎_elim
        (λ on. record {
          since = subst (λ (s : List Step). DidSince g new.then s w) (sym on.1) did;
          view = λ view is. k.view view (sym on.2 ∙ is);
          whole = λ none. absurd (let n = ap (λ (s : List Step). length s) (sym on.1 ∙ none) in let m = length-append old.loads (one ∷ []) in omega arith);
        })
        (λ end.
        let a : AreShown g (old.loads ++ one ∷ []) end.0 = end.1 in
        let v = walk_viewed g limits law a.walk new.then w a.is a.ended (subst (λ (s : List Step). DidSince g new.then s w) a.all did) in
        let is = ended_is (old.loads ++ one ∷ []) new.then w end.0 a v in
        record {
          since = subst (λ (s : List Step). DidSince g new.then s w) (sym end.2) tt;
          view = λ view e. let same : end.0 ≡ view = cc in subst (IsView w) same is.0;
          whole = λ none view e. let same : end.0 ≡ view = cc in subst (ShowsThen g new.then) same is.1;
        })
        l.follows

    stepped : (count : ℕ) (old : Moment) (e : Event) (new : Moment) → count < most_puts g → Suits table g e → Known count old → HasStepped g old e new → Known (count + 1) new
    stepped count old e new few suits k s =
        ⊎_elim
        (λ same. subst (Known (count + 1)) (sym same.1) (record { queue = let q = k.queue in record { events = q.events; suits = q.suits; few = let f = q.few in omega arith; is = q.is }; viewers = k.viewers }))
        (λ moved.
        let q = k.queue in
        let later : IsLater g old.queue (step table g old.queue e) = turn_later g limits old.queue e.seat e.start (slice_get old.queue.views e.seat) (is_good count old.queue few q) refl suits.wide in
        subst (Known (count + 1)) (sym moved.1) (record {
          queue = record {
            events = q.events ++ e ∷ [];
            suits = suits_more (Suits table g) q.events e q.suits suits;
            few = let n = length-append q.events (e ∷ []) in let f = q.few in omega arith;
            is = ap (λ (w : MachineState). step table g w e) q.is ∙ sym (run_push table g (start_state DropPhase g) q.events e);
          };
          viewers = λ seat viewer here. viewer_later old.queue (step table g old.queue e) viewer later (k.viewers seat viewer here);
        }))
        s

    viewed : (count : ℕ) (old : Moment) (seat : ℕ) (new : Moment) → count < most_puts g → Known count old → Views g old seat new → Known (count + 1) new
    viewed count old seat new few k s =
        let q = k.queue in
        let on : IsQueue (count + 1) old.queue = record { events = q.events; suits = q.suits; few = let f = q.few in omega arith; is = q.is } in
        ⊎_elim
        (λ same. subst (Known (count + 1)) (sym same.1) (record { queue = on; viewers = k.viewers }))
        (λ looked.
        let h : HasViewed g old seat new = looked.1 in
        let more = loaded_more old.queue h.before h.after (is_good count old.queue few q) h.loads (k.viewers seat h.before h.here) in
        subst (Known (count + 1)) (sym h.is) (record {
          queue = on;
          viewers = λ other viewer here. ⊎_elim (λ mine. subst (λ (u : Viewer). ViewerKnows u old.queue) mine.1 more) (λ apart. k.viewers other viewer apart.1) (get_set old.viewers seat other h.after viewer here);
        }))
        s

    led : (count : ℕ) (old : Moment) (e : ViewEvent) (new : Moment) → count < most_puts g → SuitsView g e → Known count old → Leads g old e new → Known (count + 1) new
    led count old (event.Step e) new few suits k s = stepped count old e new few suits k s
    led count old (event.View seat) new few suits k s = viewed count old seat new few k s

    runs : (count : ℕ) (from : Moment) (events : List ViewEvent) (to : Moment) → count + length events < most_puts g → AllByRecursion (SuitsView g) events → Known count from → RunsTo g from events to → Known (count + length events) to
    runs count from [] to few suits k r = let n : count ≡ count + length {A = ViewEvent} [] = omega arith in subst (λ (c : ℕ). Known c to) n (subst (λ (m : Moment). Known count m) r k)
    runs count from (e ∷ es) to few suits k r =
        let n : count + 1 + length es ≡ count + length (e ∷ es) = omega arith in
        subst (λ (c : ℕ). Known c to) n (runs (count + 1) r.0 es to (omega arith) suits.1 (led count from e r.0 (omega arith) suits.0 k r.1) r.2)

    starts : Known 0 (start_moment g)
    starts = record {
      queue = record { events = []; suits = tt; few = omega arith; is = refl };
      viewers = λ seat viewer here. subst (λ (u : Viewer). ViewerKnows u (start_state DropPhase g)) (get_replicate g.seats no_view seat viewer here) (record { since = tt; view = λ view e. cc; whole = λ none view e. cc });
    }

    -- each moment that a schedule leads to
    pub reached : (events : List ViewEvent) (end : Moment) → AllByRecursion (SuitsView g) events → length events < most_puts g → RunsTo g (start_moment g) events end → Known (length events) end
    reached events end suits few r = let n : 0 + length events ≡ length events = omega arith in subst (λ (c : ℕ). Known c end) n (runs 0 (start_moment g) events end (omega arith) suits starts r)

    -- a seat has room for one entry more
    pub has_room : (count : ℕ) (m : Moment) (seat : ℕ) → count < most_puts g → Known count m → length (view_of record { shape = g; state = m.queue } seat).made < most_puts g
    has_room count m seat few k =
        let q = k.queue in
        let n : ℕ = length q.events in
        let there : moment table g q.events n ≡ m.queue = ap (run table g (start_state DropPhase g)) (take_all n q.events (omega arith)) ∙ sym q.is in
        subst (λ (w : MachineState). length (view_of record { shape = g; state = w } seat).made < most_puts g) there (made_below table g q.events n seat (let f = q.few in omega arith))
