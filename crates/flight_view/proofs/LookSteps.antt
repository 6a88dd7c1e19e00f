-- The looks of a view while the queue goes on: what each leaves of what is remembered, and what it shows
-- of the items that a seat had made before.
use Rattle.std.proofs.Common.{◌≡◌, ℕ, ◌+◌, ◌/◌, ◌<◌, ◌≤◌, ◌⊎◌, List, [], ◌∷◌, ◌++◌, append_assoc, length, length-append, take, refl, sym, ap, ◌∙◌, subst, inl, inr, ⊎_elim, arith}
use Rattle.std.specs.Prelude.{All, Contains, Option, Some, get_or, slice_get, if◌then◌else◌}
use Rattle.std.proofs.lemmas.List.{append-nil, take-append-le, take_all}
use Rattle.std.proofs.lemmas.List.Elements.{All-contains, All-contains_itself, All-map, All-weaker}
use Rattle.std.proofs.lemmas.Option.{slice_get-get_or}
use Rattle.cursor_word.specs.Shape.{Grid, IsWithinLimits}
use Rattle.cursor_word.specs.Cursor.{cursor_of, first_of, offset_span, place_at, unpacked}
use Rattle.cursor_word.specs.declared.cursor.Cursor.{Cursor}
use Rattle.rail.specs.declared.entry.Placed.{Placed}
use Rattle.rail.specs.Items.{placed, places}
use Rattle.step_log.specs.declared.log.Step.{Step}
use Rattle.step_log.specs.Log.{loaded}
use Rattle.machine.specs.Steps.{resting}
use Rattle.put_side.specs.Cursors.{allocated_word}
use Rattle.put_side.proofs.Sums.{by_test}
use Rattle.drop_core.specs.declared.phase.DropPhase.{DropPhase}
use Rattle.drop_core.specs.Types.{MachineState, View}
use Rattle.drop_core.specs.Moments.{IsReused}
use Rattle.block_looks.specs.declared.look.LookPhase.{LookPhase}
use Rattle.block_looks.specs.declared.look.LookPhase.TheVariants.{Head, HeadA, Com, All as AllOf, Word, Check}
use Rattle.block_looks.specs.declared.look.LookAfter.{LookAfter}
use Rattle.block_looks.specs.declared.look.LookAfter.TheVariants as after
use Rattle.block_looks.specs.declared.look.Look.{Look}
use Rattle.block_looks.specs.declared.look.Look.TheVariants as look
use Rattle.block_looks.specs.declared.look.Seen.{Seen}
use Rattle.block_looks.specs.declared.look.Seen.TheVariants as seen
use Rattle.block_looks.specs.declared.looks.Looks.{Looks}
use Rattle.block_looks.specs.Table.{look_after, look_of, look_want}
use Rattle.block_looks.specs.Looks.{IsLookedAt, LooksHold, MayLook, found_before, looked_after, looked_on, looking_after, no_looks, phase_after}
use Rattle.block_looks.specs.Laws.{IsLookDone, LooksAreKept}
use Rattle.block_looks.specs.Shown.{AreBefore, BlockShown, LookLeads, LookShows, look_loads}
use Rattle.block_looks.proofs.Lasts.{starts}
use Rattle.block_looks.proofs.Wholes.{pick_whole}
use Rattle.put_side.proofs.Choices.{by_equal}
use Rattle.flight_view.specs.Walks.{EntryLook, entry_items, gap}
use Rattle.flight_view.specs.Parts.{OwnIsFound, entry_look}
use Rattle.flight_view.specs.Promised.{IsReusedGap}
use Rattle.flight_view.proofs.Blocks.{place_in}
use Rattle.flight_view.specs.Viewers.{IsGood}
use Rattle.flight_view.proofs.Later.{HasGrown, IsLater, later_on}
use Rattle.flight_view.proofs.Loaded.{Did, DidSince, IsLoad, found_is}
use Rattle.flight_view.proofs.Reuse.{allocated_reused, committed_reused}

-- what holds of the places of more items holds of those of fewer
fewer_places : (P : ℕ → Type 0) (items more : List Placed) → ((item : Placed) → Contains items item → Contains more item) → All P (places more) → All P (places items)
fewer_places P items more sub all =
    All-map P (λ (i : Placed). i.place) items
    (All-weaker (Contains items) (λ (i : Placed). P i.place) (λ i h. All-contains P (places more) i.place all (place_in more i (sub i h))) items (All-contains_itself items))

-- by recursion on a list
list_rec : {X : Type 0} (P : List X → Type 0) → P [] → ((x : X) (xs : List X) → P xs → P (x ∷ xs)) → (xs : List X) → P xs
list_rec P none more [] = none
list_rec P none more (x ∷ xs) = more x xs (list_rec P none more xs)

module _ (g : Grid) where
  fewer_shown : (items more : List Placed) (k : ℕ) → ((item : Placed) → Contains items item → Contains more item) → (l : Look) → BlockShown g more k l → BlockShown g items k l
  fewer_shown items more k sub (look.Unopened c) s = fewer_places (λ p. p < first_of g k) items more sub s
  fewer_shown items more k sub (look.Whole n c a) s = (fewer_places (λ p. (cursor_of g p).block ≡ k → (cursor_of g p).offset < n) items more sub s.0, s.1)
  fewer_shown items more k sub (look.Gap c a) s = tt

  -- how a look at a block goes on after its first load, and how it ends
  pub com_follows : (k x : ℕ) → (look_after g (Com k) x ≡ after.Block (look.Unopened (unpacked x))) ⊎ (look_after g (Com k) x ≡ after.Next (AllOf k (unpacked x)))
  com_follows k x =
      by_test (x / offset_span) k (λ b. let s = if b then after.Block (look.Unopened (unpacked x)) else after.Next (AllOf k (unpacked x)) in (s ≡ after.Block (look.Unopened (unpacked x))) ⊎ (s ≡ after.Next (AllOf k (unpacked x))))
      (λ l. inl refl) (λ l. inr refl)

  ends_here : (l answer : Look) (xs : List ℕ) → LookLeads g (after.Block l) xs (after.Block answer) → (xs ≡ []) × (l ≡ answer)
  ends_here l answer [] e = (refl, cc)
  ends_here l answer (x ∷ xs) e = absurd e

  ends_after_all : (k : ℕ) (m : Cursor) (answer : Look) (xs : List ℕ) → LookLeads g (after.Next (AllOf k m)) xs (after.Block answer) → (a : ℕ) × (xs ≡ a ∷ []) × (look_of g k m (unpacked a) ≡ answer)
  ends_after_all k m answer [] e = cc
  ends_after_all k m answer (a ∷ []) e = (a, refl, cc)
  ends_after_all k m answer (a ∷ x ∷ xs) e = absurd e

  block_found : (k : ℕ) (found : List ℕ) (answer : Look) → LookLeads g (after.Next (Com k)) found (after.Block answer) → (x : ℕ) × (xs : List ℕ) × (found ≡ x ∷ xs)
  block_found k [] answer e = cc
  block_found k (x ∷ xs) answer e = (x, xs, refl)

  gap_of : (k : ℕ) (m b c a : Cursor) → look_of g k m b ≡ look.Gap c a → (m ≡ c) × (b ≡ a)
  gap_of k m b c a = pick_whole g k m b (λ l. l ≡ look.Gap c a → (m ≡ c) × (b ≡ a)) (λ w e. cc) (λ e. (cc, cc))

  -- and one at an entry
  no_entry_yet : (at : Cursor) (next : ℕ) (answer : Seen) → after.Next (Word at next) ≡ after.Entry answer → ⊥
  no_entry_yet at next answer e = cc

  found_now : (at : Cursor) (c : ℕ) (now : Cursor) → look_after g (Check at) c ≡ after.Entry (seen.Reused now) → unpacked c ≡ now
  found_now at c now = by_equal (c / offset_span) at.block (λ b. (if b then after.Entry seen.Whole else after.Entry (seen.Reused (unpacked c))) ≡ after.Entry (seen.Reused now) → unpacked c ≡ now) (λ q e. cc) (λ q e. cc)

  pub word_follows : (at : Cursor) (next x : ℕ) → ((next + 1 < g.width) × (look_after g (Word at next) x ≡ after.Next (Word at (next + 1)))) ⊎ ((g.width ≤ next + 1) × (look_after g (Word at next) x ≡ after.Next (Check at)))
  word_follows at next x =
      by_test (next + 1) g.width (λ b. let s = if b then after.Next (Word at (next + 1)) else after.Next (Check at) in ((next + 1 < g.width) × (s ≡ after.Next (Word at (next + 1)))) ⊎ ((g.width ≤ next + 1) × (s ≡ after.Next (Check at))))
      (λ l. inl (l, refl)) (λ l. inr (l, refl))

  ends_after_check : (at : Cursor) (answer : Seen) (xs : List ℕ) → LookLeads g (after.Next (Check at)) xs (after.Entry answer) → (c : ℕ) × (xs ≡ c ∷ []) × (look_after g (Check at) c ≡ after.Entry answer)
  ends_after_check at answer [] e = cc
  ends_after_check at answer (c ∷ []) e = (c, refl, e)
  ends_after_check at answer (c ∷ x ∷ xs) e = by_equal (c / offset_span) at.block (λ b. LookLeads g (if b then after.Entry seen.Whole else after.Entry (seen.Reused (unpacked c))) (x ∷ xs) (after.Entry answer) → (y : ℕ) × ((c ∷ x ∷ xs) ≡ y ∷ []) × (look_after g (Check at) y ≡ after.Entry answer))
      (λ q h. absurd h) (λ q h. absurd h) e

  module _ (limits : IsWithinLimits g) (law : LooksAreKept) where
    -- a step of a look, where some seat has this view
    did_step : (w : MachineState) (looks : Looks) (p : LookPhase) (x seat : ℕ) (u : View) → LooksHold g w.words w.views looks → IsLoad g w (loaded (look_want g p) x) → MayLook g looks p → slice_get w.views seat ≡ Some u → IsLookDone g w.words w.views u looks p x
    did_step w looks p x seat u holds load may at =
        subst (λ (n : ℕ). IsLookDone g w.words w.views u looks p n) (sym (found_is g w (look_want g p) x load))
        (law g w.words w.views seat u looks p limits load.good.sound load.good.room at holds may)

    -- a gap's cursor of a greater block
    gap_reused : (k x y : ℕ) (c a : Cursor) (w z to : MachineState) → IsLoad g w (loaded (look_want g (Com k)) x) → IsLater g w z → IsLoad g z (loaded (look_want g (AllOf k (unpacked x))) y) → IsLater g z to
        → look_of g k (unpacked x) (unpacked y) ≡ look.Gap c a → IsReusedGap g to (gap k c a)
    gap_reused k x y c a w z to load l next m e =
        let is = gap_of k (unpacked x) (unpacked y) c a e in
        ⊎_elim
        (λ lt. let n = found_is g w (look_want g (Com k)) x load in let b = ap (λ (q : Cursor). q.block) is.0 in
        (later_on g w z to l m).reused k (committed_reused g limits w load.good k (omega arith)))
        (λ lt. let n = found_is g z (look_want g (AllOf k (unpacked x))) y next in let b = ap (λ (q : Cursor). q.block) is.1 in
        m.reused k (allocated_reused g limits z next.good k (omega arith)))

    pub some_seat : (w : MachineState) → IsGood g w → (u : View) × (slice_get w.views 0 ≡ Some u)
    some_seat w good = (get_or w.views 0 (resting DropPhase g), slice_get-get_or w.views 0 (resting DropPhase g) (omega (arith, good.all, limits.seats_from)))

    -- the look at the head, at its second load
    pub record SawHead (since : MachineState) (newest : Cursor) : Type 0 where
      pub good : IsGood g since
      pub looks : Looks
      pub holds : LooksHold g since.words since.views looks
      pub looked : looks.looked ≡ []
      pub head : ℕ
      pub found : newest ≡ unpacked (allocated_word g since.words head)
      pub before : (seat : ℕ) (u : View) → slice_get since.views seat ≡ Some u → AreBefore g u.made (newest.block + g.blocks)

    pub record HeadFirst (since : Option MachineState) (newest : Cursor) (steps : List Step) (to : MachineState) : Type 0 where
      pub at : MachineState
      pub is : since ≡ Some at
      pub saw : SawHead at newest
      pub rest : Did g at steps to

    pub saw_head : (found : List ℕ) (newest : Cursor) (since : Option MachineState) (rest : List Step) (to : MachineState) → LookLeads g (after.Next Head) found (after.Head newest) → DidSince g since (look_loads g (after.Next Head) found ++ rest) to → HeadFirst since newest rest to
    saw_head [] newest since rest to e d = cc
    saw_head (h ∷ []) newest since rest to e d = cc
    saw_head (h ∷ a ∷ x ∷ xs) newest since rest to e d = absurd e
    saw_head (h ∷ a ∷ []) newest since rest to e d =
        let w : MachineState = d.0 in
        let at : MachineState = d.2 in
        let first = some_seat w d.1.good in
        let one = did_step w no_looks Head h 0 first.0 (starts g w.words w.views) d.1 tt first.1 in
        let looks : Looks = looked_on g no_looks Head h in
        let holds : LooksHold g at.words at.views looks = d.3.looks looks one.holds in
        let second = some_seat at d.4.good in
        let two = did_step at looks (HeadA h) a 0 second.0 holds d.4 refl second.1 in
        let same : unpacked a ≡ newest = cc in
        record {
          at = at;
          is = d.5;
          saw = record {
            good = d.4.good;
            looks = looked_on g looks (HeadA h) a;
            holds = two.holds;
            looked = refl;
            head = h;
            found = sym same ∙ ap unpacked (found_is g at (look_want g (HeadA h)) a d.4);
            before = λ seat u here. subst (λ (c : Cursor). AreBefore g u.made (c.block + g.blocks)) same (did_step at looks (HeadA h) a seat u holds d.4 refl here).shows.before;
          };
          rest = d.6;
        }

    module _ (since : MachineState) (seat : ℕ) (v : View) (here : slice_get since.views seat ≡ Some v) where
      -- what is remembered at a moment after that
      pub record Remembers (w : MachineState) (looks : Looks) : Type 0 where
        pub later : IsLater g since w
        pub holds : LooksHold g w.words w.views looks

      grown_at : (from w : MachineState) (looks : Looks) → Remembers from looks → IsLater g from w → HasGrown w.views seat v
      grown_at from w looks r l = (later_on g since from w r.later l).seats seat v here

      -- a look at a block
      pub record SawLook (k : ℕ) (found : List ℕ) (answer : Look) (looks : Looks) (to : MachineState) : Type 0 where
        pub new : Looks
        pub knows : Remembers to new
        pub trail : new.look_trail ≡ found
        pub looked : new.looked ≡ looks.looked
        pub looking : new.looking ≡ looking_after looks.looking (after.Block answer)
        pub shown : BlockShown g v.made k answer
        pub reused : (c a : Cursor) → answer ≡ look.Gap c a → IsReusedGap g to (gap k c a)

      saw_unopened : (k x : ℕ) (answer : Look) (from to : MachineState) (looks : Looks) → g.blocks ≤ k → Remembers from looks → (w : MachineState) → IsLater g from w → IsLoad g w (loaded (look_want g (Com k)) x) → IsLater g w to
          → look_after g (Com k) x ≡ after.Block (look.Unopened (unpacked x)) → look.Unopened (unpacked x) ≡ answer → SawLook k (x ∷ []) answer looks to
      saw_unopened k x answer from to looks le r w l load end e is =
          let u = grown_at from w looks r l in
          let done = did_step w looks (Com k) x seat u.view (l.looks looks r.holds) load le u.at in
          let follows : look_after g (Com k) x ≡ after.Block answer = e ∙ ap after.Block is in
          let shows : BlockShown g u.view.made k answer = subst (LookShows g u.view.made (Com k) (found_before g looks (Com k))) follows done.shows in
          record {
            new = looked_on g looks (Com k) x;
            knows = record { later = later_on g since w to (later_on g since from w r.later l) end; holds = end.looks _ done.holds };
            trail = refl;
            looked = refl;
            looking = ap (looking_after looks.looking) follows;
            shown = fewer_shown v.made u.view.made k u.items answer shows;
            reused = λ c a q. cc;
          }

      saw_both : (k x y : ℕ) (answer : Look) (from to : MachineState) (looks : Looks) → g.blocks ≤ k → Remembers from looks → (w : MachineState) → IsLater g from w → IsLoad g w (loaded (look_want g (Com k)) x)
          → look_after g (Com k) x ≡ after.Next (AllOf k (unpacked x)) → look_of g k (unpacked x) (unpacked y) ≡ answer → Did g w (loaded (look_want g (AllOf k (unpacked x))) y ∷ []) to → SawLook k (x ∷ y ∷ []) answer looks to
      saw_both k x y answer from to looks le r w l load e is d =
          let m : Cursor = unpacked x in
          let u = grown_at from w looks r l in
          let one = did_step w looks (Com k) x seat u.view (l.looks looks r.holds) load le u.at in
          let mid : Looks = looked_on g looks (Com k) x in
          let knows : Remembers w mid = record { later = later_on g since from w r.later l; holds = one.holds } in
          let z : MachineState = d.0 in
          let n = grown_at w z mid knows d.1 in
          let two = did_step z mid (AllOf k m) y seat n.view (d.1.looks mid one.holds) d.2 (ap phase_after e) n.at in
          let shows : BlockShown g n.view.made k answer = subst (BlockShown g n.view.made k) is two.shows in
          record {
            new = looked_on g mid (AllOf k m) y;
            knows = record { later = later_on g since z to (later_on g since w z knows.later d.1) d.3; holds = d.3.looks _ two.holds };
            trail = refl;
            looked = refl;
            looking = ap (λ (s : Look). looking_after mid.looking (after.Block s)) is ∙ ap (λ (s : LookAfter). looking_after (looking_after looks.looking s) (after.Block answer)) e;
            shown = fewer_shown v.made n.view.made k n.items answer shows;
            reused = λ c a q. gap_reused k x y c a w z to load d.1 d.2 d.3 (is ∙ q);
          }

      look_on : (k x : ℕ) (xs : List ℕ) (answer : Look) (from to : MachineState) (looks : Looks) → g.blocks ≤ k → Remembers from looks → (w : MachineState) → IsLater g from w → IsLoad g w (loaded (look_want g (Com k)) x)
          → (s : LookAfter) → look_after g (Com k) x ≡ s → LookLeads g s xs (after.Block answer) → Did g w (look_loads g s xs) to → SawLook k (x ∷ xs) answer looks to
      look_on k x xs answer from to looks le r w l load s is e d =
          ⊎_elim
          (λ ends. let end = ends_here (look.Unopened (unpacked x)) answer xs (subst (λ (z : LookAfter). LookLeads g z xs (after.Block answer)) (sym is ∙ ends) e) in
          let rest : Did g w [] to = subst (λ (q : List ℕ). Did g w (look_loads g (after.Block (look.Unopened (unpacked x))) q) to) end.0 (subst (λ (z : LookAfter). Did g w (look_loads g z xs) to) (sym is ∙ ends) d) in
          subst (λ (q : List ℕ). SawLook k (x ∷ q) answer looks to) (sym end.0) (saw_unopened k x answer from to looks le r w l load rest ends end.1))
          (λ next. let end = ends_after_all k (unpacked x) answer xs (subst (λ (z : LookAfter). LookLeads g z xs (after.Block answer)) (sym is ∙ next) e) in
          let rest : Did g w (loaded (look_want g (AllOf k (unpacked x))) end.0 ∷ []) to = subst (λ (q : List ℕ). Did g w (look_loads g (after.Next (AllOf k (unpacked x))) q) to) end.1 (subst (λ (z : LookAfter). Did g w (look_loads g z xs) to) (sym is ∙ next) d) in
          subst (λ (q : List ℕ). SawLook k (x ∷ q) answer looks to) (sym end.1) (saw_both k x end.0 answer from to looks le r w l load next end.2 rest))
          (com_follows k x)

      pub saw_look : (k : ℕ) (found : List ℕ) (answer : Look) (from to : MachineState) (looks : Looks) → g.blocks ≤ k → Remembers from looks → LookLeads g (after.Next (Com k)) found (after.Block answer) → Did g from (look_loads g (after.Next (Com k)) found) to → SawLook k found answer looks to
      saw_look k found answer from to looks le r e d =
          let f = block_found k found answer e in
          let leads : LookLeads g (look_after g (Com k) f.0) f.1 (after.Block answer) = subst (λ (l : List ℕ). LookLeads g (after.Next (Com k)) l (after.Block answer)) f.2 e in
          let did : Did g from (loaded (look_want g (Com k)) f.0 ∷ look_loads g (look_after g (Com k) f.0) f.1) to = subst (λ (l : List ℕ). Did g from (look_loads g (after.Next (Com k)) l) to) f.2 d in
          subst (λ (l : List ℕ). SawLook k l answer looks to) (sym f.2) (look_on k f.0 f.1 answer from to looks le r did.0 did.1 did.2 (look_after g (Com k) f.0) refl leads did.3)

      -- a look at an entry
      pub record SawWords (e : EntryLook) (looks : Looks) (to : MachineState) : Type 0 where
        pub new : Looks
        pub knows : Remembers to new
        pub looked : new.looked ≡ looks.looked ++ entry_items g e
        pub looking : new.looking ≡ looks.looking
        pub own : OwnIsFound g v.made e
        pub later : (now : Cursor) → e.answer ≡ seen.Reused now → e.at.block < now.block
        pub reused : (now : Cursor) → e.answer ≡ seen.Reused now → IsReused g to.words e.at.block

      -- by its last load
      check_shows : (at : Cursor) (c : ℕ) (read : List ℕ) (looks : Looks) (w : MachineState) (u : HasGrown w.views seat v) (answer : Seen)
          → take g.width looks.look_trail ≡ read → take g.width (read ++ c ∷ []) ≡ read → LookShows g u.view.made (Check at) (found_before g looks (Check at)) (after.Entry answer) → IsGood g w → c ≡ allocated_word g w.words at.block → look_after g (Check at) c ≡ after.Entry answer
          → let e = entry_look at (read ++ c ∷ []) answer in
          (looked_after g looks.looked (Check at) (found_before g looks (Check at)) (after.Entry answer) ≡ looks.looked ++ entry_items g e)
          × OwnIsFound g v.made e
          × ((now : Cursor) → answer ≡ seen.Reused now → at.block < now.block)
          × ((now : Cursor) → answer ≡ seen.Reused now → IsReused g w.words at.block)
      check_shows at c read looks w u seen.Whole trail words shows good is follows =
          let all : found_before g looks (Check at) ≡ take g.width (read ++ c ∷ []) = trail ∙ sym words in (
            ap (λ (l : List ℕ). looks.looked ++ placed (place_at g at) l ∷ []) all,
            λ mine has e. (0, omega arith, ap (placed (place_at g at)) (sym (shows mine (u.items _ has) ∙ all))),
            (λ now e. cc),
            λ now e. cc,
          )
      check_shows at c read looks w u (seen.Reused now) trail words shows good is follows = (
        sym (append-nil looks.looked),
        (λ mine has e. cc),
        (λ other e. let q : now ≡ other = cc in subst (λ (z : Cursor). at.block < z.block) q shows),
        λ other e. allocated_reused g limits w good at.block (let q = found_now at c now follows in let b = ap (λ (z : Cursor). z.block) q in omega (arith, shows, is)),
      )

      saw_check : (at : Cursor) (read found : List ℕ) (answer : Seen) (from to : MachineState) (looks : Looks) → Remembers from looks → looks.look_trail ≡ read → length read ≡ g.width → looks.phase ≡ Some (Check at)
          → LookLeads g (after.Next (Check at)) found (after.Entry answer) → Did g from (look_loads g (after.Next (Check at)) found) to → SawWords (entry_look at (read ++ found) answer) looks to
      saw_check at read found answer from to looks r trail long phase e d =
          let end = ends_after_check at answer found e in
          let c : ℕ = end.0 in
          let one : Did g from (loaded (look_want g (Check at)) c ∷ []) to = subst (λ (l : List ℕ). Did g from (look_loads g (after.Next (Check at)) l) to) end.1 d in
          let w : MachineState = one.0 in
          let u = grown_at from w looks r one.1 in
          let done = did_step w looks (Check at) c seat u.view (one.1.looks looks r.holds) one.2 phase u.at in
          let all : take g.width looks.look_trail ≡ read = ap (take g.width) trail ∙ take_all g.width read (omega arith) in
          let words : take g.width (read ++ c ∷ []) ≡ read = take-append-le g.width read (c ∷ []) (omega arith) ∙ take_all g.width read (omega arith) in
          let shown = check_shows at c read looks w u answer all words (subst (LookShows g u.view.made (Check at) (found_before g looks (Check at))) end.2 done.shows) one.2.good (found_is g w (look_want g (Check at)) c one.2) end.2 in
          subst (λ (l : List ℕ). SawWords (entry_look at (read ++ l) answer) looks to) (sym end.1) record {
            new = looked_on g looks (Check at) c;
            knows = record { later = later_on g since w to (later_on g since from w r.later one.1) one.3; holds = one.3.looks _ done.holds };
            looked = ap (looked_after g looks.looked (Check at) (found_before g looks (Check at))) end.2 ∙ shown.0;
            looking = ap (looking_after looks.looking) end.2;
            own = shown.1;
            later = shown.2;
            reused = λ now q. one.3.reused at.block (shown.3 now q);
          }

      saw_as : (e : EntryLook) (old looks : Looks) (to : MachineState) → old.looked ≡ looks.looked → old.looking ≡ looks.looking → SawWords e old to → SawWords e looks to
      saw_as e old looks to looked looking s = record {
        new = s.new;
        knows = s.knows;
        looked = s.looked ∙ ap (λ (l : List Placed). l ++ entry_items g e) looked;
        looking = s.looking ∙ looking;
        own = s.own;
        later = s.later;
        reused = s.reused;
      }

      -- one word more of it
      record ReadsOne (entry : Cursor) (next x : ℕ) (read xs : List ℕ) (looks : Looks) (to : MachineState) : Type 0 where
        pub at : MachineState
        pub new : Looks
        pub knows : Remembers at new
        pub trail : new.look_trail ≡ read ++ x ∷ []
        pub phase : new.phase ≡ phase_after (look_after g (Word entry next) x)
        pub looked : new.looked ≡ looks.looked
        pub looking : new.looking ≡ looking_after looks.looking (look_after g (Word entry next) x)
        pub rest : Did g at (look_loads g (look_after g (Word entry next) x) xs) to

      reads_one : (at : Cursor) (next x : ℕ) (read xs : List ℕ) (from to : MachineState) (looks : Looks) → Remembers from looks → take next looks.look_trail ≡ read → MayLook g looks (Word at next)
          → Did g from (look_loads g (after.Next (Word at next)) (x ∷ xs)) to → ReadsOne at next x read xs looks to
      reads_one at next x read xs from to looks r trail may d =
          let u = grown_at from d.0 looks r d.1 in
          let done = did_step d.0 looks (Word at next) x seat u.view (d.1.looks looks r.holds) d.2 may u.at in
          record {
            at = d.0;
            new = looked_on g looks (Word at next) x;
            knows = record { later = later_on g since from d.0 r.later d.1; holds = done.holds };
            trail = ap (λ (l : List ℕ). l ++ x ∷ []) trail;
            phase = refl;
            looked = refl;
            looking = refl;
            rest = d.3;
          }

      words_on : (at : Cursor) (next x : ℕ) (read xs : List ℕ) (answer : Seen) (looks : Looks) (to : MachineState) → length read ≡ next → next < g.width → (one : ReadsOne at next x read xs looks to) → (s : LookAfter) → look_after g (Word at next) x ≡ s → LookLeads g s xs (after.Entry answer) → Did g one.at (look_loads g s xs) to
          → (next + 1 < g.width → take (next + 1) one.new.look_trail ≡ read ++ x ∷ [] → length (read ++ x ∷ []) ≡ next + 1 → MayLook g one.new (Word at (next + 1)) → LookLeads g (after.Next (Word at (next + 1))) xs (after.Entry answer) → Did g one.at (look_loads g (after.Next (Word at (next + 1))) xs) to → SawWords (entry_look at ((read ++ x ∷ []) ++ xs) answer) one.new to)
          → SawWords (entry_look at (read ++ x ∷ xs) answer) looks to
      words_on at next x read xs answer looks to long lt one s is e d rest =
          let longer : length (read ++ x ∷ []) ≡ next + 1 = omega (arith, length-append read (x ∷ [])) in
          subst (λ (l : List ℕ). SawWords (entry_look at l answer) looks to) (append_assoc read (x ∷ []) xs)
          (⊎_elim
          (λ on. saw_as _ one.new looks to one.looked (one.looking ∙ ap (looking_after looks.looking) on.1)
          (rest on.0 (ap (take (next + 1)) one.trail ∙ take_all (next + 1) (read ++ x ∷ []) (omega arith)) longer (inr (one.phase ∙ ap phase_after on.1))
          (subst (λ (z : LookAfter). LookLeads g z xs (after.Entry answer)) (sym is ∙ on.1) e) (subst (λ (z : LookAfter). Did g one.at (look_loads g z xs) to) (sym is ∙ on.1) d)))
          (λ on. saw_as _ one.new looks to one.looked (one.looking ∙ ap (looking_after looks.looking) on.1)
          (saw_check at (read ++ x ∷ []) xs answer one.at to one.new one.knows one.trail (omega arith) (one.phase ∙ ap phase_after on.1)
          (subst (λ (z : LookAfter). LookLeads g z xs (after.Entry answer)) (sym is ∙ on.1) e) (subst (λ (z : LookAfter). Did g one.at (look_loads g z xs) to) (sym is ∙ on.1) d)))
          (word_follows at next x))

      -- a look at an entry that has read so many words goes on with these values
      abbrev SawFrom : Cursor → Seen → MachineState → List ℕ → Type 0
      SawFrom at answer to found =
          (next : ℕ) (read : List ℕ) (from : MachineState) (looks : Looks) → Remembers from looks → take next looks.look_trail ≡ read → length read ≡ next → next < g.width → MayLook g looks (Word at next)
          → LookLeads g (after.Next (Word at next)) found (after.Entry answer) → Did g from (look_loads g (after.Next (Word at next)) found) to → SawWords (entry_look at (read ++ found) answer) looks to

      saw_none : (at : Cursor) (answer : Seen) (to : MachineState) → SawFrom at answer to []
      saw_none at answer to next read from looks r trail long lt may e d = absurd (no_entry_yet at next answer e)

      saw_more : (at : Cursor) (answer : Seen) (to : MachineState) (x : ℕ) (xs : List ℕ) → SawFrom at answer to xs → SawFrom at answer to (x ∷ xs)
      saw_more at answer to x xs later next read from looks r trail long lt may e d =
          let one = reads_one at next x read xs from to looks r trail may d in
          words_on at next x read xs answer looks to long lt one (look_after g (Word at next) x) refl e one.rest
          (λ short more longer on leads rest. later (next + 1) (read ++ x ∷ []) one.at one.new one.knows more longer short on leads rest)

      saw_words : (at : Cursor) (answer : Seen) (to : MachineState) (found : List ℕ) → SawFrom at answer to found
      saw_words at answer to found = list_rec (SawFrom at answer to) (saw_none at answer to) (saw_more at answer to) found

      pub saw_entry : (e : EntryLook) (from to : MachineState) (looks : Looks) → Remembers from looks → IsLookedAt looks.looking e.at → LookLeads g (after.Next (Word e.at 0)) e.found (after.Entry e.answer) → Did g from (look_loads g (after.Next (Word e.at 0)) e.found) to → SawWords e looks to
      saw_entry e from to looks r at leads d = saw_words e.at e.answer to e.found 0 [] from looks r refl refl (omega (arith, limits.width_from)) (inl (refl, at)) leads d
