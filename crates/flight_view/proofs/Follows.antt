-- What follows a load of a walk, and that the loads before the end are the first of a walk.
use Rattle.std.proofs.Common.{◌≡◌, ℕ, ◌+◌, ◌-◌, ◌/◌, ◌<◌, ◌≤◌, ◌⊎◌, List, [], ◌∷◌, ◌++◌, append_assoc, length, length-append, refl, sym, ap, ◌^◌, ◌∙◌, subst, inl, inr, ⊎_elim, arith}
use Rattle.std.specs.Prelude.{All, flat_map, map, if◌then◌else◌}
use Rattle.std.proofs.lemmas.List.{append-nil, take-append-le, take_all}
use Rattle.std.specs.List.{AllByRecursion}
use Rattle.std.proofs.lemmas.List.Elements.{All-nil, All-push, recursion_from_All}
use Rattle.cursor_word.specs.Shape.{Grid}
use Rattle.cursor_word.specs.Cursor.{cursor, offset_span, place_at, unpacked}
use Rattle.cursor_word.specs.declared.cursor.Cursor.{Cursor}
use Rattle.rail.specs.declared.entry.Placed.{Placed}
use Rattle.rail.specs.Items.{placed}
use Rattle.step_log.specs.declared.log.Step.{Step}
use Rattle.step_log.specs.Log.{loaded}
use Rattle.put_side.proofs.Sums.{by_test}
use Rattle.put_side.proofs.Choices.{by_equal}
use Rattle.block_looks.specs.declared.look.LookPhase.{LookPhase}
use Rattle.block_looks.specs.declared.look.LookPhase.TheVariants.{Head, HeadA, Com, All as AllOf, Word, Check}
use Rattle.block_looks.specs.declared.look.LookAfter.{LookAfter}
use Rattle.block_looks.specs.declared.look.LookAfter.TheVariants as after
use Rattle.block_looks.specs.declared.look.Look.{Look}
use Rattle.block_looks.specs.declared.look.Look.TheVariants as look
use Rattle.block_looks.specs.declared.look.Seen.{Seen}
use Rattle.block_looks.specs.declared.look.Seen.TheVariants as seen
use Rattle.block_looks.specs.Table.{look_after, look_of, look_want}
use Rattle.block_looks.specs.Shown.{LookLeads, look_loads}
use Rattle.block_looks.proofs.Wholes.{pick_whole}
use Rattle.flight_view.specs.declared.gaps.Gap.{Gap}
use Rattle.flight_view.specs.declared.spot.Shown.{Shown}
use Rattle.flight_view.specs.declared.spot.Shown.TheVariants as shown
use Rattle.flight_view.specs.declared.spot.Spot.{Spot}
use Rattle.flight_view.specs.Walks.{BlockLook, EntryLook, block_loads, end_block, entry_items, entry_loads, first_block, gap, reused_by, reused_in}
use Rattle.flight_view.specs.Schedules.{GoOn}
use Rattle.flight_view.specs.Spots.{HavePassed, IsAt, IsAtAllocated, IsAtEntry, IsCount, IsFit, IsInPhase, IsWhole, SoFar, gaps_of, items_of, read_after, so_far, with_load, with_look}
use Rattle.flight_view.proofs.Blocks.{told}
use Rattle.flight_view.proofs.Gathered.{flat_map_push}
use Rattle.flight_view.proofs.LookSteps.{word_follows}
use Rattle.flight_view.proofs.Spots.{block_look, check_completes, ends_unopened, entry_goes_on, from_first, block_on, go_on, is_block, leads_joined, loads_joined, loads_with, longer, leads_more, no_entry_looks, order_more, pass_on, passed_none, so_far_walk, unopened_by_zero, words_complete}

next_is : {p q : LookPhase} → after.Next p ≡ after.Next q → p ≡ q
next_is e = cc

all_whole_each : (entries : List EntryLook) → AllByRecursion (λ (x : EntryLook). x.answer ≡ seen.Whole) entries → reused_in entries ≡ []
all_whole_each [] all = refl
all_whole_each (x ∷ xs) all = ap (λ (a : Seen). reused_by a ++ reused_in xs) all.0 ∙ all_whole_each xs all.1

-- entries that were found whole tell of no later block
all_whole : (entries : List EntryLook) → All (λ (x : EntryLook). x.answer ≡ seen.Whole) entries → reused_in entries ≡ []
all_whole entries all = all_whole_each entries (recursion_from_All (λ (x : EntryLook). x.answer ≡ seen.Whole) entries all)

module _ (g : Grid) where
  -- the first loads of a walk
  head_goes_on : (head : ℕ) → 2 ≤ g.blocks → GoOn g (loaded (look_want g Head) head ∷ [])
  head_goes_on head two =
      let p = passed_none g head 0 two in
      record { walk = p.walk; is = so_far_walk g (end_block g (unpacked 0)) (first_block g (unpacked 0)) _ p; next = loaded (look_want g (HeadA head)) 0; more = []; first = p.of.loads }

  com_goes_on : (end k : ℕ) (view : SoFar) → 2 ≤ g.blocks → HavePassed g end k view → k < end → GoOn g view.loads
  com_goes_on end k view two p lt =
      let from = from_first g end k view p in
      let zero_leads : LookLeads g (after.Next (Com k)) (0 ∷ []) (after.Block (look.Unopened (unpacked 0))) = unopened_by_zero g k (omega arith) in
      let b : BlockLook = block_look g k (0 ∷ []) (look.Unopened (unpacked 0)) [] in
      let one : look_loads g (look_after g (Com k) 0) [] ≡ [] = refl in
      go_on g end k view p lt b refl (record { leads = zero_leads; entries = no_entry_looks g k 0 }) view.loads (loaded (look_want g (Com k)) 0) [] (ap (λ (l : List Step). view.loads ++ l) (sym (append-nil _)))

  all_goes_on : (end k : ℕ) (m : Cursor) (view : SoFar) → IsAtAllocated g end k m view → GoOn g view.loads
  all_goes_on end k m view r =
      let answer : Look = look_of g k m (unpacked 0) in
      let leads : LookLeads g (after.Next (Com k)) (r.found ∷ 0 ∷ []) (after.Block answer) = subst (λ (s : LookAfter). LookLeads g s (0 ∷ []) (after.Block answer)) (sym r.follows) refl in
      let loads : look_loads g (after.Next (Com k)) (r.found ∷ 0 ∷ []) ≡ loaded (look_want g (Com k)) r.found ∷ loaded (look_want g (AllOf k m)) 0 ∷ [] = ap (λ (s : LookAfter). loaded (look_want g (Com k)) r.found ∷ look_loads g s (0 ∷ [])) r.follows in
      let b : BlockLook = block_look g k (r.found ∷ 0 ∷ []) answer [] in
      go_on g end k (so_far r.before view.items view.gaps) r.passed r.more b refl (record { leads = leads; entries = no_entry_looks g k _ }) view.loads (loaded (look_want g (AllOf k m)) 0) []
      (ap (λ (l : List Step). l ++ loaded (look_want g (AllOf k m)) 0 ∷ []) r.loads ∙ append_assoc r.before _ _ ∙ ap (λ (l : List Step). r.before ++ l) (sym loads ∙ sym (append-nil _)))

  entry_first : (spot : Spot) (at : Cursor) (read : List ℕ) (phase : LookPhase) (view : SoFar) → IsAtEntry g spot at read phase view → g.blocks ≤ at.block
  entry_first spot at read phase view r = from_first g spot.end at.block r.before r.passed

  -- wherever a walk stands that has begun
  pub goes_on : (spot : Spot) (read : List ℕ) (view : SoFar) (p : LookPhase) → 2 ≤ g.blocks → IsInPhase g spot read view p → (p ≡ Head → ⊥) → GoOn g view.loads
  goes_on spot read view Head two is begun = absurd (begun refl)
  goes_on spot read view (HeadA head) two is begun = subst (λ (v : SoFar). GoOn g v.loads) (sym is) (head_goes_on head two)
  goes_on spot read view (Com k) two is begun = com_goes_on spot.end k view two is.0 is.1
  goes_on spot read view (AllOf k m) two is begun = all_goes_on spot.end k m view is
  goes_on spot read view (Word at next) two is begun =
      let from = entry_first spot at read (Word at next) view is.0 in
      let c = words_complete g (g.width - next) at next (omega arith) (let l = is.1 in omega arith) is.1 in
      entry_goes_on g spot at read (Word at next) view is.0 c.0 c.1 (loaded (look_want g (Word at next)) 0) (look_loads g (look_after g (Word at next) 0) c.0) refl
  goes_on spot read view (Check at) two is begun =
      let from = entry_first spot at read (Check at) view is.0 in
      let c = check_completes g at (omega arith) in
      entry_goes_on g spot at read (Check at) view is.0 c.0 c.1 (loaded (look_want g (Check at)) 0) (look_loads g (look_after g (Check at) 0) c.0) refl

  -- a load that shows nothing
  nothing_more : (p : LookPhase) (n : ℕ) (view : SoFar) → so_far (view.loads ++ loaded (look_want g p) n ∷ []) view.items view.gaps ≡ with_load g p n shown.Nothing view
  nothing_more p n view = ap (λ (l : List Placed). so_far (view.loads ++ loaded (look_want g p) n ∷ []) l view.gaps) (sym (append-nil view.items)) ∙ ap (so_far (view.loads ++ loaded (look_want g p) n ∷ []) (view.items ++ [])) (sym (append-nil view.gaps))

  -- where the step of a phase leads to another phase
  abbrev GoesTo : Spot → List ℕ → ℕ → SoFar → LookPhase → LookPhase → Type 0
  GoesTo spot read n view p q = IsInPhase g (record { phase = q; end = spot.end; count = spot.count; committed = spot.committed }) (read_after p read n) (with_load g p n shown.Nothing view) q

  com_next : (k n : ℕ) (q : LookPhase) → look_after g (Com k) n ≡ after.Next q → (AllOf k (unpacked n) ≡ q) × (k ≤ n / offset_span)
  com_next k n q = by_test (n / offset_span) k (λ b. (if b then after.Block (look.Unopened (unpacked n)) else after.Next (AllOf k (unpacked n))) ≡ after.Next q → (AllOf k (unpacked n) ≡ q) × (k ≤ n / offset_span))
      (λ l e. cc) (λ l e. (cc, l))

  check_ends : (at : Cursor) (n : ℕ) (q : LookPhase) → look_after g (Check at) n ≡ after.Next q → ⊥
  check_ends at n q = by_equal (n / offset_span) at.block (λ b. (if b then after.Entry seen.Whole else after.Entry (seen.Reused (unpacked n))) ≡ after.Next q → ⊥) (λ e z. cc) (λ e z. cc)

  head_next : (spot : Spot) (read : List ℕ) (n : ℕ) (view : SoFar) (q : LookPhase) → view ≡ so_far [] [] [] → HeadA n ≡ q → GoesTo spot read n view Head q
  head_next spot read n view q is e = subst (GoesTo spot read n view Head) e (ap (λ (v : SoFar). with_load g Head n shown.Nothing v) is)

  committed_next : (spot : Spot) (read : List ℕ) (n k : ℕ) (view : SoFar) (q : LookPhase) → HavePassed g spot.end k view → k < spot.end → IsCount g (Com k) (unpacked n) → n < 2 ^ 64 → look_after g (Com k) n ≡ after.Next q → GoesTo spot read n view (Com k) q
  committed_next spot read n k view q p lt count small e =
      let c = com_next k n q e in
      subst (GoesTo spot read n view (Com k)) c.0
      (subst (IsAtAllocated g spot.end k (unpacked n)) (nothing_more (Com k) n view) record {
        before = view.loads;
        passed = p;
        more = lt;
        found = n;
        loads = refl;
        follows = e ∙ ap after.Next (sym c.0);
        within = count c.1;
        fits = omega arith;
      })

  entry_next : (spot : Spot) (at : Cursor) (next n : ℕ) (read : List ℕ) (view : SoFar) (q : LookPhase) → IsAtEntry g spot at read (Word at next) view → look_after g (Word at next) n ≡ after.Next q
      → IsAtEntry g (record { phase = q; end = spot.end; count = spot.count; committed = spot.committed }) at (read ++ n ∷ []) q (with_load g (Word at next) n shown.Nothing view)
  entry_next spot at next n read view q r e =
      subst (IsAtEntry g (record { phase = q; end = spot.end; count = spot.count; committed = spot.committed }) at (read ++ n ∷ []) q) (nothing_more (Word at next) n view) record {
        before = r.before;
        passed = r.passed;
        more = r.more;
        found = r.found;
        allocated = r.allocated;
        look = r.look;
        entries = r.entries;
        entry_leads = r.entry_leads;
        order = r.order;
        whole = r.whole;
        long = r.long;
        within = r.within;
        short = r.short;
        fits = r.fits;
        leads = leads_joined g (after.Next (Word at 0)) read (Word at next) (n ∷ []) (after.Next q) r.leads e;
        loads =
            let first : List Step = look_loads g (after.Next (Com at.block)) r.found ++ flat_map (entry_loads g) r.entries in
            ap (λ (l : List Step). l ++ loaded (look_want g (Word at next)) n ∷ []) r.loads
            ∙ append_assoc (r.before.loads ++ first) (look_loads g (after.Next (Word at 0)) read) (loaded (look_want g (Word at next)) n ∷ [])
            ∙ ap (λ (l : List Step). r.before.loads ++ first ++ l) (sym (loads_joined g (after.Next (Word at 0)) read (Word at next) (n ∷ []) r.leads));
        items = r.items;
        gaps = r.gaps;
      }

  word_next : (spot : Spot) (at : Cursor) (next n : ℕ) (read : List ℕ) (view : SoFar) (q : LookPhase) → IsInPhase g spot read view (Word at next) → look_after g (Word at next) n ≡ after.Next q → GoesTo spot read n view (Word at next) q
  word_next spot at next n read view q is e =
      let long : length (read ++ n ∷ []) ≡ next + 1 = let l = length-append read (n ∷ []) in let o = is.2 in omega arith in
      ⊎_elim
      (λ on. let to : Word at (next + 1) ≡ q = next_is (sym on.1 ∙ e) in
      subst (GoesTo spot read n view (Word at next)) to (entry_next spot at next n read view (Word at (next + 1)) is.0 on.1, on.0, long))
      (λ on. let to : Check at ≡ q = next_is (sym on.1 ∙ e) in
      subst (GoesTo spot read n view (Word at next)) to (entry_next spot at next n read view (Check at) is.0 on.1, let o = on.0 in let l = is.1 in omega arith))
      (word_follows g at next n)

  pub goes_to : (spot : Spot) (read : List ℕ) (n : ℕ) (view : SoFar) (p q : LookPhase) → IsInPhase g spot read view p → IsCount g p (unpacked n) → n < 2 ^ 64 → look_after g p n ≡ after.Next q → GoesTo spot read n view p q
  goes_to spot read n view Head q is count small e = head_next spot read n view q is (next_is e)
  goes_to spot read n view (HeadA head) q is count small e = cc
  goes_to spot read n view (Com k) q is count small e = committed_next spot read n k view q is.0 is.1 count small e
  goes_to spot read n view (AllOf k m) q is count small e = cc
  goes_to spot read n view (Word at next) q is count small e = word_next spot at next n read view q is e
  goes_to spot read n view (Check at) q is count small e = absurd (check_ends at n q e)

  -- a look at a block that showed no item
  abbrev alone : ℕ → List ℕ → Look → BlockLook
  alone k found answer = block_look g k found answer []

  no_items : (k : ℕ) (found : List ℕ) (view : SoFar) (gaps : List Gap) → so_far (view.loads ++ (look_loads g (after.Next (Com k)) found ++ [])) (view.items ++ []) gaps ≡ so_far (view.loads ++ look_loads g (after.Next (Com k)) found) (view.items ++ []) gaps
  no_items k found view gaps = ap (λ (l : List Step). so_far (view.loads ++ l) (view.items ++ []) gaps) (append-nil (look_loads g (after.Next (Com k)) found))

  pub block_unopened : (end k : ℕ) (found : List ℕ) (c : Cursor) (view : SoFar) → HavePassed g end k view → k < end → LookLeads g (after.Next (Com k)) found (after.Block (look.Unopened c)) → IsWhole g (with_look g k found shown.Nothing view)
  block_unopened end k found c view p lt leads =
      subst (IsWhole g) (no_items k found view (view.gaps ++ []))
      (ends_unopened g end k view p lt (alone k found (look.Unopened c)) refl (record { leads = leads; entries = no_entry_looks g k 0 }) c refl)

  pub block_gap : (end k : ℕ) (found : List ℕ) (c a : Cursor) (view : SoFar) → HavePassed g end k view → k < end → LookLeads g (after.Next (Com k)) found (after.Block (look.Gap c a)) → HavePassed g end (k + 1) (with_look g k found (shown.Gap (gap k c a)) view)
  block_gap end k found c a view p lt leads =
      subst (HavePassed g end (k + 1)) (no_items k found view (view.gaps ++ gap k c a ∷ []))
      (pass_on g end k view p lt (alone k found (look.Gap c a)) refl (record { leads = leads; entries = no_entry_looks g k 0 }) (record { opened = λ m e. cc; through = inl refl }))

  pub block_empty : (end k : ℕ) (found : List ℕ) (n : ℕ) (c a : Cursor) (view : SoFar) → n ≡ 0 → HavePassed g end k view → k < end → LookLeads g (after.Next (Com k)) found (after.Block (look.Whole n c a)) → HavePassed g end (k + 1) (with_look g k found shown.Nothing view)
  block_empty end k found n c a view none p lt leads =
      subst (HavePassed g end (k + 1)) (no_items k found view (view.gaps ++ []))
      (pass_on g end k view p lt (alone k found (look.Whole n c a)) refl (record { leads = leads; entries = no_entry_looks g k n }) (record { opened = λ m e. cc; through = inl (sym none) }))

  pub block_whole : (spot : Spot) (k : ℕ) (found : List ℕ) (a : Cursor) (view : SoFar) → 0 < spot.count → IsFit g (look.Whole spot.count spot.committed a) → 0 < g.width → HavePassed g spot.end k view → k < spot.end → LookLeads g (after.Next (Com k)) found (after.Block (look.Whole spot.count spot.committed a))
      → IsInPhase g spot [] (with_look g k found shown.Nothing view) (Word (cursor k 0) 0)
  block_whole spot k found a view some fit wide p lt leads = (
    record {
      before = view;
      passed = p;
      more = lt;
      found = found;
      allocated = a;
      look = leads;
      entries = [];
      entry_leads = All-nil _;
      order = refl;
      whole = All-nil _;
      long = refl;
      within = some;
      short = fit.0;
      fits = let own = (told g k found (after.Block (look.Whole spot.count spot.committed a)) leads).0 in let f = fit.1 in omega arith;
      leads = refl;
      loads = ap (λ (l : List Step). view.loads ++ l) (sym (append-nil _)) ∙ sym (append-nil _);
      items = refl;
      gaps = append-nil view.gaps;
    },
    wide,
    refl,
  )

  -- a look at an entry that came to its end
  module _ (spot : Spot) (at : Cursor) (read : List ℕ) (view : SoFar) (r : IsAtEntry g spot at read (Check at) view) (n : ℕ) where
    abbrev looked : Seen → EntryLook
    looked answer = record { at = at; found = read ++ n ∷ []; answer = answer }

    leads_end : (answer : Seen) → look_after g (Check at) n ≡ after.Entry answer → LookLeads g (after.Next (Word at 0)) (read ++ n ∷ []) (after.Entry answer)
    leads_end answer e = leads_joined g (after.Next (Word at 0)) read (Check at) (n ∷ []) (after.Entry answer) r.leads e

    loads_end : look_loads g (after.Next (Word at 0)) read ++ loaded (look_want g (Check at)) n ∷ [] ≡ look_loads g (after.Next (Word at 0)) (read ++ n ∷ [])
    loads_end = sym (loads_joined g (after.Next (Word at 0)) read (Check at) (n ∷ []) r.leads)

    -- the block with it
    entry_passed : (answer : Seen) (items : List Placed) (gaps : List Gap) → look_after g (Check at) n ≡ after.Entry answer → ((length (r.entries ++ looked answer ∷ []) ≡ spot.count) ⊎ (0 < length (reused_in (r.entries ++ looked answer ∷ []))))
        → r.before.items ++ flat_map (entry_items g) (r.entries ++ looked answer ∷ []) ≡ items → r.before.gaps ++ map (gap at.block spot.committed) (reused_in (r.entries ++ looked answer ∷ [])) ≡ gaps
        → HavePassed g spot.end (at.block + 1) (so_far (view.loads ++ loaded (look_want g (Check at)) n ∷ []) items gaps)
    entry_passed answer items gaps e through items_are gaps_are =
        let leads = leads_end answer e in
        let loads : List Step = r.before.loads ++ block_loads g (block_on g spot at read (Check at) view r (looked answer) refl leads) in
        let p = pass_on g spot.end at.block r.before r.passed r.more (block_on g spot at read (Check at) view r (looked answer) refl leads) refl (is_block g spot at read (Check at) view r (looked answer) refl leads) (record { opened = λ m q. cc; through = through }) in
        subst (λ (l : List Step). HavePassed g spot.end (at.block + 1) (so_far l items gaps)) (sym (loads_with g spot at read (Check at) view r (looked answer) refl leads (loaded (look_want g (Check at)) n ∷ []) loads_end))
        (subst (λ (l : List Placed). HavePassed g spot.end (at.block + 1) (so_far loads l gaps)) items_are (subst (λ (l : List Gap). HavePassed g spot.end (at.block + 1) (so_far loads (r.before.items ++ flat_map (entry_items g) (r.entries ++ looked answer ∷ [])) l)) gaps_are p))

    items_more : (answer : Seen) → r.before.items ++ flat_map (entry_items g) (r.entries ++ looked answer ∷ []) ≡ view.items ++ entry_items g (looked answer)
    items_more answer = ap (λ (l : List Placed). r.before.items ++ l) (flat_map_push (entry_items g) r.entries (looked answer)) ∙ sym (append_assoc r.before.items _ _) ∙ ap (λ (l : List Placed). l ++ entry_items g (looked answer)) (sym r.items)

    none_reused : reused_in r.entries ≡ []
    none_reused = all_whole r.entries r.whole

    causes_more : (answer : Seen) → reused_in (r.entries ++ looked answer ∷ []) ≡ reused_by answer
    causes_more answer = flat_map_push (λ (x : EntryLook). reused_by x.answer) r.entries (looked answer) ∙ ap (λ (l : List Cursor). l ++ reused_by answer) none_reused

    pub entry_reused : (now : Cursor) → look_after g (Check at) n ≡ after.Entry (seen.Reused now) → HavePassed g spot.end (at.block + 1) (with_load g (Check at) n (shown.Gap (gap at.block spot.committed now)) view)
    entry_reused now e =
        entry_passed (seen.Reused now) (view.items ++ []) (view.gaps ++ gap at.block spot.committed now ∷ []) e (inr (let l = ap (λ (c : List Cursor). length c) (causes_more (seen.Reused now)) in omega arith))
        (items_more (seen.Reused now)) (ap (λ (l : List Gap). l ++ map (gap at.block spot.committed) (reused_in (r.entries ++ looked (seen.Reused now) ∷ []))) (sym r.gaps) ∙ ap (λ (l : List Cursor). view.gaps ++ map (gap at.block spot.committed) l) (causes_more (seen.Reused now)))

    module _ (long : length read ≡ g.width) where
      item_is : entry_items g (looked seen.Whole) ≡ placed (place_at g at) read ∷ []
      item_is = ap (λ (l : List ℕ). placed (place_at g at) l ∷ []) (take-append-le g.width read (n ∷ []) (omega arith) ∙ take_all g.width read (omega arith))

      pub entry_last : look_after g (Check at) n ≡ after.Entry seen.Whole → spot.count ≤ at.offset + 1 → HavePassed g spot.end (at.block + 1) (with_load g (Check at) n (shown.Item (placed (place_at g at) read)) view)
      entry_last e le =
          entry_passed seen.Whole (view.items ++ placed (place_at g at) read ∷ []) (view.gaps ++ []) e (inl (let l = longer g spot at read (Check at) view r (looked seen.Whole) refl (leads_end seen.Whole e) in let w = r.within in omega arith))
          (items_more seen.Whole ∙ ap (λ (l : List Placed). view.items ++ l) item_is) (ap (λ (l : List Gap). l ++ map (gap at.block spot.committed) (reused_in (r.entries ++ looked seen.Whole ∷ []))) (sym r.gaps) ∙ ap (λ (l : List Cursor). view.gaps ++ map (gap at.block spot.committed) l) (causes_more seen.Whole))

      pub entry_more : (p : LookPhase) → look_after g (Check at) n ≡ after.Entry seen.Whole → at.offset + 1 < spot.count → 0 < g.width
          → IsInPhase g (record { phase = p; end = spot.end; count = spot.count; committed = spot.committed }) [] (with_load g (Check at) n (shown.Item (placed (place_at g at) read)) view) (Word (cursor at.block (at.offset + 1)) 0)
      entry_more p e lt wide =
          let leads = leads_end seen.Whole e in
          let loads = loads_with g spot at read (Check at) view r (looked seen.Whole) refl leads (loaded (look_want g (Check at)) n ∷ []) loads_end in (
            record {
              before = r.before;
              passed = r.passed;
              more = r.more;
              found = r.found;
              allocated = r.allocated;
              look = r.look;
              entries = r.entries ++ looked seen.Whole ∷ [];
              entry_leads = leads_more g spot at read (Check at) view r (looked seen.Whole) refl leads;
              order = order_more g spot at read (Check at) view r (looked seen.Whole) refl leads;
              whole = All-push (λ (x : EntryLook). x.answer ≡ seen.Whole) r.entries (looked seen.Whole) r.whole refl;
              long = longer g spot at read (Check at) view r (looked seen.Whole) refl leads;
              within = lt;
              short = r.short;
              fits = r.fits;
              leads = refl;
              loads = loads ∙ sym (append-nil _);
              items = sym (items_more seen.Whole ∙ ap (λ (l : List Placed). view.items ++ l) item_is);
              gaps = append-nil view.gaps ∙ r.gaps;
            },
            wide,
            refl,
          )

  -- the look at the head came to its end
  pub first_block_next : (head n : ℕ) (view : SoFar) (newest : Cursor) (to : Spot) → 2 ≤ g.blocks → view ≡ so_far (loaded (look_want g Head) head ∷ []) [] [] → unpacked n ≡ newest → to.phase ≡ Com (first_block g newest) → to.end ≡ end_block g newest
      → IsAt g to [] (with_load g (HeadA head) n shown.Nothing view)
  first_block_next head n view newest to two is same phase end =
      let v : SoFar = so_far (loaded (look_want g Head) head ∷ loaded (look_want g (HeadA head)) n ∷ []) [] [] in
      let here : v ≡ with_load g (HeadA head) n shown.Nothing view = ap (λ (w : SoFar). with_load g (HeadA head) n shown.Nothing w) (sym is) in
      let p : HavePassed g to.end (first_block g newest) v = subst (λ (e : ℕ). HavePassed g e (first_block g newest) v) (sym end) (subst (λ (c : Cursor). HavePassed g (end_block g c) (first_block g c) v) same (passed_none g head n two)) in
      subst (λ (w : SoFar). IsAt g to [] w) here (subst (IsInPhase g to [] v) (sym phase) (p, let e = end in omega arith))

  pub com_fits : (k n : ℕ) (l : Look) → look_after g (Com k) n ≡ after.Block l → IsFit g l
  com_fits k n l = by_test (n / offset_span) k (λ b. (if b then after.Block (look.Unopened (unpacked n)) else after.Next (AllOf k (unpacked n))) ≡ after.Block l → IsFit g l)
      (λ lt e. let same : look.Unopened (unpacked n) ≡ l = cc in subst (IsFit g) same tt) (λ le e. cc)

  -- the second load of a look at a block
  module _ (end k : ℕ) (m : Cursor) (view : SoFar) (r : IsAtAllocated g end k m view) (n : ℕ) (l : Look) (e : after.Block (look_of g k m (unpacked n)) ≡ after.Block l) where
    pub all_fits : IsFit g l
    all_fits =
        let same : look_of g k m (unpacked n) ≡ l = cc in
        subst (IsFit g) same (pick_whole g k m (unpacked n) (IsFit g) (λ w. (r.within, r.fits)) tt)

    pub all_leads : LookLeads g (after.Next (Com k)) (r.found ∷ n ∷ []) (after.Block l)
    all_leads = subst (λ (s : LookAfter). LookLeads g s (n ∷ []) (after.Block l)) (sym r.follows) e

    pub all_view : (s : Shown) → with_look g k (r.found ∷ n ∷ []) s (so_far r.before view.items view.gaps) ≡ with_load g (AllOf k m) n s view
    all_view s =
        let loads : look_loads g (after.Next (Com k)) (r.found ∷ n ∷ []) ≡ loaded (look_want g (Com k)) r.found ∷ loaded (look_want g (AllOf k m)) n ∷ [] = ap (λ (z : LookAfter). loaded (look_want g (Com k)) r.found ∷ look_loads g z (n ∷ [])) r.follows in
        ap (λ (z : List Step). so_far z (view.items ++ items_of s) (view.gaps ++ gaps_of s))
        (ap (λ (z : List Step). r.before ++ z) loads ∙ sym (append_assoc r.before (loaded (look_want g (Com k)) r.found ∷ []) (loaded (look_want g (AllOf k m)) n ∷ [])) ∙ ap (λ (z : List Step). z ++ loaded (look_want g (AllOf k m)) n ∷ []) (sym r.loads))
