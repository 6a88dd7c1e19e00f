-- A walk goes on load by load.
use Rattle.std.proofs.Common.{◌≡◌, ℕ, zero, suc, ◌+◌, ◌/◌, ◌<◌, ◌≤◌, List, [], ◌∷◌, ◌++◌, append_assoc, length, length-append, refl, sym, ap, ◌∙◌, subst, inr, ⊎_elim, arith}
use Rattle.std.specs.Prelude.{All, Contains, flat_map, map, if◌then◌else◌}
use Rattle.std.proofs.lemmas.List.{map_push}
use Rattle.std.proofs.lemmas.List.Elements.{All-nil, All-push, All-take, Contains-push}
use Rattle.std.proofs.lemmas.List.FromFn.{map-range_with_len_more}
use Rattle.cursor_word.specs.Shape.{Grid}
use Rattle.cursor_word.specs.Cursor.{cursor, offset_span, unpacked}
use Rattle.cursor_word.specs.declared.cursor.Cursor.{Cursor}
use Rattle.rail.specs.declared.entry.Placed.{Placed}
use Rattle.rail.specs.Outcome.{numbers_below}
use Rattle.step_log.specs.declared.log.Step.{Step}
use Rattle.step_log.specs.Log.{loaded}
use Rattle.put_side.proofs.Sums.{by_test}
use Rattle.put_side.proofs.Choices.{by_equal}
use Rattle.block_looks.specs.declared.look.LookPhase.{LookPhase}
use Rattle.block_looks.specs.declared.look.LookPhase.TheVariants.{Head, HeadA, Com, All as AllOf, Word, Check}
use Rattle.block_looks.specs.declared.look.LookAfter.{LookAfter}
use Rattle.block_looks.specs.declared.look.LookAfter.TheVariants as after
use Rattle.block_looks.specs.declared.look.Look.{Look}
use Rattle.block_looks.specs.declared.look.Look.TheVariants as look
use Rattle.block_looks.specs.declared.look.Seen.TheVariants as seen
use Rattle.block_looks.specs.Table.{look_after, look_want}
use Rattle.block_looks.specs.Shown.{LookLeads, look_loads}
use Rattle.flight_view.specs.declared.gaps.Gap.{Gap}
use Rattle.flight_view.specs.declared.spot.Spot.{Spot}
use Rattle.flight_view.specs.Walks.{AreEntryLooks, BlockLook, EntryLook, IsBlockLook, IsPassed, IsWalk, Walk, block_gaps, block_items, block_loads, end_block, entry_loads, first_block, walk_gaps, walk_items, walk_loads}
use Rattle.flight_view.specs.Schedules.{GoOn}
use Rattle.flight_view.specs.Spots.{HavePassed, IsAtEntry, IsOf, IsWhole, SoFar, so_far}
use Rattle.flight_view.proofs.Gathered.{but_last_push, flat_map_push}
use Rattle.flight_view.proofs.LookSteps.{word_follows}
use Rattle.flight_view.proofs.Walked.{order_on}

module _ (g : Grid) where
  -- values that lead a look on, after those that led it so far
  pub leads_joined : (s : LookAfter) (xs : List ℕ) (p : LookPhase) (ys : List ℕ) (end : LookAfter) → LookLeads g s xs (after.Next p) → LookLeads g (after.Next p) ys end → LookLeads g s (xs ++ ys) end
  leads_joined s [] p ys end e m = subst (λ (b : LookAfter). LookLeads g b ys end) (sym e) m
  leads_joined (after.Next q) (x ∷ xs) p ys end h m = leads_joined (look_after g q x) xs p ys end h m
  leads_joined (after.Head c) (x ∷ xs) p ys end h m = absurd h
  leads_joined (after.Block l) (x ∷ xs) p ys end h m = absurd h
  leads_joined (after.Entry e) (x ∷ xs) p ys end h m = absurd h

  pub loads_joined : (s : LookAfter) (xs : List ℕ) (p : LookPhase) (ys : List ℕ) → LookLeads g s xs (after.Next p) → look_loads g s (xs ++ ys) ≡ look_loads g s xs ++ look_loads g (after.Next p) ys
  loads_joined s [] p ys e = ap (λ (b : LookAfter). look_loads g b ys) e
  loads_joined (after.Next q) (x ∷ xs) p ys h = ap (λ (l : List Step). loaded (look_want g q) x ∷ l) (loads_joined (look_after g q x) xs p ys h)
  loads_joined (after.Head c) (x ∷ xs) p ys h = absurd h
  loads_joined (after.Block l) (x ∷ xs) p ys h = absurd h
  loads_joined (after.Entry e) (x ∷ xs) p ys h = absurd h

  abbrev pub block_look : ℕ → List ℕ → Look → List EntryLook → BlockLook
  block_look k found answer entries = record { block = k; found = found; answer = answer; entries = entries }

  abbrev pub with_block : Walk → BlockLook → Walk
  with_block walk b = record { found = walk.found; newest = walk.newest; blocks = walk.blocks ++ b ∷ [] }

  pub no_entry_looks : (k n : ℕ) → AreEntryLooks g k n []
  no_entry_looks k n = record { leads = All-nil _; order = refl; within = omega arith; whole = All-nil _ }

  -- one more block of a walk that has passed all before it
  module _ (end k : ℕ) (view : SoFar) (p : HavePassed g end k view) (lt : k < end) (b : BlockLook) (at : b.block ≡ k) (is : IsBlockLook g b) where
    abbrev pub walk_on : Walk
    walk_on = with_block p.walk b

    long_on : length walk_on.blocks ≡ length p.walk.blocks + 1
    long_on = length-append p.walk.blocks (b ∷ [])

    pub is_walk : IsWalk g walk_on
    is_walk = record {
      head = p.head;
      looks = All-push (IsBlockLook g) p.walk.blocks b p.looks is;
      order = order_on (first_block g p.walk.newest) p.walk.blocks b p.order (at ∙ sym p.at);
      within = let n = long_on in let f = p.at in let e = p.end_is in omega arith;
      passed = subst (All IsPassed) (sym (but_last_push p.walk.blocks b)) p.passed;
    }

    pub loads_on : view.loads ++ block_loads g b ≡ walk_loads g walk_on
    loads_on = ap (λ (l : List Step). l ++ block_loads g b) p.of.loads ∙ append_assoc _ _ (block_loads g b) ∙ ap (λ (l : List Step). look_loads g (after.Next Head) p.walk.found ++ l) (sym (flat_map_push (block_loads g) p.walk.blocks b))

    items_on : view.items ++ block_items g b ≡ walk_items g walk_on
    items_on = ap (λ (l : List Placed). l ++ block_items g b) p.of.items ∙ sym (flat_map_push (block_items g) p.walk.blocks b)

    gaps_on : view.gaps ++ block_gaps b ≡ walk_gaps walk_on
    gaps_on = ap (λ (l : List Gap). l ++ block_gaps b) p.of.gaps ∙ sym (flat_map_push block_gaps p.walk.blocks b)

    abbrev pub view_on : SoFar
    view_on = so_far (view.loads ++ block_loads g b) (view.items ++ block_items g b) (view.gaps ++ block_gaps b)

    is_of : IsOf g walk_on view_on
    is_of = record { loads = loads_on; items = items_on; gaps = gaps_on }

    pub pass_on : IsPassed b → HavePassed g end (k + 1) view_on
    pass_on passed = record {
      walk = walk_on;
      of = is_of;
      head = p.head;
      looks = All-push (IsBlockLook g) p.walk.blocks b p.looks is;
      passed = All-push IsPassed p.walk.blocks b p.passed passed;
      order = is_walk.order;
      at = let n = long_on in let f = p.at in omega arith;
      end_is = p.end_is;
      within = omega arith;
    }

    pub ends_unopened : (c : Cursor) → b.answer ≡ look.Unopened c → IsWhole g view_on
    ends_unopened c e = record {
      walk = walk_on;
      is = is_walk;
      ended = inr (c, subst (Contains (map (λ (x : BlockLook). x.answer) walk_on.blocks)) e (subst (λ (l : List Look). Contains l b.answer) (sym (map_push (λ (x : BlockLook). x.answer) p.walk.blocks b)) (Contains-push (map (λ (x : BlockLook). x.answer) p.walk.blocks) b.answer)));
      of = is_of;
    }

    -- so the loads before are the first of a walk
    pub go_on : (before : List Step) (next : Step) (more : List Step) → before ++ next ∷ more ≡ view.loads ++ block_loads g b → GoOn g before
    go_on before next more e = record { walk = walk_on; is = is_walk; next = next; more = more; first = e ∙ loads_on }

  pub so_far_walk : (end k : ℕ) (view : SoFar) (p : HavePassed g end k view) → IsWalk g p.walk
  so_far_walk end k view p = record { head = p.head; looks = p.looks; order = p.order; within = let f = p.at in let e = p.end_is in let w = p.within in omega arith; passed = All-take IsPassed _ p.walk.blocks p.passed }

  -- a walk after its look at the head
  pub passed_none : (head : ℕ) (a : ℕ) → 2 ≤ g.blocks → HavePassed g (end_block g (unpacked a)) (first_block g (unpacked a)) (so_far (loaded (look_want g Head) head ∷ loaded (look_want g (HeadA head)) a ∷ []) [] [])
  passed_none head a two = record {
    walk = record { found = head ∷ a ∷ []; newest = unpacked a; blocks = [] };
    of = record { loads = refl; items = refl; gaps = refl };
    head = refl;
    looks = All-nil _;
    passed = All-nil _;
    order = refl;
    at = omega arith;
    end_is = refl;
    within = omega arith;
  }

  pub from_first : (end k : ℕ) (view : SoFar) → HavePassed g end k view → g.blocks ≤ k
  from_first end k view p = let f = p.at in omega arith

  -- how a look could go on
  pub unopened_by_zero : (k : ℕ) → 0 < k → look_after g (Com k) 0 ≡ after.Block (look.Unopened (unpacked 0))
  unopened_by_zero k pos =
      by_test (0 / offset_span) k (λ b. (if b then after.Block (look.Unopened (unpacked 0)) else after.Next (AllOf k (unpacked 0))) ≡ after.Block (look.Unopened (unpacked 0)))
      (λ l. refl) (λ l. absurd (omega arith))

  reused_by_zero : (at : Cursor) → 0 < at.block → look_after g (Check at) 0 ≡ after.Entry (seen.Reused (unpacked 0))
  reused_by_zero at pos = by_equal (0 / offset_span) at.block (λ b. (if b then after.Entry seen.Whole else after.Entry (seen.Reused (unpacked 0))) ≡ after.Entry (seen.Reused (unpacked 0))) (λ e. absurd (omega arith)) (λ e. refl)

  abbrev pub Completes : LookPhase → Type 0
  Completes p = (ys : List ℕ) × LookLeads g (after.Next p) (0 ∷ ys) (after.Entry (seen.Reused (unpacked 0)))

  pub check_completes : (at : Cursor) → 0 < at.block → Completes (Check at)
  check_completes at pos = ([], reused_by_zero at pos)

  word_completes : (at : Cursor) (next : ℕ) → 0 < at.block → (next + 1 < g.width → Completes (Word at (next + 1))) → Completes (Word at next)
  word_completes at next pos later =
      ⊎_elim
      (λ on. let l = later on.0 in (0 ∷ l.0, subst (λ (s : LookAfter). LookLeads g s (0 ∷ l.0) (after.Entry (seen.Reused (unpacked 0)))) (sym on.1) l.1))
      (λ on. (0 ∷ [], subst (λ (s : LookAfter). LookLeads g s (0 ∷ []) (after.Entry (seen.Reused (unpacked 0)))) (sym on.1) (reused_by_zero at pos)))
      (word_follows g at next 0)

  pub words_complete : (n : ℕ) (at : Cursor) (next : ℕ) → 0 < at.block → next + n ≡ g.width → next < g.width → Completes (Word at next)
  words_complete zero at next pos e lt = absurd (omega arith)
  words_complete (suc n) at next pos e lt = word_completes at next pos (λ short. words_complete n at (next + 1) pos (omega arith) short)

  -- a look at an entry, of which so many are done
  module _ (spot : Spot) (at : Cursor) (read : List ℕ) (phase : LookPhase) (view : SoFar) (r : IsAtEntry g spot at read phase view) where
    abbrev pub whole_look : Look
    whole_look = look.Whole spot.count spot.committed r.allocated

    module _ (e : EntryLook) (here : e.at ≡ at) (leads : LookLeads g (after.Next (Word e.at 0)) e.found (after.Entry e.answer)) where
      abbrev pub entries_on : List EntryLook
      entries_on = r.entries ++ e ∷ []

      pub longer : length entries_on ≡ at.offset + 1
      longer = length-append r.entries (e ∷ []) ∙ ap (λ (n : ℕ). n + 1) r.long

      pub order_more : map (λ (x : EntryLook). x.at) entries_on ≡ map (cursor at.block) (numbers_below (length entries_on))
      order_more =
          map_push (λ (x : EntryLook). x.at) r.entries e
          ∙ ap (λ (l : List Cursor). l ++ e.at ∷ []) r.order
          ∙ ap (λ (c : Cursor). map (cursor at.block) (numbers_below (length r.entries)) ++ c ∷ []) (here ∙ ap (cursor at.block) (sym r.long))
          ∙ sym (map-range_with_len_more (cursor at.block) 0 (length r.entries) (length r.entries) (omega arith))
          ∙ ap (λ (n : ℕ). map (cursor at.block) (numbers_below n)) (sym (length-append r.entries (e ∷ [])))

      pub leads_more : All (λ (x : EntryLook). LookLeads g (after.Next (Word x.at 0)) x.found (after.Entry x.answer)) entries_on
      leads_more = All-push (λ (x : EntryLook). LookLeads g (after.Next (Word x.at 0)) x.found (after.Entry x.answer)) r.entries e r.entry_leads leads

      abbrev pub block_on : BlockLook
      block_on = block_look at.block r.found whole_look entries_on

      pub is_block : IsBlockLook g block_on
      is_block = record {
        leads = r.look;
        entries = record {
          leads = leads_more;
          order = order_more;
          within = let n = longer in let w = r.within in omega arith;
          whole = subst (All (λ (x : EntryLook). x.answer ≡ seen.Whole)) (sym (but_last_push r.entries e)) r.whole;
        };
      }

      pub loads_with : (rest : List Step) → look_loads g (after.Next (Word at 0)) read ++ rest ≡ entry_loads g e → view.loads ++ rest ≡ r.before.loads ++ block_loads g block_on
      loads_with rest is =
          let first : List Step = look_loads g (after.Next (Com at.block)) r.found in
          let done : List Step = flat_map (entry_loads g) r.entries in
          let words : List Step = look_loads g (after.Next (Word at 0)) read in
          ap (λ (l : List Step). l ++ rest) r.loads
          ∙ append_assoc (r.before.loads ++ (first ++ done)) words rest
          ∙ ap (λ (l : List Step). r.before.loads ++ (first ++ done) ++ l) is
          ∙ append_assoc r.before.loads (first ++ done) (entry_loads g e)
          ∙ ap (λ (l : List Step). r.before.loads ++ l) (append_assoc first done (entry_loads g e) ∙ ap (λ (l : List Step). first ++ l) (sym (flat_map_push (entry_loads g) r.entries e)))

    -- its looks go on
    pub entry_goes_on : (ys : List ℕ) → LookLeads g (after.Next phase) (0 ∷ ys) (after.Entry (seen.Reused (unpacked 0))) → (next : Step) (more : List Step) → look_loads g (after.Next phase) (0 ∷ ys) ≡ next ∷ more → GoOn g view.loads
    entry_goes_on ys leads next more is =
        let e : EntryLook = record { at = at; found = read ++ 0 ∷ ys; answer = seen.Reused (unpacked 0) } in
        let all = leads_joined (after.Next (Word at 0)) read phase (0 ∷ ys) (after.Entry (seen.Reused (unpacked 0))) r.leads leads in
        let joined : look_loads g (after.Next (Word at 0)) read ++ next ∷ more ≡ entry_loads g e = ap (λ (l : List Step). look_loads g (after.Next (Word at 0)) read ++ l) (sym is) ∙ sym (loads_joined (after.Next (Word at 0)) read phase (0 ∷ ys) r.leads) in
        go_on spot.end at.block r.before r.passed r.more (block_on e refl all) refl (is_block e refl all) view.loads next more (loads_with e refl all (next ∷ more) joined)
