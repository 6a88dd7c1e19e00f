-- The entries of a block are looked at one after another.
use Rattle.std.proofs.Common.{◌≡◌, ℕ, ◌+◌, ◌<◌, ◌≤◌, List, [], ◌∷◌, ◌++◌, length, length-append, take, refl, sym, ap, subst, ◌∙◌, inl, inr, ⊎_elim, arith}
use Rattle.std.specs.Prelude.{All, Contains, Err, Ok, None, Some, flat_map, map}
use Rattle.std.specs.declared.alloc.AllocError.{AllocError}
use Rattle.std.proofs.lemmas.Bool.{cases_lt}
use Rattle.std.proofs.lemmas.List.{append-nil, map-append, map_push}
use Rattle.std.proofs.lemmas.List.Elements.{All-nil, All-push, All-take, All-weaker, Contains-append_left, Contains-append_right}
use Rattle.std.proofs.lemmas.List.FromFn.{map-range_with_len_more}
use Rattle.cursor_word.specs.Shape.{Grid}
use Rattle.cursor_word.specs.Cursor.{cursor, cursor_of, first_of, place_at}
use Rattle.cursor_word.specs.declared.cursor.Cursor.{Cursor}
use Rattle.cursor_word.proofs.Places.{first_after, place_after, place_of_cursor}
use Rattle.rail.specs.declared.entry.Placed.{Placed}
use Rattle.rail.specs.Items.{IsRising, placed, places}
use Rattle.rail.specs.Outcome.{numbers_below}
use Rattle.rail.proofs.Rising.{rising_gains}
use Rattle.block_looks.specs.declared.look.LookPhase.TheVariants.{Word, Check}
use Rattle.block_looks.specs.declared.look.LookAfter.TheVariants as after
use Rattle.block_looks.specs.declared.look.Seen.{Seen}
use Rattle.block_looks.specs.declared.look.Seen.TheVariants as seen
use Rattle.block_looks.specs.Shown.{LookLeads, LookShows}
use Rattle.drop_rail.specs.Looking.{HasLooked, Looker}
use Rattle.flight_view.specs.Walks.{AreEntryLooks, EntryLook, entry_items, entry_loads, item_seen, reused_by, reused_in}
use Rattle.flight_view.specs.Parts.{Gathers, IsInOrder, Midway, OwnAreFound, SawEntries, SawEntry, entry_look, midway}
use Rattle.flight_view.proofs.Gathered.{but_last_push, flat_map_push, gathers_none, gathers_on, seen_look}

-- an entry that was found whole
pub saw_whole_entry : (g : Grid) (old new : Looker) (at : Cursor) (out : List ℕ) → HasLooked g old new (Word at 0) (after.Entry seen.Whole)
    → new.memory.looked ≡ old.memory.looked ++ placed (place_at g at) out ∷ [] → new.memory.looking ≡ old.memory.looking → out ≡ take g.width new.memory.look_trail
    → LookShows g new.view.made (Check at) out (after.Entry seen.Whole) → SawEntry g old new (entry_look at new.memory.look_trail seen.Whole)
saw_whole_entry g old new at out did looked looking words shown = record {
  leads = did.steps.leads;
  seen = seen_look g old new (Word at 0) _ _ did (looked ∙ ap (λ (l : List ℕ). old.memory.looked ++ placed (place_at g at) l ∷ []) words);
  looking = looking;
  own = λ mine has e. (0, omega arith, ap (placed (place_at g at)) (sym (shown mine has ∙ words)));
  later = λ now e. cc;
}

module _ (g : Grid) (counted : Cursor) where
  -- so many entries were looked at and found whole
  pub record AreRead (old now : Midway) (next : ℕ) : Type 0 where
    pub entries : List EntryLook
    pub leads : All (λ e. LookLeads g (after.Next (Word e.at 0)) e.found (after.Entry e.answer)) entries
    pub order : map (λ e. e.at) entries ≡ map (cursor counted.block) (numbers_below (length entries))
    pub long : length entries ≡ next
    pub whole : All (λ e. e.answer ≡ seen.Whole) entries
    pub none : reused_in entries ≡ []
    pub gathers : Gathers old now (flat_map (entry_loads g) entries) (flat_map (entry_items g) entries) []
    pub own : OwnAreFound g counted.block next now.seat.view.made (flat_map (entry_items g) entries)
    pub looking : now.seat.memory.looking ≡ old.seat.memory.looking
    pub rising : IsRising (places now.items)
    pub before : All (λ p. p < place_at g (cursor counted.block next)) (places now.items)

  pub read_none : (a : Midway) → IsInOrder g a.items counted.block → AreRead a a 0
  read_none a o = record {
    entries = [];
    leads = All-nil _;
    order = refl;
    long = refl;
    whole = All-nil _;
    none = refl;
    gathers = gathers_none a;
    own = λ item h b l. absurd (omega arith);
    looking = refl;
    rising = o.rising;
    before = All-weaker (λ p. p < first_of g counted.block) (λ p. p < place_at g (cursor counted.block 0)) (λ p l. omega arith) (places a.items) o.before;
  }

  module _ (old now : Midway) (next : ℕ) (r : AreRead old now next) where
    long_push : (e : EntryLook) → length (r.entries ++ e ∷ []) ≡ length r.entries + 1
    long_push e = length-append r.entries (e ∷ [])

    order_push : (e : EntryLook) → e.at ≡ cursor counted.block next → map (λ x. x.at) (r.entries ++ e ∷ []) ≡ map (cursor counted.block) (numbers_below (length (r.entries ++ e ∷ [])))
    order_push e at =
        let last : e.at ≡ cursor counted.block (length r.entries) = at ∙ ap (cursor counted.block) (sym r.long) in
        map_push (λ (x : EntryLook). x.at) r.entries e
        ∙ ap (λ (l : List Cursor). l ++ e.at ∷ []) r.order
        ∙ ap (λ (c : Cursor). map (cursor counted.block) (numbers_below (length r.entries)) ++ c ∷ []) last
        ∙ sym (map-range_with_len_more (cursor counted.block) 0 (length r.entries) (length r.entries) (omega arith))
        ∙ ap (λ (n : ℕ). map (cursor counted.block) (numbers_below n)) (sym (long_push e))

    module _ (new : Looker) (items : List Placed) (e : EntryLook) (at : e.at ≡ cursor counted.block next) (saw : SawEntry g now.seat new e) (items_are : items ≡ now.items ++ entry_items g e) where
      leads_push : All (λ x. LookLeads g (after.Next (Word x.at 0)) x.found (after.Entry x.answer)) (r.entries ++ e ∷ [])
      leads_push = All-push (λ (x : EntryLook). LookLeads g (after.Next (Word x.at 0)) x.found (after.Entry x.answer)) r.entries e r.leads saw.leads

      gathers_push : Gathers old (midway new items now.gaps) (flat_map (entry_loads g) (r.entries ++ e ∷ [])) (flat_map (entry_items g) (r.entries ++ e ∷ [])) []
      gathers_push =
          let one : Gathers now (midway new items now.gaps) (entry_loads g e) (entry_items g e) [] = record { seen = saw.seen; items_on = items_are; gaps_on = sym (append-nil now.gaps) } in
          subst (λ l. Gathers old (midway new items now.gaps) l (flat_map (entry_items g) (r.entries ++ e ∷ [])) []) (sym (flat_map_push (entry_loads g) r.entries e))
          (subst (λ i. Gathers old (midway new items now.gaps) (flat_map (entry_loads g) r.entries ++ entry_loads g e) i []) (sym (flat_map_push (entry_items g) r.entries e))
          (gathers_on old now (midway new items now.gaps) _ _ _ _ [] [] r.gathers one))

      made_is : new.view.made ≡ now.seat.view.made
      made_is = ap (λ v. v.made) saw.seen.view

      -- one that was found whole
      module _ (whole : e.answer ≡ seen.Whole) where
        abbrev item : Placed
        item = placed (place_at g e.at) (take g.width e.found)

        item_is : entry_items g e ≡ item ∷ []
        item_is = ap (item_seen item) whole

        place_is : item.place ≡ place_at g (cursor counted.block next)
        place_is = ap (place_at g) at

        own_push : OwnAreFound g counted.block (next + 1) new.view.made (flat_map (entry_items g) (r.entries ++ e ∷ []))
        own_push x has block below =
            subst (λ (l : List Placed). Contains l x) (sym (flat_map_push (entry_items g) r.entries e))
            (⊎_elim
            (λ l. Contains-append_left (flat_map (entry_items g) r.entries) (entry_items g e) x (r.own x (subst (λ (m : List Placed). Contains m x) made_is has) block l))
            (λ l. let offset : (cursor_of g x.place).offset ≡ next = omega arith in
            let there : cursor_of g x.place ≡ e.at = (λ i. record { block = block i; offset = offset i }) ∙ sym at in
            let p : x.place ≡ place_at g e.at = sym (place_of_cursor g x.place) ∙ ap (place_at g) there in
            let mine : Contains new.view.made (placed (place_at g e.at) x.words) = subst (λ (q : ℕ). Contains new.view.made (placed q x.words)) p has in
            Contains-append_right (flat_map (entry_items g) r.entries) (entry_items g e) x (subst (λ (q : ℕ). Contains (entry_items g e) (placed q x.words)) (sym p) (saw.own x.words mine whole)))
            (cases_lt (cursor_of g x.place).offset next))

        at_end : items ≡ now.items ++ item ∷ []
        at_end = items_are ∙ ap (λ (l : List Placed). now.items ++ l) item_is

        below : All (λ p. p < item.place) (places now.items)
        below = subst (λ (n : ℕ). All (λ p. p < n) (places now.items)) (sym place_is) r.before

        places_are : places items ≡ places now.items ++ item.place ∷ []
        places_are = ap places at_end ∙ map-append (λ (i : Placed). i.place) now.items (item ∷ [])

        pub read_on : AreRead old (midway new items now.gaps) (next + 1)
        read_on = record {
          entries = r.entries ++ e ∷ [];
          leads = leads_push;
          order = order_push e at;
          long = long_push e ∙ ap (λ (n : ℕ). n + 1) r.long;
          whole = All-push (λ (x : EntryLook). x.answer ≡ seen.Whole) r.entries e r.whole whole;
          none = flat_map_push (λ (x : EntryLook). reused_by x.answer) r.entries e ∙ ap (λ (l : List Cursor). l ++ reused_by e.answer) r.none ∙ ap reused_by whole;
          gathers = gathers_push;
          own = own_push;
          looking = saw.looking ∙ r.looking;
          rising = rising_gains now.items items item r.rising (record { at_end = at_end; beyond = below });
          before = let n = place_after g counted.block next in
              subst (All (λ p. p < place_at g (cursor counted.block (next + 1)))) (sym places_are)
              (All-push (λ p. p < place_at g (cursor counted.block (next + 1))) (places now.items) item.place
              (All-weaker (λ p. p < place_at g (cursor counted.block next)) (λ p. p < place_at g (cursor counted.block (next + 1))) (λ p l. omega arith) (places now.items) r.before)
              (omega (arith, place_is)));
        }

      -- one that was found reused ends the looks at the block
      pub read_reused : (cause : Cursor) → e.answer ≡ seen.Reused cause → next < counted.offset → SawEntries g counted old (midway new items now.gaps) (Ok (Some cause))
      read_reused cause is lt =
          let causes : reused_in (r.entries ++ e ∷ []) ≡ cause ∷ [] = flat_map_push (λ (x : EntryLook). reused_by x.answer) r.entries e ∙ ap (λ (l : List Cursor). l ++ reused_by e.answer) r.none ∙ ap reused_by is in
          record {
            entries = r.entries ++ e ∷ [];
            looks = record {
              leads = leads_push;
              order = order_push e at;
              within = omega (arith, long_push e, r.long);
              whole = subst (All (λ (x : EntryLook). x.answer ≡ seen.Whole)) (sym (but_last_push r.entries e)) r.whole;
            };
            gathers = gathers_push;
            ends = (causes, inl (let n = ap length causes in omega arith), let l = saw.later cause is in let b = ap (λ (k : Cursor). k.block) at in omega arith);
            whole = tt;
          }

      pub reused_items : (cause : Cursor) → e.answer ≡ seen.Reused cause → items ≡ now.items
      reused_items cause is = items_are ∙ ap (λ (a : Seen). now.items ++ item_seen (placed (place_at g e.at) (take g.width e.found)) a) is ∙ append-nil now.items

    looks_so_far : next ≤ counted.offset → AreEntryLooks g counted.block counted.offset r.entries
    looks_so_far le = record { leads = r.leads; order = r.order; within = omega (arith, r.long); whole = All-take (λ (x : EntryLook). x.answer ≡ seen.Whole) _ r.entries r.whole }

    -- the looks stop for want of memory, or have come to the end
    pub read_stops : (error : AllocError) → next ≤ counted.offset → SawEntries g counted old now (Err error)
    read_stops error le = record { entries = r.entries; looks = looks_so_far le; gathers = r.gathers; ends = tt; whole = r.none }

    pub read_ends : next ≡ counted.offset → SawEntries g counted old now (Ok None)
    read_ends e = record {
      entries = r.entries;
      looks = looks_so_far (omega arith);
      gathers = r.gathers;
      ends = (r.none, inr (r.long ∙ e, subst (λ (n : ℕ). OwnAreFound g counted.block n now.seat.view.made (flat_map (entry_items g) r.entries)) e r.own), tt);
      whole = tt;
    }

    pub read_in_order : g.blocks ≤ counted.block → next ≤ g.size → IsInOrder g now.items (counted.block + 1)
    read_in_order from le =
        let n = first_after g counted.block from in
        record {
          rising = r.rising;
          before = All-weaker (λ p. p < place_at g (cursor counted.block next)) (λ p. p < first_of g (counted.block + 1)) (λ p l. omega arith) (places now.items) r.before;
        }
