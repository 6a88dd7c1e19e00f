-- Blocks are looked at one after another.
use Rattle.std.proofs.Common.{◌≡◌, ℕ, ◌+◌, ◌-◌, ◌*◌, ◌<◌, ◌≤◌, List, [], ◌∷◌, ◌++◌, Bool, true, false, length, length-append, refl, sym, ap, subst, ◌∙◌, inl, inr, ⊎_elim, arith}
use Rattle.std.specs.Prelude.{All, Contains, Err, Ok, Result, flat_map, map}
use Rattle.std.specs.List.{range_with_len}
use Rattle.std.specs.declared.alloc.AllocError.{AllocError}
use Rattle.std.proofs.lemmas.Bool.{cases_lt}
use Rattle.std.proofs.lemmas.List.{append-nil, map-append, map-id, map_push}
use Rattle.std.proofs.lemmas.List.Elements.{All-contains, All-nil, All-push, All-take, All-weaker, Contains-append_left, Contains-append_right, Contains-push}
use Rattle.std.proofs.lemmas.List.FromFn.{map-range_with_len_more}
use Rattle.std.proofs.Math.Nat.{mul-le-mul_right}
use Rattle.cursor_word.specs.Shape.{Grid}
use Rattle.cursor_word.specs.Cursor.{cursor_of, first_of}
use Rattle.cursor_word.specs.declared.cursor.Cursor.{Cursor}
use Rattle.cursor_word.proofs.Places.{place_of_cursor}
use Rattle.rail.specs.declared.entry.Placed.{Placed}
use Rattle.rail.specs.Items.{IsRising, places}
use Rattle.rail.proofs.Rising.{rising_push}
use Rattle.block_looks.specs.declared.look.LookPhase.TheVariants.{Head}
use Rattle.block_looks.specs.declared.look.LookAfter.TheVariants as after
use Rattle.block_looks.specs.declared.look.Look.{Look}
use Rattle.block_looks.specs.Shown.{AreBefore}
use Rattle.drop_rail.specs.Looking.{HasLooked, Looker}
use Rattle.flight_view.specs.declared.gaps.Gap.{Gap}
use Rattle.flight_view.specs.declared.walking.View.{View}
use Rattle.flight_view.specs.Walks.{BlockLook, IsBlockLook, IsPassed, IsWalk, Walk, block_gaps, block_items, block_loads, end_block, first_block, walk_items, walk_loads}
use Rattle.flight_view.specs.Views.{HasSeen, HasWalked, IsCaused, IsShown, ShowsBetween, gap_blocks}
use Rattle.flight_view.specs.Parts.{Gathers, IsInOrder, IsOneAtMost, Midway, SawBlock, midway}
use Rattle.flight_view.proofs.Gathered.{but_last_push, flat_map_push, gathers_none, gathers_on, seen_look, seen_on}
use Rattle.flight_view.proofs.Blocks.{place_in}

range_more : (a n : ℕ) → range_with_len a n ++ (a + n) ∷ [] ≡ range_with_len a (n + 1)
range_more a n =
    ap (λ (l : List ℕ). l ++ (a + n) ∷ []) (sym (map-id (range_with_len a n)))
    ∙ sym (map-range_with_len_more (λ (k : ℕ). k) a n (a + n) refl) ∙ map-id (range_with_len a (n + 1))

-- a block more in order
pub order_on : (first : ℕ) (blocks : List BlockLook) (b : BlockLook) → map (λ x. x.block) blocks ≡ range_with_len first (length blocks) → b.block ≡ first + length blocks
    → map (λ x. x.block) (blocks ++ b ∷ []) ≡ range_with_len first (length (blocks ++ b ∷ []))
order_on first blocks b order at =
    map_push (λ (x : BlockLook). x.block) blocks b
    ∙ ap (λ (l : List ℕ). l ++ b.block ∷ []) order
    ∙ ap (λ (n : ℕ). range_with_len first (length blocks) ++ n ∷ []) at
    ∙ range_more first (length blocks)
    ∙ ap (range_with_len first) (sym (length-append blocks (b ∷ [])))

-- the blocks of these gaps rise, and come before a block; and each gap has its cause
pub record AreGapsInOrder (gaps : List Gap) (block : ℕ) : Type 0 where
  pub rising : IsRising (gap_blocks gaps)
  pub before : All (λ k. k < block) (gap_blocks gaps)
  pub caused : All IsCaused gaps

-- the gaps stay in order with those of a block more
pub gaps_rise : (gaps all more : List Gap) (block : ℕ) → all ≡ gaps ++ more → IsOneAtMost block more → AreGapsInOrder gaps block → AreGapsInOrder all (block + 1)
gaps_rise gaps all more block is single o =
    let later : All (λ k. k < block + 1) (gap_blocks gaps) = All-weaker (λ k. k < block) (λ k. k < block + 1) (λ k l. omega arith) (gap_blocks gaps) o.before in
    ⊎_elim
    (λ none. let same : all ≡ gaps = is ∙ ap (λ (m : List Gap). gaps ++ m) none ∙ append-nil gaps in
    subst (λ (l : List Gap). AreGapsInOrder l (block + 1)) (sym same) (record { rising = o.rising; before = later; caused = o.caused }))
    (λ one. let here : all ≡ gaps ++ one.0 ∷ [] = is ∙ ap (λ (m : List Gap). gaps ++ m) one.1 in
    let blocks : gap_blocks (gaps ++ one.0 ∷ []) ≡ gap_blocks gaps ++ one.0.block ∷ [] = map_push (λ (x : Gap). x.block) gaps one.0 in
    let at = one.2 in
    subst (λ (l : List Gap). AreGapsInOrder l (block + 1)) (sym here) (record {
      rising = subst IsRising (sym blocks) (rising_push (gap_blocks gaps) one.0.block o.rising (subst (λ (n : ℕ). All (λ k. k < n) (gap_blocks gaps)) (sym at) o.before));
      before = subst (All (λ k. k < block + 1)) (sym blocks) (All-push (λ k. k < block + 1) (gap_blocks gaps) one.0.block later (omega arith));
      caused = All-push IsCaused gaps one.0 o.caused one.3;
    }))
    single

module _ (g : Grid) where
  -- what lies before a block's first place lies in an earlier block
  pub block_before : (p k : ℕ) → p < first_of g k → (cursor_of g p).block < k
  block_before p k l =
      ⊎_elim (λ q. q) (λ q. absurd (
      let m : (k - g.blocks) * g.size ≤ ((cursor_of g p).block - g.blocks) * g.size = mul-le-mul_right g.size (omega arith) in
      let e = place_of_cursor g p in omega arith)) (cases_lt (cursor_of g p).block k)

  pub item_before : (items : List Placed) (k : ℕ) (item : Placed) → AreBefore g items k → Contains items item → (cursor_of g item.place).block < k
  item_before items k item all h = block_before item.place k (All-contains (λ p. p < first_of g k) (places items) item.place all (place_in items item h))

  -- shown stays shown
  shown_on : (items more : List Placed) (gaps others : List Gap) (item : Placed) → IsShown g items gaps item → IsShown g (items ++ more) (gaps ++ others) item
  shown_on items more gaps others item s =
      ⊎_elim (λ h. inl (Contains-append_left items more item h))
      (λ h. inr (subst (λ (l : List ℕ). Contains l (cursor_of g item.place).block) (sym (map-append (λ (x : Gap). x.block) gaps others)) (Contains-append_left (map (λ (x : Gap). x.block) gaps) (map (λ (x : Gap). x.block) others) (cursor_of g item.place).block h))) s

  shown_also : (items more : List Placed) (gaps others : List Gap) (item : Placed) → IsShown g more others item → IsShown g (items ++ more) (gaps ++ others) item
  shown_also items more gaps others item s =
      ⊎_elim (λ h. inl (Contains-append_right items more item h))
      (λ h. inr (subst (λ (l : List ℕ). Contains l (cursor_of g item.place).block) (sym (map-append (λ (x : Gap). x.block) gaps others)) (Contains-append_right (map (λ (x : Gap). x.block) gaps) (map (λ (x : Gap). x.block) others) (cursor_of g item.place).block h))) s

  -- all blocks from the first to this one are passed
  pub record HavePassed (first block : ℕ) (old now : Midway) : Type 0 where
    pub blocks : List BlockLook
    pub looks : All (IsBlockLook g) blocks
    pub order : map (λ b. b.block) blocks ≡ range_with_len first (length blocks)
    pub at : first + length blocks ≡ block
    pub passed : All IsPassed blocks
    pub gathers : Gathers old now (flat_map (block_loads g) blocks) (flat_map (block_items g) blocks) (flat_map block_gaps blocks)
    pub shown : ShowsBetween g first block now.seat.view.made (flat_map (block_items g) blocks) (flat_map block_gaps blocks)
    pub in_order : IsInOrder g now.items block
    pub gaps_in_order : AreGapsInOrder now.gaps block

  pub passed_none : (first : ℕ) (seat : Looker) → HavePassed first first (midway seat [] []) (midway seat [] [])
  passed_none first seat = record {
    blocks = [];
    looks = All-nil _;
    order = refl;
    at = omega arith;
    passed = All-nil _;
    gathers = gathers_none (midway seat [] []);
    shown = λ item h from to. absurd (omega arith);
    in_order = record { rising = tt; before = All-nil _ };
    gaps_in_order = record { rising = tt; before = All-nil _; caused = All-nil _ };
  }

  module _ (first block : ℕ) (old now new : Midway) (r : HavePassed first block old now) where
    -- one more block
    module _ (b : BlockLook) (at : b.block ≡ block) (is : IsBlockLook g b) (one : Gathers now new (block_loads g b) (block_items g b) (block_gaps b)) where
      abbrev blocks_on : List BlockLook
      blocks_on = r.blocks ++ b ∷ []

      looks_on : All (IsBlockLook g) blocks_on
      looks_on = All-push (IsBlockLook g) r.blocks b r.looks is

      long_on : length blocks_on ≡ length r.blocks + 1
      long_on = length-append r.blocks (b ∷ [])

      gathers_all : Gathers old new (flat_map (block_loads g) blocks_on) (flat_map (block_items g) blocks_on) (flat_map block_gaps blocks_on)
      gathers_all =
          subst (λ l. Gathers old new l (flat_map (block_items g) blocks_on) (flat_map block_gaps blocks_on)) (sym (flat_map_push (block_loads g) r.blocks b))
          (subst (λ i. Gathers old new (flat_map (block_loads g) r.blocks ++ block_loads g b) i (flat_map block_gaps blocks_on)) (sym (flat_map_push (block_items g) r.blocks b))
          (subst (λ p. Gathers old new (flat_map (block_loads g) r.blocks ++ block_loads g b) (flat_map (block_items g) r.blocks ++ block_items g b) p) (sym (flat_map_push block_gaps r.blocks b))
          (gathers_on old now new _ _ _ _ _ _ r.gathers one)))

      made_is : new.seat.view.made ≡ now.seat.view.made
      made_is = ap (λ v. v.made) one.seen.view

      -- what was shown before the block is still
      shown_before : ShowsBetween g first block new.seat.view.made (flat_map (block_items g) blocks_on) (flat_map block_gaps blocks_on)
      shown_before item h from to =
          let s = shown_on (flat_map (block_items g) r.blocks) (block_items g b) (flat_map block_gaps r.blocks) (block_gaps b) item (r.shown item (subst (λ (m : List Placed). Contains m item) made_is h) from to) in
          subst (λ i. IsShown g i (flat_map block_gaps blocks_on) item) (sym (flat_map_push (block_items g) r.blocks b))
          (subst (λ p. IsShown g (flat_map (block_items g) r.blocks ++ block_items g b) p item) (sym (flat_map_push block_gaps r.blocks b)) s)

      shown_here : ShowsBetween g b.block (b.block + 1) new.seat.view.made (block_items g b) (block_gaps b) → ShowsBetween g first (block + 1) new.seat.view.made (flat_map (block_items g) blocks_on) (flat_map block_gaps blocks_on)
      shown_here own item h from to =
          ⊎_elim (λ l. shown_before item h from l)
          (λ l.
          let s = shown_also (flat_map (block_items g) r.blocks) (block_items g b) (flat_map block_gaps r.blocks) (block_gaps b) item (own item h (omega arith) (omega arith)) in
          subst (λ i. IsShown g i (flat_map block_gaps blocks_on) item) (sym (flat_map_push (block_items g) r.blocks b))
          (subst (λ p. IsShown g (flat_map (block_items g) r.blocks ++ block_items g b) p item) (sym (flat_map_push block_gaps r.blocks b)) s))
          (cases_lt (cursor_of g item.place).block block)

      pub pass_on : IsOneAtMost block (block_gaps b) → IsPassed b → ShowsBetween g b.block (b.block + 1) new.seat.view.made (block_items g b) (block_gaps b) → IsInOrder g new.items (block + 1) → HavePassed first (block + 1) old new
      pass_on single passed own in_order = record {
        blocks = blocks_on;
        looks = looks_on;
        order = order_on first r.blocks b r.order (at ∙ sym r.at);
        at = omega (arith, long_on, r.at);
        passed = All-push IsPassed r.blocks b r.passed passed;
        gathers = gathers_all;
        shown = shown_here own;
        in_order = in_order;
        gaps_in_order = gaps_rise now.gaps new.gaps (block_gaps b) block one.gaps_on single r.gaps_in_order;
      }

    pub gaps_after : (answer : Result Bool AllocError) → SawBlock g block now new answer → AreGapsInOrder new.gaps (block + 1)
    gaps_after answer saw = gaps_rise now.gaps new.gaps (block_gaps saw.looks) block saw.gathers.gaps_on saw.one r.gaps_in_order

    -- by what a look at the block said
    pub passes_on : (opened : Bool) → opened ≡ true → SawBlock g block now new (Ok opened) → IsInOrder g new.items (block + 1) → HavePassed first (block + 1) old new
    passes_on opened is said in_order =
        let saw : SawBlock g block now new (Ok true) = subst (λ (b : Bool). SawBlock g block now new (Ok b)) is said in
        pass_on saw.looks saw.at saw.is saw.gathers saw.one saw.ends.0 saw.ends.1 in_order

  -- a walk, from its look at the head
  module _ (old start : Looker) (newest : Cursor) (did : HasLooked g old start Head (after.Head newest)) (kept : start.memory.looked ≡ old.memory.looked) where
    abbrev first : ℕ
    first = first_block g newest

    abbrev walk_of : List BlockLook → Walk
    walk_of blocks = record { found = start.memory.look_trail; newest = newest; blocks = blocks }

    seen_all : (now : Midway) (blocks : List BlockLook) → Gathers (midway start [] []) now (flat_map (block_loads g) blocks) (flat_map (block_items g) blocks) (flat_map block_gaps blocks) → HasSeen old now.seat (walk_loads g (walk_of blocks)) (walk_items g (walk_of blocks))
    seen_all now blocks all = seen_on old start now.seat _ _ [] _ (seen_look g old start Head _ [] did (kept ∙ sym (append-nil _))) all.seen

    module _ (block : ℕ) (now : Midway) (r : HavePassed first block (midway start [] []) now) where
      walk_so_far : block ≤ end_block g newest → IsWalk g (walk_of r.blocks)
      walk_so_far le = record { head = did.steps.leads; looks = r.looks; order = r.order; within = omega (arith, r.at); passed = All-take IsPassed _ r.blocks r.passed }

      walk_and : (b : BlockLook) → b.block ≡ block → IsBlockLook g b → block < end_block g newest → IsWalk g (walk_of (r.blocks ++ b ∷ []))
      walk_and b at is lt = record {
        head = did.steps.leads;
        looks = All-push (IsBlockLook g) r.blocks b r.looks is;
        order = order_on first r.blocks b r.order (at ∙ sym r.at);
        within = omega (arith, r.at, length-append r.blocks (b ∷ []));
        passed = subst (All IsPassed) (sym (but_last_push r.blocks b)) r.passed;
      }

      -- it stops for want of memory, before a look at a block or in one
      pub stops_before : (error : AllocError) → block ≤ end_block g newest → HasWalked g old now.seat (Err error)
      stops_before error le = record { walk = walk_of r.blocks; is = walk_so_far le; seen = seen_all now r.blocks r.gathers; view = tt }

      pub stops_in : (new : Midway) (error other : AllocError) → SawBlock g block now new (Err error) → block < end_block g newest → HasWalked g old new.seat (Err other)
      stops_in new error other saw lt = record {
        walk = walk_of (r.blocks ++ saw.looks ∷ []);
        is = walk_and saw.looks saw.at saw.is lt;
        seen = seen_all new (r.blocks ++ saw.looks ∷ []) (gathers_all first block (midway start [] []) now new r saw.looks saw.at saw.is saw.gathers);
        view = tt;
      }

      -- it comes to a block that isn't opened
      pub ends_unopened : (new : Midway) (view : View) (opened : Bool) → opened ≡ false → SawBlock g block now new (Ok opened) → block < end_block g newest → view.items.items ≡ new.items → view.gaps ≡ new.gaps → HasWalked g old new.seat (Ok view)
      ends_unopened new view opened is said lt items gaps =
          let saw : SawBlock g block now new (Ok false) = subst (λ (b : Bool). SawBlock g block now new (Ok b)) is said in
          let all = gathers_all first block (midway start [] []) now new r saw.looks saw.at saw.is saw.gathers in
          let before = shown_before first block (midway start [] []) now new r saw.looks saw.at saw.is saw.gathers in
          record {
            walk = walk_of (r.blocks ++ saw.looks ∷ []);
            is = walk_and saw.looks saw.at saw.is lt;
            seen = seen_all new (r.blocks ++ saw.looks ∷ []) all;
            view = record {
              ended = inr (saw.ends.0.0, subst (Contains (map (λ (x : BlockLook). x.answer) (r.blocks ++ saw.looks ∷ []))) saw.ends.0.1 (subst (λ (l : List Look). Contains l saw.looks.answer) (sym (map_push (λ (x : BlockLook). x.answer) r.blocks saw.looks)) (Contains-push (map (λ (x : BlockLook). x.answer) r.blocks) saw.looks.answer)));
              items = items ∙ all.items_on;
              gaps = gaps ∙ all.gaps_on;
              own = λ item h from.
                  let to = item_before new.seat.view.made saw.looks.block item saw.ends.1 h in
                  subst (λ i. IsShown g i view.gaps item) (sym (items ∙ all.items_on)) (subst (λ p. IsShown g (flat_map (block_items g) (r.blocks ++ saw.looks ∷ [])) p item) (sym (gaps ∙ all.gaps_on)) (before item h from (omega (arith, saw.at))));
            };
          }

      -- or it has looked at all its blocks
      pub ends_whole : (view : View) → block ≡ end_block g newest → AreBefore g start.view.made (newest.block + g.blocks) → view.items.items ≡ now.items → view.gaps ≡ now.gaps → HasWalked g old now.seat (Ok view)
      ends_whole view end before items gaps = record {
        walk = walk_of r.blocks;
        is = walk_so_far (omega arith);
        seen = seen_all now r.blocks r.gathers;
        view = record {
          ended = inl (r.at ∙ end, r.passed);
          items = items ∙ r.gathers.items_on;
          gaps = gaps ∙ r.gathers.gaps_on;
          own = λ item h from.
              let to = item_before start.view.made (newest.block + g.blocks) item before (subst (λ (m : List Placed). Contains m item) (ap (λ v. v.made) r.gathers.seen.view) h) in
              subst (λ i. IsShown g i view.gaps item) (sym (items ∙ r.gathers.items_on)) (subst (λ p. IsShown g (flat_map (block_items g) r.blocks) p item) (sym (gaps ∙ r.gathers.gaps_on)) (r.shown item h from (omega arith)));
        };
      }
