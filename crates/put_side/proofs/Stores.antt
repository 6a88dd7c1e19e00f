-- The store of an entry word: no cursor changes, and no other entry's words.
use Rattle.std.proofs.Common.{◌≡◌, ℕ, zero, suc, ◌+◌, ◌-◌, ◌*◌, ◌/◌, ◌%◌, ◌<◌, ◌≤◌, List, [], ◌∷◌, ◌++◌, length, refl, sym, ap, ◌∙◌, subst, inl, ⊎_elim, arith}
use Rattle.std.specs.Prelude.{Some, slice_get, slice_set, slice_index, if◌then◌else◌}
use Rattle.std.specs.List.{sum_by}
use Rattle.std.proofs.lemmas.Bool.{cases_eq, cases_lt}
use Rattle.std.proofs.lemmas.Bool.Decides.{nat_tests}
use Rattle.std.proofs.lemmas.List.{get_or-set_same, get_or-set_other}
use Rattle.std.proofs.lemmas.Nat.{div-add-mod', div_below, mod_below, same_from_place}
use Rattle.cursor_word.specs.Shape.{Grid, IsWithinLimits}
use Rattle.cursor_word.specs.Cursor.{cursor_of, offset_span, place_at}
use Rattle.cursor_word.specs.Layout.{entry_index, word_count}
use Rattle.cursor_word.specs.declared.cursor.Cursor.{Cursor}
use Rattle.cursor_word.proofs.Apart.{entry_word_within}
use Rattle.cursor_word.proofs.Blocks.{same_block, same_near}
use Rattle.rail.specs.declared.entry.Placed.{Placed}
use Rattle.rail.specs.Items.{places}
use Rattle.machine.specs.declared.view.View.{View}
use Rattle.machine.proofs.Lists.{one_le_sum}
use Rattle.put_side.specs.Cursors.{Front, PutCursors, allocated_word, put_cursors}
use Rattle.put_side.specs.Stages.{PutStage, held, put_after}
use Rattle.put_side.specs.declared.put_phase.PutPhase.TheVariants.{Write, Commit}
use Rattle.put_side.specs.Stages.{At}
use Rattle.put_side.specs.Counts.{adds_in, claimed, claims, makes, one_at, one_below, times}
use Rattle.put_side.specs.Places.{IsCurrent, PutKnows, PutPlaces}
use Rattle.put_side.specs.Entries.{HasWords, HoldsWords, IsPresent}
use Rattle.put_side.proofs.Sums.{by_test, one_to, times-cons, times_push, two_le_sum}
use Rattle.put_side.proofs.Facts.{allocated_to, cursors_are, physical}
use Rattle.put_side.proofs.Frames.{IsNext, Leaves, makes_le, stays}
use Rattle.put_side.proofs.Entries.{AllHaveEntries, after_entries}
use Rattle.put_side.proofs.Loads.{knows_at}
use Rattle.put_side.proofs.Draws.{one_is}

pub below_of : (p a : ℕ) → 1 ≤ one_below p a → p < a
below_of p a h = grind (arith, nat_tests)

-- two entry words at two places have two indices
entry_apart : (g : Grid) (b o w c q x : ℕ) → o < g.size → q < g.size → w < g.width → x < g.width → entry_index g b o w ≡ entry_index g c q x → (b ≡ c) × (o ≡ q) × (w ≡ x)
entry_apart g b o w c q x lo lq lw lx e =
    let one = same_from_place (b * g.size + o) w (c * g.size + q) x g.width lw lx (omega arith) in
    let two = same_from_place b o c q g.size lo lq one.0 in
    (two.0, two.1, one.1)

-- a place that stands in a list is counted
pub counted : (items : List Placed) (k : ℕ) (item : Placed) → slice_get items k ≡ Some item → 1 ≤ times item.place (places items)
counted [] k item e = cc
counted (x ∷ xs) zero item e = let h : x ≡ item = cc in let a : one_at x.place item.place ≡ 1 = ap (λ (y : Placed). one_at y.place item.place) h ∙ one_is item.place in
    let t : times item.place (places (x ∷ xs)) ≡ one_at x.place item.place + times item.place (places xs) = times-cons item.place x.place (places xs) in omega arith
counted (x ∷ xs) (suc k) item e = let r = counted xs k item e in
    let t : times item.place (places (x ∷ xs)) ≡ one_at x.place item.place + times item.place (places xs) = times-cons item.place x.place (places xs) in omega arith

-- the entry words at one cursor, where a word is stored at another
abbrev pub AreApart : Grid → Cursor → Cursor → Type 0
AreApart g from at = from.block % g.blocks ≡ at.block % g.blocks → from.offset ≡ at.offset → ⊥

words_stay : (g : Grid) (ws : List ℕ) (at : Cursor) (next value : ℕ) (from : Cursor) (entry : List ℕ) (n : ℕ) → at.offset < g.size → next < g.width → from.offset < g.size → n ≤ g.width → AreApart g from at
    → HasWords g ws from entry n → HasWords g (slice_set ws (entry_index g (at.block % g.blocks) at.offset next) value) from entry n
words_stay g ws at next value from entry n la ln lo le far has w h =
    get_or-set_other ws (entry_index g (at.block % g.blocks) at.offset next) _ value 0
    (λ e. let t = entry_apart g _ _ _ _ _ _ lo la (omega arith) ln e in far t.0 t.1) ∙ has w h

held_stays : (g : Grid) (last : ℕ) (cs : PutCursors) (ws : List ℕ) (at : Cursor) (next value : ℕ) (entry : List ℕ) (s : PutStage) → at.offset < g.size → next < g.width
    → ((to : Cursor) → held g s ≡ place_at g to ∷ [] → IsCurrent g last to → AreApart g to at)
    → PutKnows g last cs s → HoldsWords g ws entry s → HoldsWords g (slice_set ws (entry_index g (at.block % g.blocks) at.offset next) value) entry s
held_stays g last cs ws at next value entry (At (Write to n)) la ln far f h = let c = f.0 in words_stay g ws at next value to entry n la ln (omega (arith, c.within)) (omega (arith, f.1)) (far to refl f.0) h
held_stays g last cs ws at next value entry (At (Commit to)) la ln far f h = words_stay g ws at next value to entry g.width la ln (omega (arith, f.within)) (omega arith) (far to refl f) h
held_stays g last cs ws at next value entry s la ln far f h = tt

module _ {P : Type 0} (stage : View P → PutStage) (g : Grid) (limits : IsWithinLimits g) (front : Front) (ws : List ℕ) (vs : List (View P)) (p : PutPlaces stage g front (put_cursors g ws) vs) where
  -- what is made, or held, is allocated
  pub made_below : (j : ℕ) (u : View P) (i : ℕ) (item : Placed) → slice_get vs j ≡ Some u → slice_get u.made i ≡ Some item → item.place < front.next
  made_below j u i item there made =
      let q : ℕ = item.place in
      let c = counted u.made i item made in let l = makes_le stage g q u in let m = one_le_sum (claims stage g q) vs j u there in let o = p.counts.once q in
      below_of q front.next (omega arith)

  -- the place of a made item lies in a block that is opened
  pub made_block : (j : ℕ) (u : View P) (i : ℕ) (item : Placed) → slice_get vs j ≡ Some u → slice_get u.made i ≡ Some item → (cursor_of g item.place).block ≤ front.last
  made_block j u i item there made =
      let b = made_below j u i item there made in
      let to = allocated_to p.words in
      let d : item.place / g.size < front.last + 1 - g.blocks = div_below item.place g.size (front.last + 1 - g.blocks) (omega (arith, limits.size_from)) (omega arith) in omega (arith, p.words.from)

  -- the allocated cursor of a block that holds an allocated place is of it
  pub held_there : (at : Cursor) → IsCurrent g front.last at → place_at g at < front.next → at.block * offset_span ≤ allocated_word g ws at.block
  held_there at cur below =
      let w = p.words in
      ⊎_elim (λ l. let f = w.full at.block l cur.near in omega (arith, f.0))
      (λ l. let b : at.block ≡ front.last = omega (arith, cur.to) in let r = ap (allocated_word g ws) b in let m = ap (λ (b : ℕ). (b - g.blocks) * g.size) b in
      ⊎_elim (λ q. omega (arith, q.block)) (λ q. absurd (omega (arith, q.at))) w.newest)
      (cases_lt at.block front.last)

  module _ (id : ℕ) (v v' : View P) (here : slice_get vs id ≡ Some v) (at : Cursor) (next : ℕ) (e : stage v ≡ At (Write at next)) where
    -- the stages that may come next hold the same place
    next_stage : (s : PutStage) → held g s ≡ place_at g at ∷ [] → ((r : ℕ) → adds_in g r s ≡ 0) → PutKnows g front.last (put_cursors g ws) s → IsNext g front.last (put_cursors g ws) (held g (At (Write at next))) s
    next_stage s holds none knows = record { holds = holds; knows = knows; adds = λ k. inl (none (k % g.blocks)) }

    pub places_Write : (long : 2 + 4 * g.blocks ≤ length ws) → (value : ℕ) → Leaves stage v v' (put_after g (At (Write at next)) 0)
        → PutPlaces stage g front (put_cursors g (slice_set ws (entry_index g (at.block % g.blocks) at.offset next) value)) (slice_set vs id v')
    places_Write long value to =
        let i : ℕ = entry_index g (at.block % g.blocks) at.offset next in
        let f = knows_at stage g front ws vs id v v' p here (At (Write at next)) e in
        let same : (j : ℕ) → j < 2 + 4 * g.blocks → slice_index (slice_set ws i value) j ≡ slice_index ws j = λ j l. get_or-set_other ws i j value 0 (λ r. omega arith) in
        let low : (k : ℕ) → k % g.blocks < g.blocks = λ k. mod_below k g.blocks (omega (arith, limits.blocks_from)) in
        subst (λ (c : PutCursors). PutPlaces stage g front c (slice_set vs id v'))
        (cursors_are g (slice_set ws i value) (put_cursors g ws) (same 0 (omega arith)) (λ k. let l = low k in same _ (omega arith)) (λ k. let l = low k in same _ (omega arith)))
        (by_test (next + 1) g.width (λ b. Leaves stage v v' (if b then At (Write at (next + 1)) else At (Commit at)) → PutPlaces stage g front (put_cursors g ws) (slice_set vs id v'))
        (λ l to. stays stage g front (put_cursors g ws) vs id v v' (At (Write at next)) _ p here e to.made to.stands (next_stage (At (Write at (next + 1))) refl (λ r. refl) (f.0, l)))
        (λ l to. stays stage g front (put_cursors g ws) vs id v v' (At (Write at next)) _ p here e to.made to.stands (next_stage (At (Commit at)) refl (λ r. refl) f.0))
        to)

    module _ (all : AllHaveEntries stage g (allocated_word g ws) ws vs) where
      -- by the stage that follows
      stores : (value : ℕ) (s : PutStage) → Leaves stage v v' s → (let ws' = slice_set ws (entry_index g (at.block % g.blocks) at.offset next) value in
          HoldsWords g ws' v.entry s → AllHaveEntries stage g (allocated_word g ws') ws' (slice_set vs id v'))
      stores value s to words =
          let i : ℕ = entry_index g (at.block % g.blocks) at.offset next in
          let ws' : List ℕ = slice_set ws i value in
          let q : ℕ = place_at g at in
          let own = all id v here in
          let f = knows_at stage g front ws vs id v v' p here (At (Write at next)) e in
          let cur = f.0 in
          let low : (k : ℕ) → k % g.blocks < g.blocks = λ k. mod_below k g.blocks (omega (arith, limits.blocks_from)) in
          let sa : (k : ℕ) → allocated_word g ws' k ≡ allocated_word g ws k = λ k. let l = low k in get_or-set_other ws i _ value 0 (λ r. omega arith) in
          let mine : claimed stage g v ≡ places v.made ++ q ∷ [] = ap (λ (s : PutStage). places v.made ++ held g s) e in
          let claims_it : claims stage g q v ≡ makes q v + 1 = ap (times q) mine ∙ times_push q q (places v.made) ∙ ap (λ (n : ℕ). makes q v + n) (one_is q) in
          let most : sum_by (claims stage g q) vs ≤ 1 = let o = p.counts.once q in let z = one_to q front.next in omega arith in
          let mine_in : q < front.next = let m = one_le_sum (claims stage g q) vs id v here in let o = p.counts.once q in below_of q front.next (omega arith) in
          let there : at.block * offset_span ≤ allocated_word g ws at.block = held_there at cur mine_in in
          let alone : (k : ℕ) → k % g.blocks ≡ at.block % g.blocks → IsPresent (allocated_word g ws) k → k ≤ front.last → k ≡ at.block =
          λ k r near to. let y : allocated_word g ws k ≡ allocated_word g ws at.block = physical g ws 2 k at.block r in sym (same_block g.blocks at.block k (sym r) (omega (arith, near)) (omega (arith, cur.near))) in
          let made_stay : (j : ℕ) (u : View P) → slice_get vs j ≡ Some u → (n : ℕ) (item : Placed) → slice_get u.made n ≡ Some item → IsPresent (allocated_word g ws') (cursor_of g item.place).block
          → HasWords g ws' (cursor_of g item.place) item.words g.width =
          λ j u there n item got near. let from : Cursor = cursor_of g item.place in
          words_stay g ws at next value from item.words g.width cur.within f.1 (mod_below item.place g.size (omega (arith, limits.size_from))) (omega arith)
          (λ r o. let z = alone from.block r (let y = sa from.block in omega (arith, near)) (made_block j u n item there got) in
          let h : item.place / g.size ≡ at.block - g.blocks = omega (arith, cur.from) in
          let y : item.place ≡ q = sym (div-add-mod' item.place g.size) ∙ ap (λ (b : ℕ). b * g.size + item.place % g.size) h ∙ ap (λ (b : ℕ). (at.block - g.blocks) * g.size + b) o in
          let c : 1 ≤ makes q u = subst (λ (q : ℕ). 1 ≤ makes q u) y (counted u.made n item got) in
          let l = makes_le stage g q u in
          ⊎_elim (λ r. let w : u ≡ v = cc in let d : 1 ≤ makes q v = subst (λ (z : View P). 1 ≤ makes q z) w c in let m = one_le_sum (claims stage g q) vs id v here in omega arith)
          (λ r. let m = two_le_sum (claims stage g q) vs j id u v there here (λ z. r (sym z)) in omega arith) (cases_eq j id))
          ((all j u there).made_words n item got (let y = sa from.block in omega (arith, near))) in
          after_entries stage g (allocated_word g ws) (allocated_word g ws') ws ws' (λ k. let y = sa k in omega arith) vs id v'
          (λ j u ne there. let y = all j u there in record {
            wide = y.wide;
            held_words = held_stays g front.last (put_cursors g ws) ws at next value u.entry (stage u) cur.within f.1
                (λ to h c r o. let z = same_near g.blocks to.block at.block front.last r c.to c.near cur.to cur.near in
                let w : place_at g to ≡ q = ap (λ (b : ℕ). (b - g.blocks) * g.size + to.offset) z ∙ ap (λ (b : ℕ). (at.block - g.blocks) * g.size + b) o in
                let d : claims stage g q u ≡ makes q u + 1 = ap (λ (l : List ℕ). times q (places u.made ++ l)) (h ∙ ap (λ (b : ℕ). b ∷ []) w) ∙ times_push q q (places u.made) ∙ ap (λ (n : ℕ). makes q u + n) (one_is q) in
                let m = two_le_sum (claims stage g q) vs j id u v there here (λ z. ne (sym z)) in omega arith)
                (p.each j u there).knows y.held_words;
            made_wide = y.made_wide;
            made_words = made_stay j u there;
          })
          record {
            wide = ap (λ (l : List ℕ). length l) to.entry ∙ own.wide;
            held_words = subst (HoldsWords g ws' v'.entry) (sym to.stands) (subst (λ (l : List ℕ). HoldsWords g ws' l s) (sym to.entry) words);
            made_wide = λ j item h. own.made_wide j item (ap (λ (l : List Placed). slice_get l j) (sym to.made) ∙ h);
            made_words = λ j item h. made_stay id v here j item (ap (λ (l : List Placed). slice_get l j) (sym to.made) ∙ h);
          }

      pub entries_Write : length ws ≡ word_count g → Leaves stage v v' (put_after g (At (Write at next)) 0) → (let value = slice_index v.entry next in let ws' = slice_set ws (entry_index g (at.block % g.blocks) at.offset next) value in
          AllHaveEntries stage g (allocated_word g ws') ws' (slice_set vs id v'))
      entries_Write long to =
          let value : ℕ = slice_index v.entry next in
          let i : ℕ = entry_index g (at.block % g.blocks) at.offset next in
          let ws' : List ℕ = slice_set ws i value in
          let f = knows_at stage g front ws vs id v v' p here (At (Write at next)) e in
          let written : HasWords g ws at v.entry next = subst (HoldsWords g ws v.entry) e (all id v here).held_words in
          let low = mod_below at.block g.blocks (omega (arith, limits.blocks_from)) in
          let within : i < length ws = let w = entry_word_within (at.block % g.blocks) at.offset next g.blocks g.size g.width low f.0.within f.1 in omega arith in
          let more : HasWords g ws' at v.entry (next + 1) = λ w h.
          ⊎_elim (λ q. get_or-set_other ws i _ value 0 (λ r. omega arith) ∙ written w q)
          (λ q. let z : w ≡ next = omega arith in subst (λ (k : ℕ). slice_index ws' (entry_index g (at.block % g.blocks) at.offset k) ≡ slice_index v.entry k) (sym z) (get_or-set_same ws i value 0 within)) (cases_lt w next) in
          by_test (next + 1) g.width (λ b. Leaves stage v v' (if b then At (Write at (next + 1)) else At (Commit at)) → AllHaveEntries stage g (allocated_word g ws') ws' (slice_set vs id v'))
          (λ l to. stores value (At (Write at (next + 1))) to more)
          (λ l to. let z : next + 1 ≡ g.width = omega (arith, f.1) in stores value (At (Commit at)) to (subst (HasWords g ws' at v.entry) z more))
          to
