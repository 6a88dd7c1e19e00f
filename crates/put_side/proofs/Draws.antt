-- One added to the allocated cursor: a place is drawn, or the block was filled.
use Rattle.std.proofs.Common.{◌≡◌, ℕ, ◌+◌, ◌*◌, ◌/◌, ◌%◌, ◌^◌, ◌<◌, ◌≤◌, ◌≢◌, ◌⊎◌, min, List, [], ◌∷◌, ◌++◌, length, refl, sym, ap, ◌∙◌, subst, inl, inr, ⊎_elim, arith}
use Rattle.std.specs.Prelude.{Some, slice_get, slice_set, slice_index, if◌then◌else◌, ◌==◌}
use Rattle.std.specs.List.{sum_by}
use Rattle.std.proofs.lemmas.Bool.{cases_eq}
use Rattle.std.proofs.lemmas.Bool.Decides.{nat_tests}
use Rattle.std.proofs.lemmas.List.{length-append, get_or-set_same, get_or-set_other}
use Rattle.std.proofs.lemmas.Nat.{div-mul-add, mod-mul-add, mod_below}
use Rattle.cursor_word.specs.Shape.{Grid, IsWithinLimits}
use Rattle.cursor_word.specs.Cursor.{block_span, most_block, offset_span, unpacked}
use Rattle.cursor_word.specs.declared.cursor.Cursor.{Cursor}
use Rattle.cursor_word.proofs.Blocks.{latest_is, same_near}
use Rattle.rail.specs.declared.entry.Placed.{Placed}
use Rattle.rail.specs.Items.{IsRising, places}
use Rattle.machine.specs.declared.view.View.{View}
use Rattle.machine.proofs.Lists.{one_le_sum, sum_set}
use Rattle.put_side.specs.Cursors.{Front, IsHalfOpen, IsOpen, PutCursors, PutWords, allocated_word, place, put_cursors}
use Rattle.put_side.specs.Stages.{PutStage, by_room, fills, held}
use Rattle.put_side.specs.declared.put_phase.PutPhase.TheVariants.{AddA, Write}
use Rattle.put_side.specs.Stages.{At}
use Rattle.put_side.specs.Counts.{PutCounts, adds, adds_in, claim_count, claimed, claims, makes, one_at, one_below, times}
use Rattle.put_side.specs.Places.{PutKnows, PutPlaces}
use Rattle.put_side.proofs.Sums.{by_test, none_from, rising_push, sum_same, times_push, upto_same}
use Rattle.put_side.proofs.Facts.{IsFound, allocated_below, cursors_are, found, found_filled, physical, with_allocated, with_next}
use Rattle.put_side.proofs.Frames.{IsGrown, Leaves, adds_bound, after_places, claims_none, filled_grows, fits_grows, quiet}
use Rattle.put_side.proofs.Loads.{fills_next, knows_at}

-- a cursor's word, and one more
pub word_up : (w : ℕ) → w / offset_span < block_span → w % offset_span + 1 < offset_span → ((w + 1) % 2 ^ 64 / offset_span ≡ w / offset_span) × ((w + 1) % 2 ^ 64 % offset_span ≡ w % offset_span + 1)
word_up w block low =
    let w' : (w + 1) % 2 ^ 64 ≡ (w / offset_span) * offset_span + (w % offset_span + 1) = omega arith in
    (ap (λ (k : ℕ). k / offset_span) w' ∙ div-mul-add (w / offset_span) offset_span (w % offset_span + 1) low, ap (λ (k : ℕ). k % offset_span) w' ∙ mod-mul-add (w / offset_span) offset_span (w % offset_span + 1) low)

pub below_more : (p a : ℕ) → one_below p a + one_at a p ≡ one_below p (a + 1)
below_more p a = grind (arith, nat_tests)

pub one_is : (p : ℕ) → one_at p p ≡ 1
one_is p = grind (arith, nat_tests)

-- the cursor words of the blocks, where that of one physical block has one more
pub record HasOneMore (g : Grid) (h : ℕ) (words words' : ℕ → ℕ) : Type 0 where
  pub there : (k : ℕ) → k % g.blocks ≡ h % g.blocks → (words' k / offset_span ≡ words k / offset_span) × (words' k % offset_span ≡ words k % offset_span + 1) × (words k ≡ words h)
  pub elsewhere : (k : ℕ) → k % g.blocks ≢ h % g.blocks → words' k ≡ words k

pub one_more_le : (g : Grid) (h : ℕ) (words words' : ℕ → ℕ) → HasOneMore g h words words' → (k : ℕ) → words k ≤ words' k
one_more_le g h words words' u k = ⊎_elim (λ q. let t = u.there k q in omega (arith, t.0, t.1)) (λ q. let e = u.elsewhere k q in omega arith) (cases_eq (k % g.blocks) (h % g.blocks))

-- where one is added to a cursor's word
pub one_more_at : (g : Grid) (ws : List ℕ) (c h : ℕ) → 2 ≤ g.blocks → c < 6 → (let old = slice_index ws (c + 4 * (h % g.blocks)) in let x = (old + 1) % 2 ^ 64 in c + 4 * (h % g.blocks) < length ws → old / offset_span < block_span → old % offset_span + 1 < offset_span
    → HasOneMore g h (λ k. slice_index ws (c + 4 * (k % g.blocks))) (λ k. slice_index (slice_set ws (c + 4 * (h % g.blocks)) x) (c + 4 * (k % g.blocks))))
one_more_at g ws c h two six within block low =
    let i : ℕ = c + 4 * (h % g.blocks) in
    let old : ℕ = slice_index ws i in
    let x : ℕ = (old + 1) % 2 ^ 64 in
    let ws' : List ℕ = slice_set ws i x in
    let up = word_up old block low in
    record {
      there = λ k q. let e : slice_index ws (c + 4 * (k % g.blocks)) ≡ old = physical g ws c k h q in let e' : slice_index ws' (c + 4 * (k % g.blocks)) ≡ x = ap (λ (r : ℕ). slice_index ws' (c + 4 * r)) q ∙ get_or-set_same ws i x 0 within in
          (ap (λ (w : ℕ). w / offset_span) e' ∙ up.0 ∙ ap (λ (w : ℕ). w / offset_span) (sym e), ap (λ (w : ℕ). w % offset_span) e' ∙ up.1 ∙ ap (λ (w : ℕ). w % offset_span + 1) (sym e), e);
      elsewhere = λ k q. get_or-set_other ws i _ x 0 (λ r. q (omega arith));
    }

module _ {g : Grid} {front : Front} {cs : PutCursors} (w : PutWords g front cs) (h : ℕ) (words' : ℕ → ℕ) (u : HasOneMore g h cs.allocated words') where
  words_filled : g.size ≤ cs.allocated h % offset_span → PutWords g front (with_allocated cs words')
  words_filled le = record {
    from = w.from;
    head_from = w.head_from;
    head_to = w.head_to;
    committed = w.committed;
    full = λ k l n. let f = w.full k l n in ⊎_elim (λ q. let t = u.there k q in (t.0 ∙ f.0, omega (arith, t.1, f.1))) (λ q. let e = u.elsewhere k q in (ap (λ (w : ℕ). w / offset_span) e ∙ f.0, omega (arith, f.1))) (cases_eq (k % g.blocks) (h % g.blocks));
    newest = ⊎_elim
        (λ q. let t = u.there front.last q in let e = ap (λ (w : ℕ). w % offset_span) t.2 in let z : min (cs.allocated front.last % offset_span) g.size ≡ min (words' front.last % offset_span) g.size = omega (arith, t.1) in
        ⊎_elim (λ c. inl record { block = t.0 ∙ c.block; at = c.at ∙ ap (place g front.last) z }) (λ c. inr record { older = omega (arith, t.0, c.older); filled = omega (arith, t.1, c.filled); behind = c.behind; at = c.at }) w.newest)
        (λ q. subst (λ (top : ℕ). IsOpen g front top ⊎ IsHalfOpen g front cs.producer top) (sym (u.elsewhere front.last q)) w.newest) (cases_eq (front.last % g.blocks) (h % g.blocks));
  }

  words_drawn : 2 ≤ g.blocks → IsFound g front h (cs.allocated h) → cs.allocated h % offset_span < g.size → PutWords g (with_next front (front.next + 1)) (with_allocated cs words')
  words_drawn two is less =
      let d = is.draws less in
      let here : front.last % g.blocks ≡ h % g.blocks = ap (λ (b : ℕ). b % g.blocks) (sym d.0) ∙ is.same in
      let t = u.there front.last here in
      let e = ap (λ (w : ℕ). w % offset_span) t.2 in
      let e' = ap (λ (w : ℕ). w / offset_span) t.2 in
      record {
        from = w.from;
        head_from = w.head_from;
        head_to = w.head_to;
        committed = w.committed;
        full = λ k l n. let q = u.elsewhere k (λ q. let c = same_near g.blocks k front.last front.last (q ∙ sym here) (omega arith) n (omega arith) (omega arith) in omega arith) in let f = w.full k l n in (ap (λ (w : ℕ). w / offset_span) q ∙ f.0, omega (arith, f.1));
        newest = inl record { block = omega (arith, t.0, d.0); at = omega (arith, t.1, d.1) };
      }

module _ {P : Type 0} (stage : View P → PutStage) (g : Grid) (front : Front) where
  -- the counts where a seat draws the next place
  counts_draws : (cs : PutCursors) (words' : ℕ → ℕ) (vs : List (View P)) (id : ℕ) (v v' : View P) → length vs ≤ g.seats → slice_get vs id ≡ Some v → PutCounts stage g front cs vs
      → claimed stage g v ≡ places v.made → claimed stage g v' ≡ places v.made ++ front.next ∷ [] → v'.made ≡ v.made
      → ((k : ℕ) → k ≤ front.last → front.last < k + g.blocks → (words' k % offset_span + adds stage g k v' ≤ cs.allocated k % offset_span + adds stage g k v) ⊎ (words' k % offset_span < g.size))
      → PutCounts stage g (with_next front (front.next + 1)) (with_allocated cs words') (slice_set vs id v')
  counts_draws cs words' vs id v v' few at c own own' made add =
      let a : ℕ = front.next in
      let makes_same : (p : ℕ) → sum_by (makes p) (slice_set vs id v') ≡ sum_by (makes p) vs = λ p. sum_same (makes p) vs id v v' at (ap (λ (l : List Placed). times p (places l)) made) in
      record {
        once = λ p. let n = sum_set (claims stage g p) vs id v v' at in let o : claims stage g p v ≡ times p (places v.made) = ap (times p) own in
            let o' : claims stage g p v' ≡ times p (places v.made) + one_at a p = ap (times p) own' ∙ times_push p a (places v.made) in
            let d = below_more p a in let k = c.once p in omega arith;
        number = let n = sum_set (claim_count stage g) vs id v v' at in let o : claim_count stage g v ≡ length (places v.made) = ap (λ (l : List ℕ). length l) own in
            let o' : claim_count stage g v' ≡ length (places v.made ++ a ∷ []) = ap (λ (l : List ℕ). length l) own' in
            let z = length-append (places v.made) (a ∷ []) in omega (arith, c.number);
        adds = λ k l near. adds_bound stage g k (cs.allocated k) (words' k) vs id v v' few at (c.adds k l near) (add k l near);
        made = λ k l near old. c.made k l near old ∙ upto_same g.size _ _ (λ o h. sym (makes_same (place g k o)));
      }

module _ {P : Type 0} (stage : View P → PutStage) (g : Grid) (limits : IsWithinLimits g) (front : Front) (ws : List ℕ) (vs : List (View P)) (p : PutPlaces stage g front (put_cursors g ws) vs) where
  -- allocated offsets are small
  pub offset_small : (h : ℕ) → h ≤ front.last → allocated_word g ws h % offset_span ≤ g.size + g.seats
  offset_small h le =
      let l = latest_is g.blocks h front.last (omega (arith, limits.blocks_from)) le in
      let e = physical g ws 2 _ _ l.same in
      let c = p.counts.adds _ l.to l.near in
      let r = ap (λ (w : ℕ). w % offset_span) e in omega arith

  -- what a seat has made and holds lies below the next place
  claims_below : (id : ℕ) (v : View P) → slice_get vs id ≡ Some v → (q : ℕ) → front.next ≤ q → times q (claimed stage g v) ≡ 0
  claims_below id v at q le = let o = p.counts.once q in let m = one_le_sum (claims stage g q) vs id v at in let z = none_from q front.next le in omega arith

  module _ (long : 2 + 4 * g.blocks ≤ length ws) (small : front.last < most_block) (id : ℕ) (v v' : View P) (at : slice_get vs id ≡ Some v) (turn : ℕ) (first : Cursor) (head : ℕ) (e : stage v ≡ At (AddA turn first head)) where
    abbrev word : ℕ
    word = allocated_word g ws head

    abbrev words' : List ℕ
    words' = slice_set ws (2 + 4 * (head % g.blocks)) ((word + 1) % 2 ^ 64)

    abbrev cursors' : PutCursors
    cursors' = with_allocated (put_cursors g ws) (allocated_word g words')

    is_cursors : cursors' ≡ put_cursors g words'
    is_cursors =
        let i : ℕ = 2 + 4 * (head % g.blocks) in
        let x : ℕ = (word + 1) % 2 ^ 64 in
        let m = mod_below head g.blocks (omega (arith, limits.blocks_from)) in
        cursors_are g words' cursors' (get_or-set_other ws i 0 x 0 (λ r. omega arith)) (λ k. refl) (λ k. get_or-set_other ws i _ x 0 (λ r. omega arith))

    one_more : HasOneMore g head (allocated_word g ws) (allocated_word g words')
    one_more =
        let f = knows_at stage g front ws vs id v v' p at (At (AddA turn first head)) e in
        let m = mod_below head g.blocks (omega (arith, limits.blocks_from)) in
        let le : head ≤ front.last = omega (arith, f.1.to, p.words.head_to) in
        let b = allocated_below p.words limits.blocks_from (physical g ws 2) head in
        let o = offset_small head le in
        one_more_at g ws 2 head limits.blocks_from (omega arith) (omega arith) (omega arith) (omega (arith, limits.size_to, limits.seats_to))

    grown : IsGrown (put_cursors g ws) cursors'
    grown = record { producer = omega arith; allocated = one_more_le g head _ _ one_more; committed = λ k. omega arith }

    adds_here : (k : ℕ) → k % g.blocks ≡ head % g.blocks → adds_in g (k % g.blocks) (At (AddA turn first head)) ≡ 1
    adds_here k q = ap (λ (b : ℕ). one_at (head % g.blocks) b) q ∙ one_is (head % g.blocks)

    -- where the block was filled
    draws_none : g.size ≤ word % offset_span → Leaves stage v v' (fills turn (unpacked word)) → PutPlaces stage g front cursors' (slice_set vs id v')
    draws_none le to =
        let cs : PutCursors = put_cursors g ws in
        let f = knows_at stage g front ws vs id v v' p at (At (AddA turn first head)) e in
        let is = found p.words limits.blocks_from (physical g ws 2) head f.1.to in
        let u = one_more in
        quiet stage g front cs vs id v v' (At (AddA turn first head)) (fills turn (unpacked word)) p at e to.made to.stands cursors' grown (λ k. refl)
        (words_filled p.words head (allocated_word g words') u le)
        (λ k l r. inl (⊎_elim (λ q. let t = u.there k q in let z = adds_here k q in omega (arith, t.1)) (λ q. let z = u.elsewhere k q in omega arith) (cases_eq (k % g.blocks) (head % g.blocks))))
        (fills_next g front.last cursors' (turn == 1) (unpacked word) (filled_grows g front.last cs cursors' grown (unpacked word) (found_filled cs head (physical g ws 2) f.1.from is le)))

    -- where a place was free
    draws_next : word % offset_span < g.size → Leaves stage v v' (At (Write (unpacked word) 0)) → PutPlaces stage g (with_next front (front.next + 1)) cursors' (slice_set vs id v')
    draws_next less to =
        let cs : PutCursors = put_cursors g ws in
        let a : ℕ = front.next in
        let own = p.each id v at in
        let f = knows_at stage g front ws vs id v v' p at (At (AddA turn first head)) e in
        let is = found p.words limits.blocks_from (physical g ws 2) head f.1.to in
        let d = is.draws less in
        let u = one_more in
        let n : (k : ℕ) → k % g.blocks ≡ head % g.blocks → adds stage g k v ≡ 1 = λ k q. ap (adds_in g (k % g.blocks)) e ∙ adds_here k q in
        let n' : (k : ℕ) → adds stage g k v' ≡ 0 = λ k. ap (adds_in g (k % g.blocks)) to.stands in
        let mine : claimed stage g v ≡ places v.made = claims_none stage g v (At (AddA turn first head)) e refl in
        let here : place g (word / offset_span) (word % offset_span) ≡ a = ap (λ (k : ℕ). place g k (word % offset_span)) d.0 ∙ sym d.1 in
        let mine' : claimed stage g v' ≡ places v.made ++ a ∷ [] =
        ap (λ (l : List Placed). places l ++ held g (stage v')) to.made ∙ ap (λ (s : PutStage). places v.made ++ held g s) to.stands ∙ ap (λ (p : ℕ). places v.made ++ p ∷ []) here in
        let below : (q : ℕ) → a ≤ q → times q (places v.made) ≡ 0 = λ q le. sym (ap (times q) mine) ∙ claims_below id v at q le in
        after_places stage g front (with_next front (a + 1)) cs cursors' vs id v' p
        (words_drawn p.words head (allocated_word g words') u limits.blocks_from is less)
        (counts_draws stage g front cs (allocated_word g words') vs id v v' p.few at p.counts mine mine' to.made
        (λ k l r. inl (let y = n' k in ⊎_elim (λ q. let t = u.there k q in let z = n k q in omega (arith, t.1)) (λ q. let z = u.elsewhere k q in omega arith) (cases_eq (k % g.blocks) (head % g.blocks)))))
        (λ j z q h. fits_grows stage g front.last cs cursors' z grown (p.each j z h))
        record {
          knows = subst (PutKnows g front.last cursors') (sym to.stands)
              (record { from = omega (arith, d.0, p.words.from); to = omega (arith, d.0); near = omega (arith, d.0, limits.blocks_from); within = less }, limits.width_from);
          rising = subst IsRising (sym mine') (rising_push (places v.made) a (subst IsRising mine own.rising) below);
        }

    -- one more place is allocated, or none
    pub places_AddA : Leaves stage v v' (by_room g word turn (At (Write (unpacked word) 0))) → (n : ℕ) × (front.next ≤ n) × PutPlaces stage g (with_next front n) (put_cursors g words') (slice_set vs id v')
    places_AddA to =
        subst (λ (c : PutCursors). (n : ℕ) × (front.next ≤ n) × PutPlaces stage g (with_next front n) c (slice_set vs id v')) is_cursors
        (by_test (word % offset_span) g.size (λ b. Leaves stage v v' (if b then At (Write (unpacked word) 0) else fills turn (unpacked word)) → (n : ℕ) × (front.next ≤ n) × PutPlaces stage g (with_next front n) cursors' (slice_set vs id v'))
        (λ l to. (front.next + 1, omega arith, draws_next l to))
        (λ l to. (front.next, omega arith, draws_none l to))
        to)
