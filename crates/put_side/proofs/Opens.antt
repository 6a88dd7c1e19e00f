-- The step that opens the committed cursor of the next block.
use Rattle.std.proofs.Common.{◌≡◌, ℕ, ◌+◌, ◌-◌, ◌*◌, ◌/◌, ◌%◌, ◌<◌, ◌≤◌, ◌≢◌, ◌⊎◌, max, List, [], ◌∷◌, length, refl, sym, ap, ◌∙◌, subst, inl, inr, ⊎_elim, arith}
use Rattle.std.specs.Prelude.{Some, slice_get, slice_set, slice_index}
use Rattle.std.specs.List.{sum_by}
use Rattle.std.proofs.lemmas.Bool.{cases_lt}
use Rattle.std.proofs.lemmas.List.{get_or-set_same, get_or-set_other}
use Rattle.std.proofs.lemmas.List.Sums.{sum_by-le-sum_by}
use Rattle.std.proofs.lemmas.Nat.{mod_below}
use Rattle.cursor_word.specs.Shape.{Grid, IsWithinLimits}
use Rattle.cursor_word.specs.Cursor.{offset_span, packed, place_at}
use Rattle.cursor_word.specs.declared.cursor.Cursor.{Cursor}
use Rattle.cursor_word.proofs.Blocks.{latest_is, same_near, shifted}
use Rattle.rail.specs.declared.entry.Placed.{Placed}
use Rattle.rail.specs.Items.{IsRising, places}
use Rattle.machine.specs.declared.view.View.{View}
use Rattle.machine.proofs.Lists.{sum_set}
use Rattle.put_side.specs.Cursors.{Front, PutCursors, allocated_word, committed_word, place, put_cursors}
use Rattle.put_side.specs.PutSteps.{next_block}
use Rattle.put_side.specs.Stages.{PutStage, held}
use Rattle.put_side.specs.declared.put_phase.PutPhase.TheVariants.{Write, Commit, OpenM, OpenA}
use Rattle.put_side.specs.Stages.{At}
use Rattle.put_side.specs.Counts.{adds, adds_in, claim_count, claimed, claims, makes, sum_below, times}
use Rattle.put_side.specs.Places.{IsCurrent, PutFits, PutKnows, PutPlaces}
use Rattle.put_side.specs.PutTable.{MayOpen}
use Rattle.put_side.proofs.Sums.{none_from, sum_same, upto_misses, upto_none, upto_same}
use Rattle.put_side.proofs.Facts.{cursors_are, filled_opened, physical, place_next, with_committed, with_last}
use Rattle.put_side.proofs.Frames.{IsGrown, Leaves, after_places, claims_none, filled_grows, fits_grows, makes_le}
use Rattle.put_side.proofs.Loads.{knows_at, loads}
use Rattle.put_side.proofs.Raises.{raised_to}
use Rattle.put_side.proofs.Commits.{held_not_made, made_once}

current_opens : (g : Grid) (last : ℕ) (at : Cursor) → IsCurrent g last at → at.block + g.blocks ≢ last + 1 → IsCurrent g (last + 1) at
current_opens g last at c n = record { from = c.from; to = omega (arith, c.to); near = ⊎_elim (λ l. l) (λ l. absurd (n (omega (arith, c.near)))) (cases_lt (last + 1) (at.block + g.blocks)); within = c.within }

-- what a seat remembers stays where a block is opened
knows_opens : (g : Grid) (last : ℕ) (cs : PutCursors) (s : PutStage) → ((at : Cursor) → held g s ≡ place_at g at ∷ [] → IsCurrent g last at → at.block + g.blocks ≢ last + 1) → PutKnows g last cs s → PutKnows g (last + 1) cs s
knows_opens g last cs (At (Write at next)) n f = (current_opens g last at f.0 (n at refl f.0), f.1)
knows_opens g last cs (At (Commit at)) n f = current_opens g last at f (n at refl f)
knows_opens g last cs s n f = f

module _ {P : Type 0} (stage : View P → PutStage) (g : Grid) (limits : IsWithinLimits g) (front : Front) (ws : List ℕ) (vs : List (View P)) (p : PutPlaces stage g front (put_cursors g ws) vs) where
  -- a place of a block that is wholly committed is held by no seat
  whole_not_held : (j : ℕ) (u : View P) (at : Cursor) → slice_get vs j ≡ Some u → held g (stage u) ≡ place_at g at ∷ [] → IsCurrent g front.last at → committed_word g ws at.block % offset_span ≡ g.size → ⊥
  whole_not_held j u at there holds cur is =
      let all = p.counts.made at.block cur.to cur.near cur.from in
      let none = held_not_made stage g front (put_cursors g ws) vs p j u at there holds in
      let room = upto_misses g.size at.offset (λ o. sum_by (makes (place g at.block o)) vs) (λ o. made_once stage g front (put_cursors g ws) vs p _) cur.within none in omega arith

  module _ (long : 2 + 4 * g.blocks ≤ length ws) (id : ℕ) (v v' : View P) (at : slice_get vs id ≡ Some v) (full : Cursor) (e : stage v ≡ At (OpenM full)) (to : Leaves stage v v' (At (OpenA full))) where
    abbrev word : ℕ
    word = slice_index ws (3 + 4 * ((full.block + 1) % g.blocks))

    abbrev words' : List ℕ
    words' = slice_set ws (3 + 4 * ((full.block + 1) % g.blocks)) (max word (next_block full))

    -- where the block is the next
    opens : full.block ≡ front.last → MayOpen g front.last (put_cursors g ws) → PutPlaces stage g (with_last front (front.last + 1)) (put_cursors g words') (slice_set vs id v')
    opens newest may =
        let last : ℕ = front.last in
        let cs : PutCursors = put_cursors g ws in
        let own = p.each id v at in
        let s = p.words in
        let f = knows_at stage g front ws vs id v v' p at (At (OpenM full)) e in
        let h : ℕ = full.block + 1 in
        let i : ℕ = 3 + 4 * (h % g.blocks) in
        let old : ℕ = word in
        let x : ℕ = max old (h * offset_span) in
        let j : ℕ = last + 1 - g.blocks in
        let two = limits.blocks_from in
        let from = s.from in
        let c = p.counts in
        let is : j + g.blocks ≡ last + 1 = omega arith in
        let turn : j % g.blocks ≡ (last + 1) % g.blocks = shifted g.blocks j (last + 1) is in
        let here : h % g.blocks ≡ (last + 1) % g.blocks = ap (λ (b : ℕ). (b + 1) % g.blocks) newest in
        let m = mod_below h g.blocks (omega arith) in
        let within : i < length ws = omega arith in
        let was = s.committed j (omega arith) (omega arith) in
        let same_old : committed_word g ws j ≡ old = physical g ws 3 j h (turn ∙ sym here) in
        let at_M : committed_word g ws j ≡ committed_word g ws (last + 1) = physical g ws 3 j (last + 1) turn in
        let new : x ≡ (last + 1) * offset_span = omega arith in
        let known : packed full ≤ allocated_word g ws last = subst (λ (b : ℕ). packed full ≤ allocated_word g ws b) newest f.known in
        let top : (allocated_word g ws last / offset_span ≡ last) × (g.size ≤ allocated_word g ws last % offset_span) × (front.next ≡ place g (last + 1) 0) =
        ⊎_elim (λ q. let o : g.size ≤ allocated_word g ws last % offset_span = omega (arith, q.block, f.filled) in let z = place_next g last from in (q.block, o, omega (arith, q.at)))
        (λ q. absurd (omega (arith, q.older))) s.newest in
        let there : committed_word g words' (last + 1) ≡ x = ap (λ (r : ℕ). slice_index words' (3 + 4 * r)) (sym here) ∙ get_or-set_same ws i x 0 within in
        let other : (k : ℕ) → k ≤ last → last + 1 < k + g.blocks → committed_word g words' k ≡ committed_word g ws k = λ k l n. get_or-set_other ws i _ x 0
        (λ r. let q : k % g.blocks ≡ h % g.blocks = omega arith in let z = same_near g.blocks k (last + 1) (last + 1) (q ∙ here) (omega arith) n (omega arith) (omega arith) in omega arith) in
        let cs' : PutCursors = with_committed cs (committed_word g words') in
        let grown : IsGrown cs cs' = record { producer = omega arith; allocated = λ k. omega arith; committed = λ k. raised_to ws i x _ within (omega arith) } in
        let old_A = s.full j (omega arith) (omega arith) in
        let at_A : allocated_word g ws j ≡ allocated_word g ws (last + 1) = physical g ws 2 j (last + 1) turn in
        let mine : claimed stage g v ≡ places v.made = claims_none stage g v (At (OpenM full)) e refl in
        let mine' : claimed stage g v' ≡ places v.made = claims_none stage g v' (At (OpenA full)) to.stands refl ∙ ap (λ (l : List Placed). places l) to.made in
        let same : claimed stage g v' ≡ claimed stage g v = mine' ∙ sym mine in
        let makes_same : (q : ℕ) → sum_by (makes q) (slice_set vs id v') ≡ sum_by (makes q) vs = λ q. sum_same (makes q) vs id v v' at (ap (λ (l : List Placed). times q (places l)) to.made) in
        let none : (o : ℕ) → sum_by (makes (place g (last + 1) o)) vs ≡ 0 = λ o. let y = sum_by-le-sum_by (makes (place g (last + 1) o)) (claims stage g (place g (last + 1) o)) vs (makes_le stage g _) in
        let q = c.once (place g (last + 1) o) in let z = none_from (place g (last + 1) o) front.next (omega (arith, top.2)) in omega arith in
        let add_le : (k : ℕ) → sum_by (adds stage g k) (slice_set vs id v') ≤ sum_by (adds stage g k) vs = λ k. let n = sum_set (adds stage g k) vs id v v' at in let y : adds stage g k v' ≡ 0 = ap (adds_in g (k % g.blocks)) to.stands in omega arith in
        let all : (n : ℕ) (u : View P) → slice_get vs n ≡ Some u → PutFits stage g (last + 1) cs' u =
        λ n u there. let y = fits_grows stage g last cs cs' u grown (p.each n u there) in
        record {
          knows = knows_opens g last cs' (stage u)
              (λ z holds cur q. let b : z.block ≡ j = omega arith in
              whole_not_held n u z there holds cur (ap (λ (b : ℕ). committed_word g ws b % offset_span) b ∙ ap (λ (w : ℕ). w % offset_span) at_M ∙ may (omega (arith, cur.from)))) y.knows;
          rising = y.rising;
        } in
        subst (λ (c : PutCursors). PutPlaces stage g (with_last front (last + 1)) c (slice_set vs id v'))
        (cursors_are g words' cs' (get_or-set_other ws i 0 x 0 (λ r. omega arith)) (λ k. get_or-set_other ws i _ x 0 (λ r. omega arith)) (λ k. refl))
        (after_places stage g front (with_last front (last + 1)) cs cs' vs id v' p
        record {
          from = omega arith;
          head_from = s.head_from;
          head_to = omega (arith, s.head_to);
          committed = λ k l n. ⊎_elim (λ q. let y = other k (omega arith) n in let z = s.committed k (omega arith) (omega arith) in ap (λ (w : ℕ). w / offset_span) y ∙ z)
              (λ q. let y : k ≡ last + 1 = omega arith in subst (λ (b : ℕ). committed_word g words' b / offset_span ≡ b) (sym y) (omega (arith, there, new))) (cases_lt k (last + 1));
          full = λ k l n. ⊎_elim (λ q. s.full k q (omega arith)) (λ q. let y : k ≡ last = omega arith in subst (λ (b : ℕ). (allocated_word g ws b / offset_span ≡ b) × (g.size ≤ allocated_word g ws b % offset_span)) (sym y) (top.0, top.1)) (cases_lt k last);
          newest = inr record { older = omega (arith, old_A.0); filled = omega (arith, old_A.1); behind = omega (arith, s.head_to); at = top.2 };
        }
        record {
          once = λ q. sum_same (claims stage g q) vs id v v' at (ap (times q) same) ∙ c.once q;
          number = sum_same (claim_count stage g) vs id v v' at (ap (λ (l : List ℕ). length l) same) ∙ c.number;
          adds = λ k l n. ⊎_elim (λ q. let y = c.adds k (omega arith) (omega arith) in let r = add_le k in omega arith)
              (λ q. let y = c.adds j (omega arith) (omega arith) in let z : k ≡ last + 1 = omega arith in
              let b : sum_by (adds stage g j) vs ≡ sum_by (adds stage g k) vs = ap (λ (r : ℕ). sum_by (λ (u : View P). adds_in g r (stage u)) vs) (turn ∙ ap (λ (b : ℕ). b % g.blocks) (sym z)) in
              let w : allocated_word g ws k ≡ allocated_word g ws j = ap (allocated_word g ws) z ∙ sym at_A in let r = add_le k in omega arith)
              (cases_lt k (last + 1));
          made = λ k l n old. ⊎_elim
              (λ q. let y = other k (omega arith) n in ap (λ (w : ℕ). w % offset_span) y ∙ c.made k (omega arith) (omega arith) old ∙ upto_same g.size _ _ (λ o b. sym (makes_same (place g k o))))
              (λ q. let z : k ≡ last + 1 = omega arith in subst (λ (b : ℕ). committed_word g words' b % offset_span ≡ sum_below g.size (λ o. sum_by (makes (place g b o)) (slice_set vs id v'))) (sym z)
              (let y = upto_none g.size (λ o. sum_by (makes (place g (last + 1) o)) (slice_set vs id v')) (λ o. makes_same _ ∙ none o) in omega (arith, there, new)))
              (cases_lt k (last + 1));
        }
        (λ n u q there. all n u there)
        record {
          knows = subst (PutKnows g (last + 1) cs') (sym to.stands) (filled_grows g (last + 1) cs cs' grown full f, let z = get_or-set_same ws i x 0 within in omega arith);
          rising = subst IsRising (sym same) own.rising;
        })

    -- the next block is opened, or was
    pub places_OpenM : (full.block ≡ front.last → MayOpen g front.last (put_cursors g ws)) → (k : ℕ) × ((k ≡ front.last) ⊎ ((k ≡ front.last + 1) × (full.block ≡ front.last))) × PutPlaces stage g (with_last front k) (put_cursors g words') (slice_set vs id v')
    places_OpenM may =
        let f = knows_at stage g front ws vs id v v' p at (At (OpenM full)) e in
        let b = filled_opened p.words limits.blocks_from (physical g ws 2) full f in
        let h : ℕ = full.block + 1 in
        let i : ℕ = 3 + 4 * (h % g.blocks) in
        ⊎_elim
        (λ n. (front.last + 1, inr (refl, omega arith), let z : full.block ≡ front.last = omega arith in opens z (may z)))
        (λ n. let l = latest_is g.blocks h front.last (omega (arith, limits.blocks_from)) (omega arith) in
        let c = p.words.committed _ l.to l.near in
        let q = physical g ws 3 _ h l.same in
        let le : h * offset_span ≤ word = omega (arith, l.from) in
        let z : word ≡ max word (h * offset_span) = omega arith in (
          front.last,
          inl refl,
          subst (λ (y : ℕ). PutPlaces stage g front (put_cursors g (slice_set ws i y)) (slice_set vs id v')) z
              (loads stage g front ws vs id v v' p at i (At (OpenM full)) (At (OpenA full)) e to record { holds = refl; knows = (f, le); adds = λ k. inl refl }),
        ))
        (cases_lt front.last h)
