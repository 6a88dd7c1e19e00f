-- The steps that raise the producer head, and open the allocated cursor of the next block.
use Rattle.std.proofs.Common.{◌≡◌, ℕ, ◌+◌, ◌*◌, ◌/◌, ◌%◌, ◌<◌, ◌≤◌, ◌≢◌, ◌⊎◌, max, List, length, refl, sym, ap, ◌∙◌, subst, inl, inr, ⊎_elim, arith}
use Rattle.std.specs.Prelude.{Some, slice_get, slice_set, slice_index}
use Rattle.std.proofs.lemmas.Bool.{cases_eq, cases_lt}
use Rattle.std.proofs.lemmas.Bool.Decides.{eqb_tells}
use Rattle.std.proofs.lemmas.List.{get_or-set_same, get_or-set_other}
use Rattle.std.proofs.lemmas.Nat.{mod_below}
use Rattle.cursor_word.specs.Shape.{Grid, IsWithinLimits}
use Rattle.cursor_word.specs.Cursor.{offset_span}
use Rattle.cursor_word.specs.declared.cursor.Cursor.{Cursor}
use Rattle.cursor_word.proofs.Blocks.{latest, latest_is, same_block, same_near}
use Rattle.machine.specs.declared.view.View.{View}
use Rattle.put_side.specs.Cursors.{Front, IsHalfOpen, IsOpen, PutCursors, PutWords, allocated_word, place, put_cursors}
use Rattle.put_side.specs.PutSteps.{next_block}
use Rattle.put_side.specs.Stages.{PutStage}
use Rattle.put_side.specs.declared.put_phase.PutPhase.TheVariants.{HeadP, OpenA, RaiseP}
use Rattle.put_side.specs.Stages.{At}
use Rattle.put_side.specs.Places.{PutPlaces}
use Rattle.put_side.proofs.Facts.{IsPhysical, allocated_below, committed_below, cursors_are, physical, with_allocated, with_producer}
use Rattle.put_side.proofs.Frames.{IsGrown, Leaves, filled_grows, quiet}
use Rattle.put_side.proofs.Loads.{knows_at, loads}

-- a word that is no less than before where one word of a list is raised
pub raised_to : (ws : List ℕ) (i x j : ℕ) → i < length ws → slice_index ws i ≤ x → slice_index ws j ≤ slice_index (slice_set ws i x) j
raised_to ws i x j h up =
    ⊎_elim (λ t. let e = ap (λ (n : ℕ). slice_index (slice_set ws i x) n) t.1 ∙ get_or-set_same ws i x 0 h in let k = ap (λ (n : ℕ). slice_index ws n) t.1 in omega arith)
    (λ t. let n : j ≢ i = t.1 in let e : slice_index (slice_set ws i x) j ≡ slice_index ws j = get_or-set_other ws i j _ 0 n in omega arith) (eqb_tells j i)

-- the allocated cursor of a block that was opened to commits is its own, or that of the block before it in its physical block
lags : {g : Grid} {front : Front} {cs : PutCursors} → PutWords g front cs → 2 ≤ g.blocks → IsPhysical g cs.allocated → (h : ℕ) → h ≤ front.last → cs.allocated h / offset_span < h
    → (h ≡ front.last) × IsHalfOpen g front cs.producer (cs.allocated front.last)
lags {g} {front} {cs} w two same h le old =
    let l = latest_is g.blocks h front.last (omega arith) le in
    let k : ℕ = latest g.blocks h front.last in
    let e : cs.allocated k ≡ cs.allocated h = same k h l.same in
    ⊎_elim (λ n. let f = w.full k n l.near in absurd (omega (arith, f.0, l.from)))
    (λ n. let j : k ≡ front.last = omega (arith, l.to) in let r = ap cs.allocated j in
    let is : front.last % g.blocks ≡ h % g.blocks = ap (λ (b : ℕ). b % g.blocks) (sym j) ∙ l.same in
    ⊎_elim (λ q. absurd (omega (arith, q.block))) (λ q. (same_block g.blocks h front.last (sym is) le (omega (arith, q.older)), q)) w.newest)
    (cases_lt k front.last)

module _ {P : Type 0} (stage : View P → PutStage) (g : Grid) (limits : IsWithinLimits g) (front : Front) (ws : List ℕ) (vs : List (View P)) (id : ℕ) (v v' : View P) (p : PutPlaces stage g front (put_cursors g ws) vs) (long : 2 + 4 * g.blocks ≤ length ws)
    (at : slice_get vs id ≡ Some v) (full : Cursor) where
  -- the producer head is raised
  pub places_RaiseP : stage v ≡ At (RaiseP full) → Leaves stage v v' (At (HeadP 2 full)) → PutPlaces stage g front (put_cursors g (slice_set ws 0 (max (slice_index ws 0) (full.block + 1)))) (slice_set vs id v')
  places_RaiseP e to =
      let cs : PutCursors = put_cursors g ws in
      let s = p.words in
      let f = knows_at stage g front ws vs id v v' p at (At (RaiseP full)) e in
      let x : ℕ = max (slice_index ws 0) (full.block + 1) in
      let ws' : List ℕ = slice_set ws 0 x in
      let other : (j : ℕ) → 0 < j → slice_index ws' j ≡ slice_index ws j = λ j h. get_or-set_other ws 0 j x 0 (λ q. omega arith) in
      let b = allocated_below s limits.blocks_from (physical g ws 2) (full.block + 1) in
      let le : full.block + 1 ≤ front.last = omega (arith, f.1) in
      let top : IsOpen g front (cs.allocated front.last) ⊎ IsHalfOpen g front x (cs.allocated front.last) = ⊎_elim (λ q. inl q) (λ q. inr record {
        older = q.older;
        filled = q.filled;
        behind = ⊎_elim (λ n. omega (arith, q.behind)) (λ n. let k : full.block + 1 ≡ front.last = omega arith in let w = ap cs.allocated k in absurd (omega (arith, q.older, f.1, limits.blocks_from))) (cases_lt (full.block + 1) front.last);
        at = q.at;
      }) s.newest in
      let words : PutWords g front (with_producer cs x) = record { from = s.from; head_from = omega (arith, s.head_from); head_to = omega (arith, s.head_to); committed = s.committed; full = s.full; newest = top } in
      subst (λ (c : PutCursors). PutPlaces stage g front c (slice_set vs id v'))
      (cursors_are g ws' (with_producer cs x) (get_or-set_same ws 0 x 0 (omega arith)) (λ k. other _ (omega arith)) (λ k. other _ (omega arith)))
      (quiet stage g front cs vs id v v' (At (RaiseP full)) (At (HeadP 2 full)) p at e to.made to.stands (with_producer cs x) record { producer = omega arith; allocated = λ k. omega arith; committed = λ k. omega arith } (λ k. refl) words
      (λ k l n. inl (omega arith))
      record { holds = refl; knows = inr record { is = refl; from = f.0.from; filled = f.0.filled; below = omega arith }; adds = λ k. inl refl })

  -- the allocated cursor of the next block is opened
  pub places_OpenA : stage v ≡ At (OpenA full) → Leaves stage v v' (At (RaiseP full)) → (let i = 2 + 4 * ((full.block + 1) % g.blocks) in
      PutPlaces stage g front (put_cursors g (slice_set ws i (max (slice_index ws i) (next_block full)))) (slice_set vs id v'))
  places_OpenA e to =
      let cs : PutCursors = put_cursors g ws in
      let s = p.words in
      let f = knows_at stage g front ws vs id v v' p at (At (OpenA full)) e in
      let h : ℕ = full.block + 1 in
      let i : ℕ = 2 + 4 * (h % g.blocks) in
      let old : ℕ = slice_index ws i in
      let x : ℕ = max old (h * offset_span) in
      let ws' : List ℕ = slice_set ws i x in
      let b = committed_below s limits.blocks_from (physical g ws 3) h in
      let le : h ≤ front.last = omega (arith, f.1) in
      let m = mod_below h g.blocks (omega (arith, limits.blocks_from)) in
      let within : i < length ws = omega arith in
      ⊎_elim
      (λ n. let lag = lags s limits.blocks_from (physical g ws 2) h le (omega arith) in
      let half = lag.1 in
      let is : (k : ℕ) → k % g.blocks ≡ h % g.blocks → allocated_word g ws' k ≡ h * offset_span = λ k q. let z = ap (λ (r : ℕ). slice_index ws' (2 + 4 * r)) q ∙ get_or-set_same ws i x 0 within in omega arith in
      let other : (k : ℕ) → k % g.blocks ≢ h % g.blocks → allocated_word g ws' k ≡ allocated_word g ws k = λ k q. get_or-set_other ws i _ x 0 (λ r. q (omega arith)) in
      let top = is front.last (ap (λ (b : ℕ). b % g.blocks) (sym lag.0)) in
      let cs' : PutCursors = with_allocated cs (allocated_word g ws') in
      let more : IsGrown cs cs' = record { producer = omega arith; allocated = λ k. raised_to ws i x _ within (omega arith); committed = λ k. omega arith } in
      let words : PutWords g front cs' = record {
        from = s.from;
        head_from = s.head_from;
        head_to = s.head_to;
        committed = s.committed;
        full = λ k l r. let q = other k (λ z. let c = same_near g.blocks k h front.last z (omega arith) r le (omega (arith, lag.0)) in omega (arith, lag.0)) in let y = s.full k l r in (ap (λ (w : ℕ). w / offset_span) q ∙ y.0, omega (arith, y.1));
        newest = inl record { block = omega (arith, lag.0, top); at = half.at ∙ ap (place g front.last) (omega (arith, top)) };
      } in
      subst (λ (c : PutCursors). PutPlaces stage g front c (slice_set vs id v'))
      (cursors_are g ws' cs' (get_or-set_other ws i 0 x 0 (λ r. omega arith)) (λ k. refl) (λ k. get_or-set_other ws i _ x 0 (λ r. omega arith)))
      (quiet stage g front cs vs id v v' (At (OpenA full)) (At (RaiseP full)) p at e to.made to.stands cs' more (λ k. refl) words
      (λ k l r. ⊎_elim (λ q. inr (let z = is k q in omega (arith, limits.size_from))) (λ q. inl (let z = other k q in omega arith)) (cases_eq (k % g.blocks) (h % g.blocks)))
      record { holds = refl; knows = (filled_grows g front.last cs cs' more full f.0, let z = is h refl in omega arith); adds = λ k. inl refl }))
      (λ n. let z : old ≡ x = omega arith in
      subst (λ (y : ℕ). PutPlaces stage g front (put_cursors g (slice_set ws i y)) (slice_set vs id v')) z
      (loads stage g front ws vs id v v' p at i (At (OpenA full)) (At (RaiseP full)) e to record { holds = refl; knows = (f.0, n); adds = λ k. inl refl }))
      (cases_lt old (h * offset_span))
