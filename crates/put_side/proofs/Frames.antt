-- What stays of cursors and places where a step changes few cursors and one view.
use Rattle.std.proofs.Common.{◌≡◌, ℕ, ◌+◌, ◌%◌, ◌<◌, ◌≤◌, ◌≢◌, ◌⊎◌, List, [], ◌++◌, length, refl, sym, ap, ◌∙◌, subst, inl, inr, ⊎_elim, arith}
use Rattle.std.specs.Prelude.{Some, slice_get, slice_set}
use Rattle.std.specs.List.{sum_by}
use Rattle.std.proofs.lemmas.List.{append-nil, length-set}
use Rattle.std.proofs.lemmas.List.Sums.{sum_by-append, sum_by-le}
use Rattle.cursor_word.specs.Shape.{Grid}
use Rattle.cursor_word.specs.Cursor.{offset_span}
use Rattle.cursor_word.specs.declared.cursor.Cursor.{Cursor}
use Rattle.rail.specs.declared.entry.Placed.{Placed}
use Rattle.rail.specs.Items.{IsRising, places}
use Rattle.machine.specs.declared.view.View.{View}
use Rattle.machine.proofs.Lists.{get_set, sum_set}
use Rattle.put_side.specs.Cursors.{Front, PutCursors, PutWords, place}
use Rattle.put_side.specs.Stages.{PutStage, held}
use Rattle.put_side.specs.declared.put_phase.PutPhase.TheVariants.{HeadP, SeeA, AddA, Write, Commit, OpenM, OpenA, RaiseP}
use Rattle.put_side.specs.Stages.{Away, At, Fills}
use Rattle.put_side.specs.Counts.{PutCounts, adds, adds_in, claim_count, claimed, claims, makes, one_at, times}
use Rattle.put_side.specs.Places.{IsFilled, IsHead, IsTurn, PutFits, PutKnows, PutPlaces}
use Rattle.put_side.proofs.Sums.{one_le, sum_same, upto_same}

-- the cursors only grow
pub record IsGrown (cs cs' : PutCursors) : Type 0 where
  pub producer : cs.producer ≤ cs'.producer
  pub allocated : (k : ℕ) → cs.allocated k ≤ cs'.allocated k
  pub committed : (k : ℕ) → cs.committed k ≤ cs'.committed k

pub grown_same : (cs : PutCursors) → IsGrown cs cs
grown_same cs = record { producer = omega arith; allocated = λ k. omega arith; committed = λ k. omega arith }

module _ (g : Grid) (last : ℕ) (cs cs' : PutCursors) (more : IsGrown cs cs') where
  -- what a seat remembers stays
  turn_grows : (turn : ℕ) (first : Cursor) (head head' : ℕ) → head ≤ head' → IsTurn g turn first head → IsTurn g turn first head'
  turn_grows turn first head head' le f = ⊎_elim (λ t. inl t) (λ t. inr record { is = t.is; from = t.from; filled = t.filled; below = omega (arith, t.below) }) f

  head_grows : (head : ℕ) → IsHead g cs head → IsHead g cs' head
  head_grows head f = record { from = f.from; to = omega (arith, f.to, more.producer) }

  pub filled_grows : (full : Cursor) → IsFilled g cs full → IsFilled g cs' full
  filled_grows full f = record { from = f.from; filled = f.filled; fits = f.fits; known = let e = more.allocated full.block in omega (arith, f.known) }

  pub knows_grows : (s : PutStage) → PutKnows g last cs s → PutKnows g last cs' s
  knows_grows Away f = tt
  knows_grows (At (HeadP turn first)) f = turn_grows turn first cs.producer cs'.producer more.producer f
  knows_grows (At (SeeA turn first head)) f = (f.0, head_grows head f.1)
  knows_grows (At (AddA turn first head)) f = (f.0, head_grows head f.1)
  knows_grows (At (Write at next)) f = f
  knows_grows (At (Commit at)) f = f
  knows_grows (Fills full) f = filled_grows full f
  knows_grows (At (OpenM full)) f = filled_grows full f
  knows_grows (At (OpenA full)) f = (filled_grows full f.0, let e = more.committed (full.block + 1) in omega (arith, f.1))
  knows_grows (At (RaiseP full)) f = (filled_grows full f.0, let e = more.allocated (full.block + 1) in omega (arith, f.1))

adds_le : (g : Grid) (k : ℕ) (s : PutStage) → adds_in g k s ≤ 1
adds_le g k (At (AddA turn first head)) = one_le (head % g.blocks) k
adds_le g k s = omega arith

-- a step that makes nothing leaves its seat's put at this stage
pub record Leaves {P : Type 0} (stage : View P → PutStage) (v v' : View P) (s : PutStage) : Type 0 where
  pub made : v'.made ≡ v.made
  pub entry : v'.entry ≡ v.entry
  pub stands : stage v' ≡ s

-- the next stage of a put, where these places are held
pub record IsNext (g : Grid) (last : ℕ) (cs : PutCursors) (kept : List ℕ) (s : PutStage) : Type 0 where
  pub holds : held g s ≡ kept
  pub knows : PutKnows g last cs s
  pub adds : (k : ℕ) → (adds_in g (k % g.blocks) s ≡ 0) ⊎ (cs.allocated k % offset_span < g.size)

module _ {P : Type 0} (stage : View P → PutStage) (g : Grid) where
  pub makes_le : (p : ℕ) (v : View P) → makes p v ≤ claims stage g p v
  makes_le p v = let s = sum_by-append (λ (q : ℕ). one_at q p) (places v.made) (held g (stage v)) in omega arith

  pub fits_grows : (last : ℕ) (cs cs' : PutCursors) (u : View P) → IsGrown cs cs' → PutFits stage g last cs u → PutFits stage g last cs' u
  fits_grows last cs cs' u more f = record { knows = knows_grows g last cs cs' more (stage u) f.knows; rising = f.rising }

  -- what holds after a step, from its parts
  pub after_places : (front front' : Front) (cs cs' : PutCursors) (vs : List (View P)) (id : ℕ) (v' : View P) → PutPlaces stage g front cs vs
      → PutWords g front' cs' → PutCounts stage g front' cs' (slice_set vs id v')
      → ((j : ℕ) (u : View P) → j ≢ id → slice_get vs j ≡ Some u → PutFits stage g front'.last cs' u)
      → PutFits stage g front'.last cs' v' → PutPlaces stage g front' cs' (slice_set vs id v')
  after_places front front' cs cs' vs id v' p words counts others own = record {
    few = let n = length-set vs id v' in omega (arith, p.few);
    words = words;
    counts = counts;
    each = λ j u e. ⊎_elim (λ q. subst (PutFits stage g front'.last cs') q.1 own) (λ q. others j u q.0 q.1) (get_set vs id j v' u e);
  }

  -- a seat more that adds, where the block was not filled; or no more than before
  pub adds_bound : (k word word' : ℕ) (vs : List (View P)) (id : ℕ) (v v' : View P) → length vs ≤ g.seats → slice_get vs id ≡ Some v
      → word % offset_span + sum_by (adds stage g k) vs ≤ g.size + g.seats
      → ((word' % offset_span + adds stage g k v' ≤ word % offset_span + adds stage g k v) ⊎ (word' % offset_span < g.size))
      → word' % offset_span + sum_by (adds stage g k) (slice_set vs id v') ≤ g.size + g.seats
  adds_bound k word word' vs id v v' few at bound either =
      let n = sum_set (adds stage g k) vs id v v' at in
      let l = length-set vs id v' in
      let m = sum_by-le (adds stage g k) 1 (slice_set vs id v') (λ i d h. adds_le g (k % g.blocks) _) in
      ⊎_elim (λ h. omega arith) (λ h. omega arith) either

  -- the counts stay where a seat claims and makes the same
  pub counts_quiet : (front : Front) (cs cs' : PutCursors) (vs : List (View P)) (id : ℕ) (v v' : View P) → length vs ≤ g.seats → slice_get vs id ≡ Some v
      → PutCounts stage g front cs vs → claimed stage g v' ≡ claimed stage g v → v'.made ≡ v.made → ((k : ℕ) → cs'.committed k ≡ cs.committed k)
      → ((k : ℕ) → k ≤ front.last → front.last < k + g.blocks
      → (cs'.allocated k % offset_span + adds stage g k v' ≤ cs.allocated k % offset_span + adds stage g k v) ⊎ (cs'.allocated k % offset_span < g.size))
      → PutCounts stage g front cs' (slice_set vs id v')
  counts_quiet front cs cs' vs id v v' few at c same made m add =
      let makes_same : (p : ℕ) → sum_by (makes p) (slice_set vs id v') ≡ sum_by (makes p) vs = λ p. sum_same (makes p) vs id v v' at (ap (λ (l : List Placed). times p (places l)) made) in
      record {
        once = λ p. sum_same (claims stage g p) vs id v v' at (ap (times p) same) ∙ c.once p;
        number = sum_same (claim_count stage g) vs id v v' at (ap (λ (l : List ℕ). length l) same) ∙ c.number;
        adds = λ k l near. adds_bound k (cs.allocated k) (cs'.allocated k) vs id v v' few at (c.adds k l near) (add k l near);
        made = λ k l near old. ap (λ (w : ℕ). w % offset_span) (m k) ∙ c.made k l near old ∙ upto_same g.size _ _ (λ o h. sym (makes_same (place g k o)));
      }

  pub claims_none : (v : View P) (s : PutStage) → stage v ≡ s → held g s ≡ [] → claimed stage g v ≡ places v.made
  claims_none v s e none = ap (λ (s : PutStage). places v.made ++ held g s) e ∙ ap (λ (l : List ℕ). places v.made ++ l) none ∙ append-nil _

  -- a step whose seat makes nothing, and holds the same place after it or none again
  module _ (front : Front) (cs : PutCursors) (vs : List (View P)) (id : ℕ) (v v' : View P) (s s' : PutStage) (p : PutPlaces stage g front cs vs) (at : slice_get vs id ≡ Some v) (e : stage v ≡ s)
      (made : v'.made ≡ v.made) (stands : stage v' ≡ s') where
    -- committed cursors stay, and the others may grow
    pub quiet : (cs' : PutCursors) → IsGrown cs cs' → ((k : ℕ) → cs'.committed k ≡ cs.committed k) → PutWords g front cs'
        → ((k : ℕ) → k ≤ front.last → front.last < k + g.blocks
        → (cs'.allocated k % offset_span ≤ cs.allocated k % offset_span + adds_in g (k % g.blocks) s) ⊎ (cs'.allocated k % offset_span < g.size))
        → IsNext g front.last cs' (held g s) s' → PutPlaces stage g front cs' (slice_set vs id v')
    quiet cs' more m words add next =
        let mine : claimed stage g v ≡ places v.made ++ held g s = ap (λ (s : PutStage). places v.made ++ held g s) e in
        let mine' : claimed stage g v' ≡ places v.made ++ held g s =
        ap (λ (l : List Placed). places l ++ held g (stage v')) made ∙ ap (λ (s : PutStage). places v.made ++ held g s) stands ∙ ap (λ (l : List ℕ). places v.made ++ l) next.holds in
        let n : (k : ℕ) → adds stage g k v ≡ adds_in g (k % g.blocks) s = λ k. ap (adds_in g (k % g.blocks)) e in
        let n' : (k : ℕ) → adds stage g k v' ≡ adds_in g (k % g.blocks) s' = λ k. ap (adds_in g (k % g.blocks)) stands in
        after_places front front cs cs' vs id v' p words
        (counts_quiet front cs cs' vs id v v' p.few at p.counts (mine' ∙ sym mine) made m
        (λ k l near. let x = n k in let y = n' k in ⊎_elim (λ h. ⊎_elim (λ z. inl (omega arith)) (λ z. inr z) (next.adds k)) (λ h. inr h) (add k l near)))
        (λ j u d h. fits_grows front.last cs cs' u more (p.each j u h))
        record { knows = subst (PutKnows g front.last cs') (sym stands) next.knows; rising = subst IsRising (mine ∙ sym mine') (p.each id v at).rising }

    -- no cursor changes
    pub stays : IsNext g front.last cs (held g s) s' → PutPlaces stage g front cs (slice_set vs id v')
    stays next = quiet cs (grown_same cs) (λ k. refl) p.words (λ k l near. inl (omega arith)) next
