-- One added to the committed cursor: an entry is made.
use Rattle.std.proofs.Common.{◌≡◌, ℕ, ◌+◌, ◌-◌, ◌*◌, ◌/◌, ◌%◌, ◌^◌, ◌<◌, ◌≤◌, ◌≢◌, ◌⊎◌, List, [], ◌∷◌, ◌++◌, length, refl, sym, ap, ◌∙◌, subst, inl, ⊎_elim, arith}
use Rattle.std.specs.Prelude.{Some, slice_get, slice_set}
use Rattle.std.specs.List.{sum_by}
use Rattle.std.proofs.lemmas.Bool.{cases_eq}
use Rattle.std.proofs.lemmas.Bool.Decides.{nat_tests}
use Rattle.std.proofs.lemmas.List.{append-nil, map-append, get_or-set_other}
use Rattle.std.proofs.lemmas.List.Sums.{sum_by-le-sum_by}
use Rattle.std.proofs.lemmas.Nat.{div-mul-add, mod-mul-add, mod_below, same_from_place}
use Rattle.cursor_word.specs.Shape.{Grid, IsWithinLimits}
use Rattle.cursor_word.specs.Cursor.{cursor_of, most_block, offset_span, place_at}
use Rattle.cursor_word.specs.declared.cursor.Cursor.{Cursor}
use Rattle.cursor_word.proofs.Blocks.{same_near}
use Rattle.rail.specs.declared.entry.Placed.{Placed}
use Rattle.rail.specs.Items.{IsRising, placed, places}
use Rattle.machine.specs.declared.view.View.{View}
use Rattle.machine.proofs.Lists.{sum_set}
use Rattle.put_side.specs.Cursors.{Front, PutCursors, allocated_word, committed_word, place, put_cursors}
use Rattle.put_side.specs.Stages.{PutStage, held}
use Rattle.put_side.specs.declared.put_phase.PutPhase.TheVariants.{Commit}
use Rattle.put_side.specs.Stages.{Away, At}
use Rattle.put_side.specs.Counts.{adds, adds_in, claim_count, claimed, claims, makes, one_at, sum_below, times}
use Rattle.put_side.specs.Places.{PutKnows, PutPlaces}
use Rattle.put_side.specs.Entries.{HasEntries, HasWords, HoldsWords}
use Rattle.put_side.proofs.Sums.{get_push, one_in, one_to, sum_gap, sum_same, times_push, upto_bump, upto_misses, upto_same}
use Rattle.put_side.proofs.Facts.{cursors_are, with_committed}
use Rattle.put_side.proofs.Frames.{IsGrown, adds_bound, after_places, fits_grows, makes_le}
use Rattle.put_side.proofs.Entries.{AllHaveEntries, KeepsEntries, after_entries, entries_grow, words_same}
use Rattle.put_side.proofs.Loads.{knows_at}
use Rattle.put_side.proofs.Draws.{HasOneMore, one_is, one_more_at, one_more_le}

one_same : (o q b : ℕ) → one_at (b + o) (b + q) ≡ one_at o q
one_same o q b = grind (arith, nat_tests)

pub one_apart : (p q : ℕ) → p ≢ q → one_at p q ≡ 0
one_apart p q n = grind (arith, nat_tests)

pub one_met : (p q : ℕ) → p ≡ q → one_at p q ≡ 1
one_met p q h = grind (arith, nat_tests)

places_apart : (g : Grid) (k o h q : ℕ) → g.blocks ≤ k → g.blocks ≤ h → o < g.size → q < g.size → k ≢ h → place g k o ≢ place g h q
places_apart g k o h q lk lh lo lq n e = let s = same_from_place (k - g.blocks) o (h - g.blocks) q g.size lo lq e in n (omega (arith, s.0))

-- what a block counts after one of its places was made, and what another does
pub bumped : (g : Grid) (k : ℕ) (at : Cursor) (f : ℕ → ℕ) → g.blocks ≤ k → g.blocks ≤ at.block → at.offset < g.size
    → sum_below g.size (λ o. f (place g k o) + one_at (place_at g at) (place g k o)) ≡ sum_below g.size (λ o. f (place g k o)) + one_at at.block k
bumped g k at f lk lb lo =
    ⊎_elim
    (λ e. upto_same g.size _ (λ o. f (place g k o) + one_at at.offset o)
    (λ o l. let s : one_at (place_at g at) (place g k o) ≡ one_at at.offset o = ap (λ (b : ℕ). one_at (place_at g at) (place g b o)) (sym e) ∙ one_same at.offset o ((at.block - g.blocks) * g.size) in omega arith)
    ∙ upto_bump g.size at.offset (λ o. f (place g k o)) ∙ (let z = one_in at.offset g.size lo in let y : one_at at.block k ≡ 1 = one_met at.block k e in omega arith))
    (λ n. upto_same g.size _ (λ o. f (place g k o)) (λ o l. let z = one_apart (place_at g at) (place g k o) (places_apart g at.block at.offset k o lb lk lo l n) in omega arith)
    ∙ (let y = one_apart at.block k n in omega arith))
    (cases_eq at.block k)

-- a seat that made the place that it held, of the entry in hand
pub record MakesIt {P : Type 0} (stage : View P → PutStage) (g : Grid) (v v' : View P) (at : Cursor) : Type 0 where
  pub made : v'.made ≡ v.made ++ placed (place_at g at) v.entry ∷ []
  pub entry : v'.entry ≡ v.entry
  pub stands : stage v' ≡ Away

module _ {P : Type 0} (stage : View P → PutStage) (g : Grid) (front : Front) (cs : PutCursors) (vs : List (View P)) (p : PutPlaces stage g front cs vs) where
  -- each place is made at most once
  pub made_once : (q : ℕ) → sum_by (makes q) vs ≤ 1
  made_once q = let m = sum_by-le-sum_by (makes q) (claims stage g q) vs (makes_le stage g q) in let o = p.counts.once q in let z = one_to q front.next in omega arith

  -- a place that a seat holds isn't made
  pub held_not_made : (j : ℕ) (u : View P) (at : Cursor) → slice_get vs j ≡ Some u → held g (stage u) ≡ place_at g at ∷ [] → sum_by (makes (place_at g at)) vs ≡ 0
  held_not_made j u at there holds =
      let q : ℕ = place_at g at in
      let m = sum_gap (makes q) (claims stage g q) (makes_le stage g q) vs j u there in let o = p.counts.once q in let z = one_to q front.next in
      let n : claims stage g q u ≡ makes q u + one_at q q = ap (λ (l : List ℕ). times q (places u.made ++ l)) holds ∙ times_push q q (places u.made) in let y = one_is q in omega arith

module _ {P : Type 0} (stage : View P → PutStage) (g : Grid) (limits : IsWithinLimits g) (front : Front) (ws : List ℕ) (vs : List (View P)) (id : ℕ) (v v' : View P) (p : PutPlaces stage g front (put_cursors g ws) vs) (here : slice_get vs id ≡ Some v)
    (at : Cursor) (e : stage v ≡ At (Commit at)) (to : MakesIt stage g v v' at) where
  abbrev words' : List ℕ
  words' = slice_set ws (3 + 4 * (at.block % g.blocks)) ((committed_word g ws at.block + 1) % 2 ^ 64)

  made' : places v'.made ≡ places v.made ++ place_at g at ∷ []
  made' = ap (λ (l : List Placed). places l) to.made ∙ map-append (λ (z : Placed). z.place) v.made _

  pub places_Commit : 2 + 4 * g.blocks ≤ length ws → front.last < most_block → PutPlaces stage g front (put_cursors g words') (slice_set vs id v')
  places_Commit long small =
      let cs : PutCursors = put_cursors g ws in
      let q : ℕ = place_at g at in
      let i : ℕ = 3 + 4 * (at.block % g.blocks) in
      let x : ℕ = (committed_word g ws at.block + 1) % 2 ^ 64 in
      let own = p.each id v here in
      let f = knows_at stage g front ws vs id v v' p here (At (Commit at)) e in
      let c = p.counts in
      let s = p.words in
      let mine : claimed stage g v ≡ places v.made ++ q ∷ [] = ap (λ (s : PutStage). places v.made ++ held g s) e in
      let same : claimed stage g v' ≡ claimed stage g v = ap (λ (s : PutStage). places v'.made ++ held g s) to.stands ∙ append-nil _ ∙ made' ∙ sym mine in
      let once = made_once stage g front cs vs p in
      let none = held_not_made stage g front cs vs p id v at here (ap (held g) e) in
      let b = s.committed at.block f.to f.near in
      let count = c.made at.block f.to f.near f.from in
      let room = upto_misses g.size at.offset (λ o. sum_by (makes (place g at.block o)) vs) (λ o. once _) f.within none in
      let m = mod_below at.block g.blocks (omega (arith, limits.blocks_from)) in
      let u : HasOneMore g at.block (committed_word g ws) (committed_word g words') = one_more_at g ws 3 at.block limits.blocks_from (omega arith) (omega arith) (omega (arith, f.to)) (omega (arith, limits.size_to)) in
      let cs' : PutCursors = with_committed cs (committed_word g words') in
      let grown : IsGrown cs cs' = record { producer = omega arith; allocated = λ k. omega arith; committed = one_more_le g at.block _ _ u } in
      let more : (q' : ℕ) → sum_by (makes q') (slice_set vs id v') ≡ sum_by (makes q') vs + one_at q q' = λ q'. let n = sum_set (makes q') vs id v v' here in
      let y : makes q' v' ≡ makes q' v + one_at q q' = ap (times q') made' ∙ times_push q' q (places v.made) in omega arith in
      let still : (k : ℕ) → adds stage g k v ≡ 0 = λ k. ap (adds_in g (k % g.blocks)) e in
      let still' : (k : ℕ) → adds stage g k v' ≡ 0 = λ k. ap (adds_in g (k % g.blocks)) to.stands in
      subst (λ (c : PutCursors). PutPlaces stage g front c (slice_set vs id v'))
      (cursors_are g words' cs' (get_or-set_other ws i 0 x 0 (λ r. omega arith)) (λ k. get_or-set_other ws i _ x 0 (λ r. omega arith)) (λ k. refl))
      (after_places stage g front front cs cs' vs id v' p
      record {
        from = s.from;
        head_from = s.head_from;
        head_to = s.head_to;
        committed = λ k l n. let o = s.committed k l n in ⊎_elim (λ q. let t = u.there k q in t.0 ∙ o) (λ q. let y = u.elsewhere k q in ap (λ (z : ℕ). z / offset_span) y ∙ o) (cases_eq (k % g.blocks) (at.block % g.blocks));
        full = s.full;
        newest = s.newest;
      }
      record {
        once = λ q. sum_same (claims stage g q) vs id v v' here (ap (times q) same) ∙ c.once q;
        number = sum_same (claim_count stage g) vs id v v' here (ap (λ (l : List ℕ). length l) same) ∙ c.number;
        adds = λ k l n. adds_bound stage g k (allocated_word g ws k) (allocated_word g ws k) vs id v v' p.few here (c.adds k l n) (inl (let y = still k in let z = still' k in omega arith));
        made = λ k l n old.
            let o = c.made k l n old in
            let y : sum_below g.size (λ o. sum_by (makes (place g k o)) (slice_set vs id v')) ≡ sum_below g.size (λ o. sum_by (makes (place g k o)) vs) + one_at at.block k =
            upto_same g.size _ (λ o. sum_by (makes (place g k o)) vs + one_at q (place g k o)) (λ o l. more (place g k o)) ∙ bumped g k at (λ q. sum_by (makes q) vs) old f.from f.within in
            ⊎_elim (λ q. let t = u.there k q in let z = same_near g.blocks k at.block front.last q l n f.to f.near in let one : one_at at.block k ≡ 1 = one_met at.block k (sym z) in omega (arith, t.1))
            (λ q. let t = u.elsewhere k q in let one : one_at at.block k ≡ 0 = one_apart at.block k (λ z. q (ap (λ (b : ℕ). b % g.blocks) (sym z))) in omega arith)
            (cases_eq (k % g.blocks) (at.block % g.blocks));
      }
      (λ j z q h. fits_grows stage g front.last cs cs' z grown (p.each j z h))
      record { knows = subst (PutKnows g front.last cs') (sym to.stands) tt; rising = subst IsRising (sym same) own.rising })

  -- the entry in hand becomes that of the made item
  pub entries_Commit : AllHaveEntries stage g (allocated_word g ws) ws vs → AllHaveEntries stage g (allocated_word g words') words' (slice_set vs id v')
  entries_Commit all =
      let q : ℕ = place_at g at in
      let i : ℕ = 3 + 4 * (at.block % g.blocks) in
      let x : ℕ = (committed_word g ws at.block + 1) % 2 ^ 64 in
      let own = all id v here in
      let f = knows_at stage g front ws vs id v v' p here (At (Commit at)) e in
      let m = mod_below at.block g.blocks (omega (arith, limits.blocks_from)) in
      let behind : KeepsEntries g ws words' = λ j l. get_or-set_other ws i j x 0 (λ r. omega arith) in
      let more : (k : ℕ) → allocated_word g ws k ≤ allocated_word g words' k = λ k. let y = get_or-set_other ws i (2 + 4 * (k % g.blocks)) x 0 (λ r. omega arith) in omega arith in
      let grow : (u : View P) → HasEntries stage g (allocated_word g ws) ws u → HasEntries stage g (allocated_word g words') words' u =
      entries_grow stage g (allocated_word g ws) (allocated_word g words') ws words' more behind in
      let is : at ≡ cursor_of g q =
      let k : at.block ≡ g.blocks + q / g.size = sym (ap (λ (z : ℕ). g.blocks + z) (div-mul-add (at.block - g.blocks) g.size at.offset f.within) ∙ omega (arith, f.from)) in
      let o : at.offset ≡ q % g.size = sym (mod-mul-add (at.block - g.blocks) g.size at.offset f.within) in
      λ i. record { block = k i; offset = o i } in
      let holds : HasWords g words' at v.entry g.width = words_same g ws words' at v.entry g.width behind (subst (HoldsWords g ws v.entry) e own.held_words) in
      let item' : (j : ℕ) (item : Placed) → slice_get v'.made j ≡ Some item → (slice_get v.made j ≡ Some item) ⊎ (placed q v.entry ≡ item) =
      λ j item h. get_push v.made (placed q v.entry) j item (ap (λ (l : List Placed). slice_get l j) (sym to.made) ∙ h) in
      after_entries stage g (allocated_word g ws) (allocated_word g words') ws words' more vs id v'
      (λ j z d h. grow z (all j z h))
      record {
        wide = ap (λ (l : List ℕ). length l) to.entry ∙ own.wide;
        held_words = subst (HoldsWords g words' v'.entry) (sym to.stands) tt;
        made_wide = λ j item h. ⊎_elim (λ q. own.made_wide j item q) (λ q. ap (λ (z : Placed). length z.words) (sym q) ∙ own.wide) (item' j item h);
        made_words = λ j item h near. ⊎_elim (λ q. (grow v own).made_words j item q near)
            (λ q. subst (λ (z : Placed). HasWords g words' (cursor_of g z.place) z.words g.width) q (subst (λ (z : Cursor). HasWords g words' z v.entry g.width) is holds))
            (item' j item h);
      }
