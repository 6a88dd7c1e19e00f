-- Each shared step of a put keeps the side of puts, in any machine whose puts take these steps.
use Rattle.std.proofs.Common.{◌≡◌, ℕ, ◌+◌, ◌*◌, ◌/◌, ◌%◌, ◌^◌, ◌<◌, ◌≤◌, ◌⊎◌, max, List, length, refl, sym, ap, ◌∙◌, subst, inl, inr, ⊎_elim, arith}
use Rattle.std.specs.Prelude.{Bool, true, false, Some, slice_get, slice_set, slice_index, if◌then◌else◌, ◌==◌}
use Rattle.std.proofs.lemmas.Bool.{cases_eq}
use Rattle.std.proofs.lemmas.List.{length-set, get_or-set_same, get_or-set_other}
use Rattle.std.proofs.lemmas.Nat.{mod_below}
use Rattle.cursor_word.specs.Shape.{Grid, IsWithinLimits}
use Rattle.cursor_word.specs.Cursor.{most_block, offset_span, unpacked}
use Rattle.cursor_word.specs.declared.cursor.Cursor.{Cursor}
use Rattle.machine.proofs.Lists.{get_set_same}
use Rattle.machine.specs.declared.op.After.{After}
use Rattle.machine.specs.declared.op.After.TheVariants.{Next, Done}
use Rattle.machine.specs.declared.op.Op.{Op}
use Rattle.machine.specs.declared.view.View.{View}
use Rattle.machine.specs.Ops.{index}
use Rattle.machine.specs.Table.{Table}
use Rattle.machine.specs.Steps.{made_after, phase_after, seen, view_after, words_after}
use Rattle.put_side.specs.Cursors.{Front, allocated_word, place, put_cursors}
use Rattle.put_side.specs.Stages.{PutStage, by_room, fills, put_after, put_want}
use Rattle.put_side.specs.declared.put_phase.PutPhase.TheVariants.{HeadP, SeeA, AddA, Write, Commit, OpenM, OpenA, RaiseP}
use Rattle.put_side.specs.Stages.{Away, At, Fills}
use Rattle.put_side.specs.Places.{PutKnows, PutPlaces}
use Rattle.put_side.specs.Entries.{HoldsWords}
use Rattle.put_side.specs.PutSide.{PutSide}
use Rattle.put_side.specs.PutTable.{IsNoCommit, IsPutTable, IsShared, MayOpen, stage_after, stage_in, stage_of}
use Rattle.put_side.specs.Manned.{IsManned, enters, opens_allocated, raises_producer, second_in}
use Rattle.put_side.proofs.Sums.{by_test}
use Rattle.put_side.proofs.Facts.{with_last, with_next}
use Rattle.put_side.proofs.Frames.{IsGrown, Leaves}
use Rattle.put_side.proofs.Entries.{AllHaveEntries, KeepsEntries, entries_stay}
use Rattle.put_side.proofs.Loads.{knows_at, places_HeadP, places_SeeA}
use Rattle.put_side.proofs.Raises.{places_OpenA, places_RaiseP}
use Rattle.put_side.proofs.Draws.{offset_small, places_AddA}
use Rattle.put_side.proofs.Stores.{entries_Write, places_Write}
use Rattle.put_side.proofs.Commits.{MakesIt, entries_Commit, one_apart, places_Commit}
use Rattle.put_side.proofs.Opens.{places_OpenM}
use Rattle.put_side.proofs.Moves.{IsMovedByPuts, after_op, moves_by}
use Rattle.put_side.proofs.Attends.{entered_last, manned_opens, stays_manned}

-- the step opened the next block
pub record OpensNext (s : PutStage) (front to : Front) : Type 0 where
  pub next : to.last ≡ front.last + 1
  pub full : Cursor
  pub opens : s ≡ At (OpenM full)
  pub newest : full.block ≡ front.last

-- what a shared step of a put at this stage leaves: puts have come as far as before or further
pub record IsKept {P : Type 0} (stage : View P → PutStage) (g : Grid) (s : PutStage) (front : Front) (ws ws' : List ℕ) (vs vs' : List (View P)) : Type 0 where
  pub to : Front
  pub further : (to.last ≡ front.last) ⊎ OpensNext s front to
  pub side : PutSide stage g to ws' vs'
  pub manned : IsManned stage g front (put_cursors g ws) vs → IsManned stage g to (put_cursors g ws') vs'

pub never_back : {s : PutStage} {front to : Front} → (to.last ≡ front.last) ⊎ OpensNext s front to → front.last ≤ to.last
never_back further = ⊎_elim (λ e. omega arith) (λ o. omega (arith, o.next)) further

-- what the step of a put at this stage leaves in its seat's view
abbrev pub Did : {P : Type 0} → (View P → PutStage) → Grid → List ℕ → View P → View P → PutStage → Type 0
Did stage g ws v v' (At (Commit at)) = MakesIt stage g v v' at
Did stage g ws v v' s = Leaves stage v v' (put_after g s (slice_index ws (index (put_want g s v.entry))))

-- the stage after a found cursor has no words written
by_words : (g : Grid) (ws entry : List ℕ) (b c : Bool) (room : PutStage) (full : Cursor) → HoldsWords g ws entry room → HoldsWords g ws entry (if b then room else (if c then Fills full else Away))
by_words g ws entry true c room full h = h
by_words g ws entry false true room full h = tt
by_words g ws entry false false room full h = tt

module _ {P : Type 0} (stage : View P → PutStage) (g : Grid) (limits : IsWithinLimits g) (front : Front) (ws : List ℕ) (vs : List (View P)) (id : ℕ) (v v' : View P) (side : PutSide stage g front ws vs) (small : front.last < most_block) (at : slice_get vs id ≡ Some v) where
  abbrev vs' : List (View P)
  vs' = slice_set vs id v'

  abbrev words_by : PutStage → List ℕ
  words_by s = after_op ws (put_want g s v.entry)

  long : 2 + 4 * g.blocks ≤ length ws
  long = omega (arith, side.all)

  moves : (s : PutStage) → IsShared s → IsMovedByPuts g ws (words_by s)
  moves s h = moves_by stage g limits front ws vs side.places long small s v.entry h

  -- the words behind the cursors stay, and nothing of an entry is written at the next stage
  no_entry : (s : PutStage) (i x : ℕ) (s' : PutStage) → IsGrown (put_cursors g ws) (put_cursors g (slice_set ws i x)) → i < 2 + 4 * g.blocks → Leaves stage v v' s' → HoldsWords g (slice_set ws i x) v'.entry s'
      → AllHaveEntries stage g (allocated_word g (slice_set ws i x)) (slice_set ws i x) vs'
  no_entry s i x s' grown low to holds =
      let behind : KeepsEntries g ws (slice_set ws i x) = λ j l. get_or-set_other ws i j x 0 (λ r. omega arith) in
      entries_stay stage g (allocated_word g ws) (allocated_word g (slice_set ws i x)) ws (slice_set ws i x) grown.allocated behind vs id v v' side.entries at to.made
      (ap (λ (l : List ℕ). length l) to.entry ∙ (side.entries id v at).wide) (subst (HoldsWords g (slice_set ws i x) v'.entry) (sym to.stands) holds)

  -- who is at work after a step that opens no block
  works : (n : ℕ) (s s' : PutStage) (ws' : List ℕ) → stage v ≡ s → stage v' ≡ s' → PutPlaces stage g (with_next front n) (put_cursors g ws') vs' → front.next ≤ n → IsGrown (put_cursors g ws) (put_cursors g ws')
      → (opens_allocated front.last s ≤ opens_allocated front.last s') ⊎ ((put_cursors g ws').allocated front.last / offset_span ≡ front.last)
      → (raises_producer front.last s ≤ raises_producer front.last s') ⊎ (slice_index ws' 0 ≡ front.last)
      → (enters front.last s ≤ enters front.last s') ⊎ (place g front.last 0 < n)
      → IsManned stage g front (put_cursors g ws) vs → IsManned stage g (with_next front n) (put_cursors g ws') vs'
  works n s s' ws' e e' p more grown o r i m =
      let k : ℕ = front.last in
      stays_manned stage g limits vs id v v' at front n (put_cursors g ws) (put_cursors g ws') p.words m more grown
      (subst (λ (z : PutStage). (opens_allocated k z ≤ opens_allocated k (stage v')) ⊎ ((put_cursors g ws').allocated k / offset_span ≡ k)) (sym e) (subst (λ (z : PutStage). (opens_allocated k s ≤ opens_allocated k z) ⊎ ((put_cursors g ws').allocated k / offset_span ≡ k)) (sym e') o))
      (subst (λ (z : PutStage). (raises_producer k z ≤ raises_producer k (stage v')) ⊎ (slice_index ws' 0 ≡ k)) (sym e) (subst (λ (z : PutStage). (raises_producer k s ≤ raises_producer k z) ⊎ (slice_index ws' 0 ≡ k)) (sym e') r))
      (subst (λ (z : PutStage). (enters k z ≤ enters k (stage v')) ⊎ (place g k 0 < n)) (sym e) (subst (λ (z : PutStage). (enters k s ≤ enters k z) ⊎ (place g k 0 < n)) (sym e') i))

  -- the whole from the places and the entries
  both : (f : Front) (s : PutStage) → PutPlaces stage g f (put_cursors g (words_by s)) vs' → AllHaveEntries stage g (allocated_word g (words_by s)) (words_by s) vs' → PutSide stage g f (words_by s) vs'
  both f s p h = record { all = length-set ws _ _ ∙ side.all; places = p; entries = h }

  knows : (s : PutStage) → stage v ≡ s → PutKnows g front.last (put_cursors g ws) s
  knows s e = knows_at stage g front ws vs id v v' side.places at s e

  low : (k : ℕ) → k % g.blocks < g.blocks
  low k = mod_below k g.blocks (omega (arith, limits.blocks_from))

  pub keeps_stage : (s : PutStage) → stage v ≡ s → IsShared s → Did stage g ws v v' s → ((full : Cursor) → s ≡ At (OpenM full) → full.block ≡ front.last → MayOpen g front.last (put_cursors g ws)) → IsKept stage g s front ws (words_by s) vs vs'
  keeps_stage Away e h to may = absurd h
  keeps_stage (At (HeadP turn first)) e h to may =
      let s : PutStage = At (HeadP turn first) in
      let s' : PutStage = At (SeeA turn first (slice_index ws 0)) in
      let m = moves s tt in
      let p = places_HeadP stage g front ws vs id v v' side.places at turn first e to in
      record {
        to = front;
        further = inl refl;
        side = both front s p (no_entry s 0 _ s' m.grown (omega arith) to tt);
        manned = works front.next s s' (words_by s) e to.stands p (omega arith) m.grown (inl (omega arith)) (inl (omega arith)) (inl (omega arith));
      }
  keeps_stage (At (SeeA turn first head)) e h to may =
      let s : PutStage = At (SeeA turn first head) in
      let w : ℕ = allocated_word g ws head in
      let s' : PutStage = by_room g w turn (At (AddA turn first head)) in
      let m = moves s tt in
      let f = knows s e in
      let b = low head in
      let p = places_SeeA stage g front ws vs id v v' side.places at limits turn first head e to in
      record {
        to = front;
        further = inl refl;
        side = both front s p (no_entry s _ _ s' m.grown (omega arith) to (by_words g (words_by s) v'.entry _ (turn == 1) (At (AddA turn first head)) (unpacked w) tt));
        manned = works front.next s s' (words_by s) e to.stands p (omega arith) m.grown (inl (omega arith)) (inl (omega arith))
            (by_test (w % offset_span) g.size (λ b. (second_in front.last turn first ≤ enters front.last (if b then At (AddA turn first head) else fills turn (unpacked w))) ⊎ (place g front.last 0 < front.next)) (λ l. inl (omega arith))
            (λ l. ⊎_elim (λ z. inl (omega arith)) (λ z. inr z) (entered_last stage g limits vs id v v' at front (put_cursors g ws) turn first head side.places.words f.0 f.1.to (omega (arith, limits.size_from)))));
      }
  keeps_stage (At (AddA turn first head)) e h to may =
      let s : PutStage = At (AddA turn first head) in
      let w : ℕ = allocated_word g ws head in
      let s' : PutStage = by_room g w turn (At (Write (unpacked w) 0)) in
      let m = moves s tt in
      let f = knows s e in
      let b = low head in
      let q = places_AddA stage g limits front ws vs side.places long small id v v' at turn first head e to in
      let le : head ≤ front.last = omega (arith, f.1.to, side.places.words.head_to) in
      let off = offset_small stage g limits front ws vs side.places head le in
      let is : allocated_word g (words_by s) head ≡ (w + 1) % 2 ^ 64 = get_or-set_same ws (2 + 4 * (head % g.blocks)) _ 0 (let l = long in omega arith) in
      let some : 1 ≤ allocated_word g (words_by s) head % offset_span = omega (arith, limits.size_to, limits.seats_to) in
      record {
        to = with_next front q.0;
        further = inl refl;
        side = both (with_next front q.0) s q.2 (no_entry s _ _ s' m.grown (omega arith) to (by_words g (words_by s) v'.entry _ (turn == 1) (At (Write (unpacked w) 0)) (unpacked w) (λ i l. absurd (omega arith))));
        manned = works q.0 s s' (words_by s) e to.stands q.2 q.1 m.grown (inl (omega arith)) (inl (omega arith))
            (⊎_elim (λ z. inl (omega arith)) (λ z. inr z) (entered_last stage g limits vs id v v' at (with_next front q.0) (put_cursors g (words_by s)) turn first head q.2.words f.0 (let p = m.grown.producer in omega (arith, f.1.to)) some));
      }
  keeps_stage (At (Write at' next)) e h to may =
      let s : PutStage = At (Write at' next) in
      let s' : PutStage = put_after g (At (Write at' next)) 0 in
      let m = moves s tt in
      let p = places_Write stage g limits front ws vs side.places id v v' at at' next e long (slice_index v.entry next) to in
      record {
        to = front;
        further = inl refl;
        side = both front s p (entries_Write stage g limits front ws vs side.places id v v' at at' next e side.entries side.all to);
        manned = works front.next s s' (words_by s) e to.stands p (omega arith) m.grown (inl (omega arith)) (inl (omega arith)) (inl (omega arith));
      }
  keeps_stage (At (Commit at')) e h to may =
      let s : PutStage = At (Commit at') in
      let m = moves s tt in
      let p = places_Commit stage g limits front ws vs id v v' side.places at at' e to long small in
      record {
        to = front;
        further = inl refl;
        side = both front s p (entries_Commit stage g limits front ws vs id v v' side.places at at' e to side.entries);
        manned = works front.next s Away (words_by s) e to.stands p (omega arith) m.grown (inl (omega arith)) (inl (omega arith)) (inl (omega arith));
      }
  keeps_stage (Fills full) e h to may = absurd h
  keeps_stage (At (OpenM full)) e h to may =
      let s : PutStage = At (OpenM full) in
      let m = moves s tt in
      let b = low (full.block + 1) in
      let q = places_OpenM stage g limits front ws vs side.places long id v v' at full e to (may full refl) in
      record {
        to = with_last front q.0;
        further = ⊎_elim (λ z. inl z) (λ z. inr record { next = z.0; full = full; opens = refl; newest = z.1 }) q.1;
        side = both (with_last front q.0) s q.2 (no_entry s _ _ (At (OpenA full)) m.grown (omega arith) to tt);
        manned = ⊎_elim
            (λ z. subst (λ (k : ℕ). PutPlaces stage g (with_last front k) (put_cursors g (words_by s)) vs' → IsManned stage g front (put_cursors g ws) vs → IsManned stage g (with_last front k) (put_cursors g (words_by s)) vs') (sym z)
            (λ p. works front.next s (At (OpenA full)) (words_by s) e to.stands p (omega arith) m.grown (inl (omega arith)) (inl (omega arith)) (inl (omega arith))) q.2)
            (λ z _. manned_opens stage g limits vs id v v' at (with_last front q.0) (put_cursors g (words_by s)) full (omega (arith, z.0, z.1)) to.stands) q.1;
      }
  keeps_stage (At (OpenA full)) e h to may =
      let s : PutStage = At (OpenA full) in
      let m = moves s tt in
      let b = low (full.block + 1) in
      let p = places_OpenA stage g limits front ws vs id v v' side.places long at full e to in
      let f : PutKnows g front.last (put_cursors g (words_by s)) (At (RaiseP full)) = subst (PutKnows g front.last (put_cursors g (words_by s))) to.stands (p.each id v' (get_set_same vs id v v' at)).knows in
      record {
        to = front;
        further = inl refl;
        side = both front s p (no_entry s _ _ (At (RaiseP full)) m.grown (omega arith) to tt);
        manned = works front.next s (At (RaiseP full)) (words_by s) e to.stands p (omega arith) m.grown
            (⊎_elim (λ z. inr (let y = ap (allocated_word g (words_by s)) z in ⊎_elim (λ q. q.block) (λ q. absurd (omega (arith, q.older, f.1, limits.blocks_from))) p.words.newest)) (λ z. inl (let y = one_apart (full.block + 1) front.last z in omega arith)) (cases_eq (full.block + 1) front.last))
            (inl (omega arith)) (inl (omega arith));
      }
  keeps_stage (At (RaiseP full)) e h to may =
      let s : PutStage = At (RaiseP full) in
      let m = moves s tt in
      let p = places_RaiseP stage g limits front ws vs id v v' side.places long at full e to in
      let is : slice_index (words_by s) 0 ≡ max (slice_index ws 0) (full.block + 1) = get_or-set_same ws 0 _ 0 (let l = long in omega arith) in
      record {
        to = front;
        further = inl refl;
        side = both front s p (no_entry s 0 _ (At (HeadP 2 full)) m.grown (omega arith) to tt);
        manned = works front.next s (At (HeadP 2 full)) (words_by s) e to.stands p (omega arith) m.grown (inl (omega arith))
            (⊎_elim (λ z. inr (let y = p.words.head_to in omega (arith, is))) (λ z. inl (let y = one_apart (full.block + 1) front.last z in omega arith)) (cases_eq (full.block + 1) front.last))
            (inl (omega arith));
      }

-- where a put stands after a step is told by what follows it
pub stage_next : {P : Type 0} (stage : P → PutStage) (b : After P) → stage_in stage (phase_after b) ≡ stage_after stage b
stage_next stage (Next p) = refl
stage_next stage (Done a) = refl

module _ {P : Type 0} (stage : P → PutStage) (table : Table P) (puts : IsPutTable stage table) (g : Grid) where
  -- a shared step that makes nothing
  leaves : (ws : List ℕ) (v : View P) (p : P) (s : PutStage) → stage p ≡ s → IsShared s → IsNoCommit s → (let found = slice_index ws (index (put_want g s v.entry)) in
      Leaves (stage_of stage) v (seen table g v p found) (put_after g s found))
  leaves ws v p s e shared none =
      let found : ℕ = slice_index ws (index (put_want g s v.entry)) in
      record {
        made = puts.makes_none g p found v.made v.entry (subst IsNoCommit (sym e) none);
        entry = refl;
        stands = stage_next stage (table.after g p found) ∙ puts.after g p found (subst IsShared (sym e) shared) ∙ ap (λ (s : PutStage). put_after g s found) e;
      }

  -- the shared step leaves the view as the side of puts has it
  did : (ws : List ℕ) (v : View P) (p : P) (s : PutStage) → stage p ≡ s → IsShared s → Did (stage_of stage) g ws v (seen table g v p (slice_index ws (index (put_want g s v.entry)))) s
  did ws v p Away e h = absurd h
  did ws v p (Fills full) e h = absurd h
  did ws v p (At (Commit at)) e h =
      let b = puts.commits g p at (slice_index ws (index (put_want g (At (Commit at)) v.entry))) e in
      record { made = ap (made_after v.made v.entry) b; entry = refl; stands = ap (λ (b : After P). stage_in stage (phase_after b)) b }
  did ws v p (At (HeadP turn first)) e h = leaves ws v p (At (HeadP turn first)) e tt tt
  did ws v p (At (SeeA turn first head)) e h = leaves ws v p (At (SeeA turn first head)) e tt tt
  did ws v p (At (AddA turn first head)) e h = leaves ws v p (At (AddA turn first head)) e tt tt
  did ws v p (At (Write at next)) e h = leaves ws v p (At (Write at next)) e tt tt
  did ws v p (At (OpenM full)) e h = leaves ws v p (At (OpenM full)) e tt tt
  did ws v p (At (OpenA full)) e h = leaves ws v p (At (OpenA full)) e tt tt
  did ws v p (At (RaiseP full)) e h = leaves ws v p (At (RaiseP full)) e tt tt

  -- a shared step of a put keeps the side of puts, and moves no word that takes move
  pub keeps_shared : IsWithinLimits g → (front : Front) (ws : List ℕ) (vs : List (View P)) (id : ℕ) (v : View P) (p : P) → PutSide (stage_of stage) g front ws vs → front.last < most_block → slice_get vs id ≡ Some v → v.phase ≡ Some p
      → IsShared (stage p) → ((full : Cursor) → stage p ≡ At (OpenM full) → full.block ≡ front.last → MayOpen g front.last (put_cursors g ws))
      → IsKept (stage_of stage) g (stage p) front ws (words_after table g ws v p) vs (slice_set vs id (view_after table g ws v p)) × IsMovedByPuts g ws (words_after table g ws v p)
  keeps_shared limits front ws vs id v p side small at e shared may =
      let s : PutStage = stage p in
      let o : put_want g s v.entry ≡ table.want g p v.entry = sym (puts.want g p v.entry shared) in
      let long : 2 + 4 * g.blocks ≤ length ws = omega (arith, side.all) in
      subst (λ (o : Op). IsKept (stage_of stage) g (stage p) front ws (after_op ws o) vs (slice_set vs id (seen table g v p (slice_index ws (index o)))) × IsMovedByPuts g ws (after_op ws o)) o (
        keeps_stage (stage_of stage) g limits front ws vs id v (seen table g v p (slice_index ws (index (put_want g s v.entry)))) side small at s (ap (stage_in stage) e) shared (did ws v p s refl shared) may,
        moves_by (stage_of stage) g limits front ws vs side.places long small s v.entry shared,
      )
