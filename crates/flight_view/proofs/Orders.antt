-- The looks of a walk that came to its end, one after another.
use Rattle.std.proofs.Common.{◌≡◌, ℕ, zero, suc, ◌+◌, ◌-◌, ◌<◌, ◌≤◌, ◌⊎◌, List, [], ◌∷◌, length, refl, ap, subst, inl, inr, ⊎_elim, arith}
use Rattle.std.specs.Prelude.{Contains, map, take}
use Rattle.std.specs.List.{AllByRecursion, range_with_len}
use Rattle.std.proofs.lemmas.List.Elements.{recursion_from_All}
use Rattle.cursor_word.specs.Shape.{Grid}
use Rattle.cursor_word.specs.Cursor.{cursor}
use Rattle.cursor_word.specs.declared.cursor.Cursor.{Cursor}
use Rattle.block_looks.specs.declared.look.LookPhase.TheVariants.{Word}
use Rattle.block_looks.specs.declared.look.LookAfter.TheVariants as after
use Rattle.block_looks.specs.declared.look.Look.{Look}
use Rattle.block_looks.specs.declared.look.Look.TheVariants as look
use Rattle.block_looks.specs.declared.look.Seen.{Seen}
use Rattle.block_looks.specs.declared.look.Seen.TheVariants as seen
use Rattle.block_looks.specs.Shown.{LookLeads}
use Rattle.flight_view.specs.Walks.{AreEntryLooks, BlockLook, EntryLook, HasEnded, IsBlockLook, IsPassed, IsWalk, Walk, but_last, end_block, first_block, reused_in}

-- all but the last
abbrev BeforeLast : {X : Type 0} → (X → Type 0) → List X → Type 0
BeforeLast P [] = Unit {0}
BeforeLast P (x ∷ []) = Unit {0}
BeforeLast P (x ∷ y ∷ ys) = P x × BeforeLast P (y ∷ ys)

before_last : {X : Type 0} (P : X → Type 0) (xs : List X) → AllByRecursion P (but_last xs) → BeforeLast P xs
before_last P [] h = tt
before_last P (x ∷ []) h = tt
before_last P (x ∷ y ∷ ys) h =
    let n : length (x ∷ y ∷ ys) - 1 ≡ suc (length (y ∷ ys) - 1) = omega arith in
    let all : AllByRecursion P (take (suc (length (y ∷ ys) - 1)) (x ∷ y ∷ ys)) = subst (λ (k : ℕ). AllByRecursion P (take k (x ∷ y ∷ ys))) n h in
    (all.0, before_last P (y ∷ ys) all.1)

head_is : {X : Type 0} (x y : X) (xs ys : List X) → x ∷ xs ≡ y ∷ ys → (x ≡ y) × (xs ≡ ys)
head_is x y xs ys e = (cc, cc)

module _ (g : Grid) where
  -- the looks at the entries of a block from an offset on: to the count, or to one that found the
  -- block reused
  abbrev pub ReadsOn : ℕ → ℕ → ℕ → List EntryLook → Type 0
  ReadsOn block count next [] = next ≡ count
  ReadsOn block count next (e ∷ es) =
      (e.at ≡ cursor block next)
      × (next < count)
      × LookLeads g (after.Next (Word e.at 0)) e.found (after.Entry e.answer)
      × (((e.answer ≡ seen.Whole) × ReadsOn block count (next + 1) es)
      ⊎ ((now : Cursor) × (e.answer ≡ seen.Reused now) × (es ≡ [])))

  reads_last : (block count next : ℕ) (e : EntryLook) (s : Seen) → e.answer ≡ s → ((next + 1 ≡ count) ⊎ (0 < length (reused_in (e ∷ [])))) → (((e.answer ≡ seen.Whole) × (next + 1 ≡ count)) ⊎ ((now : Cursor) × (e.answer ≡ seen.Reused now) × (◌≡◌ {A = List EntryLook} [] [])))
  reads_last block count next e seen.Whole is through =
      inl (is, ⊎_elim (λ l. l) (λ l. absurd (let n = ap (λ (a : Seen). length (reused_in (record { at = e.at; found = e.found; answer = a } ∷ []))) is in omega arith)) through)
  reads_last block count next e (seen.Reused now) is through = inr (now, is, refl)

  reads_on : (block count next : ℕ) (es : List EntryLook) → AllByRecursion (λ (e : EntryLook). LookLeads g (after.Next (Word e.at 0)) e.found (after.Entry e.answer)) es
      → map (λ (e : EntryLook). e.at) es ≡ map (cursor block) (range_with_len next (length es)) → next + length es ≤ count → BeforeLast (λ (e : EntryLook). e.answer ≡ seen.Whole) es
      → ((next + length es ≡ count) ⊎ (0 < length (reused_in es))) → ReadsOn block count next es
  reads_on block count next [] leads order within whole through = ⊎_elim (λ l. omega arith) (λ l. absurd (omega arith)) through
  reads_on block count next (e ∷ []) leads order within whole through =
      let at = head_is e.at (cursor block next) [] [] order in
      (at.0, omega arith, leads.0, reads_last block count next e e.answer refl (⊎_elim (λ l. inl (omega arith)) (λ l. inr l) through))
  reads_on block count next (e ∷ f ∷ es) leads order within whole through =
      let at = head_is e.at (cursor block next) (map (λ (x : EntryLook). x.at) (f ∷ es)) (map (cursor block) (range_with_len (next + 1) (length (f ∷ es)))) order in
      let shorter : reused_in (e ∷ f ∷ es) ≡ reused_in (f ∷ es) = ap (λ (a : Seen). reused_in (record { at = e.at; found = e.found; answer = a } ∷ f ∷ es)) whole.0 in
      (at.0, omega arith, leads.0, inl (whole.0, reads_on block count (next + 1) (f ∷ es) leads.1 at.1 (omega arith) whole.1 (⊎_elim (λ l. inl (omega arith)) (λ l. inr (let n = ap length shorter in omega arith)) through)))

  pub entries_in_order : (block count : ℕ) (es : List EntryLook) → AreEntryLooks g block count es → ((length es ≡ count) ⊎ (0 < length (reused_in es))) → ReadsOn block count 0 es
  entries_in_order block count es looks through =
      reads_on block count 0 es (recursion_from_All _ es looks.leads) looks.order (let w = looks.within in omega arith)
      (before_last _ es (recursion_from_All _ (but_last es) looks.whole)) (⊎_elim (λ l. inl (omega arith)) (λ l. inr l) through)

  -- the looks at blocks from one on: to the end, or to one that isn't opened
  abbrev pub EndsOn : ℕ → ℕ → List BlockLook → Type 0
  EndsOn block end [] = block ≡ end
  EndsOn block end (b ∷ bs) =
      IsBlockLook g b
      × (b.block ≡ block)
      × (block < end)
      × ((IsPassed b × EndsOn (block + 1) end bs)
      ⊎ ((c : Cursor) × (b.answer ≡ look.Unopened c) × (bs ≡ [])))

  abbrev answers : List BlockLook → List Look
  answers bs = map (λ (b : BlockLook). b.answer) bs

  -- among the answers, the first or a later one
  first_or_later : (l : Look) (ls : List Look) (x : Look) → Contains (l ∷ ls) x → (l ≡ x) ⊎ Contains ls x
  first_or_later l ls x (zero, lt, is) = inl is
  first_or_later l ls x (suc k, lt, is) = inr (k, omega arith, is)

  abbrev Ends : ℕ → ℕ → List BlockLook → Type 0
  Ends block end bs =
      ((block + length bs ≡ end) × AllByRecursion IsPassed bs)
      ⊎ ((c : Cursor) × Contains (answers bs) (look.Unopened c))

  none_in : (x : Look) → Contains [] x → ⊥
  none_in x h = let lt = h.1 in omega arith

  ends_on : (block end : ℕ) (bs : List BlockLook) → AllByRecursion (IsBlockLook g) bs → map (λ (b : BlockLook). b.block) bs ≡ range_with_len block (length bs) → block + length bs ≤ end → BeforeLast IsPassed bs → Ends block end bs → EndsOn block end bs
  ends_on block end [] looks order within passed ends = ⊎_elim (λ l. let e = l.0 in omega arith) (λ r. absurd (none_in _ r.1)) ends
  ends_on block end (b ∷ []) looks order within passed ends =
      let at = head_is b.block block [] [] order in
      (looks.0, at.0, omega arith, ⊎_elim (λ l. inl (l.1.0, let e = l.0 in omega arith)) (λ r. ⊎_elim (λ is. inr (r.0, is, refl)) (λ h. absurd (none_in _ h)) (first_or_later b.answer [] _ r.1)) ends)
  ends_on block end (b ∷ c ∷ bs) looks order within passed ends =
      let at = head_is b.block block (map (λ (x : BlockLook). x.block) (c ∷ bs)) (range_with_len (block + 1) (length (c ∷ bs))) order in
      let rest : Ends (block + 1) end (c ∷ bs) = ⊎_elim (λ l. inl (let e = l.0 in omega arith, l.1.1)) (λ r. ⊎_elim (λ is. absurd (passed.0.opened r.0 is)) (λ h. inr (r.0, h)) (first_or_later b.answer (answers (c ∷ bs)) _ r.1)) ends in
      (looks.0, at.0, omega arith, inl (passed.0, ends_on (block + 1) end (c ∷ bs) looks.1 at.1 (omega arith) passed.1 rest))

  pub blocks_in_order : (walk : Walk) → IsWalk g walk → HasEnded g walk → EndsOn (first_block g walk.newest) (end_block g walk.newest) walk.blocks
  blocks_in_order walk is ended =
      ends_on (first_block g walk.newest) (end_block g walk.newest) walk.blocks (recursion_from_All (IsBlockLook g) walk.blocks is.looks) is.order is.within
      (before_last IsPassed walk.blocks (recursion_from_All IsPassed (but_last walk.blocks) is.passed))
      (⊎_elim (λ l. inl (l.0, recursion_from_All IsPassed walk.blocks l.1)) (λ r. inr r) ended)
