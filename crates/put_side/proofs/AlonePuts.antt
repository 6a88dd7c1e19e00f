-- A put that is done alone: what it knows after each shared step, and the place that it answers.
use Rattle.std.proofs.Common.{◌≡◌, ℕ, ◌+◌, ◌*◌, ◌/◌, ◌%◌, ◌<◌, max, min, List, [], length, refl, sym, ap, ◌∙◌, subst, inr, ⊎_elim, arith}
use Rattle.std.specs.Prelude.{Some, slice_get, slice_set, slice_index}
use Rattle.std.specs.List.{sum_by}
use Rattle.std.proofs.lemmas.List.{get_or-set_same, get_or-set_other, set-get_or}
use Rattle.std.proofs.lemmas.Nat.{mod_below}
use Rattle.cursor_word.specs.Shape.{Grid, IsWithinLimits}
use Rattle.cursor_word.specs.Cursor.{offset_span, place_at, unpacked}
use Rattle.cursor_word.specs.declared.cursor.Cursor.{Cursor}
use Rattle.rail.specs.declared.answer.Answer.TheVariants as answer
use Rattle.rail.specs.declared.answer.Put.TheVariants as put
use Rattle.machine.specs.declared.op.After.{After}
use Rattle.machine.specs.declared.op.After.TheVariants.{Next, Done}
use Rattle.machine.specs.declared.view.View.{View}
use Rattle.machine.specs.Invariant.{made_total}
use Rattle.machine.specs.Ops.{index}
use Rattle.put_side.specs.declared.put_phase.PutPhase.{PutPhase}
use Rattle.put_side.specs.declared.put_phase.PutPhase.TheVariants.{HeadP, SeeA, AddA, Write, Commit, OpenM, OpenA, RaiseP}
use Rattle.put_side.specs.Alone.{OthersRest, PutAlone}
use Rattle.put_side.specs.Counts.{makes, one_below}
use Rattle.put_side.specs.Cursors.{Front, allocated_word, place, put_cursors}
use Rattle.put_side.specs.Manned.{IsManned, opens_allocated, raises_producer}
use Rattle.put_side.specs.Places.{IsCurrent}
use Rattle.put_side.specs.PutSide.{PutSide}
use Rattle.put_side.specs.PutSteps as puts
use Rattle.put_side.specs.PutTable.{stage_of}
use Rattle.put_side.specs.Stages.{PutStage, At, Fills, held}
use Rattle.put_side.proofs.Choices.{pick_equal, pick_less}
use Rattle.put_side.proofs.Facts.{allocated_below, physical}
use Rattle.put_side.proofs.Loads.{knows_at}
use Rattle.put_side.proofs.Lone.{IsOnly, made_is, next_at, next_is, only_one, opened_is, producer_is}
use Rattle.put_side.proofs.Moves.{after_op}

-- a seat alone before a step of its call, where n entries were accepted when it began
pub record IsPutHere {P : Type 0} (stage : P → PutStage) (g : Grid) (n : ℕ) (front : Front) (ws : List ℕ) (vs : List (View P)) (id : ℕ) (v : View P) (s : PutStage) : Type 0 where
  pub limits : IsWithinLimits g
  pub side : PutSide (stage_of stage) g front ws vs
  pub manned : IsManned (stage_of stage) g front (put_cursors g ws) vs
  pub at : slice_get vs id ≡ Some v
  pub stands : stage_of stage v ≡ s
  pub others : OthersRest vs id
  pub made : made_total vs ≡ n
  pub knows : PutAlone g n ws s

-- what is so of each thing that may follow a shared step of a put alone
pub record AloneOfEach {P : Type 0} (to_phase : PutPhase → P) (to_fill : Cursor → P) (g : Grid) (n last : ℕ) (ws' : List ℕ) (K : After P → Type 0) : Type 0 where
  pub next : (q : PutPhase) → PutAlone g n ws' (At q) → K (Next (to_phase q))
  pub fills : (full : Cursor) → PutAlone g n ws' (Fills full) → K (Next (to_fill full))
  pub ok : (at : Cursor) → IsCurrent g last at → place_at g at ≡ n → K (Done (answer.Put (put.Ok (place_at g at))))

-- a load leaves all words
pub loaded : (g : Grid) (n : ℕ) (ws : List ℕ) (i : ℕ) (s : PutStage) → PutAlone g n ws s → PutAlone g n (slice_set ws i (slice_index ws i)) s
loaded g n ws i s h = subst (λ (w : List ℕ). PutAlone g n w s) (sym (set-get_or ws i 0)) h

module _ {P : Type 0} {stage : P → PutStage} {g : Grid} {n : ℕ} {front : Front} {ws : List ℕ} {vs : List (View P)} {id : ℕ} {v : View P} {s : PutStage} (h : IsPutHere stage g n front ws vs id v s) where
  pub only_here : IsOnly vs v.phase
  only_here = only_one vs id v v.phase h.others h.at refl

  -- the head is at the last block, and that block is open, where the seat isn't at work on it
  pub head_of : raises_producer front.last s ≡ 0 → slice_index ws 0 ≡ front.last
  head_of z = producer_is stage g front ws vs h.limits h.side v.phase only_here h.manned (ap (raises_producer front.last) h.stands ∙ z)

  pub open_of : opens_allocated front.last s ≡ 0 → allocated_word g ws front.last / offset_span ≡ front.last
  open_of z = opened_is stage g front ws vs h.limits h.side v.phase only_here h.manned (ap (opens_allocated front.last) h.stands ∙ z)

  -- nothing is held: the next place to be allocated is the number of accepted entries, and each place below it is made
  pub accepted_of : held g s ≡ [] → front.next ≡ n
  accepted_of none = let e = next_is stage g front ws vs h.limits h.side v.phase only_here in let z = ap (λ (l : List ℕ). length l) (ap (held g) h.stands ∙ none) in omega (arith, h.made)

  pub made_of : held g s ≡ [] → (q : ℕ) → sum_by (makes q) vs ≡ one_below q front.next
  made_of none q = made_is stage g front ws vs h.limits h.side v.phase only_here (ap (held g) h.stands ∙ none) q

module _ {P : Type 0} (stage : P → PutStage) (to_phase : PutPhase → P) (to_fill : Cursor → P) (g : Grid) (n : ℕ) (front : Front) (ws : List ℕ) (vs : List (View P)) (id : ℕ) (v : View P) where
  abbrev Here : PutPhase → Type 0
  Here q = IsPutHere stage g n front ws vs id v (At q)

  -- the word that the step finds, and the words after it
  abbrev found : PutPhase → ℕ
  found q = slice_index ws (index (puts.want g q v.entry))

  abbrev words : PutPhase → List ℕ
  words q = after_op ws (puts.want g q v.entry)

  abbrev Each : PutPhase → (After P → Type 0) → Type 0
  Each q K = AloneOfEach to_phase to_fill g n front.last (words q) K

  lone_SeeA : (turn : ℕ) (first : Cursor) (head : ℕ) (K : After P → Type 0) → (let q : PutPhase = SeeA turn first head in Here q → Each q K → K (puts.after to_phase to_fill g q (found q)))
  lone_SeeA turn first head K h each =
      let i : ℕ = 2 + 4 * (head % g.blocks) in
      let w : ℕ = slice_index ws i in
      let k = h.knows in
      let top = head_of h refl in
      let is : w ≡ allocated_word g ws (slice_index ws 0) = ap (allocated_word g ws) k.0 in
      let block : w / offset_span ≡ slice_index ws 0 = ap (λ (b : ℕ). allocated_word g ws b / offset_span) (k.0 ∙ top) ∙ open_of h refl ∙ sym top in
      let size = h.limits.size_from in
      pick_less K (w % offset_span) g.size _ _
      (λ l. each.next (AddA turn first head) (loaded g n ws i (At (AddA turn first head)) (k.0, l)))
      (λ l. pick_equal K turn 1 _ _ (λ one. each.fills (unpacked w) (loaded g n ws i (Fills (unpacked w)) block)) (λ two. absurd (⊎_elim (λ one. two one) (λ z. omega arith) k.1)))

  lone_AddA : (turn : ℕ) (first : Cursor) (head : ℕ) (K : After P → Type 0) → (let q : PutPhase = AddA turn first head in Here q → Each q K → K (puts.after to_phase to_fill g q (found q)))
  lone_AddA turn first head K h each =
      let i : ℕ = 2 + 4 * (head % g.blocks) in
      let w : ℕ = slice_index ws i in
      let k = h.knows in
      let opened = open_of h refl in
      let is : head ≡ front.last = k.0 ∙ head_of h refl in
      let there : w ≡ allocated_word g ws front.last = ap (allocated_word g ws) is in
      let all = accepted_of h refl in
      let base = next_at stage g front ws vs h.limits h.side opened in
      let offset : min (allocated_word g ws front.last % offset_span) g.size ≡ w % offset_span = let l = k.1 in omega arith in
      let block : w / offset_span ≡ front.last = ap (λ (x : ℕ). x / offset_span) there ∙ opened in
      let here : place g (w / offset_span) (w % offset_span) ≡ n = ap (λ (b : ℕ). place g b (w % offset_span)) block ∙ sym (base ∙ ap (place g front.last) offset) ∙ all in
      pick_less K (w % offset_span) g.size _ _ (λ l. each.next (Write (unpacked w) 0) here) (λ l. absurd (let z = k.1 in omega arith))

  lone_OpenM : (full : Cursor) → Here (OpenM full) → PutAlone g n (words (OpenM full)) (At (OpenA full))
  lone_OpenM full h =
      let i : ℕ = 3 + 4 * ((full.block + 1) % g.blocks) in
      let x : ℕ = max (slice_index ws i) ((full.block + 1) * offset_span) in
      let ws' : List ℕ = slice_set ws i x in
      let top = head_of h refl in
      let low = allocated_below h.side.places.words h.limits.blocks_from (physical g ws 2) (full.block + 1) in
      let p0 : slice_index ws' 0 ≡ slice_index ws 0 = get_or-set_other ws i 0 x 0 (λ z. omega arith) in
      let same : allocated_word g ws' (full.block + 1) ≡ allocated_word g ws (full.block + 1) = get_or-set_other ws i _ x 0 (λ z. omega arith) in
      (h.knows ∙ sym p0, let k = h.knows in omega arith)

  lone_OpenA : (full : Cursor) → Here (OpenA full) → PutAlone g n (words (OpenA full)) (At (RaiseP full))
  lone_OpenA full h =
      let i : ℕ = 2 + 4 * ((full.block + 1) % g.blocks) in
      let x : ℕ = max (slice_index ws i) ((full.block + 1) * offset_span) in
      let ws' : List ℕ = slice_set ws i x in
      let k = h.knows in
      let m = mod_below (full.block + 1) g.blocks (omega (arith, h.limits.blocks_from)) in
      let long : i < length ws = omega (arith, h.side.all) in
      let p0 : slice_index ws' 0 ≡ slice_index ws 0 = get_or-set_other ws i 0 x 0 (λ z. omega arith) in
      let there : allocated_word g ws' (full.block + 1) ≡ x = get_or-set_same ws i x 0 long in
      let less = k.1 in
      (k.0 ∙ sym p0, omega arith)

  lone_RaiseP : (full : Cursor) → Here (RaiseP full) → PutAlone g n (words (RaiseP full)) (At (HeadP 2 full))
  lone_RaiseP full h =
      let x : ℕ = max (slice_index ws 0) (full.block + 1) in
      let ws' : List ℕ = slice_set ws 0 x in
      let k = h.knows in
      let p0 : slice_index ws' 0 ≡ full.block + 1 = get_or-set_same ws 0 x 0 (omega (arith, h.side.all)) ∙ (let z = k.0 in omega arith) in
      let same : allocated_word g ws' (full.block + 1) ≡ allocated_word g ws (full.block + 1) = get_or-set_other ws 0 _ x 0 (λ z. omega arith) in
      inr (ap (allocated_word g ws') p0 ∙ same ∙ k.1 ∙ ap (λ (b : ℕ). b * offset_span) (sym p0))

  -- each shared step of a seat alone
  pub put_goes_on : (q : PutPhase) (K : After P → Type 0) → Here q → Each q K → K (puts.after to_phase to_fill g q (found q))
  put_goes_on (HeadP turn first) K h each = let p : PutPhase = SeeA turn first (slice_index ws 0) in each.next p (loaded g n ws 0 (At p) (refl, h.knows))
  put_goes_on (SeeA turn first head) K h each = lone_SeeA turn first head K h each
  put_goes_on (AddA turn first head) K h each = lone_AddA turn first head K h each
  put_goes_on (Write at next) K h each = pick_less K (next + 1) g.width _ _ (λ l. each.next (Write at (next + 1)) h.knows) (λ l. each.next (Commit at) h.knows)
  put_goes_on (Commit at) K h each = each.ok at (knows_at (stage_of stage) g front ws vs id v v h.side.places h.at (At (Commit at)) h.stands) h.knows
  put_goes_on (OpenM full) K h each = each.next (OpenA full) (lone_OpenM full h)
  put_goes_on (OpenA full) K h each = each.next (RaiseP full) (lone_OpenA full h)
  put_goes_on (RaiseP full) K h each = each.next (HeadP 2 full) (lone_RaiseP full h)
