-- Where a cursor or a head lags, or the last block is empty, some seat is at work: each shared step keeps this.
use Rattle.std.proofs.Common.{◌≡◌, ℕ, ◌+◌, ◌/◌, ◌%◌, ◌<◌, ◌≤◌, ◌≢◌, ◌⊎◌, List, ap, ◌∙◌, inl, inr, ⊎_elim, arith}
use Rattle.std.specs.Prelude.{Some, slice_get, slice_set}
use Rattle.std.proofs.lemmas.Bool.{cases_eq}
use Rattle.std.proofs.lemmas.Bool.Decides.{nat_tests}
use Rattle.cursor_word.specs.Shape.{Grid, IsWithinLimits}
use Rattle.cursor_word.specs.Cursor.{offset_span}
use Rattle.cursor_word.specs.declared.cursor.Cursor.{Cursor}
use Rattle.machine.specs.declared.view.View.{View}
use Rattle.machine.proofs.Lists.{get_set_same, one_le_sum, sum_set}
use Rattle.put_side.specs.Cursors.{Front, PutCursors, PutWords, place}
use Rattle.put_side.specs.Stages.{PutStage}
use Rattle.put_side.specs.declared.put_phase.PutPhase.TheVariants.{OpenA}
use Rattle.put_side.specs.Stages.{At}
use Rattle.put_side.specs.Counts.{one_at}
use Rattle.put_side.specs.Manned.{IsManned, enters, in_all, opens_allocated, raises_producer, second_in}
use Rattle.put_side.specs.Places.{IsTurn}
use Rattle.put_side.proofs.Facts.{with_next}
use Rattle.put_side.proofs.Frames.{IsGrown}
use Rattle.put_side.proofs.Commits.{one_apart, one_met}

first_turn : (k turn : ℕ) (first : Cursor) → turn ≡ 1 → second_in k turn first ≡ 0
first_turn k turn first e = ap (λ (t : ℕ). second_in k t first) e

not_before : (k turn : ℕ) (first : Cursor) → first.block + 1 ≢ k → second_in k turn first ≡ 0
not_before k turn first n = let z = one_apart (first.block + 1) k n in grind (arith, nat_tests)

module _ {P : Type 0} (stage : View P → PutStage) (g : Grid) (limits : IsWithinLimits g) (vs : List (View P)) (id : ℕ) (v v' : View P) (at : slice_get vs id ≡ Some v) where
  works_on : (f : PutStage → ℕ) → f (stage v) ≤ f (stage v') → 1 ≤ in_all stage f vs → 1 ≤ in_all stage f (slice_set vs id v')
  works_on f le h = let n = sum_set (λ (u : View P). f (stage u)) vs id v v' at in omega arith

  -- a step that settles what its seat no longer stands for
  pub stays_manned : (front : Front) (n : ℕ) (cs cs' : PutCursors) → PutWords g (with_next front n) cs' → IsManned stage g front cs vs → front.next ≤ n → IsGrown cs cs'
      → (opens_allocated front.last (stage v) ≤ opens_allocated front.last (stage v')) ⊎ (cs'.allocated front.last / offset_span ≡ front.last)
      → (raises_producer front.last (stage v) ≤ raises_producer front.last (stage v')) ⊎ (cs'.producer ≡ front.last)
      → (enters front.last (stage v) ≤ enters front.last (stage v')) ⊎ (place g front.last 0 < n) → IsManned stage g (with_next front n) cs' (slice_set vs id v')
  stays_manned front n cs cs' w m more grown o r i =
      let k : ℕ = front.last in
      let xa = grown.allocated k in
      let xp = grown.producer in
      record {
        allocated = ⊎_elim (λ le. ⊎_elim (λ e. inl (⊎_elim (λ q. q.block) (λ q. absurd (omega (arith, q.older, limits.blocks_from))) w.newest)) (λ h. inr (works_on (opens_allocated k) le h)) m.allocated) (λ e. inl e) o;
        producer = ⊎_elim (λ le. ⊎_elim (λ e. inl (let y = w.head_to in omega arith)) (λ h. inr (works_on (raises_producer k) le h)) m.producer) (λ e. inl e) r;
        entered = ⊎_elim (λ le. ⊎_elim (λ e. inl (⊎_elim (λ z. inl z) (λ z. inr (omega arith)) e)) (λ h. inr (works_on (enters k) le h)) m.entered) (λ e. inl (inr e)) i;
      }

  -- a seat that opens the next block stands for it
  pub manned_opens : (front : Front) (cs' : PutCursors) (full : Cursor) → full.block + 1 ≡ front.last → stage v' ≡ At (OpenA full) → IsManned stage g front cs' (slice_set vs id v')
  manned_opens front cs' full e to =
      let k : ℕ = front.last in
      let here = get_set_same vs id v v' at in
      let one = one_met (full.block + 1) k e in
      let o = one_le_sum (λ (u : View P). opens_allocated k (stage u)) (slice_set vs id v') id v' here in let o' : opens_allocated k (stage v') ≡ one_at (full.block + 1) k = ap (opens_allocated k) to in
      let r = one_le_sum (λ (u : View P). raises_producer k (stage u)) (slice_set vs id v') id v' here in let r' : raises_producer k (stage v') ≡ one_at (full.block + 1) k = ap (raises_producer k) to in
      let n = one_le_sum (λ (u : View P). enters k (stage u)) (slice_set vs id v') id v' here in let n' : enters k (stage v') ≡ one_at (full.block + 1) k = ap (enters k) to in
      record { allocated = inr (omega arith); producer = inr (omega arith); entered = inr (omega arith) }

  -- a put in its second turn that comes from the block before the last finds the last one, which is no longer empty where the cursor that stands there has an offset
  pub entered_last : (front : Front) (cs : PutCursors) (turn : ℕ) (first : Cursor) (head : ℕ) → PutWords g front cs → IsTurn g turn first head → head ≤ cs.producer → 1 ≤ cs.allocated head % offset_span
      → (second_in front.last turn first ≡ 0) ⊎ (place g front.last 0 < front.next)
  entered_last front cs turn first head w f le some =
      ⊎_elim (λ t. inl (first_turn front.last turn first t))
      (λ t. ⊎_elim
      (λ e. let h : head ≡ front.last = let y = w.head_to in omega (arith, t.below) in let z = ap cs.allocated h in
      inr (⊎_elim (λ q. let s = limits.size_from in omega (arith, q.at)) (λ q. absurd (omega (arith, q.behind))) w.newest))
      (λ n. inl (not_before front.last turn first n)) (cases_eq (first.block + 1) front.last)) f

-- a stage in which a put is at work for no other
pub record IsIdle (k : ℕ) (s : PutStage) : Type 0 where
  pub allocated : opens_allocated k s ≡ 0
  pub producer : raises_producer k s ≡ 0
  pub entered : enters k s ≡ 0

-- a step of a seat that is at work for no other, which leaves the last block's allocated cursor and the producer head
pub idle_manned : {P : Type 0} (stage : View P → PutStage) (g : Grid) (front : Front) (cs cs' : PutCursors) (vs : List (View P)) (id : ℕ) (v v' : View P) (s : PutStage) → slice_get vs id ≡ Some v → stage v ≡ s → IsIdle front.last s
    → cs'.allocated front.last ≡ cs.allocated front.last → cs'.producer ≡ cs.producer → IsManned stage g front cs vs → IsManned stage g front cs' (slice_set vs id v')
idle_manned {P} stage g front cs cs' vs id v v' s at e idle same head m =
    let k : ℕ = front.last in
    let o : opens_allocated k (stage v) ≡ 0 = ap (opens_allocated k) e ∙ idle.allocated in
    let r : raises_producer k (stage v) ≡ 0 = ap (raises_producer k) e ∙ idle.producer in
    let n : enters k (stage v) ≡ 0 = ap (enters k) e ∙ idle.entered in
    let so = sum_set (λ (u : View P). opens_allocated k (stage u)) vs id v v' at in
    let sr = sum_set (λ (u : View P). raises_producer k (stage u)) vs id v v' at in
    let sn = sum_set (λ (u : View P). enters k (stage u)) vs id v v' at in
    record {
      allocated = ⊎_elim (λ z. inl (ap (λ (w : ℕ). w / offset_span) same ∙ z)) (λ z. inr (omega arith)) m.allocated;
      producer = ⊎_elim (λ z. inl (head ∙ z)) (λ z. inr (omega arith)) m.producer;
      entered = ⊎_elim (λ z. inl z) (λ z. inr (omega arith)) m.entered;
    }
