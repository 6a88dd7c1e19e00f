-- A queue that refuses when full: what its words and counts say where it does.
use Rattle.std.proofs.Common.{◌≡◌, ℕ, ◌+◌, ◌-◌, ◌*◌, ◌/◌, ◌%◌, ◌<◌, ◌≤◌, min, List, refl, sym, ap, ◌∙◌, subst, ⊎_elim, arith}
use Rattle.std.proofs.lemmas.Bool.{cases_lt}
use Rattle.std.proofs.lemmas.Nat.{div-add-mod', div-mul-add, mod-mul-add, same_from_place}
use Rattle.std.proofs.Math.Nat.{mul-le-mul_right}
use Rattle.cursor_word.specs.Shape.{Grid, IsWithinLimits}
use Rattle.cursor_word.specs.Cursor.{cursor, offset_span, packed, place_at, unpacked}
use Rattle.cursor_word.specs.declared.cursor.Cursor.{Cursor}
use Rattle.rail.specs.Sequential.{IsFull}
use Rattle.machine.specs.declared.view.View.{View}
use Rattle.put_side.specs.Cursors.{Front, allocated_word, consumed_word, place, put_cursors}
use Rattle.put_side.specs.Full.{FullAt}
use Rattle.put_side.specs.Places.{IsCurrent, IsFilled, PutPlaces}
use Rattle.put_side.specs.PutSteps.{older_full}
use Rattle.put_side.specs.Stages.{PutStage}
use Rattle.put_side.proofs.Facts.{committed_below, physical, place_next, repacked}
use Rattle.put_side.proofs.PutOutcomes.{before_from}
use Rattle.put_side.proofs.Sums.{one_in}

module _ {P : Type 0} (stage : View P → PutStage) (g : Grid) (limits : IsWithinLimits g) (front : Front) (ws : List ℕ) (vs : List (View P)) (p : PutPlaces stage g front (put_cursors g ws) vs)
    (full : Cursor) (f : IsFilled g (put_cursors g ws) full) (last : front.last ≡ full.block) where
  -- the filled block is the last one: all places up to its end are allocated, and no other is
  pub all_allocated : front.next ≡ place g (full.block + 1) 0
  all_allocated =
      let n = place_next g full.block f.from in
      let known : packed full ≤ allocated_word g ws front.last = subst (λ (b : ℕ). packed full ≤ allocated_word g ws b) (sym last) f.known in
      let end : front.next ≡ place g front.last g.size = ⊎_elim (λ q. let m : min (allocated_word g ws front.last % offset_span) g.size ≡ g.size = omega (arith, q.block, f.filled) in q.at ∙ ap (place g front.last) m) (λ q. absurd (omega (arith, q.older, limits.blocks_from))) p.words.newest in
      end ∙ ap (λ (b : ℕ). place g b g.size) last ∙ sym n

  pub full_seen : consumed_word g ws (full.block + 1) < older_full g full.block → FullAt stage g (record { words = ws; views = vs }) full.block (unpacked (consumed_word g ws (full.block + 1)))
  full_seen less =
      let all = all_allocated in
      let r = repacked (consumed_word g ws (full.block + 1)) in
      let b = committed_below p.words limits.blocks_from (physical g ws 3) (full.block + 1) in
      record {
        from = f.from;
        allocated = λ q l. let o = p.counts.once q in let z = one_in q front.next (omega (arith, all)) in omega arith;
        not_opened = omega (arith, last);
        consumed = refl;
        not_consumed = before_from _ (cursor (full.block + 1 - g.blocks) g.size) (omega (arith, limits.size_to)) (omega arith);
      }

-- m blocks are filled, and the one that the next would reuse is not wholly taken
abbrev pub IsFullAt : Grid → ℕ → ℕ → ℕ → Type 0
IsFullAt g n t m = (n ≡ m * g.size) × (1 ≤ m) × (t < (m + 1 - g.blocks) * g.size)

pub is_full : (g : Grid) (n t m : ℕ) → IsWithinLimits g → IsFullAt g n t m → (n / g.size ≡ m) × IsFull g n t
is_full g n t m limits f =
    let size = limits.size_from in
    let e : n ≡ m * g.size + 0 = f.0 ∙ omega arith in
    let q : n / g.size ≡ m = ap (λ (k : ℕ). k / g.size) e ∙ div-mul-add m g.size 0 size in
    let r : n % g.size ≡ 0 = ap (λ (k : ℕ). k % g.size) e ∙ mod-mul-add m g.size 0 size in
    let w : 1 * g.size ≤ m * g.size = mul-le-mul_right g.size (f.1) in
    (q, record { some = omega (arith, f.0); filled = r; untaken = subst (λ (k : ℕ). t < (k + 1 - g.blocks) * g.size) (sym q) f.2 })

full_blocks : (g : Grid) (n t : ℕ) → IsFull g n t → IsFullAt g n t (n / g.size)
full_blocks g n t f =
    let r = f.filled in
    let e : n / g.size * g.size + n % g.size ≡ n = div-add-mod' n g.size in
    let s = f.some in
    (omega arith, ⊎_elim (λ z. absurd (let y : n / g.size ≡ 0 = omega arith in let x = ap (λ (k : ℕ). k * g.size) y in omega arith)) (λ z. z) (cases_lt (n / g.size) 1), f.untaken)

-- a place that a put alone draws is not one at which the queue is full, where the block before one that is opened in its place is wholly taken
pub not_full : (g : Grid) (n t last : ℕ) (at : Cursor) → IsWithinLimits g → ((k : ℕ) → g.blocks ≤ k → k + g.blocks ≤ last → place g (k + 1) 0 ≤ t) → IsCurrent g last at → place_at g at ≡ n → IsFull g n t → ⊥
not_full g n t last at limits reused c here is =
    let m : ℕ = n / g.size in
    let f = full_blocks g n t is in
    let within = c.within in
    let from = c.from in
    let to = c.to in
    let e : (at.block - g.blocks) * g.size + at.offset ≡ m * g.size + 0 = here ∙ f.0 ∙ omega arith in
    let same = same_from_place (at.block - g.blocks) at.offset m 0 g.size within (omega (arith, limits.size_from)) e in
    let b = same.0 in
    let less = f.2 in
    ⊎_elim
    (λ l. let z : m + 1 - g.blocks ≡ 0 = omega arith in let y = ap (λ (c : ℕ). c * g.size) z in omega arith)
    (λ l. let r = reused m l (omega arith) in omega arith)
    (cases_lt m g.blocks)
