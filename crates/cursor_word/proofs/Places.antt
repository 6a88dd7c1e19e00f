-- Places and the cursors at which they lie.
use Rattle.std.proofs.Common.{◌≡◌, ℕ, ◌+◌, ◌-◌, ◌*◌, ◌/◌, ◌%◌, ◌^◌, ◌<◌, ◌≤◌, refl, sym, ap, ◌∙◌, inl, inr, ⊎_elim, arith}
use Rattle.std.proofs.lemmas.Nat.{div-mul-add, mod-mul-add, div-add-mod', le-div, mod_below, same_from_place}
use Rattle.std.proofs.Math.Nat.{div-le_of_le-mul, div-le_self, div-mul-le_self, mul-le-mul_right}
use Rattle.std.proofs.lemmas.Bool.{cases_eq, cases_lt, cases_order}
use Rattle.cursor_word.specs.Shape.{Grid, IsWithinLimits}
use Rattle.cursor_word.specs.declared.cursor.Cursor.{Cursor}
use Rattle.cursor_word.specs.Cursor.{HasPlace, IsBefore, cursor, cursor_of, first_of, low, block_room, most_block, most_puts, place_at, place_span}

pub place_of_cursor : (g : Grid) (p : ℕ) → place_at g (cursor_of g p) ≡ p
place_of_cursor g p = let e = div-add-mod' p g.size in let b : g.blocks + p / g.size - g.blocks ≡ p / g.size = omega arith in ap (λ (n : ℕ). n * g.size + p % g.size) b ∙ e

pub cursor_of_place : (g : Grid) (c : Cursor) → g.blocks ≤ c.block → c.offset < g.size → cursor_of g (place_at g c) ≡ c
cursor_of_place g c from h =
    let d = div-mul-add (c.block - g.blocks) g.size c.offset h in
    let b : g.blocks + place_at g c / g.size ≡ c.block = omega arith in
    let o : place_at g c % g.size ≡ c.offset = mod-mul-add (c.block - g.blocks) g.size c.offset h in
    λ k. record { block = b k; offset = o k }

pub block_of_place_from : (g : Grid) (p : ℕ) → g.blocks ≤ (cursor_of g p).block
block_of_place_from g p = omega arith

pub offset_of_place : (g : Grid) (p : ℕ) → IsWithinLimits g → (cursor_of g p).offset < g.size
offset_of_place g p l = mod_below p g.size (let s = l.size_from in omega arith)

pub block_of_place_to : (g : Grid) (p : ℕ) → IsWithinLimits g → p ≤ place_span g → (cursor_of g p).block + 1 ≤ most_block
block_of_place_to g p l h =
    let b = l.blocks_to in
    let q : p / g.size ≤ block_room = div-le_of_le-mul g.size (omega (arith, h)) in
    omega arith

pub has_place : (g : Grid) (p : ℕ) → IsWithinLimits g → p ≤ place_span g → HasPlace g (cursor_of g p)
has_place g p l h = record { from_first = block_of_place_from g p; block_fits = let b = block_of_place_to g p l h in omega arith; in_block = offset_of_place g p l }

-- what all seats put has a place
pub most_puts_fit : (g : Grid) → g.seats * most_puts g ≤ place_span g
most_puts_fit g = omega (arith, div-mul-le_self (place_span g) g.seats)

pub most_puts_from : (g : Grid) → IsWithinLimits g → 2 ^ 32 ≤ most_puts g
most_puts_from g l = le-div (2 ^ 32) (place_span g) g.seats (omega (arith, l.seats_from)) (omega (arith, l.seats_to, l.size_from))

pub most_puts_to : (g : Grid) → most_puts g ≤ place_span g
most_puts_to g = div-le_self (place_span g) g.seats

-- two places that are one have one cursor
pub same_place : (g : Grid) (c d : Cursor) → g.blocks ≤ c.block → g.blocks ≤ d.block → c.offset < g.size → d.offset < g.size → place_at g c ≡ place_at g d → (c.block ≡ d.block) × (c.offset ≡ d.offset)
same_place g c d from to h q e = let s = same_from_place (c.block - g.blocks) c.offset (d.block - g.blocks) d.offset g.size h q e in (omega (arith, s.0), s.1)

-- the order of places is that of cursors
pub place_of_before : (g : Grid) (c d : Cursor) → g.blocks ≤ c.block → c.offset < g.size → IsBefore c d → place_at g c < place_at g d
place_of_before g c d from h (inl l) = let m : (c.block - g.blocks + 1) * g.size ≤ (d.block - g.blocks) * g.size = mul-le-mul_right g.size (omega arith) in omega arith
place_of_before g c d from h (inr (e, l)) = let m : (c.block - g.blocks) * g.size ≡ (d.block - g.blocks) * g.size = ap (λ (n : ℕ). (n - g.blocks) * g.size) e in omega arith

pub before_of_place : (g : Grid) (c d : Cursor) → g.blocks ≤ d.block → d.offset < g.size → place_at g c < place_at g d → IsBefore c d
before_of_place g c d from h lt =
    ⊎_elim (λ e. let m : (c.block - g.blocks) * g.size ≡ (d.block - g.blocks) * g.size = ap (λ (n : ℕ). (n - g.blocks) * g.size) e in inr (e, omega arith))
    (λ r. ⊎_elim (λ l. inl l) (λ q. absurd (let m : (d.block - g.blocks + 1) * g.size ≤ (c.block - g.blocks) * g.size = mul-le-mul_right g.size (omega arith) in omega arith)) r) (cases_order c.block d.block)

-- the places of a block, and the block after
pub place_in_block : (g : Grid) (c : Cursor) → place_at g c ≡ first_of g c.block + c.offset
place_in_block g c = refl

pub place_after : (g : Grid) (k o : ℕ) → place_at g (cursor k (o + 1)) ≡ place_at g (cursor k o) + 1
place_after g k o = omega arith

pub first_after : (g : Grid) (k : ℕ) → g.blocks ≤ k → first_of g (k + 1) ≡ first_of g k + g.size
first_after g k from = let e : k + 1 - g.blocks ≡ k - g.blocks + 1 = omega arith in ap (λ (n : ℕ). n * g.size) e ∙ omega arith

pub first_to : (g : Grid) (h k : ℕ) → h ≤ k → first_of g h ≤ first_of g k
first_to g h k le = mul-le-mul_right g.size (omega arith)

pub block_of_first : (g : Grid) (k p : ℕ) → g.blocks ≤ k → first_of g k ≤ p → p < first_of g (k + 1) → (cursor_of g p).block ≡ k
block_of_first g k p from a b =
    let n = first_after g k from in
    let w : p ≡ (k - g.blocks) * g.size + (p - first_of g k) = omega arith in
    let d : p / g.size ≡ k - g.blocks = ap (λ (n : ℕ). n / g.size) w ∙ div-mul-add (k - g.blocks) g.size (p - first_of g k) (omega arith) in
    omega arith

-- the first live place
pub low_none : (g : Grid) → low g 0 ≡ 0
low_none g = refl

pub low_some : (g : Grid) (n : ℕ) → 0 < n → low g n ≡ ((n - 1) / g.size + 1 - g.blocks) * g.size
low_some g n h = grind arith

pub low_is_first : (g : Grid) (n : ℕ) → 0 < n → low g n ≡ first_of g ((cursor_of g (n - 1)).block + 1 - g.blocks)
low_is_first g n h =
    let e : g.blocks + (n - 1) / g.size + 1 - g.blocks ≡ (n - 1) / g.size + 1 = omega arith in
    low_some g n h ∙ ap (λ (b : ℕ). (b - g.blocks) * g.size) (sym e)

-- the last entries of all blocks but one are live
some_keeps : (g : Grid) (n : ℕ) → IsWithinLimits g → 0 < n → low g n ≤ n - (g.blocks - 1) * g.size
some_keeps g n l h =
    let s = low_some g n h in let e = div-add-mod' (n - 1) g.size in
    ⊎_elim
    (λ q. let z : (n - 1) / g.size + 1 - g.blocks ≡ 0 = omega arith in let m : ((n - 1) / g.size + 1 - g.blocks) * g.size ≡ 0 * g.size = ap (λ (k : ℕ). k * g.size) z in omega arith)
    (λ q.
    let b = l.blocks_from in
    let w : (n - 1) / g.size ≡ ((n - 1) / g.size + 1 - g.blocks) + (g.blocks - 1) = omega arith in
    let m : (n - 1) / g.size * g.size ≡ ((n - 1) / g.size + 1 - g.blocks) * g.size + (g.blocks - 1) * g.size = ap (λ (k : ℕ). k * g.size) w ∙ omega arith in
    omega arith)
    (cases_lt ((n - 1) / g.size + 1) g.blocks)

pub low_keeps : (g : Grid) (n : ℕ) → IsWithinLimits g → low g n ≤ n - (g.blocks - 1) * g.size
low_keeps g n l = ⊎_elim (λ e. let z : low g n ≡ 0 = ap (low g) e in omega arith) (λ r. some_keeps g n l (omega arith)) (cases_eq n 0)

pub low_within : (g : Grid) (n : ℕ) → IsWithinLimits g → low g n ≤ n
low_within g n l = let k = low_keeps g n l in omega arith

some_rises : (g : Grid) (n m : ℕ) → IsWithinLimits g → 0 < n → n ≤ m → low g n ≤ low g m
some_rises g n m l h le =
    let a = low_some g n h in let b = low_some g m (omega arith) in
    let d = div-mul-le_self (n - 1) g.size in
    let q : (n - 1) / g.size ≤ (m - 1) / g.size = le-div ((n - 1) / g.size) (m - 1) g.size (let z = l.size_from in omega arith) (omega arith) in
    let r : ((n - 1) / g.size + 1 - g.blocks) * g.size ≤ ((m - 1) / g.size + 1 - g.blocks) * g.size = mul-le-mul_right g.size (omega arith) in omega arith

pub low_rises : (g : Grid) (n m : ℕ) → IsWithinLimits g → n ≤ m → low g n ≤ low g m
low_rises g n m l le = ⊎_elim (λ e. let z : low g n ≡ 0 = ap (low g) e in omega arith) (λ r. some_rises g n m l (omega arith) le) (cases_eq n 0)
