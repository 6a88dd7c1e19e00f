-- Places by their blocks: a later block's are greater, and the oldest block in the window of the newest ones has the lowest place that is live.
use Rattle.std.proofs.Common.{◌≡◌, ℕ, ◌+◌, ◌-◌, ◌*◌, ◌/◌, ◌%◌, ◌<◌, ◌≤◌, ◌⊎◌, ap, ◌∙◌, ⊎_elim, arith}
use Rattle.std.proofs.lemmas.Bool.{cases_lt}
use Rattle.std.proofs.lemmas.Nat.{div-add-mod', mod_below}
use Rattle.std.proofs.Math.Nat.{mul-le-mul_right}
use Rattle.cursor_word.specs.Shape.{Grid, IsWithinLimits}
use Rattle.cursor_word.specs.Cursor.{cursor_of, low}
use Rattle.cursor_word.proofs.Places.{block_of_first, first_after, low_is_first, low_none}
use Rattle.put_side.specs.Cursors.{place}

-- the places of a block are before those of a later one
pub rows : (g : Grid) (n m : ℕ) → n ≤ m → place g n 0 ≤ place g m 0
rows g n m le = let d : n - g.blocks ≤ m - g.blocks = omega arith in let w = mul-le-mul_right g.size d in omega arith

-- a place by its block and offset
pub of_place : (g : Grid) (q : ℕ) → 1 ≤ g.size → (place g (g.blocks + q / g.size) (q % g.size) ≡ q) × (q % g.size < g.size)
of_place g q pos = (ap (λ (b : ℕ). b * g.size + q % g.size) (let e : g.blocks + q / g.size - g.blocks ≡ q / g.size = omega arith in e) ∙ div-add-mod' q g.size, mod_below q g.size pos)

-- the lowest live place is the first of the oldest block in the window up to k, where the last of n places lies in block k
pub low_at : (g : Grid) (n k : ℕ) → IsWithinLimits g → g.blocks ≤ k → n ≤ place g k g.size → ((k ≡ g.blocks) ⊎ (place g k 0 < n)) → low g n ≡ place g (k + 1 - g.blocks) 0
low_at g n k limits from most some =
    let two = limits.blocks_from in
    ⊎_elim
    (λ none. let z : n ≡ 0 = omega arith in
    let e : k ≡ g.blocks = ⊎_elim (λ e. e) (λ l. absurd (omega arith)) some in
    let b : k + 1 - g.blocks - g.blocks ≡ 0 = omega arith in
    let w = ap (λ (m : ℕ). m * g.size) b in
    let l = ap (low g) z in
    let o = low_none g in omega arith)
    (λ one. let next = first_after g k from in
    let base : place g k 0 ≤ n - 1 = ⊎_elim (λ e. let d : k - g.blocks ≡ 0 = omega arith in let w = ap (λ (m : ℕ). m * g.size) d in omega arith) (λ l. omega arith) some in
    let block : (cursor_of g (n - 1)).block ≡ k = block_of_first g k (n - 1) from (omega arith) (omega arith) in
    let l = low_is_first g n one in
    let e = ap (λ (b : ℕ). place g (b + 1 - g.blocks) 0) block in omega arith)
    (cases_lt n 1)
