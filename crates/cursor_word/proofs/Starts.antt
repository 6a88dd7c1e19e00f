-- The words with which a table starts, part by part.
use Rattle.std.proofs.Common.{◌≡◌, ℕ, ◌+◌, ◌-◌, ◌*◌, ◌/◌, ◌<◌, ◌≤◌, refl, ap, ◌∙◌, arith}
use Rattle.std.proofs.lemmas.Bool.Decides.{nat_tests}
use Rattle.std.proofs.lemmas.Nat.{div-mul-add}
use Rattle.cursor_word.specs.Shape.{Grid}
use Rattle.cursor_word.specs.Cursor.{cursor, packed}
use Rattle.cursor_word.specs.Layout.{Part, IsPart, entry_index, index_of, start_at, start_cursor, start_of}
use Rattle.cursor_word.specs.Layout.Part.{producer, consumer, allocated, committed, reserved, consumed, entry}

start_at-cursor : (g : Grid) (r b : ℕ) → r < 4 → b < g.blocks → start_at g (2 + r + 4 * b) ≡ start_cursor g b
start_at-cursor g r b h q =
    let d : (2 + r + 4 * b - 2) / 4 ≡ b = ap (λ (n : ℕ). n / 4) (omega arith) ∙ div-mul-add b 4 r h in
    let t : start_at g (2 + r + 4 * b) ≡ start_cursor g ((2 + r + 4 * b - 2) / 4) = grind (arith, nat_tests) in
    t ∙ ap (start_cursor g) d

start_at-entry : (g : Grid) (i : ℕ) → 2 + 4 * g.blocks ≤ i → start_at g i ≡ 0
start_at-entry g i h = grind (arith, nat_tests)

-- each part starts as its own
pub start_of_part : (g : Grid) (p : Part) → IsPart g p → start_at g (index_of g p) ≡ start_of g p
start_of_part g producer h = refl
start_of_part g consumer h = refl
start_of_part g (allocated b) h = start_at-cursor g 0 b (omega arith) h
start_of_part g (committed b) h = start_at-cursor g 1 b (omega arith) h
start_of_part g (reserved b) h = start_at-cursor g 2 b (omega arith) h
start_of_part g (consumed b) h = start_at-cursor g 3 b (omega arith) h
start_of_part g (entry b offset w) h = start_at-entry g (entry_index g b offset w) (omega arith)

-- the first block is open, and those before it are finished
pub start_open : (g : Grid) → start_cursor g 0 ≡ packed (cursor g.blocks 0)
start_open g = refl

pub start_finished : (g : Grid) (b : ℕ) → 0 < b → start_cursor g b ≡ packed (cursor b g.size)
start_finished g b h = grind (arith, nat_tests)
