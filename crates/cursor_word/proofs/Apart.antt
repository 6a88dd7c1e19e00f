-- Different parts of a table have different indices below its length: the part is read back from its index.
use Rattle.std.proofs.Common.{◌≡◌, ℕ, zero, suc, ◌+◌, ◌-◌, ◌*◌, ◌/◌, ◌%◌, ◌<◌, ◌≢◌, sym, ap, ◌∙◌, refl, arith}
use Rattle.std.proofs.lemmas.Nat.{mul-add-lt, div-mul-add, mod-mul-add, mod_below}
use Rattle.std.specs.Prelude.{nat_lt, if◌then◌else◌, ◌==◌}
use Rattle.std.proofs.lemmas.Bool.Decides.{nat_tests}
use Rattle.cursor_word.specs.Shape.{Grid, IsWithinLimits}
use Rattle.cursor_word.specs.Layout.{Part, IsPart, entry_index, index_of, word_count}
use Rattle.cursor_word.specs.Layout.Part.{producer, consumer, allocated, committed, reserved, consumed, entry}

abbrev kind_part : ℕ → ℕ → Part
kind_part zero b = allocated b
kind_part (suc zero) b = committed b
kind_part (suc (suc zero)) b = reserved b
kind_part (suc (suc (suc k))) b = consumed b

-- the entry word that is the j-th of all
abbrev entry_part : Grid → ℕ → Part
entry_part g j = entry (j / g.width / g.size) (j / g.width % g.size) (j % g.width)

abbrev part_at : Grid → ℕ → Part
part_at g i =
    if nat_lt i 2 then (if i == 0 then producer else consumer)
    else (if nat_lt i (2 + 4 * g.blocks) then kind_part ((i - 2) % 4) ((i - 2) / 4) else entry_part g (i - (2 + 4 * g.blocks)))

pub entry_word_within : (b s w : ℕ) (blocks size width : ℕ) → b < blocks → s < size → w < width → (b * size + s) * width + w < blocks * size * width
entry_word_within b s w blocks size width hb hs hw =
    let rows : b * size + s < blocks * size = grind (arith, mul-add-lt) in grind (arith, mul-add-lt)

part_at-cursor : (g : Grid) (k b : ℕ) → k < 4 → b < g.blocks → part_at g (2 + k + 4 * b) ≡ kind_part k b
part_at-cursor g k b hk hb =
    let m : (2 + k + 4 * b - 2) % 4 ≡ k = ap (λ (n : ℕ). n % 4) (omega arith) ∙ mod-mul-add b 4 k hk in
    let d : (2 + k + 4 * b - 2) / 4 ≡ b = ap (λ (n : ℕ). n / 4) (omega arith) ∙ div-mul-add b 4 k hk in
    let t : part_at g (2 + k + 4 * b) ≡ kind_part ((2 + k + 4 * b - 2) % 4) ((2 + k + 4 * b - 2) / 4) = grind (arith, nat_tests) in
    t ∙ cc

part_at-entry : (g : Grid) (b s w : ℕ) → s < g.size → w < g.width → part_at g (entry_index g b s w) ≡ entry b s w
part_at-entry g b s w hs hw =
    let j : ℕ = (b * g.size + s) * g.width + w in
    let e : entry_index g b s w - (2 + 4 * g.blocks) ≡ j = omega arith in
    let t : part_at g (entry_index g b s w) ≡ entry_part g (entry_index g b s w - (2 + 4 * g.blocks)) = grind (arith, nat_tests) in
    let m : j % g.width ≡ w = mod-mul-add (b * g.size + s) g.width w hw in
    let d : j / g.width ≡ b * g.size + s = div-mul-add (b * g.size + s) g.width w hw in
    let d' : (b * g.size + s) / g.size ≡ b = div-mul-add b g.size s hs in
    let m' : (b * g.size + s) % g.size ≡ s = mod-mul-add b g.size s hs in
    let block : j / g.width / g.size ≡ b = ap (λ (n : ℕ). n / g.size) d ∙ d' in
    let offset : j / g.width % g.size ≡ s = ap (λ (n : ℕ). n % g.size) d ∙ m' in
    t ∙ ap (entry_part g) e ∙ cc

part_at-index_of : (g : Grid) (p : Part) → IsPart g p → part_at g (index_of g p) ≡ p
part_at-index_of g producer h = refl
part_at-index_of g consumer h = refl
part_at-index_of g (allocated b) h = part_at-cursor g 0 b (omega arith) h
part_at-index_of g (committed b) h = part_at-cursor g 1 b (omega arith) h
part_at-index_of g (reserved b) h = part_at-cursor g 2 b (omega arith) h
part_at-index_of g (consumed b) h = part_at-cursor g 3 b (omega arith) h
part_at-index_of g (entry b s w) h = part_at-entry g b s w h.1 h.2

pub index_of-apart : (g : Grid) (p q : Part) → IsPart g p → IsPart g q → index_of g p ≡ index_of g q → p ≡ q
index_of-apart g p q hp hq e = sym (part_at-index_of g p hp) ∙ ap (part_at g) e ∙ part_at-index_of g q hq

pub index_of-within : (g : Grid) (p : Part) → IsPart g p → index_of g p < word_count g
index_of-within g producer h = omega arith
index_of-within g consumer h = omega arith
index_of-within g (allocated b) h = omega arith
index_of-within g (committed b) h = omega arith
index_of-within g (reserved b) h = omega arith
index_of-within g (consumed b) h = omega arith
index_of-within g (entry b s w) h = let e = entry_word_within b s w g.blocks g.size g.width h.0 h.1 h.2 in omega arith

-- the number of a part's kind, its block, its offset in the block and its number in the entry
abbrev pub kind_of : Part → ℕ
kind_of producer = 0
kind_of consumer = 1
kind_of (allocated b) = 2
kind_of (committed b) = 3
kind_of (reserved b) = 4
kind_of (consumed b) = 5
kind_of (entry b s w) = 6

abbrev pub block_of : Part → ℕ
block_of producer = 0
block_of consumer = 0
block_of (allocated b) = b
block_of (committed b) = b
block_of (reserved b) = b
block_of (consumed b) = b
block_of (entry b s w) = b

abbrev pub offset_of : Part → ℕ
offset_of producer = 0
offset_of consumer = 0
offset_of (allocated b) = 0
offset_of (committed b) = 0
offset_of (reserved b) = 0
offset_of (consumed b) = 0
offset_of (entry b s w) = s

abbrev pub word_of : Part → ℕ
word_of producer = 0
word_of consumer = 0
word_of (allocated b) = 0
word_of (committed b) = 0
word_of (reserved b) = 0
word_of (consumed b) = 0
word_of (entry b s w) = w

-- parts that differ in one of these have two indices
pub apart_by_kind : (g : Grid) (p q : Part) → IsPart g p → IsPart g q → kind_of p ≢ kind_of q → index_of g p ≢ index_of g q
apart_by_kind g p q hp hq d = λ e. d (ap kind_of (index_of-apart g p q hp hq e))

pub apart_by_block : (g : Grid) (p q : Part) → IsPart g p → IsPart g q → block_of p ≢ block_of q → index_of g p ≢ index_of g q
apart_by_block g p q hp hq d = λ e. d (ap block_of (index_of-apart g p q hp hq e))

pub apart_by_offset : (g : Grid) (p q : Part) → IsPart g p → IsPart g q → offset_of p ≢ offset_of q → index_of g p ≢ index_of g q
apart_by_offset g p q hp hq d = λ e. d (ap offset_of (index_of-apart g p q hp hq e))

pub apart_by_word : (g : Grid) (p q : Part) → IsPart g p → IsPart g q → word_of p ≢ word_of q → index_of g p ≢ index_of g q
apart_by_word g p q hp hq d = λ e. d (ap word_of (index_of-apart g p q hp hq e))

-- a head or a cursor is no entry word
pub no_entry : (g : Grid) (p : Part) (b s w : ℕ) → IsPart g p → IsPart g (entry b s w) → kind_of p < 6 → index_of g p ≢ index_of g (entry b s w)
no_entry g p b s w hp hq k = apart_by_kind g p (entry b s w) hp hq (λ e. omega arith)

pub entry_is_part : (g : Grid) (k s w : ℕ) → IsWithinLimits g → s < g.size → w < g.width → IsPart g (entry (k % g.blocks) s w)
entry_is_part g k s w l hs hw = (mod_below k g.blocks (let b = l.blocks_from in omega arith), hs, hw)
