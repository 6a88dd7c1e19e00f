-- Words and the cursors that they hold.
use Rattle.std.proofs.Common.{◌≡◌, ℕ, ◌+◌, ◌/◌, ◌%◌, ◌^◌, ◌<◌, ◌≤◌, ap, ◌∙◌, inl, inr, ⊎_elim, arith}
use Rattle.std.specs.Prelude.{max}
use Rattle.std.proofs.lemmas.Nat.{div-mul-add, mod-mul-add, div-add-mod'}
use Rattle.std.proofs.lemmas.Bool.{cases_order}
use Rattle.cursor_word.specs.Shape.{Grid, IsWithinLimits}
use Rattle.cursor_word.specs.declared.cursor.Cursor.{Cursor}
use Rattle.cursor_word.specs.Cursor.{Fits, IsBefore, block_span, cursor, most_block, offset_span, packed, unpacked}

pub block_of_packed : (c : Cursor) → c.offset < offset_span → packed c / offset_span ≡ c.block
block_of_packed c h = div-mul-add c.block offset_span c.offset h

pub offset_of_packed : (c : Cursor) → c.offset < offset_span → packed c % offset_span ≡ c.offset
offset_of_packed c h = mod-mul-add c.block offset_span c.offset h

pub unpacked_packed : (c : Cursor) → c.offset < offset_span → unpacked (packed c) ≡ c
unpacked_packed c h = λ k. record { block = block_of_packed c h k; offset = offset_of_packed c h k }

pub packed_unpacked : (w : ℕ) → packed (unpacked w) ≡ w
packed_unpacked w = div-add-mod' w offset_span

pub offset_of_word_fits : (w : ℕ) → (unpacked w).offset < offset_span
offset_of_word_fits w = omega arith

pub unpacked_fits : (w : ℕ) → w < 2 ^ 64 → Fits (unpacked w)
unpacked_fits w h = record { block_fits = omega arith; offset_fits = offset_of_word_fits w }

pub packed_fits : (c : Cursor) → Fits c → packed c < 2 ^ 64
packed_fits c h = let b = h.block_fits in let o = h.offset_fits in omega arith

-- the order of words is that of cursors
pub before_of_packed : (c d : Cursor) → d.offset < offset_span → packed c < packed d → IsBefore c d
before_of_packed c d h lt = ⊎_elim (λ e. inr (e, omega arith)) (λ r. ⊎_elim (λ l. inl l) (λ g. absurd (omega arith)) r) (cases_order c.block d.block)

pub packed_of_before : (c d : Cursor) → c.offset < offset_span → IsBefore c d → packed c < packed d
packed_of_before c d h (inl l) = omega arith
packed_of_before c d h (inr (e, l)) = omega arith

-- a word against the first word of a block
pub below_block : (w k : ℕ) → w < packed (cursor k 0) → (unpacked w).block < k
below_block w k h = omega arith

pub from_block : (w k : ℕ) → packed (cursor k 0) ≤ w → k ≤ (unpacked w).block
from_block w k h = omega arith

-- opening a block leaves a word of a later block, and sets an earlier one to the block's first cursor
pub raised_later : (w k : ℕ) → k ≤ (unpacked w).block → max w (packed (cursor k 0)) ≡ w
raised_later w k h = omega arith

pub raised_earlier : (w k : ℕ) → (unpacked w).block < k → max w (packed (cursor k 0)) ≡ packed (cursor k 0)
raised_earlier w k h = omega arith

-- the cursor after
pub word_after : (w : ℕ) → w < 2 ^ 64 → (unpacked w).offset + 1 < offset_span → (w + 1) % 2 ^ 64 ≡ packed (cursor (unpacked w).block ((unpacked w).offset + 1))
word_after w fits h = omega arith

pub cursor_after : (w : ℕ) → w < 2 ^ 64 → (unpacked w).offset + 1 < offset_span → unpacked ((w + 1) % 2 ^ 64) ≡ cursor (unpacked w).block ((unpacked w).offset + 1)
cursor_after w fits h = ap unpacked (word_after w fits h) ∙ unpacked_packed (cursor (unpacked w).block ((unpacked w).offset + 1)) h

-- the offsets that occur fit, also where each seat passed the block's size once
pub passed_offset_fits : (g : Grid) → IsWithinLimits g → g.size + g.seats < offset_span
passed_offset_fits g l = let s = l.size_to in let t = l.seats_to in omega arith

pub size_fits : (g : Grid) → IsWithinLimits g → g.size < offset_span
size_fits g l = let s = l.size_to in omega arith

pub most_block_fits : (k : ℕ) → k ≤ most_block → k + 1 < block_span
most_block_fits k h = omega arith
