-- The buffer into which a take reads.
use Rattle.std.specs.Prelude.{◌≡◌, ℕ, List, [], slice_set, take}
use Rattle.machine.specs.Table.{Reading, Unread, Whole, Word}

-- the buffer after a step that found this value
abbrev pub out_after : Reading → List ℕ → ℕ → List ℕ
out_after (Word next) out value = slice_set out next value
out_after reading out value = out

-- the words that a take has read stand in the front of its buffer, which is as it was before
abbrev pub Gathers : Reading → List ℕ → List ℕ → List ℕ → Type 0
Gathers (Word next) old out read = take next out ≡ read
Gathers Whole old out read = out ≡ read
Gathers Unread old out read = (out ≡ old) × (read ≡ [])
