-- Which of some seats takes.
use Rattle.std.specs.Prelude.{◌<◌, List, length, slice_index_or}

-- the first of these seats may take
abbrev pub FirstTakes : {S : Type 0} → (S → Type 0) → List S → Type 0
FirstTakes {S} Takes seats = (other : S) → 0 < length seats → Takes (slice_index_or seats 0 other)
