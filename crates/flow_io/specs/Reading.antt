-- A text that is read whole.
use Rattle.std.specs.Prelude.{◌≡◌, ℕ, ◌+◌, ◌<◌, ◌≤◌, List, length, take, Option, IfSome, Some}
use Rattle.flow_io.specs.Flow.{Files, file_named}
use Rattle.flow_io.specs.declared.reading.Reading.{Reading}
use Rattle.flow_io.specs.declared.reading.Reading.TheVariants as reading

-- where the source tells its files, it holds this one, and this is so of its bytes
abbrev pub IfHeld : Option Files → List ℕ → (List ℕ → Type 0) → Type 0
IfHeld files name P = IfSome files (λ held.
    (bytes : List ℕ) × (file_named held name ≡ Some bytes) × P bytes)

-- a text that was read whole has at most so many bytes, those of the file; of a text that is too
-- large one byte more was read
abbrev pub ReadsText : Option Files → List ℕ → ℕ → Reading → Type 0
ReadsText files name limit (reading.Whole text) =
    (length text.items ≤ limit) × IfHeld files name (λ bytes. text.items ≡ bytes)
ReadsText files name limit (reading.TooLarge text) =
    (length text.items ≡ limit + 1) × IfHeld files name (λ bytes.
    (text.items ≡ take (limit + 1) bytes) × (limit < length bytes))
ReadsText files name limit reading.Unread = Unit {0}
ReadsText files name limit reading.Memory = Unit {0}
