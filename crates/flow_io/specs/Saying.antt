-- A message that is said.
use Rattle.std.specs.Prelude.{◌≡◌, ℕ, ◌⊎◌, List, Option}
use Rattle.flow_io.specs.Flow.{Rose, gained, GainedPart}

-- a sink gained this text without a fault, or failed behind a shorter prefix of it
abbrev pub Said : Option (List ℕ) → Option (List ℕ) → ℕ → ℕ → List ℕ → Type 0
Said old new before now text =
    ((new ≡ gained old text) × (now ≡ before)) ⊎ (Rose before now × GainedPart old new text)
