-- What a source and a sink tell, and when they may fail.
use Rattle.std.specs.Prelude.{◌≡◌, ℕ, ◌+◌, ◌^◌, ◌<◌, ◌≤◌, ◌⊎◌, List, [], ◌∷◌, ◌++◌, length, take, drop, Option, Some, None, IfSome}
use Rattle.std.specs.Option.{option_map}
use Rattle.std.specs.Map.{lookup}
use Rattle.std.specs.Str.{bytes_eq}
use Rattle.flow_io.specs.declared.flow.Got.{Got}
use Rattle.flow_io.specs.declared.flow.Got.TheVariants as got
use Rattle.flow_io.specs.declared.flow.Took.{Took}
use Rattle.flow_io.specs.declared.flow.Took.TheVariants as took

-- the count of faults rose, or stands at the last value of its counter
abbrev pub Rose : ℕ → ℕ → Type 0
Rose before now = (before < now) ⊎ (2 ^ 64 ≤ now + 1)

-- files by name; of equal names the first counts
abbrev pub Files : Type 0
Files = List (List ℕ × List ℕ)

abbrev pub file_named : Files → List ℕ → Option (List ℕ)
file_named files name = lookup (λ n. bytes_eq n name) files

-- the source tells its files, and holds none of that name
abbrev pub HoldsNone : Option Files → List ℕ → Type 0
HoldsNone None name = ⊥
HoldsNone (Some files) name = file_named files name ≡ None

-- where the source tells its files, these bytes are left: those of that file
abbrev pub BeginsFile : Option Files → List ℕ → Option (List ℕ) → Type 0
BeginsFile files name left = IfSome files (λ held.
    (bytes : List ℕ) × (file_named held name ≡ Some bytes) × (left ≡ Some bytes))

-- the first n of the bytes that were left, where told, and what is left now
abbrev pub GivesNext : Option (List ℕ) → Option (List ℕ) → ℕ → List ℕ → Type 0
GivesNext old new n buf = IfSome old (λ bytes.
    (n ≤ length bytes) × (take n buf ≡ take n bytes) × (new ≡ Some (drop n bytes)))

-- what a read says of what was left and is left, and of the count of faults before it and now
abbrev pub ReadGives : Option (List ℕ) → Option (List ℕ) → ℕ → ℕ → List ℕ → Got → Type 0
ReadGives old new before now buf (got.Got n) =
    (0 < n) × (n ≤ length buf) × GivesNext old new n buf × (now ≡ before)
ReadGives old new before now buf got.End =
    IfSome old (λ bytes. bytes ≡ []) × (new ≡ old) × (now ≡ before)
ReadGives old new before now buf got.Failed = Rose before now × (new ≡ old)

-- what is told grows by these bytes
abbrev pub gained : Option (List ℕ) → List ℕ → Option (List ℕ)
gained told more = option_map (λ bytes. bytes ++ more) told

-- what a write says of what was told and is told, and of the count of faults before it and now
abbrev pub WriteGives : Option (List ℕ) → Option (List ℕ) → ℕ → ℕ → List ℕ → Took → Type 0
WriteGives old new before now bytes (took.Took n) =
    (0 < n) × (n ≤ length bytes) × (new ≡ gained old (take n bytes)) × (now ≡ before)
WriteGives old new before now bytes took.Failed = Rose before now × (new ≡ old)

-- a shorter prefix was taken
abbrev pub GainedPart : Option (List ℕ) → Option (List ℕ) → List ℕ → Type 0
GainedPart old new bytes = (n : ℕ) × (n < length bytes) × (new ≡ gained old (take n bytes))

-- beside its bytes, a trace store tells its earlier documents and the name of the last one, once
-- one is begun
abbrev pub Beside : Type 0
Beside = Option (Files × List ℕ)

-- the documents of a trace store, where it tells its bytes: the last one has these
abbrev pub documents : Option (List ℕ) → Beside → Option Files
documents None beside = None
documents (Some bytes) None = Some []
documents (Some bytes) (Some last) = Some (last.0 ++ (last.1, bytes) ∷ [])

-- where the store tells its documents, an empty one of that name stands behind them now
abbrev pub BeginsDocument : Option (List ℕ) → Beside → Option (List ℕ) → Beside → List ℕ → Type 0
BeginsDocument told beside new_told new_beside name = IfSome (documents told beside) (λ earlier.
    (new_told ≡ Some []) × (new_beside ≡ Some (earlier, name)))
