-- A log, what a step adds to it, and what a step asks of a rule.
use Rattle.std.specs.Prelude.{◌≡◌, ℕ, ◌<◌, ◌^◌, List, [], ◌∷◌, ◌++◌, map, slice_index, slice_set, Some, None}
use mathlib.Core.Option.{some}
use lib.ListN.{get_elem?}
pub use Rattle.atomic_table.specs.Seated.{TableId}
use Rattle.step_log.specs.declared.log.Step.{Step}
use Rattle.step_log.specs.declared.log.StepKind.TheVariants.{Load, Store, AddOne, Max, Split, Join}
use Rattle.step_log.specs.declared.log.Logged.{Logged}

-- the entries of a log
abbrev pub loaded : ℕ → ℕ → Step
loaded index found = record { kind = Load; index = index; brought = 0; found = Some found }

abbrev pub stored : ℕ → ℕ → Step
stored index value = record { kind = Store; index = index; brought = value; found = None }

abbrev pub added : ℕ → ℕ → Step
added index found = record { kind = AddOne; index = index; brought = 0; found = Some found }

abbrev pub raised : ℕ → ℕ → ℕ → Step
raised index value found =
    record { kind = Max; index = index; brought = value; found = Some found }

abbrev pub parted : Step
parted = record { kind = Split; index = 0; brought = 0; found = None }

abbrev pub merged : Step
merged = record { kind = Join; index = 0; brought = 0; found = None }

-- what a clause sees of the words, and of a seat
pub record Standing (K : Type 0) : Type 0 where
  pub id : TableId
  pub key : K

pub record Sitting (V : Type 0) : Type 0 where
  pub id : TableId
  pub view : V
  pub log : List Step

module _ {V : Type 0} where
  abbrev pub views_of : List (Logged V) → List V
  views_of = map (λ seat. seat.view)

  abbrev pub begun : V → Logged V
  begun view = record { view = view; log = [] }

  abbrev pub with_step : Logged V → V → Step → Logged V
  with_step seat view step = record { view = view; log = seat.log ++ step ∷ [] }

  -- Whatever the words and the views are when a word becomes `change` of what it was, some view
  -- that is told keeps the rule
  abbrev pub Keeps : (List ℕ → List V → Type 0) → V → ℕ → (ℕ → ℕ) → (ℕ → V → Type 0) → Type 0
  Keeps holds view index change tells = (words : List ℕ) (views : List V) (at : ℕ)
      → holds words views → get_elem? views at ≡ some view → slice_index words index < 2 ^ 64
      → (next : V)
      × holds (slice_set words index (change (slice_index words index))) (slice_set views at next)
      × tells (slice_index words index) next

  -- the same where the view is cut in two, and a new seat has the second
  abbrev pub Parts : (List ℕ → List V → Type 0) → V → V → V → Type 0
  Parts holds view left right = (words : List ℕ) (views : List V) (at : ℕ)
      → holds words views → get_elem? views at ≡ some view
      → holds words (slice_set views at left ++ right ∷ [])

  -- the same where a seat takes in another, which is spent
  abbrev pub Merges : (List ℕ → List V → Type 0) → V → V → V → V → Type 0
  Merges holds view other both spent = (words : List ℕ) (views : List V) (at from : ℕ)
      → holds words views
      → get_elem? views at ≡ some view → get_elem? views from ≡ some other → ¬ (from ≡ at)
      → holds words (slice_set (slice_set views at both) from spent)

  -- the words at the end
  abbrev pub Ends : (List ℕ → List V → Type 0) → V → List ℕ → Type 0
  Ends holds view words = (views : List V) × (at : ℕ) × holds words views
      × (get_elem? views at ≡ some view)
