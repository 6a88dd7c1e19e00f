-- A source of the system's files, of which it tells none.
use Rattle.std.specs.Prelude.{ℕ, Bool, true, false, List, [], Option, Some, None}

-- whether a file is open to be read, and how often the system has failed
pub record Opened : Type 0 where
  pub is_open : Bool
  pub faults : ℕ

-- of an open file nothing is told; without one nothing is left
abbrev pub left_in : Bool → Option (List ℕ)
left_in true = None
left_in false = Some []
