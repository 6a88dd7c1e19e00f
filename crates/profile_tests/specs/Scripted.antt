-- What the one seat of a queue that accepts one entry has made and taken.
use Rattle.std.specs.Prelude.{List, [], ◌∷◌, Option, Some, None}
use Rattle.rail.specs.declared.entry.Placed.{Placed}

abbrev pub made_of : Option Placed → List Placed
made_of None = []
made_of (Some item) = item ∷ []

-- it has taken nothing
abbrev pub nothing : List Placed
nothing = []
