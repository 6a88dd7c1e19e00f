-- What all seats have made and taken.
use Rattle.std.specs.Prelude.{List, flat_map}
use Rattle.rail.specs.declared.entry.Placed.{Placed}
use Rattle.machine.specs.declared.view.View.{View}

-- the items that all seats have made, and those that they have taken
abbrev pub all_made : {P : Type 0} → List (View P) → List Placed
all_made {P} views = flat_map (λ (view : View P). view.made) views

abbrev pub all_taken : {P : Type 0} → List (View P) → List Placed
all_taken {P} views = flat_map (λ (view : View P). view.taken) views
