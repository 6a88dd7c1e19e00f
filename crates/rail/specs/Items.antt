-- Lists of items, and of their places.
use Rattle.std.specs.Prelude.{ℕ, ◌<◌, List, [], ◌∷◌, map, ⊤}
use Rattle.std.specs.List.{AllByRecursion}
use Rattle.rail.specs.declared.entry.Placed.{Placed}

abbrev pub placed : ℕ → List ℕ → Placed
placed place words = record { place = place; words = words }

abbrev pub places : List Placed → List ℕ
places items = map (λ (i : Placed). i.place) items

-- each number is above all earlier ones
abbrev pub IsRising : List ℕ → Type 0
IsRising [] = ⊤
IsRising (p ∷ ps) = AllByRecursion (λ (q : ℕ). p < q) ps × IsRising ps
