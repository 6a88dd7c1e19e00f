-- What a machine owes whose seats are all alike.
use Rattle.std.specs.Prelude.{ℕ, List, IsPermutation}
use Rattle.cursor_word.specs.Shape.{Grid}
use Rattle.machine.specs.declared.event.Start.{Start}
use Rattle.machine.specs.declared.view.View.{View}
use Rattle.machine.specs.Table.{Table}
use Rattle.machine.specs.Invariant.{Fact}

-- the order of the seats is of no matter
abbrev pub IsOrderless : {P : Type 0} → Fact P → Type 0
IsOrderless {P} Holds =
    (shape : Grid) (words : List ℕ) (views us : List (View P))
    → IsPermutation views us → Holds shape words views → Holds shape words us

-- each seat may begin each call
abbrev pub AllMayBegin : {P : Type 0} → Table P → Type 0
AllMayBegin table = (shape : Grid) (seat : ℕ) (call : Start) → table.MayBegin shape seat call
