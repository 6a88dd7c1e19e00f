-- A call stays what it was begun as.
use Rattle.std.proofs.Common.{ℕ, Bool, true, false, subst}
use Rattle.cursor_word.specs.Shape.{Grid}
use Rattle.machine.specs.declared.event.Start.{Start}
use Rattle.machine.specs.declared.event.Start.TheVariants as start
use Rattle.machine.specs.declared.op.After.{After}
use Rattle.machine.specs.declared.op.After.TheVariants.{Next}
use Rattle.machine.specs.Table.{Table}
use Rattle.call_laws.specs.Calls.{IsCallTable, IsOfKind}

-- what follows is of the call that was begun
abbrev pub IsOfCall : {P : Type 0} → Table P → Start → After P → Type 0
IsOfCall table (start.Put entry) b = IsOfKind table true b
IsOfCall table start.Take b = IsOfKind table false b
IsOfCall table start.Go b = ⊥

pub call_stays : {P : Type 0} (table : Table P) → IsCallTable table → (g : Grid) (begun : Start) (p : P) (found : ℕ) → IsOfCall table begun (Next p) → IsOfCall table begun (table.after g p found)
call_stays table calls g (start.Put entry) p found h = subst (λ (b : Bool). IsOfKind table b (table.after g p found)) h (calls.stays g p found)
call_stays table calls g start.Take p found h = subst (λ (b : Bool). IsOfKind table b (table.after g p found)) h (calls.stays g p found)
call_stays table calls g start.Go p found h = absurd h
