-- A take is never told that a cursor moved.
use Rattle.std.proofs.Common.{◌≡◌, ℕ, ◌+◌, ◌/◌, ◌%◌, Bool, true, false, List, [], ◌∷◌, sym, subst}
use Rattle.std.specs.Prelude.{if◌then◌else◌, nat_lt, ◌==◌}
use Rattle.cursor_word.specs.Shape.{Grid}
use Rattle.cursor_word.specs.Cursor.{offset_span, packed, unpacked}
use Rattle.cursor_word.specs.declared.cursor.Cursor.{Cursor}
use Rattle.rail.specs.declared.answer.Answer.TheVariants as answer
use Rattle.rail.specs.declared.answer.Take.{Take}
use Rattle.rail.specs.declared.answer.Take.TheVariants as take
use Rattle.rail.specs.declared.answer.Why.TheVariants as why
use Rattle.step_log.specs.declared.log.Step.{Step}
use Rattle.machine.specs.declared.op.After.TheVariants.{Next, Done}
use Rattle.call_steps.specs.Call.{Leads}
use Rattle.call_steps.specs.Rule.{value_of}
use Rattle.sole_core.specs.declared.phase.SolePhase.{SolePhase}
use Rattle.sole_core.specs.declared.phase.SolePhase.TheVariants as phase
use Rattle.sole_core.specs.declared.take_phase.SoleTake.{SoleTake}
use Rattle.sole_core.specs.declared.take_phase.SoleTake.TheVariants.{Com, All, Word, Consume}
use Rattle.sole_core.specs.Types.{After}
use Rattle.sole_core.specs.Table.{table}
use Rattle.put_side.specs.PutSteps.{is_same}
use Rattle.sole_core.specs.TakeSteps.{empty, read_from, take_at}
use Rattle.sole_rail.specs.Consumer.{IsUnmoved}

-- a take goes on as a take, and isn't told that a cursor moved
abbrev StaysUnmoved : After → Type 0
StaysUnmoved (Next (phase.Take q)) = Unit {0}
StaysUnmoved (Next p) = ⊥
StaysUnmoved (Done (answer.Take result)) = IsUnmoved result
StaysUnmoved (Done (answer.Put result)) = ⊥

either : (b : Bool) (x y : After) → StaysUnmoved x → StaysUnmoved y → StaysUnmoved (if b then x else y)
either true x y hx hy = hx
either false x y hx hy = hy

step_stays : (g : Grid) (q : SoleTake) (n : ℕ) → StaysUnmoved (table.after g (phase.Take q) n)
step_stays g (Com r) n =
    let none : After = empty g r in
    let some : After = if (n % offset_span) == g.size then read_from r else Next (phase.Take (All r (unpacked n))) in
    either (n == packed r) none (if nat_lt (n / offset_span) r.block then none else some) tt
    (either (nat_lt (n / offset_span) r.block) none some tt
    (either ((n % offset_span) == g.size) (read_from r) (Next (phase.Take (All r (unpacked n)))) tt tt))
step_stays g (All r m) n = either (is_same (unpacked n) m) (read_from r) (Done (answer.Take (take.Busy (why.Unfinished r.block m (unpacked n))))) tt tt
step_stays g (Word r next) n = either (nat_lt (next + 1) g.width) (Next (phase.Take (Word r (next + 1)))) (Next (phase.Take (Consume r))) tt tt
step_stays g (Consume r) n = tt

leads_unmoved : (g : Grid) (entry : List ℕ) (s : After) (steps : List Step) (result : Take) → StaysUnmoved s → Leads table g entry s steps (Done (answer.Take result)) → IsUnmoved result
leads_unmoved g entry s [] result stays l = subst StaysUnmoved l stays
leads_unmoved g entry (Next (phase.Take q)) (k ∷ ks) result stays l = leads_unmoved g entry (table.after g (phase.Take q) (value_of k)) ks result (step_stays g q (value_of k)) l.1
leads_unmoved g entry (Next p) (k ∷ ks) result stays l = absurd stays
leads_unmoved g entry (Done a) (k ∷ ks) result stays l = absurd l

-- the steps of a take from where it begins lead to no answer that a cursor moved
pub took_unmoved : (g : Grid) (entry : List ℕ) (next : Cursor) (first : SolePhase) (steps : List Step) (result : Take) → first ≡ take_at next → Leads table g entry (Next first) steps (Done (answer.Take result)) → IsUnmoved result
took_unmoved g entry next first steps result begins l = leads_unmoved g entry (Next first) steps result (subst (λ (p : SolePhase). StaysUnmoved (Next p)) (sym begins) tt) l
