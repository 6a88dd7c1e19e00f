-- What may follow a shared step of a put: a phase that opens no block by its next step, a block that was found filled, or an answer that is Ok or Busy.
use Rattle.std.proofs.Common.{◌≡◌, ℕ, ◌+◌, ◌%◌, List, refl}
use Rattle.std.specs.Prelude.{◌==◌, nat_lt}
use Rattle.cursor_word.specs.Shape.{Grid}
use Rattle.cursor_word.specs.Cursor.{offset_span, place_at, unpacked}
use Rattle.cursor_word.specs.declared.cursor.Cursor.{Cursor}
use Rattle.rail.specs.declared.answer.Answer.TheVariants as answer
use Rattle.rail.specs.declared.answer.Put.TheVariants as put
use Rattle.rail.specs.declared.answer.Why.TheVariants as why
use Rattle.rail.specs.declared.entry.Placed.{Placed}
use Rattle.machine.specs.declared.op.After.{After}
use Rattle.machine.specs.declared.op.After.TheVariants.{Next, Done}
use Rattle.put_side.specs.declared.put_phase.PutPhase.{PutPhase}
use Rattle.put_side.specs.declared.put_phase.PutPhase.TheVariants.{HeadP, SeeA, AddA, Write, Commit, OpenM, OpenA, RaiseP}
use Rattle.machine.specs.Steps.{taken_after}
use Rattle.put_side.specs.PutSteps as puts
use Rattle.put_side.proofs.Choices.{pick_any}

-- the phases that a shared step may lead to
abbrev pub IsLedTo : PutPhase → Type 0
IsLedTo (OpenM full) = ⊥
IsLedTo phase = Unit {0}

-- what is so of each thing that may follow
pub record OfEach {P : Type 0} (to_phase : PutPhase → P) (to_fill : Cursor → P) (K : After P → Type 0) : Type 0 where
  pub next : (q : PutPhase) → IsLedTo q → K (Next (to_phase q))
  pub fills : (full : Cursor) → K (Next (to_fill full))
  pub ok : (place : ℕ) → K (Done (answer.Put (put.Ok place)))
  pub moved : (earlier later : Cursor) → K (Done (answer.Put (put.Busy (why.Moved earlier later))))

module _ {P : Type 0} (to_phase : PutPhase → P) (to_fill : Cursor → P) (K : After P → Type 0) (each : OfEach to_phase to_fill K) (g : Grid) where
  by_found : (turn : ℕ) (first found : Cursor) → K (puts.filled to_phase to_fill turn first found)
  by_found turn first found = pick_any K (turn == 1) _ _ (each.fills found) (each.moved first found)

  pub follows : (q : PutPhase) (found : ℕ) → K (puts.after to_phase to_fill g q found)
  follows (HeadP turn first) found = each.next (SeeA turn first found) tt
  follows (SeeA turn first head) found = pick_any K (nat_lt (found % offset_span) g.size) _ _ (each.next (AddA turn first head) tt) (by_found turn first (unpacked found))
  follows (AddA turn first head) found = pick_any K (nat_lt (found % offset_span) g.size) _ _ (each.next (Write (unpacked found) 0) tt) (by_found turn first (unpacked found))
  follows (Write at next) found = pick_any K (nat_lt (next + 1) g.width) _ _ (each.next (Write at (next + 1)) tt) (each.next (Commit at) tt)
  follows (Commit at) found = each.ok (place_at g at)
  follows (OpenM full) found = each.next (OpenA full) tt
  follows (OpenA full) found = each.next (RaiseP full) tt
  follows (RaiseP full) found = each.next (HeadP 2 full) tt

-- a shared step takes nothing
pub put_takes_none : {P : Type 0} (to_phase : PutPhase → P) (to_fill : Cursor → P) (g : Grid) (q : PutPhase) (found : ℕ) (taken : List Placed) (read : List ℕ) → taken_after taken read (puts.after to_phase to_fill g q found) ≡ taken
put_takes_none {P} to_phase to_fill g q found taken read = follows to_phase to_fill (λ (b : After P). taken_after taken read b ≡ taken) (record { next = λ q led. refl; fills = λ full. refl; ok = λ place. refl; moved = λ earlier later. refl }) g q found
