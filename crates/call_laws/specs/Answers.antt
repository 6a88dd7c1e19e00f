-- What a machine owes of its answers: what a queue promises of them.
use Rattle.std.specs.Prelude.{◌≡◌, ℕ, ◌≤◌, List, [], ◌∷◌, Bool, Some, if◌then◌else◌, slice_get}
use Rattle.cursor_word.specs.Shape.{Grid, IsWithinLimits}
use Rattle.cursor_word.specs.Cursor.{place_span}
use Rattle.rail.specs.Rail.{Puts, Takes}
use Rattle.rail.specs.declared.answer.Answer.{Answer}
use Rattle.rail.specs.declared.answer.Answer.TheVariants as answer
use Rattle.machine.specs.declared.op.After.{After}
use Rattle.machine.specs.declared.op.After.TheVariants.{Next, Done}
use Rattle.machine.specs.declared.view.View.{View}
use Rattle.machine.specs.Ops.{noted}
use Rattle.machine.specs.Table.{Table}
use Rattle.machine.specs.Invariant.{Fact, made_total}
use Rattle.machine.specs.Steps.{finds, view_after}

module _ {P : Type 0} (table : Table P) (shape : Grid) where
  -- Steps that left these values in a trail lead from the one to the other, where the call has this
  -- entry in hand.
  abbrev pub ValuesLead : List ℕ → After P → List ℕ → After P → Type 0
  ValuesLead entry from [] to = from ≡ to
  ValuesLead entry (Next phase) (value ∷ values) to =
      (noted (table.want shape phase entry) value ≡ value)
      × ValuesLead entry (table.after shape phase value) values to
  ValuesLead entry (Done a) (value ∷ values) to = ⊥

  -- the phase in which the call of a seat began that is now in this one
  abbrev pub first_phase : View P → P → P
  first_phase view phase =
      if table.is_put phase then table.first_put else table.first_take shape view.taken

  -- the seat's trail has what its call found, from its first step up to this phase
  abbrev pub HasTrail : View P → P → Type 0
  HasTrail view phase =
      (entry : List ℕ) × ValuesLead entry (Next (first_phase view phase)) view.trail (Next phase)

-- What a queue promises of an answer, where the seat stood so before the step that answers and so
-- after it, and a take hands out what it has read.
abbrev pub Promises : {P : Type 0} → Grid → Bool → View P → View P → Answer → Type 0
Promises shape drops old new (answer.Put a) =
    Puts shape drops old.entry old.made new.made new.trail a
Promises shape drops old new (answer.Take a) =
    Takes shape drops new.made new.read new.read old.taken new.taken new.trail a

-- each answer that a step of a seat gives is as promised
abbrev pub KeepsPromises : {P : Type 0} → Table P → Fact P → Bool → Type 0
KeepsPromises {P} table Holds drops =
    (shape : Grid) (words : List ℕ) (views : List (View P)) (id : ℕ) (view : View P) (phase : P)
    (a : Answer)
    → IsWithinLimits shape → Holds shape words views → made_total views ≤ place_span shape
    → slice_get views id ≡ Some view → view.phase ≡ Some phase → HasTrail table shape view phase
    → table.after shape phase (finds table shape words view phase) ≡ Done a
    → Promises shape drops view (view_after table shape words view phase) a
