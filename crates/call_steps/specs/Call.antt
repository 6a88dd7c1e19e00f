-- What a call leaves.
use Rattle.std.specs.Prelude.{◌≡◌, ℕ, ◌≤◌, List, [], ◌∷◌, ◌++◌, length, map, Some, None}
use Rattle.cursor_word.specs.Shape.{Grid}
use Rattle.rail.specs.Items.{placed}
use Rattle.rail.specs.declared.entry.Placed.{Placed}
use Rattle.rail.specs.declared.answer.Answer.{Answer}
use Rattle.rail.specs.declared.answer.Answer.TheVariants as answer
use Rattle.rail.specs.declared.answer.Put.{Put}
use Rattle.rail.specs.declared.answer.Put.TheVariants as put
use Rattle.rail.specs.declared.answer.Take.{Take}
use Rattle.rail.specs.declared.answer.Take.TheVariants as take
use Rattle.step_log.specs.declared.log.Step.{Step}
use Rattle.machine.specs.declared.view.View.{View}
use Rattle.machine.specs.declared.op.After.{After}
use Rattle.machine.specs.declared.op.After.TheVariants.{Next, Done}
use Rattle.machine.specs.Table.{Table}
use Rattle.call_steps.specs.Rule.{Rule, logged, value_of}

-- These steps lead from the first to the last: each is the step that its phase wants, and the value
-- that it found leads on, by the machine's table. No step follows an answer.
module _ {P : Type 0} (table : Table P) (shape : Grid) (entry : List ℕ) where
  abbrev pub Leads : After P → List Step → After P → Type 0
  Leads first [] last = first ≡ last
  Leads (Next phase) (step ∷ steps) last =
      (step ≡ logged (table.want shape phase entry) (value_of step))
      × Leads (table.after shape phase (value_of step)) steps last
  Leads (Done result) (step ∷ steps) last = ⊥

-- The walk of a seat's view through these steps, with what the rule told at each.
module _ {P V : Type 0} (table : Table P) (rule : Rule P V) (shape : Grid) where
  abbrev pub Walks : After P → V → List Step → V → Type 0
  Walks first view [] last = view ≡ last
  Walks (Next phase) view (step ∷ steps) last = rule.Tells view phase (value_of step)
      × Walks (table.after shape phase (value_of step)) (rule.moves_to view phase (value_of step))
      steps last
  Walks (Done result) view (step ∷ steps) last = ⊥

-- A call that began at this phase took these steps, each once and no other, and they lead to
-- exactly this answer.
pub record TookSteps {P : Type 0} (table : Table P) (shape : Grid) (entry : List ℕ) (first : P)
    (steps : List Step) (answer : Answer) (found : List ℕ)
    (old_log new_log : List Step) : Type 0 where
  pub leads : Leads table shape entry (Next first) steps (Done answer)
  pub values : found ≡ map value_of steps
  pub log : new_log ≡ old_log ++ steps
  pub few : length steps ≤ table.rank shape first

-- what a put of this entry leaves in the made list, and a take in the taken list and in its
-- caller's buffer
abbrev pub PutLeaves : List Placed → List Placed → List ℕ → Put → Type 0
PutLeaves old new entry (put.Ok place) = new ≡ old ++ placed place entry ∷ []
PutLeaves old new entry result = new ≡ old

abbrev pub TakeLeaves : List Placed → List Placed → List ℕ → List ℕ → Take → Type 0
TakeLeaves old new out_old out (take.Ok place) = new ≡ old ++ placed place out ∷ []
TakeLeaves old new out_old out (take.Overrun place now) = new ≡ old
TakeLeaves old new out_old out result = (new ≡ old) × (out ≡ out_old)

-- a seat at rest after a put
pub record HasPut {P : Type 0} (entry : List ℕ) (old new : View P) (result : Put) : Type 0 where
  pub rest : new.phase ≡ None
  pub made : PutLeaves old.made new.made entry result
  pub taken : new.taken ≡ old.taken
  pub answer : new.answer ≡ Some (answer.Put result)
  pub in_hand : new.entry ≡ entry

-- a seat at rest after a take
pub record HasTaken {P : Type 0} (out_old out : List ℕ) (old new : View P)
    (result : Take) : Type 0 where
  pub rest : new.phase ≡ None
  pub made : new.made ≡ old.made
  pub taken : TakeLeaves old.taken new.taken out_old out result
  pub answer : new.answer ≡ Some (answer.Take result)
  pub in_hand : new.entry ≡ old.entry
