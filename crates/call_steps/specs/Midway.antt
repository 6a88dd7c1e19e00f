-- A call in mid-way: what its loop keeps from step to step.
use Rattle.std.specs.Prelude.{◌≡◌, ℕ, ◌+◌, ◌≤◌, List, [], ◌++◌, Bool, Some, None, true, false, length, map}
use Rattle.cursor_word.specs.Shape.{Grid}
use Rattle.rail.specs.declared.answer.Answer.TheVariants as answer
use Rattle.rail.specs.declared.answer.Answer.{Answer}
use Rattle.rail.specs.Rail.{Puts, Takes}
use Rattle.rail.specs.declared.answer.Put.{Put}
use Rattle.rail.specs.declared.answer.Take.{Take}
use Rattle.step_log.specs.declared.log.Step.{Step}
use Rattle.step_log.specs.Log.{Sitting}
use Rattle.machine.specs.declared.event.Start.{Start}
use Rattle.machine.specs.declared.event.Start.TheVariants as start
use Rattle.machine.specs.declared.view.View.{View}
use Rattle.machine.specs.declared.op.After.{After}
use Rattle.machine.specs.declared.op.After.TheVariants.{Next, Done}
use Rattle.machine.specs.Table.{Table}
use Rattle.call_steps.specs.Rule.{MayDo, Rule, in_call, value_of}
use Rattle.call_steps.specs.Buffer.{Gathers}
use Rattle.call_steps.specs.Call.{HasPut, HasTaken, Leads, TookSteps, Walks}

-- how many steps may still follow
abbrev pub steps_left : {P : Type 0} → Table P → Grid → After P → ℕ
steps_left table shape (Next phase) = table.rank shape phase
steps_left table shape (Done result) = 0

-- a call that a loop runs: the queue's shape, its phase at the start, the entry that it puts or the
-- buffer that it takes into, and the seat before
pub record Call (P V : Type 0) : Type 0 where
  pub shape : Grid
  pub first : P
  pub start : Start
  pub words : List ℕ
  pub before : Sitting V

module _ {P V : Type 0} (table : Table P) (drops : Bool) (rule : Rule P V) where
  -- the machine's view of the seat in the call
  abbrev pub view_in : Start → Sitting V → View P
  view_in begin now = rule.view_of (in_call rule now.view begin)

  -- a call is at this phase; its steps write words of this entry
  pub record IsAt (call : Call P V) (entry : List ℕ) (now : Sitting V) (phase : P) : Type 0 where
    pub same : now.id ≡ call.before.id
    pub grid : rule.grid_of now.view ≡ call.shape
    pub sits : rule.Sits now.view call.start
    pub may : MayDo call.shape (rule.view_of now.view) call.start
    pub in_range : table.IsInRange call.shape phase
    pub here : (view_in call.start now).phase ≡ Some phase
    pub wants : table.want call.shape phase (view_in call.start now).entry
        ≡ table.want call.shape phase entry
    pub steps : List Step
    pub leads : Leads table call.shape entry (Next call.first) steps (Next phase)
    pub walk : Walks table rule call.shape (Next call.first)
        (rule.begins call.before.view call.start) steps
        (in_call rule now.view call.start)
    pub values : (view_in call.start now).trail ≡ map value_of steps
    pub bound : length steps + table.rank call.shape phase ≤ table.rank call.shape call.first
    pub log : now.log ≡ call.before.log ++ steps

  -- a put in mid-way
  pub record IsPutAt (call : Call P V) (now : Sitting V) (phase : P) : Type 0 where
    pub at : IsAt call call.words now phase
    pub begins : call.first ≡ table.first_put
    pub putting : table.is_put phase ≡ true
    pub in_hand : (view_in call.start now).entry ≡ call.words
    pub made : (view_in call.start now).made ≡ (rule.view_of call.before.view).made
    pub taken : (view_in call.start now).taken ≡ (rule.view_of call.before.view).taken

  -- a take in mid-way, with its caller's buffer
  pub record IsTakeAt (call : Call P V) (now : Sitting V) (out : List ℕ) (phase : P) : Type 0 where
    pub at : IsAt call [] now phase
    pub begins : call.first ≡ table.first_take call.shape (rule.view_of call.before.view).taken
    pub taking : table.is_put phase ≡ false
    pub in_hand : (view_in call.start now).entry ≡ (rule.view_of call.before.view).entry
    pub made : (view_in call.start now).made ≡ (rule.view_of call.before.view).made
    pub taken : (view_in call.start now).taken ≡ (rule.view_of call.before.view).taken
    pub long : length out ≡ call.shape.width
    pub gathers : Gathers (table.reading phase) call.words out (view_in call.start now).read

  -- the steps from the first to the answer, and what the rule told at each
  abbrev pub Took : Call P V → List ℕ → Sitting V → Answer → Type 0
  Took call entry now result = (steps : List Step)
      × TookSteps table call.shape entry call.first steps result (rule.view_of now.view).trail
      call.before.log now.log
      × Walks table rule call.shape (Next call.first) (rule.begins call.before.view call.start)
      steps now.view

  -- a put that answered
  pub record HasAnsweredPut (call : Call P V) (now : Sitting V) (result : Put) : Type 0 where
    pub same : now.id ≡ call.before.id
    pub grid : rule.grid_of now.view ≡ call.shape
    pub sits : rule.Sits now.view call.start
    pub view : HasPut call.words (rule.view_of call.before.view) (rule.view_of now.view) result
    pub promised : Puts call.shape drops call.words (rule.view_of call.before.view).made
        (rule.view_of now.view).made (rule.view_of now.view).trail result
    pub steps : Took call call.words now (answer.Put result)

  -- a take that answered
  pub record HasAnsweredTake (call : Call P V) (now : Sitting V) (out : List ℕ)
      (result : Take) : Type 0 where
    pub same : now.id ≡ call.before.id
    pub grid : rule.grid_of now.view ≡ call.shape
    pub sits : rule.Sits now.view call.start
    pub view : HasTaken call.words out (rule.view_of call.before.view) (rule.view_of now.view)
        result
    pub promised : Takes call.shape drops (rule.view_of now.view).made call.words out
        (rule.view_of call.before.view).taken (rule.view_of now.view).taken
        (rule.view_of now.view).trail result
    pub steps : Took call [] now (answer.Take result)

  -- a put, and a take, by what follows its last step
  abbrev pub IsPutOn : Call P V → Sitting V → After P → Type 0
  IsPutOn call now (Next phase) = IsPutAt call now phase
  IsPutOn call now (Done (answer.Put result)) = HasAnsweredPut call now result
  IsPutOn call now (Done (answer.Take result)) = ⊥

  abbrev pub IsTakeOn : Call P V → Sitting V → List ℕ → After P → Type 0
  IsTakeOn call now out (Next phase) = IsTakeAt call now out phase
  IsTakeOn call now out (Done (answer.Take result)) = HasAnsweredTake call now out result
  IsTakeOn call now out (Done (answer.Put result)) = ⊥

-- a seat of this queue is at rest, stands for itself, and may begin this call
pub record IsFree {P V : Type 0} (rule : Rule P V) (grid : Grid) (call : Start) (view : V)
    : Type 0 where
  pub shape : rule.grid_of view ≡ grid
  pub sits : rule.Sits view call
  pub rest : (rule.view_of view).phase ≡ None

-- a call of this shape that puts an entry, and one that takes into a buffer
abbrev pub put_call : {P V : Type 0} → Table P → Grid → List ℕ → Sitting V → Call P V
put_call table shape entry old =
    record {
      shape = shape;
      first = table.first_put;
      start = start.Put entry;
      words = entry;
      before = old;
    }

abbrev pub take_call : {P V : Type 0} → Table P → Rule P V → Grid → List ℕ → Sitting V → Call P V
take_call table rule shape out old =
    record {
      shape = shape;
      first = table.first_take shape (rule.view_of old.view).taken;
      start = start.Take;
      words = out;
      before = old;
    }
