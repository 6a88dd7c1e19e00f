-- A rule of shared words under which a machine's calls are run.
use Rattle.std.specs.Prelude.{◌≡◌, ℕ, ◌+◌, ◌<◌, ◌≤◌, List, Bool, Option, Some, None, if◌then◌else◌, length}
use Rattle.cursor_word.specs.Shape.{Grid}
use Rattle.cursor_word.specs.Cursor.{most_puts}
use Rattle.rail.specs.declared.answer.Answer.{Answer}
use Rattle.step_log.specs.declared.log.Step.{Step}
use Rattle.step_log.specs.Log.{Keeps, added, loaded, raised, stored}
use Rattle.machine.specs.declared.op.Op.{Op}
use Rattle.machine.specs.declared.op.Op.TheVariants.{Load, Store, AddOne, Max}
use Rattle.machine.specs.declared.op.After.{After}
use Rattle.machine.specs.declared.op.After.TheVariants.{Next, Done}
use Rattle.machine.specs.declared.event.Start.{Start}
use Rattle.machine.specs.declared.event.Start.TheVariants as start
use Rattle.machine.specs.declared.view.View.{View}
use Rattle.machine.specs.Ops.{index, moved}
use Rattle.machine.specs.Table.{Table}
use Rattle.machine.specs.Steps.{begun, seen}
use Rattle.call_laws.specs.Answers.{HasTrail, Promises}

-- what the log of a seat gains by this step, where the word had this value
abbrev pub logged : Op → ℕ → Step
logged (Load at) value = loaded at value
logged (Store at number) value = stored at number
logged (AddOne at) value = added at value
logged (Max at number) value = raised at number value

abbrev pub found_or : Option ℕ → ℕ → ℕ
found_or None number = number
found_or (Some value) number = value

-- the value that a step found, and of a store the value that it wrote
abbrev pub value_of : Step → ℕ
value_of step = found_or step.found step.brought

-- the phase that follows is in range
abbrev pub IsAfterInRange : {P : Type 0} → Table P → Grid → After P → Type 0
IsAfterInRange table shape (Next phase) = table.IsInRange shape phase
IsAfterInRange table shape (Done answer) = Unit {0}

-- a step of this phase may find this value
pub record MayFind {P : Type 0} (table : Table P) (shape : Grid) (phase : P) (value : ℕ) : Type 0
  where
    pub fits : table.FindsFit phase value
    pub follows : IsAfterInRange table shape (table.after shape phase value)

-- a seat with this view may do this call
abbrev pub MayDo : {P : Type 0} → Grid → View P → Start → Type 0
MayDo shape view (start.Put entry) = (length entry ≡ shape.width)
    × (length view.made < most_puts shape)
MayDo shape view start.Take = Unit {0}
MayDo shape view start.Go = ⊥

-- how many entries a seat may still make in its call
abbrev pub may_make : {P : Type 0} → Table P → Option P → ℕ
may_make table None = 0
may_make table (Some phase) = if table.is_put phase then 1 else 0

-- a seat makes no more entries than a seat may
abbrev pub HasRoom : {P : Type 0} → Table P → Grid → View P → Type 0
HasRoom table shape view = length view.made + may_make table view.phase ≤ most_puts shape

-- How the views V of a rule are the machine's: the shape and the machine's view in each, whether it
-- is that of one caller's seat which may begin this call, the view of a seat that begins a call and
-- that after a step, and what the rule tells of a value that the step of a phase found.
pub record Rule (P V : Type 0) : Type 1 where
  pub grid_of : V → Grid
  pub view_of : V → View P
  pub Sits : V → Start → Type 0
  pub begins : V → Start → V
  pub moves_to : V → P → ℕ → V
  pub Tells : V → P → ℕ → Type 0

module _ {P V : Type 0} (rule : Rule P V) where
  -- the view in a call: a seat at rest begins it
  abbrev pub in_phase : V → Start → Option P → V
  in_phase view call None = rule.begins view call
  in_phase view call (Some phase) = view

  abbrev pub in_call : V → Start → V
  in_call view call = in_phase view call (rule.view_of view).phase

  -- what the step of a phase says, which found this value: the view after it, and what the rule
  -- tells of the value
  abbrev pub Moves : V → Option P → ℕ → V → Type 0
  Moves view None value after = ⊥
  Moves view (Some phase) value after = (after ≡ rule.moves_to view phase value)
      × rule.Tells view phase value

  -- a seat did the next step of this call, and began it where it was at rest
  abbrev pub DoesStep : Start → V → Step → V → Type 0
  DoesStep call view step after =
      Moves (in_call view call) (rule.view_of (in_call view call)).phase (value_of step) after

  -- The calls of the machine can be run under the rule: its views move as the machine's do, what it
  -- tells of a value lets the next step be done and keeps what a queue promises of an answer, and
  -- each step of a call keeps the rule.
  pub record RunsCalls {K : Type 0} (table : Table P) (drops : Bool)
      (holds : K → List ℕ → List V → Type 0) : Type 0 where
    pub call_begins : (view : V) (call : Start)
        → rule.Sits view call → (rule.view_of view).phase ≡ None
        → (rule.view_of (rule.begins view call)
        ≡ begun table (rule.grid_of view) (rule.view_of view) None call)
        × (rule.grid_of (rule.begins view call) ≡ rule.grid_of view)
        × rule.Sits (rule.begins view call) call
    pub phase_moves : (view : V) (call : Start) (phase : P) (value : ℕ)
        → rule.Sits view call
        → (rule.view_of (rule.moves_to view phase value)
        ≡ seen table (rule.grid_of view) (rule.view_of view) phase value)
        × (rule.grid_of (rule.moves_to view phase value) ≡ rule.grid_of view)
        × rule.Sits (rule.moves_to view phase value) call
    pub told : (view : V) (phase : P) (value : ℕ) → rule.Tells view phase value
        → MayFind table (rule.grid_of view) phase value
    pub promised : (view : V) (phase : P) (value : ℕ) (answer : Answer)
        → rule.Tells view phase value → table.after (rule.grid_of view) phase value ≡ Done answer
        → HasTrail table (rule.grid_of view) (rule.view_of view) phase
        → Promises (rule.grid_of view) drops (rule.view_of view)
        (seen table (rule.grid_of view) (rule.view_of view) phase value) answer
    pub kept : (key : K) (view : V) (call : Start) (phase : P)
        → rule.Sits view call → MayDo (rule.grid_of view) (rule.view_of view) call
        → (rule.view_of (in_call view call)).phase ≡ Some phase
        → (let operation =
        table.want (rule.grid_of view) phase (rule.view_of (in_call view call)).entry in
        Keeps (holds key) view (index operation) (moved operation)
        (λ value. DoesStep call view (logged operation value)))
