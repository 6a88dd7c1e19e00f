-- How many steps a call takes.
use Rattle.std.specs.Prelude.{◌≡◌, ℕ, ◌+◌, ◌<◌, ◌≤◌, List, Option, Some, None}
use Rattle.cursor_word.specs.Shape.{Grid}
use Rattle.rail.specs.declared.entry.Placed.{Placed}
use Rattle.rail.specs.declared.answer.Answer.{Answer}
use Rattle.machine.specs.declared.op.After.{After}
use Rattle.machine.specs.declared.op.After.TheVariants.{Next, Done}
use Rattle.machine.specs.Table.{Table}

-- the most steps of the call that a seat is in, or of the last that it ended
abbrev pub most_steps : {P : Type 0} → (P → ℕ) → (Answer → ℕ) → Option P → Option Answer → ℕ
most_steps of_phase of_answer (Some phase) last = of_phase phase
most_steps of_phase of_answer None (Some given) = of_answer given
most_steps of_phase of_answer None None = 0

-- the next phase has a lesser rank and is of a call with the same bound, and so is the answer
abbrev pub Leads : {P : Type 0} → (P → ℕ) → (P → ℕ) → (Answer → ℕ) → ℕ → ℕ → After P → Type 0
Leads rank of_phase of_answer high most (Next phase) = (rank phase < high) × (of_phase phase ≡ most)
Leads rank of_phase of_answer high most (Done given) = (1 ≤ high) × (of_answer given ≡ most)

-- the rank of a phase falls at each step, and begins at no more than the bound of its call
pub record IsBounded {P : Type 0} (table : Table P) (of_phase : Grid → P → ℕ)
    (of_answer : Grid → Answer → ℕ) : Type 0 where
  pub first_put : (shape : Grid) → table.rank shape table.first_put ≤ of_phase shape table.first_put
  pub first_take : (shape : Grid) (taken : List Placed)
      → table.rank shape (table.first_take shape taken)
      ≤ of_phase shape (table.first_take shape taken)
  pub leads : (shape : Grid) (phase : P) (old : ℕ) → table.IsInRange shape phase
      → Leads (table.rank shape) (of_phase shape) (of_answer shape) (table.rank shape phase)
      (of_phase shape phase) (table.after shape phase old)

-- the most steps of any call
abbrev pub call_bound : Grid → ℕ
call_bound shape = shape.width + 12

-- each phase leaves at least the step that is its own and at most that many, and one fewer after
-- each step
pub record IsRanked {P : Type 0} (table : Table P) : Type 0 where
  pub some_left : (shape : Grid) (phase : P) → table.IsInRange shape phase
      → 1 ≤ table.rank shape phase
  pub within : (shape : Grid) (phase : P) → table.IsInRange shape phase
      → table.rank shape phase ≤ call_bound shape
  pub falls : (shape : Grid) (phase next : P) (found : ℕ)
      → table.IsInRange shape phase → table.after shape phase found ≡ Next next
      → table.rank shape next < table.rank shape phase
