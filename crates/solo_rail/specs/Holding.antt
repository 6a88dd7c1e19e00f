-- The rule of the words of a queue with one seat: the seat knows all words, and it stands alone.
use Rattle.std.specs.Prelude.{◌≡◌, ℕ, List, [], ◌∷◌, Bool, None}
use Rattle.cursor_word.specs.Shape.{Grid, IsWithinLimits}
use Rattle.rail.specs.declared.answer.Answer.{Answer}
use Rattle.machine.specs.declared.event.Start.{Start}
use Rattle.machine.specs.declared.op.After.TheVariants.{Done}
use Rattle.machine.specs.declared.view.View.{View}
use Rattle.machine.specs.Table.{Table}
use Rattle.machine.specs.Steps.{begun, resting, seen, start_words, words_after}
use Rattle.call_laws.specs.Answers.{HasTrail, Promises}
use Rattle.call_steps.specs.Rule.{HasRoom, MayFind, Rule}
use Rattle.call_steps.specs.Queue.{no_grid}
use Rattle.solo_rail.specs.declared.holding.Holding.{Holding}
use Rattle.solo_rail.specs.Lone.{LoneFacts}

abbrev pub holding : {P : Type 0} → Grid → View P → List ℕ → Holding P
holding shape view words = record { shape = shape; view = view; words = words }

pub record IsHeld {P : Type 0} (table : Table P) (lone : LoneFacts P) (grid : Grid) (words : List ℕ)
    (holdings : List (Holding P)) : Type 0 where
  pub seat : Holding P
  pub only : holdings ≡ seat ∷ []
  pub limits : IsWithinLimits grid
  pub shape : seat.shape ≡ grid
  pub known : seat.words ≡ words
  pub room : HasRoom table grid seat.view
  pub stands : lone.Stands grid words seat.view

module _ {P : Type 0} (table : Table P) where
  -- the seat begins a call, and does the step of a phase
  abbrev pub begins_call : Holding P → Start → Holding P
  begins_call held call = holding held.shape (begun table held.shape held.view None call) held.words

  abbrev pub does_step : Holding P → P → ℕ → Holding P
  does_step held phase value =
      holding held.shape (seen table held.shape held.view phase value)
      (words_after table held.shape held.words held.view phase)

  module _ (drops : Bool) (lone : LoneFacts P) where
    -- what the rule tells of a step: that the next may be done, and that an answer is exact and
    -- what the queue promises
    pub record TellsAlone (held : Holding P) (phase : P) (value : ℕ) : Type 0 where
      pub may : MayFind table held.shape phase value
      pub exact : (answer : Answer)
          → table.after held.shape phase value ≡ Done answer
          → lone.Answers held.shape held.view.made held.view.taken answer
      pub promised : (answer : Answer)
          → table.after held.shape phase value ≡ Done answer
          → HasTrail table held.shape held.view phase
          → Promises held.shape drops held.view (seen table held.shape held.view phase value) answer

    abbrev pub alone_rule : Rule P (Holding P)
    alone_rule =
        record {
          grid_of = λ held. held.shape;
          view_of = λ held. held.view;
          Sits = λ held call. Unit {0};
          begins = begins_call;
          moves_to = does_step;
          Tells = TellsAlone;
        }

-- at the start
abbrev pub first_holding : (P : Type 0) → Grid → Holding P
first_holding P shape = holding shape (resting P shape) (start_words shape)

-- no seat is ever taken in
abbrev pub no_holding : (P : Type 0) → Holding P
no_holding P = holding no_grid (resting P no_grid) []
