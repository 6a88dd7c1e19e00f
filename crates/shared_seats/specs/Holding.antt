-- The rule of the shared words of any machine: its invariant, of the words and the views of all
-- seats in order of their numbers. A seat that was taken in stands for none.
use Rattle.std.specs.Prelude.{◌≡◌, ℕ, ◌+◌, ◌<◌, List, [], ◌∷◌, ◌++◌, Bool, IsPermutation, Some, None, drop, flat_map, get_or, length, replicate, slice_get, take}
use mathlib.Core.Option.{some}
use lib.ListN.{get_elem?}
use Rattle.cursor_word.specs.Shape.{Grid, IsWithinLimits}
use Rattle.rail.specs.declared.answer.Answer.{Answer}
use Rattle.machine.specs.declared.event.Start.{Start}
use Rattle.machine.specs.declared.op.After.TheVariants.{Done}
use Rattle.machine.specs.declared.view.View.{View}
use Rattle.machine.specs.Table.{Table}
use Rattle.machine.specs.Invariant.{Fact}
use Rattle.machine.specs.Steps.{begun, resting, seen}
use Rattle.call_laws.specs.Answers.{HasTrail, Promises}
use Rattle.call_steps.specs.Rule.{HasRoom, MayFind, Rule}
use Rattle.call_steps.specs.Queue.{no_grid}
use Rattle.shared_seats.specs.declared.holding.Holding.{Holding}
use Rattle.shared_seats.specs.declared.holding.Numbered.{Numbered}
use Rattle.shared_seats.specs.Memory.{Knowledge}

module _ {P : Type 0} where
  abbrev pub numbered : ℕ → View P → Numbered P
  numbered number view = record { number = number; view = view }

  -- these views in order of their seats' numbers, of which this is the first
  abbrev pub numbered_from : ℕ → List (View P) → List (Numbered P)
  numbered_from number [] = []
  numbered_from number (view ∷ views) = numbered number view ∷ numbered_from (number + 1) views

  -- these are the views of these seats, in order of the seats' numbers
  abbrev pub AreInOrder : List (Numbered P) → List (View P) → Type 0
  AreInOrder seats views = IsPermutation seats (numbered_from 0 views)

module _ {P M : Type 0} where
  abbrev pub holding : Grid → List (Numbered P) → List M → Holding P M
  holding shape seats memories = record { shape = shape; seats = seats; memories = memories }

  -- all seats that these stand for
  abbrev pub seats_of : List (Holding P M) → List (Numbered P)
  seats_of holdings = flat_map (λ (held : Holding P M). held.seats) holdings

  -- a seat that stands for itself alone, what the machine knows of it, and what it remembers
  abbrev pub seat_in : Holding P M → Numbered P
  seat_in held = get_or held.seats 0 (numbered 0 (resting P no_grid))

  abbrev pub view_in : Holding P M → View P
  view_in held = (seat_in held).view

  abbrev pub memory_in : M → Holding P M → M
  memory_in none held = get_or held.memories 0 none

  -- A split hands out the first of the seats that one stands for, a join puts those of two
  -- together.
  abbrev pub first_seat : Holding P M → Holding P M
  first_seat held = holding held.shape (take 1 held.seats) (take 1 held.memories)

  abbrev pub other_seats : Holding P M → Holding P M
  other_seats held = holding held.shape (drop 1 held.seats) (drop 1 held.memories)

  abbrev pub joint_seats : Holding P M → Holding P M → Holding P M
  joint_seats held other =
      holding held.shape (held.seats ++ other.seats) (held.memories ++ other.memories)

  -- the seat does a step, or begins a call: this is its view then
  abbrev pub with_view : Holding P M → View P → Holding P M
  with_view held view =
      holding held.shape (numbered (seat_in held).number view ∷ []) held.memories

-- so many seats that have done nothing, of which this is the first number
abbrev pub fresh_seats : (P : Type 0) → {M : Type 0} → M → Grid → ℕ → ℕ → Holding P M
fresh_seats P none shape first count =
    holding shape (numbered_from first (replicate count (resting P shape))) (replicate count none)

-- the first seat stands for all, and one that was taken in for none
abbrev pub all_seats : (P : Type 0) → {M : Type 0} → M → Grid → Holding P M
all_seats P none shape = fresh_seats P none shape 0 shape.seats

abbrev pub no_seats : (P M : Type 0) → Holding P M
no_seats P M = holding no_grid [] []

-- a seat of the queue remembers this
pub record IsRemembered {P M : Type 0} (holdings : List (Holding P M)) (memory : M)
    : Type 0 where
  pub at : ℕ
  pub seat : Holding P M
  pub stands : get_elem? holdings at ≡ some seat
  pub number : ℕ
  pub there : slice_get seat.memories number ≡ Some memory

-- the rule: the machine's invariant holds of the views in order of their seats' numbers, each seat
-- of the queue stands for one view, none has made too much, and what seats remember holds
pub record IsHeld {P M : Type 0} (table : Table P) (Holds : Fact P) (Knows : Knowledge P M)
    (shape : Grid) (words : List ℕ) (holdings : List (Holding P M)) : Type 0 where
  pub limits : IsWithinLimits shape
  pub shapes : (at : ℕ) (held : Holding P M)
      → get_elem? holdings at ≡ some held → 0 < length held.seats → held.shape ≡ shape
  pub views : List (View P)
  pub in_order : AreInOrder (seats_of holdings) views
  pub holds : Holds shape words views
  pub all : length views ≡ shape.seats
  pub few : (number : ℕ) (view : View P) → slice_get views number ≡ Some view
      → HasRoom table shape view
  pub memories : (memory : M) → IsRemembered holdings memory → Knows shape words views memory

-- a load found this, and its seat remembers so much then
pub record HasLoaded {P M : Type 0} (none : M) (told : Grid → View P → M → ℕ → M → Type 0)
    (old : Holding P M) (found : ℕ) (new : Holding P M) : Type 0 where
  pub memory : M
  pub same : new ≡ holding old.shape old.seats (memory ∷ [])
  pub tells : told old.shape (view_in old) (memory_in none old) found memory

module _ {P M : Type 0} (table : Table P) (drops : Bool) where
  -- what the rule tells of a value that the step of a phase found: that the next step may be done,
  -- and that an answer is as the queue promises
  pub record IsFound (held : Holding P M) (phase : P) (value : ℕ) : Type 0 where
    pub may : MayFind table held.shape phase value
    pub promised : (answer : Answer)
        → table.after held.shape phase value ≡ Done answer
        → HasTrail table held.shape (view_in held) phase
        → Promises held.shape drops (view_in held)
        (seen table held.shape (view_in held) phase value) answer

  -- a seat stands for itself alone, and its number may begin this call
  abbrev pub IsSitting : Holding P M → Start → Type 0
  IsSitting held call = (held.seats ≡ seat_in held ∷ [])
      × table.MayBegin held.shape (seat_in held).number call

  abbrev pub held_rule : Rule P (Holding P M)
  held_rule =
      record {
        grid_of = λ held. held.shape;
        view_of = view_in;
        Sits = IsSitting;
        begins = λ held call. with_view held (begun table held.shape (view_in held) None call);
        moves_to = λ held phase value.
            with_view held (seen table held.shape (view_in held) phase value);
        Tells = IsFound;
      }
