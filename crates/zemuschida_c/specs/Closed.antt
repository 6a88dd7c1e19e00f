-- What closing a queue asks of handles, and what a closed queue had.
use Rattle.std.specs.Prelude.{◌≡◌, ◌≢◌, ℕ, ◌++◌, Bool, true, false, List, None, Option, Some, IsPermutation, length, map}
use Rattle.std.specs.List.{All}
use Rattle.cursor_word.specs.Shape.{Grid}
use Rattle.rail.specs.Items.{IsRising, places}
use Rattle.rail.specs.Outcome.{DropOutcome, IsAccepted, RetryOutcome, numbers_below}
use Rattle.rail.specs.declared.entry.Placed.{Placed}
use Rattle.call_steps.specs.Queue.{IsSeatOf, Queue, SeatedWith}
use Rattle.zemuschida_c.specs.declared.kinds.ZemClosed.{ZemClosed}
use Rattle.zemuschida_c.specs.Owned.{SeatOf, owned}
use Rattle.zemuschida_c.specs.declared.ended.Ended.{Ended}
use Rattle.zemuschida_c.specs.declared.held.Held.{Held}
use Rattle.zemuschida_c.specs.declared.held.Held.TheVariants as kinds

abbrev pub in_closed : ZemClosed → Option Held
in_closed handle = handle.handle.slot.value

-- the handle has this
abbrev pub HasClosed : ZemClosed → Ended → Type 0
HasClosed handle ended = in_closed handle ≡ Some (kinds.Closed ended)

-- no handle is empty
abbrev pub AreFull : {Handle : Type 0} → (Handle → Option Held) → List Handle → Type 0
AreFull value handles = All (λ (held : Option Held). held ≢ None) (map value handles)

-- each handle is empty
abbrev pub AreEmpty : {Handle : Type 0} → (Handle → Option Held) → List Handle → Type 0
AreEmpty value handles = All (λ (held : Option Held). held ≡ None) (map value handles)

-- The handles have these seats of a queue, each as it was made with the queue, and no seat twice;
-- the numbers of its other seats are these.
pub record HaveSeats {Queue Seat Handle : Type 0} (own : Queue → Seat → Held)
    (value : Handle → Option Held) (Sits : Queue → Seat → Type 0) (number : Seat → ℕ)
    (shape : Queue → Grid) (handles : List Handle) : Type 0 where
  pub queue : Queue
  pub seats : List Seat
  pub elsewhere : List ℕ
  pub hold : map value handles ≡ map (λ (s : Seat). Some (own queue s)) seats
  pub sit : All (Sits queue) seats
  pub apart : IsPermutation (map number seats ++ elsewhere) (numbers_below (shape queue).seats)

-- the same of the seats of a machine's queue, as they lie behind handles of this kind
abbrev pub HaveSeatsOf : {P M Handle : Type 0} → (SeatOf P M → Held) → (Handle → Option Held)
    → List Handle → Type 0
HaveSeatsOf {P} {M} kind value handles =
    HaveSeats (λ (queue : Queue) (s : SeatedWith P M). kind (owned queue s)) value IsSeatOf
    (λ (s : SeatedWith P M). s.number) (λ (queue : Queue). queue.shape) handles

-- what is left of accepted and taken entries, in a queue that drops its oldest or drops none
abbrev pub Leaves : Grid → Bool → List Placed → List Placed → List Placed → Type 0
Leaves shape false accepted taken left = RetryOutcome accepted taken left
Leaves shape true accepted taken left = DropOutcome shape accepted taken left

-- a queue whose seats made and took this had so much accepted and so much left when it was closed
pub record HasEnded (shape : Grid) (drops : Bool) (made taken : List Placed) (ended : Ended)
    : Type 0 where
  pub accepted : List Placed
  pub in_order : List Placed
  pub is_accepted : IsAccepted made accepted
  pub is_taken : IsPermutation taken in_order
  pub rising : IsRising (places in_order)
  pub leaves : Leaves shape drops accepted in_order ended.left.items
  pub counted : ended.accepted ≡ length accepted
