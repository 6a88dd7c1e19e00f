-- What the making of a queue hands out.
use Rattle.std.specs.Prelude.{◌≡◌, List, ◌∷◌, Option, Some, map}
use Rattle.std.specs.List.{All}
use Rattle.cursor_word.specs.Shape.{Grid}
use Rattle.rail.specs.Outcome.{numbers_below}
use Rattle.call_steps.specs.Queue.{IsFresh, Queue, Seated, SeatedWith}
use Rattle.sole_core.specs.declared.phase.SolePhase.{SolePhase}
use Rattle.zemuschida_c.specs.Owned.{SeatOf, owned}
use Rattle.zemuschida_c.specs.Seats.{HasConsumer, in_log_seat, log_kind}
use Rattle.zemuschida_c.specs.declared.held.Held.{Held}
use Rattle.zemuschida_c.specs.declared.kinds.ZemLogConsumer.{ZemLogConsumer}
use Rattle.zemuschida_c.specs.declared.kinds.ZemLogSeat.{ZemLogSeat}

-- all seats of a queue, in order of their numbers, which have made and taken nothing
pub record AreFresh {P M : Type 0} (queue : Queue) (seats : List (SeatedWith P M)) : Type 0 where
  pub fresh : All (IsFresh queue) seats
  pub numbers : map (λ (s : SeatedWith P M). s.number) seats ≡ numbers_below queue.shape.seats

-- these handles have these seats of a queue, in this order
abbrev pub Hold : {P M Handle : Type 0} → (SeatOf P M → Held) → (Handle → Option Held) → Queue
    → List Handle → List (SeatedWith P M) → Type 0
Hold {P} {M} kind value queue handles seats =
    map value handles ≡ map (λ (s : SeatedWith P M). Some (kind (owned queue s))) seats

-- these handles have all seats of a new queue of this shape, in order of their numbers
pub record HoldQueue {P M Handle : Type 0} (kind : SeatOf P M → Held)
    (value : Handle → Option Held) (shape : Grid) (handles : List Handle) : Type 0 where
  pub queue : Queue
  pub of_shape : queue.shape ≡ shape
  pub seats : List (SeatedWith P M)
  pub fresh : AreFresh queue seats
  pub hold : Hold kind value queue handles seats

-- the consumer has the first seat of a new queue of this shape, and the handles have the others
pub record HoldLog (shape : Grid) (consumer : ZemLogConsumer) (handles : List ZemLogSeat)
    : Type 0 where
  pub queue : Queue
  pub of_shape : queue.shape ≡ shape
  pub first : Seated SolePhase
  pub others : List (Seated SolePhase)
  pub fresh : AreFresh queue (first ∷ others)
  pub takes : HasConsumer consumer (owned queue first)
  pub hold : Hold log_kind in_log_seat queue handles others
