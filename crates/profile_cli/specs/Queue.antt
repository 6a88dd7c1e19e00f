-- The queue that a run closed.
use Rattle.std.specs.Prelude.{◌≡◌, ℕ, ◌+◌, ◌-◌, ◌*◌, ◌≤◌, Bool, if◌then◌else◌, List, [], length, min, nat_le, Option, Some, None}
use Rattle.cursor_word.specs.Shape.{Grid}
use Rattle.flow_io.specs.Clock.{Ticks}
use Rattle.rail.specs.declared.entry.Placed.{Placed}
use Rattle.rail.specs.Items.{places}
use Rattle.rail.specs.Outcome.{DropOutcome, RetryOutcome, numbers_below}
use Rattle.span_words.specs.declared.span.SpanEvent.{SpanEvent}
use Rattle.span_words.specs.declared.span.TheConstants.{SPAN_WORDS}
use Rattle.span_recorder.specs.Events.{events_of}
use Rattle.word_text.specs.Pieces.{plan_of}
use Rattle.word_workers.specs.Trace.{RunTrace}
use Rattle.profile_cli.specs.declared.rails.Closed.{Closed}
use Rattle.profile_cli.specs.declared.rails.Closed.TheVariants as closed
use Rattle.command_words.specs.Usage.{Asked}
use Rattle.command_words.specs.declared.options.Mode.{Mode}
use Rattle.command_words.specs.declared.options.Mode.TheVariants.{DropOld, RetryNew}

-- its mode, how many seats a queue of its kind may have, its shape, and its lists in order of place
pub record ClosedQueue : Type 0 where
  pub mode : Mode
  pub most_seats : ℕ
  pub shape : Grid
  pub accepted : List Placed
  pub taken : List Placed
  pub left : List Placed

-- what is seen of a closed queue of some kind
pub record Seen (D : Type 0) : Type 0 where
  pub most_seats : ℕ
  pub shape : D → Grid
  pub accepted : D → List Placed
  pub taken : D → List Placed
  pub left : D → List Placed

abbrev pub seen : {D : Type 0} → ℕ → (D → Grid) → (D → List Placed) → (D → List Placed)
    → (D → List Placed) → Seen D
seen most_seats shape accepted taken left = record {
  most_seats = most_seats;
  shape = shape;
  accepted = accepted;
  taken = taken;
  left = left;
}

abbrev pub closed_queue : {D : Type 0} → Mode → Seen D → D → ClosedQueue
closed_queue mode sees done = record {
  mode = mode;
  most_seats = sees.most_seats;
  shape = sees.shape done;
  accepted = sees.accepted done;
  taken = sees.taken done;
  left = sees.left done;
}

-- the queue that the program closed, if any, by what is seen of those that refuse new entries and
-- of those that drop their oldest
abbrev pub queue_of : {A B C D E F G : Type 0} → Seen E → Seen G → Closed A B C D E F G
    → Option ClosedQueue
queue_of retry drop closed.Nothing = None
queue_of retry drop (closed.Retry done) = Some (closed_queue RetryNew retry done)
queue_of retry drop (closed.DropOld done) = Some (closed_queue DropOld drop done)

-- what a kind of queue does, which drops its oldest entries or doesn't
abbrev pub mode_by : Bool → Mode
mode_by drops = if drops then DropOld else RetryNew

-- a seat for each worker and one for the collector, where a queue may have more than one
abbrev pub seats_for : ℕ → ℕ → ℕ
seats_for most_seats workers = if nat_le most_seats 1 then 1 else workers + 1

-- the shape that a run asks for, of a queue that may have so many seats
abbrev pub shape_for : Asked → ℕ → Grid
shape_for asked most_seats = record {
  blocks = asked.blocks;
  size = asked.size;
  width = SPAN_WORDS;
  seats = seats_for most_seats asked.workers;
}

-- how what was taken and what was left are parts of what was accepted
abbrev pub IsOutcome : Mode → Grid → List Placed → List Placed → List Placed → Type 0
IsOutcome RetryNew shape accepted taken left = RetryOutcome accepted taken left
IsOutcome DropOld shape accepted taken left =
    (taken ≡ []) × DropOutcome shape accepted taken left

-- what a trace lists: all that was accepted, or where the oldest entries are dropped, what was left
abbrev pub listed_by : Mode → List Placed → List Placed → List Placed
listed_by RetryNew accepted left = accepted
listed_by DropOld accepted left = left

abbrev pub listed : ClosedQueue → List Placed
listed queue = listed_by queue.mode queue.accepted queue.left

-- the queue of a run over these texts: it has the asked mode and shape, and all that it had
-- accepted stands in one order, each worker's spans whole and in its order
pub record IsQueueOf (asked : Asked) (texts : List (List ℕ)) (clock : ℕ → Option Ticks)
    (queue : ClosedQueue) : Type 0 where
  pub mode : queue.mode ≡ asked.mode
  pub shape : queue.shape ≡ shape_for asked queue.most_seats
  pub order : places queue.accepted ≡ numbers_below (length queue.accepted)
  pub outcome : IsOutcome queue.mode queue.shape queue.accepted queue.taken queue.left
  -- never fewer are listed than all blocks but one hold
  pub enough : min (length queue.accepted) ((queue.shape.blocks - 1) * queue.shape.size)
      ≤ length (listed queue)
  pub run : RunTrace queue.accepted asked.workers (plan_of texts asked.piece) texts clock

-- a run closed this queue, of which these are the spans that it lists and the number of those that
-- it accepted
pub record HasListed (queue : ClosedQueue) (accepted : ℕ) (events : List SpanEvent) : Type 0 where
  pub number : accepted ≡ length queue.accepted
  pub spans : events ≡ events_of (listed queue)
