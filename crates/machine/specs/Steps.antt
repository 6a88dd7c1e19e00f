-- A machine: the words, the view of each seat, and what an event does.
-- Each definition takes the machine's table and the queue's shape.
use Rattle.std.specs.Prelude.{◌≡◌, ℕ, ◌<◌, List, [], ◌∷◌, ◌++◌, Bool, Option, Some, None, is_some, unwrap_or, if◌then◌else◌, length, map, replicate, slice_get, slice_index, slice_set}
use Rattle.std.specs.List.{range_with_len}
use Rattle.cursor_word.specs.Shape.{Grid}
use Rattle.cursor_word.specs.Layout.{start_at, word_count}
use Rattle.rail.specs.Items.{placed}
use Rattle.rail.specs.declared.entry.Placed.{Placed}
use Rattle.rail.specs.declared.answer.Answer.{Answer}
use Rattle.rail.specs.declared.answer.Answer.TheVariants as answer
use Rattle.rail.specs.declared.answer.Put.TheVariants as put
use Rattle.rail.specs.declared.answer.Take.TheVariants as take
use Rattle.machine.specs.declared.op.After.{After}
use Rattle.machine.specs.declared.op.After.TheVariants.{Next, Done}
use Rattle.machine.specs.declared.view.View.{View}
use Rattle.machine.specs.declared.event.Start.{Start}
use Rattle.machine.specs.declared.event.Start.TheVariants as start
use Rattle.machine.specs.declared.event.Event.{Event}
use Rattle.machine.specs.Ops.{index, moved, noted}
use Rattle.machine.specs.Table.{Table, reads_word}

-- a state: the words, and what is known of each seat
pub record MachineState (P : Type 0) : Type 0 where
  pub words : List ℕ
  pub views : List (View P)

-- the words and the view of one seat
pub record Scene (P : Type 0) : Type 0 where
  pub words : List ℕ
  pub view : View P

-- a state with the shape of its queue
pub record ShapedState (P : Type 0) : Type 0 where
  pub shape : Grid
  pub state : MachineState P

-- What a step leaves in its seat, by what follows it: a put that answers Ok adds the entry in hand
-- to what the seat has made, a take that answers Ok adds the words that it read to what the seat
-- has taken, and a step that answers puts the seat at rest.
module _ {P : Type 0} where
  abbrev pub made_after : List Placed → List ℕ → After P → List Placed
  made_after made entry (Done (answer.Put (put.Ok place))) = made ++ placed place entry ∷ []
  made_after made entry follows = made

  abbrev pub taken_after : List Placed → List ℕ → After P → List Placed
  taken_after taken read (Done (answer.Take (take.Ok place))) = taken ++ placed place read ∷ []
  taken_after taken read follows = taken

  abbrev pub phase_after : After P → Option P
  phase_after (Next phase) = Some phase
  phase_after (Done given) = None

  abbrev pub answer_after : Option Answer → After P → Option Answer
  answer_after last (Next phase) = last
  answer_after last (Done given) = Some given

-- a seat that has done nothing
abbrev pub resting : (P : Type 0) → Grid → View P
resting P shape =
    record {
      phase = None;
      entry = replicate shape.width 0;
      made = [];
      taken = [];
      read = [];
      answer = None;
      trail = [];
    }

module _ {P : Type 0} (table : Table P) (shape : Grid) where
  -- the word of a step, and what stands there
  abbrev pub index_of_step : View P → P → ℕ
  index_of_step view phase = index (table.want shape phase view.entry)

  abbrev pub finds : List ℕ → View P → P → ℕ
  finds words view phase = slice_index words (index_of_step view phase)

  -- the words read after a step that found old
  abbrev pub read_after : List ℕ → P → ℕ → List ℕ
  read_after read phase old = if reads_word (table.reading phase) then read ++ old ∷ [] else read

  -- the view after a step of this phase that found old
  abbrev pub seen : View P → P → ℕ → View P
  seen view phase old =
      record {
        phase = phase_after (table.after shape phase old);
        entry = view.entry;
        made = made_after view.made view.entry (table.after shape phase old);
        taken = taken_after view.taken view.read (table.after shape phase old);
        read = read_after view.read phase old;
        answer = answer_after view.answer (table.after shape phase old);
        trail = view.trail ++ noted (table.want shape phase view.entry) old ∷ [];
      }

  -- the words, and the seat's view, after the step of a view in this phase
  abbrev pub words_after : List ℕ → View P → P → List ℕ
  words_after words view phase =
      slice_set words (index_of_step view phase)
      (moved (table.want shape phase view.entry) (finds words view phase))

  abbrev pub view_after : List ℕ → View P → P → View P
  view_after words view phase = seen view phase (finds words view phase)

  -- the view of a seat at its turn, before its step: a seat at rest begins the call that is named
  abbrev pub begun : View P → Option P → Start → View P
  begun view (Some phase) call = view
  begun view None (start.Put entry) =
      record view { phase = Some table.first_put; entry = entry; trail = [] }
  begun view None start.Take =
      record view { phase = Some (table.first_take shape view.taken); read = []; trail = [] }
  begun view None start.Go = view

  -- what a seat in this phase does at its turn; at rest nothing
  abbrev pub moves : List ℕ → View P → Option P → Scene P
  moves words view None = record { words = words; view = view }
  moves words view (Some phase) =
      record { words = words_after words view phase; view = view_after words view phase }

  -- a seat's turn: it begins a call where it is at rest, and does one step
  abbrev pub turned : List ℕ → View P → Start → Scene P
  turned words view call =
      moves words (begun view view.phase call) (begun view view.phase call).phase

  -- the turn of the seat of this number, if there is one
  abbrev pub turn : MachineState P → ℕ → Start → Option (View P) → MachineState P
  turn state id call None = state
  turn state id call (Some view) =
      record {
        words = (turned state.words view call).words;
        views = slice_set state.views id (turned state.words view call).view;
      }

  -- one event
  abbrev pub step : MachineState P → Event → MachineState P
  step state event = turn state event.seat event.start (slice_get state.views event.seat)

  -- a schedule: its events in order
  abbrev pub run : MachineState P → List Event → MachineState P
  run state [] = state
  run state (event ∷ events) = run (step state event) events

-- a turn of a seat that begins nothing, and a schedule of as many of them
abbrev pub go : ℕ → Event
go seat = record { seat = seat; start = start.Go }

abbrev pub goes : ℕ → ℕ → List Event
goes seat count = replicate count (go seat)

-- an entry that is named has as many words as the shape says
abbrev pub IsWide : Grid → Start → Type 0
IsWide shape (start.Put entry) = length entry ≡ shape.width
IsWide shape start.Take = Unit {0}
IsWide shape start.Go = Unit {0}

-- an event that a queue of this shape can do
pub record Suits {P : Type 0} (table : Table P) (shape : Grid) (event : Event) : Type 0 where
  pub seat : event.seat < shape.seats
  pub wide : IsWide shape event.start
  pub may_begin : table.MayBegin shape event.seat event.start

-- all words at their start, and all seats at rest
abbrev pub start_words : Grid → List ℕ
start_words shape = map (start_at shape) (range_with_len 0 (word_count shape))

abbrev pub start_state : (P : Type 0) → Grid → MachineState P
start_state P shape =
    record { words = start_words shape; views = replicate shape.seats (resting P shape) }

-- what is known of a seat
abbrev pub view_of : {P : Type 0} → ShapedState P → ℕ → View P
view_of {P} shaped seat = unwrap_or (slice_get shaped.state.views seat) (resting P shaped.shape)

-- all seats are at rest
abbrev pub AllRest : {P : Type 0} → List (View P) → Type 0
AllRest {P} views = (j : ℕ) (u : View P) → slice_get views j ≡ Some u → u.phase ≡ None

-- whether a seat is in a call
abbrev pub is_mid_call : {P : Type 0} → View P → Bool
is_mid_call view = is_some view.phase
