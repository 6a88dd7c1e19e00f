-- The moments of a schedule, the steps of each call, and how calls begin and end.
-- Each definition takes the machine's table, the queue's shape and the events.
use Rattle.std.specs.Prelude.{◌≡◌, ◌≢◌, ℕ, zero, suc, ◌<◌, ◌≤◌, List, [], ◌∷◌, ◌++◌, Option, Some, None, ◌==◌, if◌then◌else◌, map, slice_get, take}
use Rattle.cursor_word.specs.Shape.{Grid}
use Rattle.rail.specs.declared.answer.Answer.{Answer}
use Rattle.machine.specs.declared.op.After.{After}
use Rattle.machine.specs.declared.op.After.TheVariants.{Next, Done}
use Rattle.machine.specs.declared.view.View.{View}
use Rattle.machine.specs.declared.event.Start.{Start}
use Rattle.machine.specs.declared.event.Start.TheVariants as start
use Rattle.machine.specs.declared.event.Event.{Event}
use Rattle.machine.specs.Ops.{noted}
use Rattle.machine.specs.Table.{Table}
use Rattle.machine.specs.Steps.{MachineState, begun, finds, run, start_state}

-- a step of a call: the position of its event, the phase in which it was taken,
-- and what it found (a store: what it wrote)
pub record CallStep (P : Type 0) : Type 0 where
  pub position : ℕ
  pub phase : P
  pub found : ℕ

-- what the steps found
abbrev pub found_by : {P : Type 0} → List (CallStep P) → List ℕ
found_by {P} steps = map (λ (step : CallStep P). step.found) steps

-- a call that has ended: whose it was, and its answer
pub record Ended : Type 0 where
  pub seat : ℕ
  pub answer : Answer

-- the call that a seat's step ends, if what follows is an answer
abbrev pub ended_with : {P : Type 0} → ℕ → After P → List Ended
ended_with seat (Next phase) = []
ended_with seat (Done given) = record { seat = seat; answer = given } ∷ []

-- where a seat stands, and its last answer
abbrev pub phase_in : {P : Type 0} → Option (View P) → Option P
phase_in None = None
phase_in (Some view) = view.phase

abbrev pub answer_in : {P : Type 0} → Option (View P) → Option Answer
answer_in None = None
answer_in (Some view) = view.answer

abbrev pub IsMidCall : {P : Type 0} → Option P → Type 0
IsMidCall None = ⊥
IsMidCall (Some phase) = Unit {0}

abbrev pub BeginsCall : Start → Type 0
BeginsCall start.Go = ⊥
BeginsCall begun = Unit {0}

-- a call that begins has no steps yet
abbrev pub steps_before : {P : Type 0} → Option P → Start → List (CallStep P) → List (CallStep P)
steps_before (Some phase) call steps = steps
steps_before None (start.Put entry) steps = []
steps_before None start.Take steps = []
steps_before None start.Go steps = steps

module _ {P : Type 0} (table : Table P) (shape : Grid) where
  -- the step that a seat takes at position n in this phase, where it finds old
  abbrev pub taken_step : List ℕ → ℕ → P → ℕ → CallStep P
  taken_step entry n phase old =
      record { position = n; phase = phase; found = noted (table.want shape phase entry) old }

  -- the steps of a seat's call with one more, which the seat takes at position n from this view
  abbrev pub and_step : List ℕ → ℕ → View P → Option P → List (CallStep P) → List (CallStep P)
  and_step words n view None steps = steps
  and_step words n view (Some phase) steps =
      steps ++ taken_step view.entry n phase (finds table shape words view phase) ∷ []

  abbrev pub with_turn :
      List ℕ → ℕ → Start → Option (View P) → List (CallStep P) → List (CallStep P)
  with_turn words n call None steps = steps
  with_turn words n call (Some view) steps =
      let turns : View P = begun table shape view view.phase call in
      and_step words n turns turns.phase (steps_before view.phase call steps)

  abbrev pub with_event :
      MachineState P → ℕ → ℕ → Option Event → List (CallStep P) → List (CallStep P)
  with_event state seat n None steps = steps
  with_event state seat n (Some event) steps =
      if event.seat == seat then with_turn state.words n event.start
      (slice_get state.views seat) steps else steps

  -- the call that a seat ends by its turn from this view
  abbrev pub ended_from : List ℕ → ℕ → View P → Option P → List Ended
  ended_from words seat view None = []
  ended_from words seat view (Some phase) =
      ended_with seat (table.after shape phase (finds table shape words view phase))

  abbrev pub ended_by_turn : List ℕ → ℕ → Start → Option (View P) → List Ended
  ended_by_turn words seat call None = []
  ended_by_turn words seat call (Some view) =
      let turns : View P = begun table shape view view.phase call in
      ended_from words seat turns turns.phase

  -- the call that an event ends
  abbrev pub ended_by : MachineState P → Option Event → List Ended
  ended_by state None = []
  ended_by state (Some event) =
      ended_by_turn state.words event.seat event.start (slice_get state.views event.seat)

module _ {P : Type 0} (table : Table P) (shape : Grid) (events : List Event) where
  -- the state after the first n events
  abbrev pub moment : ℕ → MachineState P
  moment n = run table shape (start_state P shape) (take n events)

  -- what is known of a seat at a moment, if there is such a seat
  abbrev pub seat_at : ℕ → ℕ → Option (View P)
  seat_at n seat = slice_get (moment n).views seat

  -- the steps of the present or last call of a seat, among the first n events
  abbrev pub steps_of : ℕ → ℕ → List (CallStep P)
  steps_of seat zero = []
  steps_of seat (suc n) =
      with_event table shape (moment n) seat n (slice_get events n) (steps_of seat n)

  -- the calls that the first n events ended, in order of their last steps
  abbrev pub ended : ℕ → List Ended
  ended zero = []
  ended (suc n) = ended n ++ ended_by table shape (moment n) (slice_get events n)

  -- where a seat stands at a moment, and its last answer
  abbrev pub phase_of : ℕ → ℕ → Option P
  phase_of n seat = phase_in (seat_at n seat)

  abbrev pub answer_of : ℕ → ℕ → Option Answer
  answer_of n seat = answer_in (seat_at n seat)

  -- the event at position i is a step of this seat, after which it is at rest with this answer
  pub record EndsAt (i seat : ℕ) (a : Answer) : Type 0 where
    pub event : Event
    pub here : slice_get events i ≡ Some event
    pub own : event.seat ≡ seat
    pub before : View P
    pub view_before : seat_at i seat ≡ Some before
    pub phase : P
    pub is_step : (begun table shape before before.phase event.start).phase ≡ Some phase
    pub after : View P
    pub view_after : seat_at (suc i) seat ≡ Some after
    pub rests : after.phase ≡ None
    pub answers : after.answer ≡ Some a

  -- a seat at rest begins a call by the event at moment n, is in mid-call from then on,
  -- and is at rest again at moment m
  pub record IsCall (seat n m : ℕ) (begins : Start) : Type 0 where
    pub event : slice_get events n ≡ Some (record { seat = seat; start = begins })
    pub is_begun : BeginsCall begins
    pub rested : phase_of n seat ≡ None
    pub later : n < m
    pub mid : (k : ℕ) → n < k → k < m → IsMidCall (phase_of k seat)
    pub rests : phase_of m seat ≡ None

  -- all seats are at rest at moment n, and from there to moment m all events are of one seat
  pub record IsDoneAlone (seat n m : ℕ) : Type 0 where
    pub rest : (j : ℕ) → phase_of n j ≡ None
    pub own : (k : ℕ) (event : Event) → n ≤ k → k < m → slice_get events k ≡ Some event
        → event.seat ≡ seat

  -- no other seat is in mid-call at a moment after the first step of the call and before its last
  abbrev pub IsUnmixed : ℕ → ℕ → ℕ → Type 0
  IsUnmixed seat n m = (k j : ℕ) → n < k → k < m → j ≢ seat → phase_of k j ≡ None

  -- the call of a seat that ends with the event at position i had another seat in mid-call
  -- at one of its moments
  pub record IsOverlapped (seat i : ℕ) : Type 0 where
    pub first : ℕ
    pub begins : Start
    pub call : IsCall seat first (suc i) begins
    pub during : ℕ
    pub after_first : first < during
    pub before_last : during ≤ i
    pub other : ℕ
    pub apart : other ≢ seat
    pub mid : IsMidCall (phase_of during other)

  -- a call of this seat that begins after the event at one position, and that the event at
  -- position i ends with this answer
  pub record IsLaterCall (position i seat : ℕ) (a : Answer) : Type 0 where
    pub first : ℕ
    pub begins : Start
    pub later : position < first
    pub call : IsCall seat first (suc i) begins
    pub ends : EndsAt i seat a

  -- Answers that name a place are in order of time: where a call that begins after one was given
  -- has
  -- one for another place, that place is the later.
  abbrev pub IsInOrder : (ℕ → Answer) → Type 0
  IsInOrder names =
      (i seat place j other later : ℕ) → EndsAt i seat (names place)
      → IsLaterCall i j other (names later) → place < later
