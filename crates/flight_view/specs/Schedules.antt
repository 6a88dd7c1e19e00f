-- Schedules with views: what each seat's view has loaded, and what its last one showed.
use Rattle.std.specs.Prelude.{◌≡◌, ◌≢◌, ℕ, ◌<◌, ◌⊎◌, List, [], ◌∷◌, ◌++◌, Option, Some, None, replicate, slice_get, slice_index, slice_set}
use Rattle.cursor_word.specs.Shape.{Grid}
use Rattle.step_log.specs.declared.log.Step.{Step}
use Rattle.step_log.specs.Log.{loaded}
use Rattle.machine.specs.declared.event.Event.{Event}
use Rattle.machine.specs.Steps.{Suits, start_state, step}
use Rattle.machine.specs.Moments.{IsMidCall, phase_in}
use Rattle.drop_core.specs.declared.phase.DropPhase.{DropPhase}
use Rattle.drop_core.specs.Steps.{table}
use Rattle.drop_core.specs.Types.{MachineState}
use Rattle.flight_view.specs.declared.walking.View.{View}
use Rattle.flight_view.specs.declared.schedule.ViewEvent.{ViewEvent}
use Rattle.flight_view.specs.declared.schedule.ViewEvent.TheVariants as event
use Rattle.flight_view.specs.Walks.{HasEnded, IsWalk, Walk, walk_gaps, walk_items, walk_loads}

-- A seat's views: the loads of the one under way; the queue just before the second load of the
-- latest one, which is its first of an allocated cursor; and the last one that ended.
pub record Viewer : Type 0 where
  pub loads : List Step
  pub then : Option MachineState
  pub view : Option View

-- the queue, and what each seat views
pub record Moment : Type 0 where
  pub queue : MachineState
  pub viewers : List Viewer

-- a seat that has viewed nothing, and the start of a schedule
abbrev pub no_view : Viewer
no_view = record { loads = []; then = None; view = None }

abbrev pub start_moment : Grid → Moment
start_moment shape =
    record { queue = start_state DropPhase shape; viewers = replicate shape.seats no_view }

-- these are the loads of a walk that came to its end, which shows this view
pub record AreShown (shape : Grid) (loads : List Step) (view : View) : Type 0 where
  pub walk : Walk
  pub is : IsWalk shape walk
  pub ended : HasEnded shape walk
  pub all : loads ≡ walk_loads shape walk
  pub items : view.items.items ≡ walk_items shape walk
  pub gaps : view.gaps ≡ walk_gaps walk

-- these are the first loads of a walk, and more follow
pub record GoOn (shape : Grid) (loads : List Step) : Type 0 where
  pub walk : Walk
  pub is : IsWalk shape walk
  pub next : Step
  pub more : List Step
  pub first : loads ++ next ∷ more ≡ walk_loads shape walk

-- with these loads a view goes on, or it has ended
abbrev pub Follows : Grid → List Step → Viewer → Viewer → Type 0
Follows shape loads old new =
    (GoOn shape loads × (new.loads ≡ loads) × (new.view ≡ old.view))
    ⊎ ((view : View)
    × AreShown shape loads view × (new.loads ≡ []) × (new.view ≡ Some view))

-- the queue before the second load of a view
abbrev pub then_after : List Step → MachineState → Option MachineState → Option MachineState
then_after (head ∷ []) queue then = Some queue
then_after loads queue then = then

-- a seat's view loads a word, or begins with it
pub record HasLoaded (shape : Grid) (queue : MachineState) (old new : Viewer) : Type 0 where
  pub index : ℕ
  pub then : new.then ≡ then_after old.loads queue old.then
  pub follows : Follows shape (old.loads ++ loaded index (slice_index queue.words index) ∷ [])
      old new

-- the loads of the view that a seat is in
abbrev pub loads_in : Option Viewer → List Step
loads_in None = []
loads_in (Some viewer) = viewer.loads

abbrev pub loads_of : Moment → ℕ → List Step
loads_of moment seat = loads_in (slice_get moment.viewers seat)

-- a step of a call: it changes nothing where its seat is in a view
abbrev pub HasStepped : Grid → Moment → Event → Moment → Type 0
HasStepped shape old event new =
    ((loads_of old event.seat ≢ []) × (new ≡ old))
    ⊎ ((loads_of old event.seat ≡ [])
    × (new ≡ record { queue = step table shape old.queue event; viewers = old.viewers }))

-- a step of a view: it changes nothing where its seat is in a call
pub record HasViewed (shape : Grid) (old : Moment) (seat : ℕ) (new : Moment) : Type 0 where
  pub before : Viewer
  pub here : slice_get old.viewers seat ≡ Some before
  pub after : Viewer
  pub loads : HasLoaded shape old.queue before after
  pub is : new ≡ record { queue = old.queue; viewers = slice_set old.viewers seat after }

abbrev pub Views : Grid → Moment → ℕ → Moment → Type 0
Views shape old seat new =
    (IsMidCall (phase_in (slice_get old.queue.views seat)) × (new ≡ old))
    ⊎ ((phase_in (slice_get old.queue.views seat) ≡ None) × HasViewed shape old seat new)

-- one event, and a schedule: its events in order
abbrev pub Leads : Grid → Moment → ViewEvent → Moment → Type 0
Leads shape old (event.Step event) new = HasStepped shape old event new
Leads shape old (event.View seat) new = Views shape old seat new

abbrev pub RunsTo : Grid → Moment → List ViewEvent → Moment → Type 0
RunsTo shape from [] to = from ≡ to
RunsTo shape from (event ∷ events) to =
    (next : Moment) × Leads shape from event next × RunsTo shape next events to

-- an event that a queue of this shape can do
abbrev pub SuitsView : Grid → ViewEvent → Type 0
SuitsView shape (event.Step event) = Suits table shape event
SuitsView shape (event.View seat) = seat < shape.seats
