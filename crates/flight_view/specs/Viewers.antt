-- The state of a schedule with views, and what it stands for.
use Rattle.std.specs.Prelude.{◌≡◌, ℕ, ◌<◌, ◌≤◌, ◌⊎◌, List, [], ◌∷◌, ◌++◌, Option, Some, None, length, slice_get, slice_index}
use Rattle.cursor_word.specs.Shape.{Grid}
use Rattle.cursor_word.specs.Cursor.{most_puts, place_span}
use Rattle.step_log.specs.declared.log.Step.{Step}
use Rattle.step_log.specs.Log.{loaded}
use Rattle.machine.specs.Invariant.{made_total}
use Rattle.machine.specs.Steps.{view_of}
use Rattle.drop_core.specs.Sound.{IsSound}
use Rattle.drop_core.specs.Types.{MachineState}
use Rattle.flight_view.specs.declared.schedule.ViewEvent.{ViewEvent}
use Rattle.flight_view.specs.declared.schedule.ViewEvent.TheVariants as event
use Rattle.flight_view.specs.declared.viewer.Viewer as code
use Rattle.flight_view.specs.declared.walking.View.{View}
use Rattle.flight_view.specs.Schedules.{AreShown, GoOn, Leads, Moment, RunsTo, Viewer, start_moment}
use Rattle.flight_view.specs.Spots.{IsAt, so_far}

-- the loads of the view under way, by which its walk stands where it does
abbrev pub Stands : Grid → List Step → code.Viewer → Type 0
Stands shape loads viewer =
    IsAt shape viewer.spot viewer.read.items (so_far loads viewer.items.items viewer.gaps.items)

abbrev pub IsOnWay : Grid → code.Viewer → Type 0
IsOnWay shape viewer = (loads : List Step) × Stands shape loads viewer

-- with one load more the view goes on, or it has ended
abbrev pub LoadsTo : Grid → List Step → code.Viewer → code.Viewer → Type 0
LoadsTo shape loads old new =
    (GoOn shape loads × Stands shape loads new × (new.view ≡ old.view))
    ⊎ ((view : View)
    × AreShown shape loads view × Stands shape [] new × (new.view ≡ Some view))

pub record LoadsOne (shape : Grid) (words : List ℕ) (loads : List Step) (old new : code.Viewer)
    : Type 0 where
  pub index : ℕ
  pub to : LoadsTo shape (loads ++ loaded index (slice_index words index) ∷ []) old new

-- what holds of the queue between any two events
pub record IsGood (shape : Grid) (queue : MachineState) : Type 0 where
  pub sound : IsSound shape queue.words queue.views
  pub room : made_total queue.views ≤ place_span shape
  pub all : length queue.views ≡ shape.seats

-- a state: the queue, and what each seat has viewed
pub record Viewing : Type 0 where
  pub shape : Grid
  pub queue : MachineState
  pub viewers : List code.Viewer

pub record AreOnWay (shape : Grid) (state : Viewing) : Type 0 where
  pub shape_is : shape ≡ state.shape
  pub all : length state.viewers ≡ state.shape.seats
  pub each : (seat : ℕ) (viewer : code.Viewer) → slice_get state.viewers seat ≡ Some viewer
      → IsOnWay state.shape viewer

-- the last view of a seat
abbrev pub view_in : Option code.Viewer → Option View
view_in None = None
view_in (Some viewer) = viewer.view

abbrev pub view_at : Viewing → ℕ → Option View
view_at state seat = view_in (slice_get state.viewers seat)

-- it stands for a moment of a schedule
pub record Tells (shape : Grid) (told : Viewer) (viewer : code.Viewer) : Type 0 where
  pub stands : Stands shape told.loads viewer
  pub view : viewer.view ≡ told.view

pub record StandsFor (state : Viewing) (moment : Moment) : Type 0 where
  pub queue : moment.queue ≡ state.queue
  pub long : length moment.viewers ≡ length state.viewers
  pub told : (seat : ℕ) (viewer : code.Viewer) → slice_get state.viewers seat ≡ Some viewer
      → (viewed : Viewer) × (slice_get moment.viewers seat ≡ Some viewed)
      × Tells state.shape viewed viewer

-- a seat that has viewed nothing
abbrev pub IsFresh : Grid → code.Viewer → Type 0
IsFresh shape viewer = Stands shape [] viewer × (viewer.view ≡ None)

-- an event leads on from the moment that a state stood for
abbrev pub LeadsTo : Grid → Moment → ViewEvent → Viewing → Type 0
LeadsTo shape moment event state =
    (next : Moment) × Leads shape moment event next × StandsFor state next

-- the seat of a call has room for one entry more
abbrev pub HasRoom : Viewing → ViewEvent → Type 0
HasRoom state (event.Step event) =
    length (view_of record { shape = state.shape; state = state.queue } event.seat).made
    < most_puts state.shape
HasRoom state (event.View seat) = Unit {0}

-- the state is where a schedule leads
pub record IsRun (shape : Grid) (events : List ViewEvent) (state : Viewing) : Type 0 where
  pub end : Moment
  pub runs : RunsTo shape (start_moment shape) events end
  pub queue : end.queue ≡ state.queue
  pub views : (seat : ℕ) (viewer : Viewer) → slice_get end.viewers seat ≡ Some viewer
      → view_at state seat ≡ viewer.view
