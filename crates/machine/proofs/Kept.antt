-- What a state keeps lets each seat step, and lasts.
use Rattle.std.proofs.Common.{◌≡◌, ℕ, ◌*◌, ◌<◌, ◌≤◌, List, length, get_or, refl, sym, ap, ◌∙◌, subst, ⊎_elim, arith}
use Rattle.std.specs.Prelude.{Option, Some, None, Result, Ok, Err, OnOk, OnErr, slice_get, slice_set, unwrap_or}
use Rattle.std.specs.declared.alloc.AllocError.{AllocError}
use Rattle.std.proofs.lemmas.List.{length-map, length-set, length-replicate}
use Rattle.std.proofs.lemmas.List.FromFn.{length-range_with_len}
use Rattle.std.specs.List.{range_with_len}
use Rattle.cursor_word.specs.Layout.{start_at, word_count}
use Rattle.std.proofs.lemmas.List.Sums.{sum_by-le}
use Rattle.std.proofs.lemmas.Option.{slice_get-get_or, slice_get_read}
use Rattle.cursor_word.specs.Shape.{Grid, IsWithinLimits}
use Rattle.cursor_word.specs.Cursor.{most_puts, place_span}
use Rattle.cursor_word.proofs.Places.{most_puts_fit}
use Rattle.machine.specs.declared.view.View.{View}
use Rattle.machine.specs.declared.event.Start.{Start}
use Rattle.machine.specs.declared.event.Event.{Event}
use Rattle.machine.specs.Table.{Table}
use Rattle.machine.specs.Steps.{IsWide, MachineState, Scene, ShapedState, begun, moves, resting, start_state, step, turn, turned, view_of}
use Rattle.machine.specs.Invariant.{CanStep, Fact, IsInvariant, IsKept, made_count, made_total}
use Rattle.machine.specs.Moments.{moment}
use Rattle.machine.proofs.Lists.{get_replicate, get_set, set_again}
use Rattle.machine.proofs.Turns.{turned_more}
use Rattle.machine.proofs.Runs.{can_turn, made_few, turns}

module _ {P : Type 0} where
  abbrev pub state_of : Grid → List ℕ → List (View P) → ShapedState P
  state_of g ws vs = record { shape = g; state = record { words = ws; views = vs } }

  -- what is read at a seat's number is its view
  pub view_is : (s : ShapedState P) (seat : ℕ) (v : View P) → slice_get s.state.views seat ≡ Some v → view_of s seat ≡ v
  view_is s seat v at = ap (λ (o : Option (View P)). unwrap_or o (resting P s.shape)) at

  -- a refusal changes nothing
  pub refused_same : (g : Grid) (ws ws' : List ℕ) (vs : List (View P)) (id : ℕ) (v v' : View P) (r : Result (Unit {0}) AllocError) → slice_get vs id ≡ Some v → OnErr r ((ws' ≡ ws) × (v' ≡ v))
      → OnErr r (state_of g ws' (slice_set vs id v') ≡ state_of g ws vs)
  refused_same g ws ws' vs id v v' (Ok x) at err = tt
  refused_same g ws ws' vs id v v' (Err x) at err =
      ap (λ (w : List ℕ). state_of g w (slice_set vs id v')) err.0 ∙ ap (state_of g ws) (ap (λ (u : View P). slice_set vs id u) err.1 ∙ set_again vs id v at)

module _ {P : Type 0} (t : Table P) (g : Grid) where
  abbrev scene_state : List (View P) → ℕ → Scene P → MachineState P
  scene_state vs id c = record { words = c.words; views = slice_set vs id c.view }

  -- a turn is the step of the machine
  pub turn_is_step : (ws ws' : List ℕ) (vs : List (View P)) (e : Event) (v v' : View P) (r : Result (Unit {0}) AllocError) → slice_get vs e.seat ≡ Some v
      → OnOk r (turned t g ws v e.start ≡ record { words = ws'; view = v' }) → OnOk r (◌≡◌ {A = MachineState P} record { words = ws'; views = slice_set vs e.seat v' } (step t g record { words = ws; views = vs } e))
  turn_is_step ws ws' vs e v v' (Ok x) at ok =
      ap (scene_state vs e.seat) (sym ok) ∙ ap (turn t g record { words = ws; views = vs } e.seat e.start) (sym at)
  turn_is_step ws ws' vs e v v' (Err x) at ok = tt

  moves_long : (ws : List ℕ) (v : View P) (ph : Option P) → length (moves t g ws v ph).words ≡ length ws
  moves_long ws v None = refl
  moves_long ws v (Some p) = length-set ws _ _

  -- no turn adds a word or takes one away
  pub turned_long : (ws : List ℕ) (v : View P) (s : Start) → length (turned t g ws v s).words ≡ length ws
  turned_long ws v s = moves_long ws (begun t g v v.phase s) (begun t g v v.phase s).phase

  made_in : (es : List Event) (n id : ℕ) → length es < most_puts g → (o : Option (View P)) → slice_get (moment t g es n).views id ≡ o → made_count (unwrap_or o (resting P g)) < most_puts g
  made_in es n id few None at = omega arith
  made_in es n id few (Some v) at = let m = made_few t g es n id v at in omega arith

  -- while few events were done, each seat may make one more
  pub made_below : (es : List Event) (n id : ℕ) → length es < most_puts g → made_count (view_of record { shape = g; state = moment t g es n } id) < most_puts g
  made_below es n id few = made_in es n id few (slice_get (moment t g es n).views id) refl

module _ {P : Type 0} (t : Table P) (Holds : Fact P) (law : IsInvariant t Holds) (g : Grid) where
  -- few entries are made
  total_few : (ws : List ℕ) (vs : List (View P)) → IsKept Holds (state_of g ws vs) → made_total vs ≤ place_span g
  total_few ws vs k =
      let sum = sum_by-le made_count (most_puts g) vs (λ j d h. k.few j (get_or vs j d) (slice_get-get_or vs j d h)) in
      let all : length vs * most_puts g ≡ g.seats * most_puts g = ap (λ (n : ℕ). n * most_puts g) k.all in
      omega (arith, most_puts_fit g)

  -- a seat at its turn can step
  pub ready_at_turn : (ws : List ℕ) (vs : List (View P)) (id : ℕ) (v : View P) (s : Start) → IsKept Holds (state_of g ws vs) → slice_get vs id ≡ Some v → IsWide g s → t.MayBegin g id s → (p : P) → (begun t g v v.phase s).phase ≡ Some p → CanStep t g ws (begun t g v v.phase s) p
  ready_at_turn ws vs id v s k at wide may p is = can_turn t Holds law g k.limits ws vs id v s v.phase p k.holds (total_few ws vs k) at refl wide may is

  pub kept_turn : (ws : List ℕ) (vs : List (View P)) (id : ℕ) (v : View P) (s : Start) (c : Scene P) → IsKept Holds (state_of g ws vs) → slice_get vs id ≡ Some v → IsWide g s → t.MayBegin g id s → made_count v < most_puts g → turned t g ws v s ≡ c
      → IsKept Holds (state_of g c.words (slice_set vs id c.view))
  kept_turn ws vs id v s c k at wide may room is = subst (λ (c : Scene P). IsKept Holds (state_of g c.words (slice_set vs id c.view))) is
      record {
        limits = k.limits;
        holds = turns t Holds law g k.limits ws vs id v s v.phase k.holds (total_few ws vs k) at refl wide may;
        long = turned_long t g ws v s ∙ k.long;
        all = length-set vs id (turned t g ws v s).view ∙ k.all;
        few = λ j u q. ⊎_elim (λ r. let e = ap made_count r.1 in let m = turned_more t g ws v s in omega arith) (λ r. k.few j u r.1) (get_set vs id j (turned t g ws v s).view u q);
      }

  -- after a turn, or where it was refused
  pub kept_after : (ws ws' : List ℕ) (vs : List (View P)) (id : ℕ) (v v' : View P) (s : Start) (r : Result (Unit {0}) AllocError) → IsKept Holds (state_of g ws vs) → slice_get vs id ≡ Some v → IsWide g s → t.MayBegin g id s → made_count v < most_puts g
      → OnOk r (turned t g ws v s ≡ record { words = ws'; view = v' }) → OnErr r ((ws' ≡ ws) × (v' ≡ v)) → IsKept Holds (state_of g ws' (slice_set vs id v'))
  kept_after ws ws' vs id v v' s (Ok x) k at wide may room ok err = kept_turn ws vs id v s record { words = ws'; view = v' } k at wide may room ok
  kept_after ws ws' vs id v v' s (Err x) k at wide may room ok err =
      subst (λ (l : List (View P)). IsKept Holds (state_of g ws' l)) (sym (ap (λ (u : View P). slice_set vs id u) err.1 ∙ set_again vs id v at)) (subst (λ (w : List ℕ). IsKept Holds (state_of g w vs)) (sym err.0) k)

  pub start_kept : IsWithinLimits g → IsKept Holds record { shape = g; state = start_state P g }
  start_kept l = record {
    limits = l;
    holds = law.starts g l;
    long = length-map (range_with_len 0 (word_count g)) (start_at g) ∙ length-range_with_len 0 (word_count g);
    all = length-replicate g.seats (resting P g);
    few = λ j u q. let e = ap made_count (get_replicate g.seats (resting P g) j u q) in omega arith;
  }

-- the view that is read at a seat's number
pub seat_is : {P : Type 0} (Holds : Fact P) (g : Grid) (ws : List ℕ) (vs : List (View P)) (id : ℕ) (v : View P) → IsKept Holds (state_of g ws vs) → id < g.seats → v ≡ get_or vs id v → slice_get vs id ≡ Some v
seat_is Holds g ws vs id v k h e = slice_get_read vs g.seats id v (sym k.all) h e
