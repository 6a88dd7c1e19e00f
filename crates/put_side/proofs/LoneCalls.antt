-- A call of a seat that is alone, along a schedule: each step of it leaves the seat alone, or gives an answer that one thread is given.
use Rattle.std.proofs.Common.{◌≡◌, ◌≢◌, ℕ, ◌⊎◌, List, refl, sym, ap, ◌∙◌, subst, inl, inr}
use Rattle.std.specs.Prelude.{Option, Some, None, length, slice_get, slice_set}
use Rattle.std.specs.List.{AllByRecursion}
use Rattle.cursor_word.specs.Shape.{Grid}
use Rattle.rail.specs.declared.answer.Answer.{Answer}
use Rattle.machine.specs.declared.event.Event.{Event}
use Rattle.machine.specs.declared.event.Start.{Start}
use Rattle.machine.specs.declared.event.Start.TheVariants as start
use Rattle.machine.specs.declared.op.After.{After}
use Rattle.machine.specs.declared.op.After.TheVariants.{Next, Done}
use Rattle.machine.specs.declared.view.View.{View}
use Rattle.machine.specs.Moments.{BeginsCall, IsCall, IsMidCall, IsUnmixed, answer_in, answer_of, moment, phase_in, phase_of}
use Rattle.machine.specs.Steps.{IsWide, MachineState, Suits, answer_after, begun, finds, moves, phase_after, turn, view_after, words_after}
use Rattle.machine.specs.Table.{Table}
use Rattle.machine.proofs.Calls.{idle_turn, view_at}
use Rattle.machine.proofs.Lists.{all_at, get_set_same, set_twice}
use Rattle.machine.proofs.Lone.{Comes, GoesOn, IsLoneRule, all_rest, answers_alone, begins_mid}
use Rattle.call_laws.specs.Calls.{IsCallTable}
use Rattle.put_side.specs.Alone.{OthersRest}
use Rattle.put_side.proofs.CallKinds.{IsOfCall, call_stays}

-- IsAlone is what a queue knows where the seat is alone in this phase, and each answer that such a call gives is one of Answers
module _ {P : Type 0} (table : Table P) (calls : IsCallTable table) (g : Grid) (seat : ℕ) (begins : Start) (IsAlone : List ℕ → List (View P) → P → Type 0)
    (AnswersAlone : Answer → Type 0) (Answers : Option Answer → Type 0) (kinds : (a : Answer) → IsOfCall table begins (Done a) → AnswersAlone a → Answers (Some a)) where
  pub record LoneState (w : MachineState P) (p : P) : Type 0 where
    pub view : View P
    pub at : slice_get w.views seat ≡ Some view
    pub is : view.phase ≡ Some p
    pub alone : IsAlone w.words w.views p
    pub kind : IsOfCall table begins (Next p)

  abbrev ComesTo : MachineState P → Type 0
  ComesTo w = Comes seat Answers LoneState w

  -- after a step of the seat: it goes on alone, or it is answered
  abbrev pub GoesAlone : List ℕ → List (View P) → After P → Type 0
  GoesAlone ws vs (Next p) = IsAlone ws vs p
  GoesAlone ws vs (Done a) = AnswersAlone a

  settles : (ws : List ℕ) (vs : List (View P)) (v v' : View P) (b : After P) → slice_get vs seat ≡ Some v → v'.phase ≡ phase_after b → v'.answer ≡ answer_after v.answer b → IsOfCall table begins b
      → GoesAlone ws (slice_set vs seat v') b → ComesTo (record { words = ws; views = slice_set vs seat v' })
  settles ws vs v v' (Next p) at ph an kind h = inl (p, record { view = v'; at = get_set_same vs seat v v' at; is = ph; alone = h; kind = kind })
  settles ws vs v v' (Done a) at ph an kind h =
      let here : slice_get (slice_set vs seat v') seat ≡ Some v' = get_set_same vs seat v v' at in
      inr (ap phase_in here ∙ ph, subst Answers (sym (ap answer_in here ∙ an)) (kinds a kind h))

  -- each step of the seat alone goes so
  module _ (goes : (ws : List ℕ) (vs : List (View P)) (v : View P) (p : P) → IsAlone ws vs p → slice_get vs seat ≡ Some v → v.phase ≡ Some p
      → GoesAlone (words_after table g ws v p) (slice_set vs seat (view_after table g ws v p)) (table.after g p (finds table g ws v p))) where
    own_moves : (ws : List ℕ) (vs : List (View P)) (v : View P) (p : P) → IsAlone ws vs p → IsOfCall table begins (Next p) → slice_get vs seat ≡ Some v → v.phase ≡ Some p
        → ComesTo (record { words = words_after table g ws v p; views = slice_set vs seat (view_after table g ws v p) })
    own_moves ws vs v p alone kind at e =
        settles (words_after table g ws v p) vs v (view_after table g ws v p) (table.after g p (finds table g ws v p)) at refl refl (call_stays table calls g begins p _ kind) (goes ws vs v p alone at e)

    own_turn : (w : MachineState P) (v : View P) (s : Start) (p : P) (ph : Option P) → IsAlone w.words w.views p → IsOfCall table begins (Next p) → slice_get w.views seat ≡ Some v → v.phase ≡ ph → ph ≡ Some p
        → (let m = moves table g w.words (begun table g v ph s) (begun table g v ph s).phase in ComesTo (record { words = m.words; views = slice_set w.views seat m.view }))
    own_turn w v s p None alone kind at e is = cc
    own_turn w v s p (Some q) alone kind at e is =
        subst (λ (o : Option P). (let m = moves table g w.words v o in ComesTo (record { words = m.words; views = slice_set w.views seat m.view }))) (sym (e ∙ is)) (own_moves w.words w.views v p alone kind at (e ∙ is))

    pub own_step : (w : MachineState P) (p : P) (s : Start) → LoneState w p → ComesTo (turn table g w seat s (slice_get w.views seat))
    own_step w p s l =
        subst (λ (o : Option (View P)). ComesTo (turn table g w seat s o)) (sym l.at) (own_turn w l.view s p l.view.phase l.alone l.kind l.at refl l.is)

    -- the first step of a call, where the seat is alone once it has begun it
    module _ (w : MachineState P) (v : View P) (at : slice_get w.views seat ≡ Some v)
        (put : (entry : List ℕ) → begins ≡ start.Put entry → IsAlone w.words (slice_set w.views seat (begun table g v None (start.Put entry))) table.first_put)
        (take : begins ≡ start.Take → IsAlone w.words (slice_set w.views seat (begun table g v None start.Take)) (table.first_take g v.taken)) where
      begins_from : (s : Start) (ph : Option P) → begins ≡ s → v.phase ≡ ph → ph ≡ None → BeginsCall s
          → (let m = moves table g w.words (begun table g v ph s) (begun table g v ph s).phase in ComesTo (record { words = m.words; views = slice_set w.views seat m.view }))
      begins_from s (Some p) same e none is = cc
      begins_from (start.Put entry) None same e none is =
          let v' : View P = begun table g v None (start.Put entry) in
          let first : P = table.first_put in
          subst (λ (vs : List (View P)). ComesTo (record { words = words_after table g w.words v' first; views = vs })) (set_twice w.views seat v' (view_after table g w.words v' first))
          (own_moves w.words (slice_set w.views seat v') v' first (put entry same) (subst (λ (b : Start). IsOfCall table b (Next first)) (sym same) calls.begins_put) (get_set_same w.views seat v v' at) refl)
      begins_from start.Take None same e none is =
          let v' : View P = begun table g v None start.Take in
          let first : P = table.first_take g v.taken in
          subst (λ (vs : List (View P)). ComesTo (record { words = words_after table g w.words v' first; views = vs })) (set_twice w.views seat v' (view_after table g w.words v' first))
          (own_moves w.words (slice_set w.views seat v') v' first (take same) (subst (λ (b : Start). IsOfCall table b (Next first)) (sym same) (calls.begins_take g v.taken)) (get_set_same w.views seat v v' at) refl)
      begins_from start.Go None same e none is = absurd is

      pub first_step : v.phase ≡ None → BeginsCall begins → ComesTo (turn table g w seat begins (slice_get w.views seat))
      first_step rest is = subst (λ (o : Option (View P)). ComesTo (turn table g w seat begins o)) (sym at) (begins_from begins v.phase refl refl rest is)

    -- where no call ends by its first step, another seat that begins one is in mid-call
    module _ (goes_on : GoesOn table) (others : (ws : List ℕ) (vs : List (View P)) (p : P) → IsAlone ws vs p → OthersRest vs seat) where
      other_view : (w : MachineState P) (p : P) (other : ℕ) (s : Start) (o : Option (View P)) → other ≢ seat → LoneState w p → slice_get w.views other ≡ o
          → (let w' = turn table g w other s (slice_get w.views other) in LoneState w' p ⊎ IsMidCall (phase_in (slice_get w'.views other)))
      other_view w p other s None apart l at = inl (subst (λ (o : Option (View P)). LoneState (turn table g w other s o) p) (sym at) l)
      other_view w p other start.Go (Some u) apart l at = inl (subst (λ (w' : MachineState P). LoneState w' p) (sym (idle_turn table g w other u at (others w.words w.views p l.alone other u apart at))) l)
      other_view w p other (start.Put entry) (Some u) apart l at = inr (begins_mid table g goes_on w other u (start.Put entry) at (others w.words w.views p l.alone other u apart at) tt)
      other_view w p other start.Take (Some u) apart l at = inr (begins_mid table g goes_on w other u start.Take at (others w.words w.views p l.alone other u apart at) tt)

      pub lone_rule : (w : MachineState P) → ComesTo (turn table g w seat begins (slice_get w.views seat)) → IsLoneRule table g seat begins Answers LoneState w
      lone_rule w first = record {
        first = first;
        stands = λ w p l. ap phase_in l.at ∙ l.is;
        own = own_step;
        other = λ w p j s apart l. other_view w p j s (slice_get w.views j) apart l refl;
      }

-- A call along a schedule at none of whose moments another seat is in mid-call: where no call ends by its first step, all seats are at rest when it begins,
-- and from there on its seat is alone.
module _ {P : Type 0} (table : Table P) (calls : IsCallTable table) (goes_on : GoesOn table) (g : Grid) (events : List Event) (suits : AllByRecursion (Suits table g) events)
    (seat n m : ℕ) (begins : Start) (call : IsCall table g events seat n m begins) where
  own_event : Suits table g (record { seat = seat; start = begins })
  own_event = all_at (Suits table g) events n _ suits call.event

  module _ (IsAlone : List ℕ → List (View P) → P → Type 0) (AnswersAlone : Answer → Type 0) (Answers : Option Answer → Type 0) (kinds : (a : Answer) → IsOfCall table begins (Done a) → AnswersAlone a → Answers (Some a))
      (goes : (ws : List ℕ) (vs : List (View P)) (v : View P) (p : P) → IsAlone ws vs p → slice_get vs seat ≡ Some v → v.phase ≡ Some p
      → GoesAlone table calls g seat begins IsAlone AnswersAlone Answers kinds (words_after table g ws v p) (slice_set vs seat (view_after table g ws v p)) (table.after g p (finds table g ws v p)))
      (others : (ws : List ℕ) (vs : List (View P)) (p : P) → IsAlone ws vs p → OthersRest vs seat) where
    -- the seat is alone once it has begun its call where all are at rest
    pub record BeginsAlone : Type 0 where
      pub put : (v : View P) (entry : List ℕ) → (let w = moment table g events n in slice_get w.views seat ≡ Some v → length entry ≡ g.width → IsAlone w.words (slice_set w.views seat (begun table g v None (start.Put entry))) table.first_put)
      pub take : (v : View P) → (let w = moment table g events n in slice_get w.views seat ≡ Some v → IsAlone w.words (slice_set w.views seat (begun table g v None start.Take)) (table.first_take g v.taken))

    pub unmixed_answers : (((j : ℕ) → phase_of table g events n j ≡ None) → BeginsAlone) → IsUnmixed table g events seat n m → Answers (answer_of table g events m seat)
    unmixed_answers from alone =
        let w : MachineState P = moment table g events n in
        let v = view_at table g events n seat own_event.seat in
        let b = from (all_rest table g events seat n m begins call goes_on own_event.seat alone) in
        let rest : v.0.phase ≡ None = ap phase_in (sym v.1) ∙ call.rested in
        let first = first_step table calls g seat begins IsAlone AnswersAlone Answers kinds goes w v.0 v.1
        (λ entry is. b.put v.0 entry v.1 (subst (IsWide g) is own_event.wide)) (λ is. b.take v.0 v.1) rest call.is_begun in
        answers_alone table g events seat n m begins call Answers (LoneState table calls g seat begins IsAlone AnswersAlone Answers kinds)
        (lone_rule table calls g seat begins IsAlone AnswersAlone Answers kinds goes goes_on others w first) alone
