-- A seat whose turns begin nothing is at rest after its call's bound of them.
use Rattle.std.proofs.Common.{◌≡◌, ℕ, zero, suc, ◌+◌, ◌<◌, ◌≤◌, ◌⊎◌, List, true, false, length, refl, sym, ap, ◌∙◌, subst, inl, inr, ⊎_elim, arith}
use Rattle.std.specs.Prelude.{Option, Some, None, is_some, slice_get, slice_set, unwrap_or}
use Rattle.std.proofs.lemmas.Option.{slice_get-get_or}
use Rattle.cursor_word.specs.Shape.{Grid}
use Rattle.cursor_word.specs.Cursor.{most_puts}
use Rattle.rail.specs.declared.entry.Placed.{Placed}
use Rattle.machine.specs.declared.op.After.{After}
use Rattle.machine.specs.declared.op.After.TheVariants.{Next, Done}
use Rattle.machine.specs.declared.view.View.{View}
use Rattle.machine.specs.declared.event.Start.TheVariants as start
use Rattle.machine.specs.Table.{Table}
use Rattle.machine.specs.Steps.{MachineState, Scene, ShapedState, Suits, begun, finds, go, goes, is_mid_call, made_after, moves, phase_after, resting, run, step, turn, turned, view_after, view_of, words_after}
use Rattle.machine.specs.Invariant.{Fact, IsInvariant, IsKept, made_count}
use Rattle.machine.specs.Bounds.{IsRanked, call_bound}
use Rattle.machine.proofs.Lists.{get_set_same}
use Rattle.machine.proofs.Kept.{kept_turn, ready_at_turn, state_of, view_is}
use Rattle.machine.proofs.Calls.{idle_turn}

module _ {P : Type 0} (t : Table P) (g : Grid) where
  pub go_on : (w : MachineState P) (id n : ℕ) → run t g w (goes id (suc n)) ≡ step t g (run t g w (goes id n)) (go id)
  go_on w id zero = refl
  go_on w id (suc n) = go_on (step t g w (go id)) id n

  -- a seat at rest stays so
  pub idle_goes : (w : MachineState P) (id n : ℕ) (v : View P) → slice_get w.views id ≡ Some v → v.phase ≡ None → run t g w (goes id n) ≡ w
  idle_goes w id zero v at rest = refl
  idle_goes w id (suc n) v at rest = ap (λ (k : MachineState P). run t g k (goes id n)) (idle_turn t g w id v at rest) ∙ idle_goes w id n v at rest

-- after n steps of a call it goes on, nothing was made yet, and its rank leaves room for them
record IsOnWay {P : Type 0} (t : Table P) (g : Grid) (v u : View P) (n : ℕ) : Type 0 where
  phase : P
  stands : u.phase ≡ Some phase
  made : u.made ≡ v.made
  room : t.rank g phase + n ≤ call_bound g

module _ {P : Type 0} (t : Table P) (Holds : Fact P) (law : IsInvariant t Holds) (ranked : IsRanked t) (g : Grid) (w0 : MachineState P) (id : ℕ) (v : View P) (suits : Suits t g (go id)) (few : made_count v < most_puts g) where
  record Stands (w : MachineState P) (n : ℕ) : Type 0 where
    kept : IsKept Holds (state_of g w.words w.views)
    view : View P
    at : slice_get w.views id ≡ Some view
    stands : (view.phase ≡ None) ⊎ IsOnWay t g v view n

  in_range : (ws : List ℕ) (vs : List (View P)) (u : View P) (p : P) → IsKept Holds (state_of g ws vs) → slice_get vs id ≡ Some u → u.phase ≡ Some p → t.IsInRange g p
  in_range ws vs u p k at e = (ready_at_turn t Holds law g ws vs id u start.Go k at suits.wide suits.may_begin p (subst (λ (o : Option P). (begun t g u o start.Go).phase ≡ Some p) (sym e) e)).range

  after_step : (u : View P) (p : P) (n : ℕ) (b : After P) → t.IsInRange g p → u.phase ≡ Some p → u.made ≡ v.made → t.rank g p + n ≤ call_bound g → (found : ℕ) → t.after g p found ≡ b → (u' : View P) → u'.phase ≡ phase_after b → u'.made ≡ made_after u.made u.entry b
      → (u'.phase ≡ None) ⊎ IsOnWay t g v u' (suc n)
  after_step u p n (Next q) range e made room found is u' phase' made' = inr record { phase = q; stands = phase'; made = made' ∙ made; room = let f = ranked.falls g p q found range is in omega arith }
  after_step u p n (Done a) range e made room found is u' phase' made' = inl phase'

  -- a turn in a call
  turns_on : (w : MachineState P) (n : ℕ) (u : View P) (x : IsOnWay t g v u n) → IsKept Holds (state_of g w.words w.views) → slice_get w.views id ≡ Some u → Stands (step t g w (go id)) (suc n)
  turns_on w n u x k at =
      let p : P = x.phase in
      let old : ℕ = finds t g w.words u p in
      let c : Scene P = record { words = words_after t g w.words u p; view = view_after t g w.words u p } in
      let is : turned t g w.words u start.Go ≡ c = ap (λ (o : Option P). moves t g w.words (begun t g u o start.Go) (begun t g u o start.Go).phase) x.stands ∙ ap (moves t g w.words u) x.stands in
      let many : made_count u < most_puts g = let e = ap (λ (l : List Placed). length l) x.made in omega arith in
      let new : MachineState P = record { words = c.words; views = slice_set w.views id c.view } in
      let stepped : new ≡ step t g w (go id) = sym (ap (turn t g w id start.Go) at ∙ ap (λ (c : Scene P). record { words = c.words; views = slice_set w.views id c.view }) is) in
      subst (λ (w : MachineState P). Stands w (suc n)) stepped
      record {
        kept = kept_turn t Holds law g w.words w.views id u start.Go c k at suits.wide suits.may_begin many is;
        view = c.view;
        at = get_set_same w.views id u c.view at;
        stands = after_step u p n (t.after g p old) (in_range w.words w.views u p k at x.stands) x.stands x.made x.room old refl c.view refl refl;
      }

  next : (w : MachineState P) (n : ℕ) → Stands w n → Stands (step t g w (go id)) (suc n)
  next w n s =
      ⊎_elim
      (λ rest. subst (λ (w : MachineState P). Stands w (suc n)) (sym (idle_turn t g w id s.view s.at rest)) record { kept = s.kept; view = s.view; at = s.at; stands = inl rest })
      (λ x. turns_on w n s.view x s.kept s.at) s.stands

  module _ (kept : IsKept Holds (state_of g w0.words w0.views)) (at : slice_get w0.views id ≡ Some v) where
    first : (o : Option P) → v.phase ≡ o → (v.phase ≡ None) ⊎ IsOnWay t g v v zero
    first None e = inl e
    first (Some p) e = inr record { phase = p; stands = e; made = refl; room = let r = ranked.within g p (in_range w0.words w0.views v p kept at e) in omega arith }

    goes_on : (n : ℕ) → Stands (run t g w0 (goes id n)) n
    goes_on zero = record { kept = kept; view = v; at = at; stands = first v.phase refl }
    goes_on (suc n) = subst (λ (w : MachineState P). Stands w (suc n)) (sym (go_on t g w0 id n)) (next (run t g w0 (goes id n)) n (goes_on n))

module _ {P : Type 0} (t : Table P) (s : ShapedState P) (id : ℕ) where
  abbrev pub after : ℕ → ShapedState P
  after n = record { shape = s.shape; state = run t s.shape s.state (goes id n) }

  module _ (Holds : Fact P) (kept : IsKept Holds s) (suits : Suits t s.shape (go id)) where
    there : slice_get s.state.views id ≡ Some (view_of s id)
    there =
        let d : View P = resting P s.shape in
        let e = slice_get-get_or s.state.views id d (omega (arith, kept.all, suits.seat)) in
        e ∙ ap Some (sym (ap (λ (o : Option (View P)). unwrap_or o d) e))

    pub stays_idle : (n : ℕ) → (view_of s id).phase ≡ None → after n ≡ s
    stays_idle n rest = ap (λ (w : MachineState P). record { shape = s.shape; state = w }) (idle_goes t s.shape s.state id n (view_of s id) there rest)

    module _ (law : IsInvariant t Holds) (ranked : IsRanked t) (few : made_count (view_of s id) < most_puts s.shape) where
      at_step : (n : ℕ) → Stands t Holds law ranked s.shape s.state id (view_of s id) suits few (after n).state n
      at_step n = goes_on t Holds law ranked s.shape s.state id (view_of s id) suits few kept there n

      room_in : (u : View P) (n : ℕ) → is_mid_call u ≡ true → (u.phase ≡ None) ⊎ IsOnWay t s.shape (view_of s id) u n → made_count u < most_puts s.shape
      room_in u n mid (inl rest) = let e : is_mid_call u ≡ false = ap is_some rest in cc
      room_in u n mid (inr x) = let e = ap (λ (l : List Placed). length l) x.made in omega arith

      -- a seat in mid-call has made no entry more
      pub room_after : (n : ℕ) → is_mid_call (view_of (after n) id) ≡ true → made_count (view_of (after n) id) < most_puts s.shape
      room_after n mid =
          let x = at_step n in
          let e : view_of (after n) id ≡ x.view = view_is (after n) id x.view x.at in
          subst (λ (u : View P). made_count u < most_puts s.shape) (sym e) (room_in x.view n (ap is_mid_call (sym e) ∙ mid) x.stands)

      none_left : (u : View P) (n : ℕ) → IsKept Holds (after n) → slice_get (after n).state.views id ≡ Some u → call_bound s.shape ≤ n → (u.phase ≡ None) ⊎ IsOnWay t s.shape (view_of s id) u n → u.phase ≡ None
      none_left u n k at far (inl rest) = rest
      none_left u n k at far (inr x) =
          let r = in_range t Holds law ranked s.shape s.state id (view_of s id) suits few (after n).state.words (after n).state.views u x.phase k at x.stands in
          absurd (omega (arith, ranked.some_left s.shape x.phase r, x.room))

      -- after the bound of a call the seat is at rest
      pub rests_after : (n : ℕ) → call_bound s.shape ≤ n → (view_of (after n) id).phase ≡ None
      rests_after n far =
          let x = at_step n in
          ap (λ (u : View P). u.phase) (view_is (after n) id x.view x.at) ∙ none_left x.view n x.kept x.at far x.stands
