-- A call in mid-way: what its loop keeps from step to step.
use Rattle.std.proofs.Common.{◌≡◌, ℕ, ◌<◌, Bool, true, false, List, [], ◌∷◌, ◌++◌, length, map, sym, refl, ap, ◌∙◌, subst, arith, append_assoc, append-nil, length-append}
use Rattle.std.specs.Prelude.{Option, Some, None, if◌then◌else◌}
use Rattle.std.proofs.lemmas.List.{map-append}
use Rattle.cursor_word.specs.Shape.{Grid}
use Rattle.cursor_word.specs.Cursor.{most_puts}
use Rattle.rail.specs.Rail.{Puts, Takes}
use Rattle.rail.specs.declared.entry.Placed.{Placed}
use Rattle.rail.specs.declared.answer.Answer.{Answer}
use Rattle.rail.specs.declared.answer.Answer.TheVariants as answer
use Rattle.rail.specs.declared.answer.Put.{Put}
use Rattle.rail.specs.declared.answer.Take.{Take}
use Rattle.step_log.specs.declared.log.Step.{Step}
use Rattle.step_log.specs.Log.{Keeps, Sitting}
use Rattle.machine.specs.declared.event.Start.{Start}
use Rattle.machine.specs.declared.event.Start.TheVariants as start
use Rattle.machine.specs.declared.view.View.{View}
use Rattle.machine.specs.declared.op.Op.{Op}
use Rattle.machine.specs.declared.op.After.{After}
use Rattle.machine.specs.declared.op.After.TheVariants.{Next, Done}
use Rattle.machine.specs.Ops.{index, moved}
use Rattle.machine.specs.Table.{Table}
use Rattle.machine.specs.Steps.{answer_after, begun, made_after, phase_after, seen, taken_after}
use Rattle.machine.proofs.Turns.{begun_made}
use Rattle.machine.specs.Table.{Reading, reads_word}
use Rattle.call_laws.specs.Calls.{IsCallTable, IsOfKind, IsWordWithin, ReadsInOrder}
use Rattle.call_laws.specs.Answers.{HasTrail, Promises, ValuesLead, first_phase}
use Rattle.call_steps.specs.Rule.{DoesStep, IsAfterInRange, MayDo, MayFind, Moves, Rule, RunsCalls, in_call, in_phase, logged, value_of}
use Rattle.call_steps.specs.Buffer.{Gathers, out_after}
use Rattle.call_steps.specs.Call.{HasPut, HasTaken, Leads, PutLeaves, TakeLeaves, Walks}
use Rattle.call_steps.specs.Midway.{Call, IsAt, IsPutAt, IsPutOn, IsTakeAt, IsTakeOn, Took, put_call, steps_left, take_call, view_in}
use Rattle.call_steps.proofs.Seen.{noted_value}
use Rattle.call_steps.proofs.Follows.{PutFollows, TakeFollows, out_long, put_follows, put_takes_none, take_follows, take_makes_none, takes_out}

leads_on : {P : Type 0} (t : Table P) (g : Grid) (entry : List ℕ) (s : After P) (ks : List Step) (p : P) (k : Step) (b : After P) → Leads t g entry s ks (Next p) → k ≡ logged (t.want g p entry) (value_of k) → t.after g p (value_of k) ≡ b
    → Leads t g entry s (ks ++ k ∷ []) b
leads_on t g entry s [] p k b l wanted follows = subst (λ z. Leads t g entry z (k ∷ []) b) (sym l) (wanted, follows)
leads_on t g entry (Next q) (j ∷ js) p k b l wanted follows = (l.0, leads_on t g entry (t.after g q (value_of j)) js p k b l.1 wanted follows)
leads_on t g entry (Done a) (j ∷ js) p k b l wanted follows = l

values_lead : {P : Type 0} (t : Table P) (g : Grid) (entry : List ℕ) (s : After P) (ks : List Step) (b : After P) → Leads t g entry s ks b → ValuesLead t g entry s (map value_of ks) b
values_lead t g entry s [] b l = l
values_lead t g entry (Next p) (k ∷ ks) b l = (noted_value (t.want g p entry) (value_of k) ∙ ap value_of (sym l.0), values_lead t g entry (t.after g p (value_of k)) ks b l.1)
values_lead t g entry (Done a) (k ∷ ks) b l = l

may_on : {P : Type 0} (g : Grid) (v w : View P) (s : Start) → w.made ≡ v.made → MayDo g v s → MayDo g w s
may_on g v w (start.Put e) made may = (may.0, subst (λ (l : List Placed). length l < most_puts g) (sym made) may.1)
may_on g v w start.Take made may = tt
may_on g v w start.Go made may = may

put_made : (old made new : List Placed) (hand entry : List ℕ) (a : Put) → made ≡ old → hand ≡ entry → PutLeaves made new hand a → PutLeaves old new entry a
put_made old made new hand entry a same held leaves = subst (λ (l : List Placed). PutLeaves l new entry a) same (subst (λ (e : List ℕ). PutLeaves made new e a) held leaves)

walks_on : {P V : Type 0} (t : Table P) (r : Rule P V) (g : Grid) (entry : List ℕ) (s : After P) (v : V) (ks : List Step) (u : V) (p : P) (k : Step) (w : V) → Walks t r g s v ks u → Leads t g entry s ks (Next p) → r.Tells u p (value_of k)
    → w ≡ r.moves_to u p (value_of k) → Walks t r g s v (ks ++ k ∷ []) w
walks_on t r g entry s v [] u p k w walk l tells moves =
    subst (λ z. Walks t r g z v (k ∷ []) w) (sym l) (subst (λ z. r.Tells z p (value_of k)) (sym walk) tells, ap (λ z. r.moves_to z p (value_of k)) walk ∙ sym moves)
walks_on t r g entry (Next q) v (j ∷ js) u p k w walk l tells moves = (walk.0, walks_on t r g entry (t.after g q (value_of j)) (r.moves_to v q (value_of j)) js u p k w walk.1 l.1 tells moves)
walks_on t r g entry (Done b) v (j ∷ js) u p k w walk l tells moves = l

module _ {P V : Type 0} (t : Table P) (drops : Bool) (r : Rule P V) where
  -- a call that goes on is at the phase that follows
  pub put_at : (c : Call P V) (now : Sitting V) (b : After P) (p : P) → b ≡ Next p → IsPutOn t drops r c now b → IsPutAt t drops r c now p
  put_at c now b p is on = subst (λ (z : After P). IsPutOn t drops r c now z) is on

  pub take_at : (c : Call P V) (now : Sitting V) (out : List ℕ) (b : After P) (p : P) → b ≡ Next p → IsTakeOn t drops r c now out b → IsTakeAt t drops r c now out p
  take_at c now out b p is on = subst (λ (z : After P). IsTakeOn t drops r c now out z) is on

  module _ (table : IsCallTable t) (reads : ReadsInOrder t) {K : Type 0} (holds : K → List ℕ → List V → Type 0) (laws : RunsCalls r t drops holds) where
    pub left_falls : (g : Grid) (p : P) (n : ℕ) (b : After P) → t.after g p n ≡ b → t.IsInRange g p → steps_left t g b < t.rank g p
    left_falls g p n (Next q) is h = table.ranked.falls g p q n h is
    left_falls g p n (Done a) is h = let some = table.ranked.some_left g p h in omega arith

    grid_in_call : (v : V) (s : Start) (ph : Option P) → r.Sits v s → (r.view_of v).phase ≡ ph → r.grid_of (in_phase r v s ph) ≡ r.grid_of v
    grid_in_call v s None sits rest = (laws.call_begins v s sits rest).1
    grid_in_call v s (Some p) sits here = refl

    sits_in_call : (v : V) (s : Start) (ph : Option P) → r.Sits v s → (r.view_of v).phase ≡ ph → r.Sits (in_phase r v s ph) s
    sits_in_call v s None sits rest = (laws.call_begins v s sits rest).2
    sits_in_call v s (Some p) sits here = sits

    made_in_call : (v : V) (s : Start) (ph : Option P) → r.Sits v s → (r.view_of v).phase ≡ ph → (r.view_of (in_phase r v s ph)).made ≡ (r.view_of v).made
    made_in_call v s None sits rest = ap (λ (w : View P). w.made) (laws.call_begins v s sits rest).0 ∙ begun_made t (r.grid_of v) (r.view_of v) None s
    made_in_call v s (Some p) sits here = refl

    -- the view with which a call begins
    begins_view : (v : V) (s : Start) → r.Sits v s → (r.view_of v).phase ≡ None → r.view_of (in_call r v s) ≡ begun t (r.grid_of v) (r.view_of v) None s
    begins_view v s sits rest = ap r.view_of (ap (in_phase r v s) rest) ∙ (laws.call_begins v s sits rest).0

    begins_at : (c : Call P V) (entry : List ℕ) → r.grid_of c.before.view ≡ c.shape → r.Sits c.before.view c.start → (r.view_of c.before.view).phase ≡ None → MayDo c.shape (r.view_of c.before.view) c.start → t.IsInRange c.shape c.first
        → (let b = begun t c.shape (r.view_of c.before.view) None c.start in b.phase ≡ Some c.first → t.want c.shape c.first b.entry ≡ t.want c.shape c.first entry → b.trail ≡ [] → IsAt t drops r c entry c.before c.first)
    begins_at c entry grid sits rest may range here wants none =
        let u : in_call r c.before.view c.start ≡ r.begins c.before.view c.start = ap (in_phase r c.before.view c.start) rest in
        let v : r.view_of (in_call r c.before.view c.start) ≡ begun t c.shape (r.view_of c.before.view) None c.start = begins_view c.before.view c.start sits rest ∙ ap (λ (g : Grid). begun t g (r.view_of c.before.view) None c.start) grid in
        record {
          same = refl;
          grid = grid;
          sits = sits;
          may = may;
          in_range = range;
          here = ap (λ (w : View P). w.phase) v ∙ here;
          wants = ap (λ (w : View P). t.want c.shape c.first w.entry) v ∙ wants;
          steps = [];
          leads = refl;
          walk = sym u;
          values = ap (λ (w : View P). w.trail) v ∙ none;
          bound = omega arith;
          log = sym (append-nil c.before.log);
        }

    module _ (c : Call P V) (entry : List ℕ) (now : Sitting V) (p : P) (i : IsAt t drops r c entry now p) where
      -- the step of the phase keeps the rule
      pub keeps_here : (key : K) (pick : Start) (o : Op) → pick ≡ c.start → o ≡ t.want c.shape p entry → Keeps (holds key) now.view (index o) (moved o) (λ n. DoesStep r pick now.view (logged o n))
      keeps_here key pick o picks wants =
          let u = in_call r now.view c.start in
          let is : t.want (r.grid_of now.view) p (r.view_of u).entry ≡ o = ap (λ (h : Grid). t.want h p (r.view_of u).entry) i.grid ∙ (i.wants ∙ sym wants) in
          let may : MayDo (r.grid_of now.view) (r.view_of now.view) c.start = subst (λ (h : Grid). MayDo h (r.view_of now.view) c.start) (sym i.grid) i.may in
          subst (λ (s : Start). Keeps (holds key) now.view (index o) (moved o) (λ n. DoesStep r s now.view (logged o n))) (sym picks)
          (subst (λ (q : Op). Keeps (holds key) now.view (index q) (moved q) (λ n. DoesStep r c.start now.view (logged q n))) is (laws.kept key now.view c.start p i.sits may i.here))

      -- the step that was done, and what the rule told of the value that it found
      module _ (x : ℕ) (pick : Start) (o : Op) (next : Sitting V) (picks : pick ≡ c.start) (wants : o ≡ t.want c.shape p entry) (logs : next ≡ record { id = now.id; view = next.view; log = now.log ++ logged o x ∷ [] })
          (told : DoesStep r pick now.view (logged o x) next.view) (value : x ≡ value_of (logged o x)) where
        abbrev here_view : V
        here_view = in_call r now.view c.start

        moved_here : Moves r here_view (Some p) x next.view
        moved_here = subst (λ (n : ℕ). Moves r here_view (Some p) n next.view) (sym value)
            (subst (λ (ph : Option P). Moves r here_view ph (value_of (logged o x)) next.view) i.here
            (subst (λ (s : Start). DoesStep r s now.view (logged o x) next.view) picks told))

        here_grid : r.grid_of here_view ≡ c.shape
        here_grid = grid_in_call now.view c.start (r.view_of now.view).phase i.sits refl ∙ i.grid

        here_sits : r.Sits here_view c.start
        here_sits = sits_in_call now.view c.start (r.view_of now.view).phase i.sits refl

        pub grid_next : r.grid_of next.view ≡ c.shape
        grid_next = ap r.grid_of moved_here.0 ∙ ((laws.phase_moves here_view c.start p x here_sits).1 ∙ here_grid)

        pub sits_next : r.Sits next.view c.start
        sits_next = subst (λ (w : V). r.Sits w c.start) (sym moved_here.0) (laws.phase_moves here_view c.start p x here_sits).2

        may_find : MayFind t c.shape p x
        may_find = subst (λ (h : Grid). MayFind t h p x) here_grid (laws.told here_view p x moved_here.1)

        pub finds_fit : t.FindsFit p x
        finds_fit = may_find.fits

        view_on : r.view_of next.view ≡ seen t c.shape (r.view_of here_view) p x
        view_on = ap r.view_of moved_here.0 ∙ ((laws.phase_moves here_view c.start p x here_sits).0 ∙ ap (λ (h : Grid). seen t h (r.view_of here_view) p x) here_grid)

        abbrev step : Step
        step = logged (t.want c.shape p entry) x

        step_value : x ≡ value_of step
        step_value = subst (λ (q : Op). x ≡ value_of (logged q x)) wants value

        leads_next : (b : After P) → t.after c.shape p x ≡ b → Leads t c.shape entry (Next c.first) (i.steps ++ step ∷ []) b
        leads_next b is = leads_on t c.shape entry (Next c.first) i.steps p step b i.leads (ap (logged (t.want c.shape p entry)) step_value) (ap (t.after c.shape p) (sym step_value) ∙ is)

        walk_next : Walks t r c.shape (Next c.first) (r.begins c.before.view c.start) (i.steps ++ step ∷ []) next.view
        walk_next = walks_on t r c.shape entry (Next c.first) (r.begins c.before.view c.start) i.steps here_view p step next.view i.walk i.leads
            (subst (λ (n : ℕ). r.Tells here_view p n) step_value moved_here.1) (moved_here.0 ∙ ap (r.moves_to here_view p) step_value)

        trail_next : (r.view_of next.view).trail ≡ map value_of (i.steps ++ step ∷ [])
        trail_next = ap (λ (w : View P). w.trail) view_on
            ∙ (ap (λ (n : ℕ). (r.view_of here_view).trail ++ n ∷ []) (noted_value (t.want c.shape p (r.view_of here_view).entry) x
            ∙ ap (λ (q : Op). value_of (logged q x)) i.wants)
            ∙ (ap (λ (l : List ℕ). l ++ value_of step ∷ []) i.values ∙ sym (map-append value_of i.steps (step ∷ []))))

        log_next : next.log ≡ c.before.log ++ (i.steps ++ step ∷ [])
        log_next = ap (λ (z : Sitting V). z.log) logs ∙ (ap (λ (q : Op). now.log ++ logged q x ∷ []) wants ∙ (ap (λ (l : List Step). l ++ step ∷ []) i.log ∙ append_assoc c.before.log i.steps (step ∷ [])))

        -- the view in the call, where it goes on
        module _ (q : P) (is : t.after c.shape p x ≡ Next q) where
          at_next : (r.view_of next.view).phase ≡ Some q
          at_next = ap (λ (w : View P). w.phase) view_on ∙ ap phase_after is

          goes_on_view : in_call r next.view c.start ≡ next.view
          goes_on_view = ap (in_phase r next.view c.start) at_next

          goes_on : (r.view_of next.view).made ≡ (r.view_of here_view).made → t.want c.shape q (r.view_of next.view).entry ≡ t.want c.shape q entry → IsAt t drops r c entry next q
          goes_on made wants_next =
              let u = goes_on_view in
              let less = table.ranked.falls c.shape p q x i.in_range is in
              let bound = i.bound in
              record {
                same = ap (λ (z : Sitting V). z.id) logs ∙ i.same;
                grid = grid_next;
                sits = sits_next;
                may = may_on c.shape (r.view_of now.view) (r.view_of next.view) c.start (made ∙ made_in_call now.view c.start (r.view_of now.view).phase i.sits refl) i.may;
                in_range = subst (IsAfterInRange t c.shape) is may_find.follows;
                here = ap (λ (w : V). (r.view_of w).phase) u ∙ at_next;
                wants = ap (λ (w : V). t.want c.shape q (r.view_of w).entry) u ∙ wants_next;
                steps = i.steps ++ step ∷ [];
                leads = leads_next (Next q) is;
                walk = subst (Walks t r c.shape (Next c.first) (r.begins c.before.view c.start) (i.steps ++ step ∷ [])) (sym u) walk_next;
                values = ap (λ (w : V). (r.view_of w).trail) u ∙ trail_next;
                bound = omega (arith, length-append i.steps (step ∷ []));
                log = log_next;
              }

        -- to the answer
        ends : (a : Answer) → t.after c.shape p x ≡ Done a → Took t drops r c entry next a
        ends a is =
            let bound = i.bound in
            let some = table.ranked.some_left c.shape p i.in_range in
            (i.steps ++ step ∷ [], record { leads = leads_next (Done a) is; values = trail_next; log = log_next; few = omega (arith, length-append i.steps (step ∷ [])) }, walk_next)

        -- what the queue promises of the answer
        promised_here : (a : Answer) → t.after c.shape p x ≡ Done a → first_phase t c.shape (r.view_of here_view) p ≡ c.first → Promises c.shape drops (r.view_of here_view) (r.view_of next.view) a
        promised_here a is first =
            let leads : ValuesLead t c.shape entry (Next c.first) (r.view_of here_view).trail (Next p) = subst (λ (l : List ℕ). ValuesLead t c.shape entry (Next c.first) l (Next p)) (sym i.values) (values_lead t c.shape entry (Next c.first) i.steps (Next p) i.leads) in
            let trail : HasTrail t c.shape (r.view_of here_view) p = (entry, subst (λ (f : P). ValuesLead t c.shape entry (Next f) (r.view_of here_view).trail (Next p)) (sym first) leads) in
            let promised = subst (λ (h : Grid). t.after h p x ≡ Done a → HasTrail t h (r.view_of here_view) p → Promises h drops (r.view_of here_view) (seen t h (r.view_of here_view) p x) a) here_grid (laws.promised here_view p x a moved_here.1) is trail in
            subst (λ (w : View P). Promises c.shape drops (r.view_of here_view) w a) (sym view_on) promised

        same_next : next.id ≡ c.before.id
        same_next = ap (λ (z : Sitting V). z.id) logs ∙ i.same

    pub put_begins : (g : Grid) (entry : List ℕ) (old : Sitting V) → r.grid_of old.view ≡ g → r.Sits old.view (start.Put entry) → (r.view_of old.view).phase ≡ None → length entry ≡ g.width → length (r.view_of old.view).made < most_puts g
        → IsPutAt t drops r (put_call t g entry old) old t.first_put
    put_begins g entry old grid sits rest wide room =
        let v = begins_view old.view (start.Put entry) sits rest in
        record {
          at = begins_at (put_call t g entry old) entry grid sits rest (wide, room) (table.put_in_range g) refl refl refl;
          begins = refl;
          putting = table.begins_put;
          in_hand = ap (λ (w : View P). w.entry) v;
          made = ap (λ (w : View P). w.made) v;
          taken = ap (λ (w : View P). w.taken) v;
        }

    module _ (c : Call P V) (now : Sitting V) (p : P) (i : IsPutAt t drops r c now p) (x : ℕ) (pick : Start) (o : Op) (next : Sitting V) (picks : pick ≡ c.start) (wants : o ≡ t.want c.shape p c.words)
        (logs : next ≡ record { id = now.id; view = next.view; log = now.log ++ logged o x ∷ [] }) (told : DoesStep r pick now.view (logged o x) next.view) (value : x ≡ value_of (logged o x)) where
      abbrev put_here : View P
      put_here = view_in t drops r c.start now

      put_kind : IsOfKind t true (t.after c.shape p x)
      put_kind = subst (λ (b : Bool). IsOfKind t b (t.after c.shape p x)) i.putting (table.stays c.shape p x)

      put_view : r.view_of next.view ≡ seen t c.shape put_here p x
      put_view = view_on c c.words now p i.at x pick o next picks wants logs told value

      put_lists : (b : After P) → t.after c.shape p x ≡ b → PutFollows t put_here.made (r.view_of next.view).made put_here.entry b
      put_lists b is = subst (λ (l : List Placed). PutFollows t put_here.made l put_here.entry b) (sym (ap (λ (w : View P). w.made) put_view))
          (subst (PutFollows t put_here.made (made_after put_here.made put_here.entry (t.after c.shape p x)) put_here.entry) is (put_follows t put_here.made put_here.entry (t.after c.shape p x) put_kind))

      put_taken : (r.view_of next.view).taken ≡ (r.view_of c.before.view).taken
      put_taken = ap (λ (w : View P). w.taken) put_view ∙ (put_takes_none t put_here.taken put_here.read (t.after c.shape p x) put_kind ∙ i.taken)

      put_hand : (r.view_of next.view).entry ≡ c.words
      put_hand = ap (λ (w : View P). w.entry) put_view ∙ i.in_hand

      put_goes_on : (q : P) → t.after c.shape p x ≡ Next q → IsPutAt t drops r c next q
      put_goes_on q is =
          let f = put_lists (Next q) is in
          let u = goes_on_view c c.words now p i.at x pick o next picks wants logs told value q is in
          record {
            at = goes_on c c.words now p i.at x pick o next picks wants logs told value q is f.1 (ap (t.want c.shape q) put_hand);
            begins = i.begins;
            putting = f.0;
            in_hand = ap (λ (w : V). (r.view_of w).entry) u ∙ put_hand;
            made = ap (λ (w : V). (r.view_of w).made) u ∙ (f.1 ∙ i.made);
            taken = ap (λ (w : V). (r.view_of w).taken) u ∙ put_taken;
          }

      put_leaves : (a : Put) → t.after c.shape p x ≡ Done (answer.Put a) → HasPut c.words (r.view_of c.before.view) (r.view_of next.view) a
      put_leaves a is = record {
        rest = ap (λ (w : View P). w.phase) put_view ∙ ap phase_after is;
        made = put_made (r.view_of c.before.view).made put_here.made (r.view_of next.view).made put_here.entry c.words a i.made i.in_hand (put_lists (Done (answer.Put a)) is);
        taken = put_taken;
        answer = ap (λ (w : View P). w.answer) put_view ∙ ap (answer_after put_here.answer) is;
        in_hand = put_hand;
      }

      put_promised : (a : Put) → t.after c.shape p x ≡ Done (answer.Put a) → Puts c.shape drops c.words (r.view_of c.before.view).made (r.view_of next.view).made (r.view_of next.view).trail a
      put_promised a is =
          let new = r.view_of next.view in
          let first = ap (λ (b : Bool). if b then t.first_put else t.first_take c.shape put_here.taken) i.putting ∙ sym i.begins in
          let promised = promised_here c c.words now p i.at x pick o next picks wants logs told value (answer.Put a) is first in
          subst (λ (entry : List ℕ). Puts c.shape drops entry (r.view_of c.before.view).made new.made new.trail a) i.in_hand
          (subst (λ (made : List Placed). Puts c.shape drops put_here.entry made new.made new.trail a) i.made promised)

      -- a step of a put
      pub put_on : (b : After P) → t.after c.shape p x ≡ b → IsPutOn t drops r c next b
      put_on (Next q) is = put_goes_on q is
      put_on (Done (answer.Take a)) is = put_lists (Done (answer.Take a)) is
      put_on (Done (answer.Put a)) is = record {
        same = same_next c c.words now p i.at x pick o next picks wants logs told value;
        grid = grid_next c c.words now p i.at x pick o next picks wants logs told value;
        sits = sits_next c c.words now p i.at x pick o next picks wants logs told value;
        view = put_leaves a is;
        promised = put_promised a is;
        steps = ends c c.words now p i.at x pick o next picks wants logs told value (answer.Put a) is;
      }

    pub take_begins : (g : Grid) (out : List ℕ) (old : Sitting V) → r.grid_of old.view ≡ g → r.Sits old.view start.Take → (r.view_of old.view).phase ≡ None → length out ≡ g.width → IsTakeAt t drops r (take_call t r g out old) old out (t.first_take g (r.view_of old.view).taken)
    take_begins g out old grid sits rest long =
        let v = begins_view old.view start.Take sits rest in
        let first : P = t.first_take g (r.view_of old.view).taken in
        record {
          at = begins_at (take_call t r g out old) [] grid sits rest tt (table.take_in_range g (r.view_of old.view).taken) refl (table.takes_blind g first _ [] (table.begins_take g (r.view_of old.view).taken)) refl;
          begins = refl;
          taking = table.begins_take g (r.view_of old.view).taken;
          in_hand = ap (λ (w : View P). w.entry) v;
          made = ap (λ (w : View P). w.made) v;
          taken = ap (λ (w : View P). w.taken) v;
          long = long;
          gathers = subst (λ (s : Reading). Gathers s out out (view_in t drops r start.Take old).read) (sym (reads.begins g (r.view_of old.view).taken)) (refl, ap (λ (w : View P). w.read) v);
        }

    module _ (c : Call P V) (now : Sitting V) (out : List ℕ) (p : P) (i : IsTakeAt t drops r c now out p) where
      -- what a take asks of its buffer, and of the step that its phase wants
      pub take_wants : t.want c.shape p out ≡ t.want c.shape p []
      take_wants = table.takes_blind c.shape p out [] i.taking

      pub take_reads_within : IsWordWithin (t.reading p) (length out)
      take_reads_within = subst (IsWordWithin (t.reading p)) (sym i.long) (reads.within c.shape p i.at.in_range)

      module _ (x : ℕ) (pick : Start) (o : Op) (next : Sitting V) (out' : List ℕ) (picks : pick ≡ c.start) (wants : o ≡ t.want c.shape p out)
          (logs : next ≡ record { id = now.id; view = next.view; log = now.log ++ logged o x ∷ [] }) (told : DoesStep r pick now.view (logged o x) next.view) (value : x ≡ value_of (logged o x))
          (keeps : out' ≡ out_after (t.reading p) out x) where
        abbrev take_here : View P
        take_here = view_in t drops r c.start now

        take_kind : IsOfKind t false (t.after c.shape p x)
        take_kind = subst (λ (b : Bool). IsOfKind t b (t.after c.shape p x)) i.taking (table.stays c.shape p x)

        take_view : r.view_of next.view ≡ seen t c.shape take_here p x
        take_view = view_on c [] now p i.at x pick o next picks (wants ∙ take_wants) logs told value

        take_lists : (b : After P) → t.after c.shape p x ≡ b → TakeFollows t take_here.taken (r.view_of next.view).taken c.words out' (r.view_of next.view).read b
        take_lists b is = subst (λ (l : List Placed). TakeFollows t take_here.taken l c.words out' (r.view_of next.view).read b) (sym (ap (λ (w : View P). w.taken) take_view))
            (subst (λ (l : List ℕ). TakeFollows t take_here.taken (taken_after take_here.taken take_here.read (t.after c.shape p x)) c.words out' l b) (sym (ap (λ (w : View P). w.read) take_view))
            (subst (λ (l : List ℕ). TakeFollows t take_here.taken (taken_after take_here.taken take_here.read (t.after c.shape p x)) c.words l (if reads_word (t.reading p) then take_here.read ++ x ∷ [] else take_here.read) b) (sym keeps)
            (subst (TakeFollows t take_here.taken (taken_after take_here.taken take_here.read (t.after c.shape p x)) c.words (out_after (t.reading p) out x) (if reads_word (t.reading p) then take_here.read ++ x ∷ [] else take_here.read)) is
            (take_follows t c.shape.width take_here.taken c.words out take_here.read (t.reading p) x (t.after c.shape p x) take_kind (reads.within c.shape p i.at.in_range) i.long i.gathers (reads.goes_on c.shape p x i.taking)))))

        take_made : (r.view_of next.view).made ≡ take_here.made
        take_made = ap (λ (w : View P). w.made) take_view ∙ take_makes_none t take_here.made take_here.entry (t.after c.shape p x) take_kind

        take_hand : (r.view_of next.view).entry ≡ (r.view_of c.before.view).entry
        take_hand = ap (λ (w : View P). w.entry) take_view ∙ i.in_hand

        take_goes_on : (q : P) → t.after c.shape p x ≡ Next q → IsTakeAt t drops r c next out' q
        take_goes_on q is =
            let f = take_lists (Next q) is in
            let u = goes_on_view c [] now p i.at x pick o next picks (wants ∙ take_wants) logs told value q is in
            record {
              at = goes_on c [] now p i.at x pick o next picks (wants ∙ take_wants) logs told value q is take_made (table.takes_blind c.shape q (r.view_of next.view).entry [] f.0);
              begins = i.begins;
              taking = f.0;
              in_hand = ap (λ (w : V). (r.view_of w).entry) u ∙ take_hand;
              made = ap (λ (w : V). (r.view_of w).made) u ∙ (take_made ∙ i.made);
              taken = ap (λ (w : V). (r.view_of w).taken) u ∙ (f.1 ∙ i.taken);
              long = ap length keeps ∙ (out_long (t.reading p) out x ∙ i.long);
              gathers = subst (λ (w : V). Gathers (t.reading q) c.words out' (r.view_of w).read) (sym u) f.2;
            }

        take_leaves : (a : Take) → t.after c.shape p x ≡ Done (answer.Take a) → HasTaken c.words out' (r.view_of c.before.view) (r.view_of next.view) a
        take_leaves a is = record {
          rest = ap (λ (w : View P). w.phase) take_view ∙ ap phase_after is;
          made = take_made ∙ i.made;
          taken = subst (λ (l : List Placed). TakeLeaves l (r.view_of next.view).taken c.words out' a) i.taken (take_lists (Done (answer.Take a)) is).0;
          answer = ap (λ (w : View P). w.answer) take_view ∙ ap (answer_after take_here.answer) is;
          in_hand = take_hand;
        }

        take_promised : (a : Take) → t.after c.shape p x ≡ Done (answer.Take a)
            → Takes c.shape drops (r.view_of next.view).made c.words out' (r.view_of c.before.view).taken (r.view_of next.view).taken (r.view_of next.view).trail a
        take_promised a is =
            let new = r.view_of next.view in
            let first = ap (λ (b : Bool). if b then t.first_put else t.first_take c.shape take_here.taken) i.taking ∙ (ap (t.first_take c.shape) i.taken ∙ sym i.begins) in
            let promised = promised_here c [] now p i.at x pick o next picks (wants ∙ take_wants) logs told value (answer.Take a) is first in
            subst (λ (taken : List Placed). Takes c.shape drops new.made c.words out' taken new.taken new.trail a) i.taken
            (takes_out c.shape drops new.made new.read c.words out' take_here.taken new.taken new.trail a (take_lists (Done (answer.Take a)) is).1 promised)

        -- a step of a take
        pub take_on : (b : After P) → t.after c.shape p x ≡ b → IsTakeOn t drops r c next out' b
        take_on (Next q) is = take_goes_on q is
        take_on (Done (answer.Put a)) is = take_lists (Done (answer.Put a)) is
        take_on (Done (answer.Take a)) is = let w = wants ∙ take_wants in record {
          same = same_next c [] now p i.at x pick o next picks w logs told value;
          grid = grid_next c [] now p i.at x pick o next picks w logs told value;
          sits = sits_next c [] now p i.at x pick o next picks w logs told value;
          view = take_leaves a is;
          promised = take_promised a is;
          steps = ends c [] now p i.at x pick o next picks w logs told value (answer.Take a) is;
        }
