-- What the rule told at the last step of a call, of the seat as the call left it up to there.
use Rattle.std.proofs.Common.{◌≡◌, ℕ, Bool, List, [], ◌∷◌, refl, sym, ap, ◌∙◌, subst}
use Rattle.std.specs.Prelude.{None}
use Rattle.cursor_word.specs.Shape.{Grid}
use Rattle.rail.specs.declared.answer.Answer.{Answer}
use Rattle.step_log.specs.declared.log.Step.{Step}
use Rattle.step_log.specs.Log.{Sitting}
use Rattle.machine.specs.declared.event.Start.{Start}
use Rattle.machine.specs.declared.view.View.{View}
use Rattle.machine.specs.declared.op.After.{After}
use Rattle.machine.specs.declared.op.After.TheVariants.{Next, Done}
use Rattle.machine.specs.Table.{Table}
use Rattle.machine.specs.Steps.{made_after, seen, taken_after}
use Rattle.machine.proofs.Turns.{begun_made, begun_taken}
use Rattle.call_steps.specs.Rule.{Rule, RunsCalls, value_of}
use Rattle.call_steps.specs.Call.{Leads, Walks}
use Rattle.call_steps.specs.Midway.{Call, Took}

next_of : {P : Type 0} (t : Table P) (g : Grid) (entry : List ℕ) (s b : After P) (j : Step) (js : List Step) → Leads t g entry s (j ∷ js) b → (p : P) × (s ≡ Next p)
next_of t g entry (Next p) b j js l = (p, refl)
next_of t g entry (Done a) b j js l = absurd l

abbrev IsDone : {P : Type 0} → After P → Type 0
IsDone (Next p) = ⊥
IsDone (Done a) = Unit {0}

module _ {P V : Type 0} (t : Table P) (drops : Bool) (r : Rule P V) where
  -- the last step of a call, by a seat whose lists are still those with which the call began
  pub record LastTold (g : Grid) (before : V) (a : Answer) : Type 0 where
    pub view : V
    pub phase : P
    pub found : ℕ
    pub grid : r.grid_of view ≡ g
    pub answers : t.after g phase found ≡ Done a
    pub told : r.Tells view phase found
    pub made : (r.view_of view).made ≡ (r.view_of before).made
    pub taken : (r.view_of view).taken ≡ (r.view_of before).taken

  module _ {K : Type 0} (holds : K → List ℕ → List V → Type 0) (laws : RunsCalls r t drops holds) where
    module _ (g : Grid) (s : Start) (entry : List ℕ) (w : V) (a : Answer) where
      last_from : (ks : List Step) (p : P) (x : ℕ) (v : V) → r.grid_of v ≡ g → r.Sits v s → r.Tells v p x → Leads t g entry (t.after g p x) ks (Done a) → Walks t r g (t.after g p x) (r.moves_to v p x) ks w → LastTold g v a
      last_from [] p x v grid sits told l walk = record { view = v; phase = p; found = x; grid = grid; answers = l; told = told; made = refl; taken = refl }
      last_from (j ∷ js) p x v grid sits told l walk =
          let n = next_of t g entry (t.after g p x) (Done a) j js l in
          let q : P = n.0 in
          let is : t.after g p x ≡ Next q = n.1 in
          let l' : Leads t g entry (Next q) (j ∷ js) (Done a) = subst (λ (b : After P). Leads t g entry b (j ∷ js) (Done a)) is l in
          let walk' : Walks t r g (Next q) (r.moves_to v p x) (j ∷ js) w = subst (λ (b : After P). Walks t r g b (r.moves_to v p x) (j ∷ js) w) is walk in
          let moved = laws.phase_moves v s p x sits in
          let view : r.view_of (r.moves_to v p x) ≡ seen t g (r.view_of v) p x = moved.0 ∙ ap (λ (h : Grid). seen t h (r.view_of v) p x) grid in
          let made : (r.view_of (r.moves_to v p x)).made ≡ (r.view_of v).made = ap (λ (u : View P). u.made) view ∙ ap (made_after (r.view_of v).made (r.view_of v).entry) is in
          let taken : (r.view_of (r.moves_to v p x)).taken ≡ (r.view_of v).taken = ap (λ (u : View P). u.taken) view ∙ ap (taken_after (r.view_of v).taken (r.view_of v).read) is in
          let last = last_from js q (value_of j) (r.moves_to v p x) (moved.1 ∙ grid) moved.2 walk'.0 l'.1 walk'.1 in
          record { view = last.view; phase = last.phase; found = last.found; grid = last.grid; answers = last.answers; told = last.told; made = last.made ∙ made; taken = last.taken ∙ taken }

      last_told : (steps : List Step) (p : P) (v : V) → r.grid_of v ≡ g → r.Sits v s → Leads t g entry (Next p) steps (Done a) → Walks t r g (Next p) v steps w → LastTold g v a
      last_told [] p v grid sits l walk = absurd (subst IsDone (sym l) tt)
      last_told (k ∷ ks) p v grid sits l walk = last_from ks p (value_of k) v grid sits walk.0 l.1 walk.1

    -- the last step of a call that answered
    pub last_of : (c : Call P V) (entry : List ℕ) (now : Sitting V) (a : Answer) → r.grid_of c.before.view ≡ c.shape → r.Sits c.before.view c.start → (r.view_of c.before.view).phase ≡ None → Took t drops r c entry now a → LastTold c.shape c.before.view a
    last_of c entry now a grid sits rest (steps, took, walk) =
        let v = c.before.view in
        let b = laws.call_begins v c.start sits rest in
        let last = last_told c.shape c.start entry now.view a steps c.first (r.begins v c.start) (b.1 ∙ grid) b.2 took.leads walk in
        record {
          view = last.view;
          phase = last.phase;
          found = last.found;
          grid = last.grid;
          answers = last.answers;
          told = last.told;
          made = last.made ∙ (ap (λ (u : View P). u.made) b.0 ∙ begun_made t (r.grid_of v) (r.view_of v) None c.start);
          taken = last.taken ∙ (ap (λ (u : View P). u.taken) b.0 ∙ begun_taken t (r.grid_of v) (r.view_of v) None c.start);
        }
