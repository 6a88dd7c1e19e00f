-- A call ends within its bound, where the rank of its phase falls at each step.
use Rattle.std.proofs.Common.{◌≡◌, ℕ, zero, suc, ◌+◌, ◌<◌, ◌≤◌, List, [], ◌∷◌, length, refl, sym, subst, ⊎_elim, arith}
use Rattle.std.specs.Prelude.{Option, Some, None, slice_get}
use Rattle.std.specs.List.{AllByRecursion}
use Rattle.std.proofs.lemmas.List.{length-append}
use Rattle.cursor_word.specs.Shape.{Grid, IsWithinLimits}
use Rattle.cursor_word.specs.Cursor.{most_puts, place_span}
use Rattle.rail.specs.declared.answer.Answer.{Answer}
use Rattle.machine.specs.declared.op.After.{After}
use Rattle.machine.specs.declared.op.After.TheVariants.{Next, Done}
use Rattle.machine.specs.declared.view.View.{View}
use Rattle.machine.specs.declared.event.Start.{Start}
use Rattle.machine.specs.declared.event.Start.TheVariants as start
use Rattle.machine.specs.declared.event.Event.{Event}
use Rattle.machine.specs.Ops.{noted}
use Rattle.machine.specs.Table.{Table}
use Rattle.machine.specs.Steps.{IsWide, MachineState, Suits, answer_after, begun, moves, phase_after, resting, seen, start_state, turn, turned}
use Rattle.machine.specs.Invariant.{Fact, IsInvariant, made_total}
use Rattle.machine.specs.Moments.{moment}
use Rattle.machine.specs.Bounds.{IsBounded, Leads, most_steps}
use Rattle.machine.proofs.Lists.{all_at, get_replicate, get_set}
use Rattle.machine.proofs.Runs.{can_turn, moment_holds, moment_total, run_next, stepped}

module _ {P : Type 0} (t : Table P) (of_phase : Grid → P → ℕ) (of_answer : Grid → Answer → ℕ) (bound : IsBounded t of_phase of_answer) (g : Grid) where
  -- the steps that a call may still take
  abbrev pub rank_left : Option P → ℕ
  rank_left None = 0
  rank_left (Some p) = t.rank g p

  abbrev most : Option P → Option Answer → ℕ
  most ph a = most_steps (of_phase g) (of_answer g) ph a

  -- the steps of a seat's call so far and those that may follow are within its bound
  abbrev pub StepsFit : View P → Type 0
  StepsFit v = length v.trail + rank_left v.phase ≤ most v.phase v.answer

  abbrev pub AllFit : List (View P) → Type 0
  AllFit vs = (j : ℕ) (u : View P) → slice_get vs j ≡ Some u → StepsFit u

  led : (high bound n : ℕ) (a : Option Answer) (b : After P) → Leads (t.rank g) (of_phase g) (of_answer g) high bound b → n + high ≤ bound → n + 1 + rank_left (phase_after b) ≤ most (phase_after b) (answer_after a b)
  led high bound n a (Next p) l h = let k = l.1 in let q = l.0 in omega arith
  led high bound n a (Done x) l h = let k = l.1 in let q = l.0 in omega arith

  steps_fit : (v : View P) (p : P) (old : ℕ) → v.phase ≡ Some p → t.IsInRange g p → StepsFit v → StepsFit (seen t g v p old)
  steps_fit v p old e r fit =
      let h : length v.trail + t.rank g p ≤ of_phase g p = subst (λ (ph : Option P). length v.trail + rank_left ph ≤ most ph v.answer) e fit in
      let n = length-append v.trail (noted (t.want g p v.entry) old ∷ []) in
      let l = led (t.rank g p) (of_phase g p) (length v.trail) v.answer (t.after g p old) (bound.leads g p old r) h in
      omega arith

  begun_fits : (v : View P) (ph : Option P) (s : Start) → StepsFit v → StepsFit (begun t g v ph s)
  begun_fits v (Some p) s fit = fit
  begun_fits v None (start.Put entry) fit = omega (arith, bound.first_put g)
  begun_fits v None start.Take fit = omega (arith, bound.first_take g v.taken)
  begun_fits v None start.Go fit = fit

  moves_fit : (ws : List ℕ) (b : View P) (ph : Option P) → b.phase ≡ ph → ((p : P) → ph ≡ Some p → t.IsInRange g p) → StepsFit b → StepsFit (moves t g ws b ph).view
  moves_fit ws b None e r fit = fit
  moves_fit ws b (Some p) e r fit = steps_fit b p _ e (r p refl) fit

  module _ (Holds : Fact P) (law : IsInvariant t Holds) (limits : IsWithinLimits g) where
    any_fit : (w : MachineState P) (id : ℕ) (s : Start) (o : Option (View P)) → Holds g w.words w.views → made_total w.views ≤ place_span g → slice_get w.views id ≡ o → IsWide g s → t.MayBegin g id s → AllFit w.views
        → AllFit (turn t g w id s o).views
    any_fit w id s None k room at wide may fit = fit
    any_fit w id s (Some v) k room at wide may fit =
        let b : View P = begun t g v v.phase s in
        let mine : StepsFit (turned t g w.words v s).view = moves_fit w.words b b.phase refl (λ p e. (can_turn t Holds law g limits w.words w.views id v s v.phase p k room at refl wide may e).range) (begun_fits v v.phase s (fit id v at)) in
        λ j u q. ⊎_elim (λ r. subst StepsFit r.1 mine) (λ r. fit j u r.1) (get_set w.views id j (turned t g w.words v s).view u q)

    next_fit : (w : MachineState P) (o : Option Event) → Holds g w.words w.views → made_total w.views ≤ place_span g → ((e : Event) → o ≡ Some e → Suits t g e) → AllFit w.views → AllFit (stepped t g w o).views
    next_fit w None k room suits fit = fit
    next_fit w (Some e) k room suits fit = any_fit w e.seat e.start (slice_get w.views e.seat) k room refl (suits e refl).wide (suits e refl).may_begin fit

    -- at each moment of each schedule
    pub moment_fits : (events : List Event) (n : ℕ) → AllByRecursion (Suits t g) events → length events < most_puts g → AllFit (moment t g events n).views
    moment_fits events zero suits few = λ j u q. subst StepsFit (get_replicate g.seats (resting P g) j u q) (omega arith)
    moment_fits events (suc n) suits few =
        subst (λ (w : MachineState P). AllFit w.views) (sym (run_next t g (start_state P g) events n))
        (next_fit (moment t g events n) (slice_get events n) (moment_holds t Holds law g limits events n suits few) (moment_total t g events n few) (λ e h. all_at (Suits t g) events n e suits h) (moment_fits events n suits few))

  pub rank_falls : (p next : P) (old : ℕ) → t.IsInRange g p → t.after g p old ≡ Next next → t.rank g next < t.rank g p
  rank_falls p next old r e = (subst (Leads (t.rank g) (of_phase g) (of_answer g) (t.rank g p) (of_phase g p)) e (bound.leads g p old r)).0

  pub within_bound : (v : View P) → StepsFit v → length v.trail ≤ most v.phase v.answer
  within_bound v fit = omega arith

  pub rank_within : (v : View P) (p : P) → v.phase ≡ Some p → StepsFit v → length v.trail + t.rank g p ≤ of_phase g p
  rank_within v p e fit = subst (λ (ph : Option P). length v.trail + rank_left ph ≤ most ph v.answer) e fit
