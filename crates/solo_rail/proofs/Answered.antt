-- An answer of the one seat is exact.
use Rattle.std.proofs.Common.{◌≡◌, ℕ, List, Bool, ap, ◌∙◌, subst}
use Rattle.std.specs.Prelude.{None}
use Rattle.cursor_word.specs.Shape.{Grid}
use Rattle.rail.specs.declared.entry.Placed.{Placed}
use Rattle.rail.specs.declared.answer.Answer.{Answer}
use Rattle.step_log.specs.Log.{Sitting}
use Rattle.machine.specs.Table.{Table}
use Rattle.machine.specs.Invariant.{Fact, IsInvariant}
use Rattle.call_laws.specs.Answers.{KeepsPromises}
use Rattle.call_laws.specs.Calls.{IsCallTable, ReadsInOrder}
use Rattle.call_steps.specs.Midway.{Call, Took}
use Rattle.call_steps.proofs.Last.{last_of}
use Rattle.solo_rail.specs.declared.holding.Holding.{Holding}
use Rattle.solo_rail.specs.Holding.{IsHeld, alone_rule}
use Rattle.solo_rail.specs.Lone.{AnswersExactly, LoneFacts}
use Rattle.solo_rail.proofs.Kept.{alone_runs}

module _ {P : Type 0} (t : Table P) (Holds : Fact P) (drops : Bool) (lone : LoneFacts P) (law : IsInvariant t Holds) (table : IsCallTable t) (reads : ReadsInOrder t) (promises : KeepsPromises t Holds drops) (exactly : AnswersExactly t Holds lone) where
  -- by the call's last step, before which the seat's lists are those with which it began
  pub exact : (c : Call P (Holding P)) (entry : List ℕ) (now : Sitting (Holding P)) (a : Answer) → c.before.view.shape ≡ c.shape → c.before.view.view.phase ≡ None → Took t drops (alone_rule t drops lone) c entry now a
      → lone.Answers c.shape c.before.view.view.made c.before.view.view.taken a
  exact c entry now a shape rest took =
      let last = last_of t drops (alone_rule t drops lone) (IsHeld t lone) (alone_runs t Holds drops lone law table reads promises exactly) c entry now a shape tt rest took in
      subst (λ (items : List Placed). lone.Answers c.shape c.before.view.view.made items a) last.taken
      (subst (λ (items : List Placed). lone.Answers c.shape items last.view.view.taken a) last.made
      (subst (λ (g : Grid). lone.Answers g last.view.view.made last.view.view.taken a) last.grid
      (last.told.exact a (ap (λ (g : Grid). t.after g last.phase last.found) last.grid ∙ last.answers))))
