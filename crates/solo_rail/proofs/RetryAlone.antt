-- The refusing machine answers the one seat exactly.
use Rattle.std.proofs.Common.{◌≡◌, ℕ, ◌+◌, ◌≤◌, List, [], ◌∷◌, length, refl, sym, ap, ◌∙◌, subst, arith}
use Rattle.std.specs.Prelude.{Option, Some, None, replicate}
use Rattle.std.proofs.lemmas.List.Sums.{sum_by-cons}
use Rattle.cursor_word.specs.Shape.{Grid, IsWithinLimits}
use Rattle.cursor_word.specs.Cursor.{place_span}
use Rattle.machine.specs.declared.event.Start.{Start}
use Rattle.machine.specs.declared.event.Start.TheVariants as start
use Rattle.machine.specs.declared.op.After.TheVariants.{Next, Done}
use Rattle.machine.specs.Steps.{IsWide, begun, finds, phase_after, resting, start_words, view_after, words_after}
use Rattle.bbq_core.specs.declared.phase.Phase.{Phase}
use Rattle.bbq_core.specs.Types.{After, View}
use Rattle.bbq_core.specs.PutSteps.{after}
use Rattle.put_side.specs.Counts.{taken_total}
use Rattle.bbq_core.specs.Sound.{IsSound}
use Rattle.bbq_core.specs.Alone.{GoesOnAlone, IsAlone, IsStill}
use Rattle.put_side.specs.AsOne.{gives_out}
use Rattle.bbq_core.specs.Table.{table}
use Rattle.bbq_core.proofs.AloneCalls.{goes_alone, put_alone, take_alone}
use Rattle.bbq_core.proofs.AtRest.{start_still}
use Rattle.solo_rail.specs.Lone.{AnswersExactly}
use Rattle.solo_rail.specs.Retry.{Stands, lone}
use Rattle.solo_rail.proofs.Kept.{made_one}

pub taken_one : (v : View) → taken_total (v ∷ []) ≡ length v.taken
taken_one v = omega (arith, sum_by-cons (λ (u : View). length u.taken) v [])

one_resting : (g : Grid) → g.seats ≡ 1 → replicate g.seats (resting Phase g) ≡ resting Phase g ∷ []
one_resting g e = ap (λ (n : ℕ). replicate n (resting Phase g)) e

stands_hold : (g : Grid) (words : List ℕ) (v : View) (ph : Option Phase) → Stands g words v ph → IsSound g words (v ∷ [])
stands_hold g words v None s = record { front = s.front; back = s.back; sound = s.sound; manned = s.manned }
stands_hold g words v (Some p) s = record { front = s.front; back = s.back; sound = s.sound; manned = s.manned }

begins_alone : (g : Grid) (words : List ℕ) (v : View) (s : Start) → IsWithinLimits g → IsWide g s → v.phase ≡ None → IsStill g (length v.made) (length v.taken) words (v ∷ []) → (let b = begun table g v None s in Stands g words b b.phase)
begins_alone g words v (start.Put entry) limits wide rest still = put_alone g limits (length v.made) (length v.taken) words (v ∷ []) 0 v still refl entry wide
begins_alone g words v start.Take limits wide rest still = take_alone g limits (length v.made) (length v.taken) words (v ∷ []) 0 v still refl
begins_alone g words v start.Go limits wide rest still = subst (Stands g words v) (sym rest) still

-- where the seat stands after a step, by its own lists
stands_by : (g : Grid) (n t : ℕ) (words : List ℕ) (w : View) (b : After) → GoesOnAlone g n t words (w ∷ []) 0 b → Stands g words w (phase_after b)
stands_by g n t words w (Next q) alone =
    subst (λ (k : ℕ). IsAlone g (length w.made) k words (w ∷ []) 0 q) (sym alone.taken ∙ taken_one w) (subst (λ (k : ℕ). IsAlone g k t words (w ∷ []) 0 q) (sym alone.made ∙ made_one w) alone)
stands_by g n t words w (Done a) rest = let still = rest.1 in
    subst (λ (k : ℕ). IsStill g (length w.made) k words (w ∷ [])) (sym still.taken ∙ taken_one w) (subst (λ (k : ℕ). IsStill g k (t + gives_out a) words (w ∷ [])) (sym still.made ∙ made_one w) still)

goes : (g : Grid) (words : List ℕ) (v : View) (p : Phase) → IsWithinLimits g → length v.made ≤ place_span g → v.phase ≡ Some p → Stands g words v v.phase
    → GoesOnAlone g (length v.made) (length v.taken) (words_after table g words v p) (view_after table g words v p ∷ []) 0 (after g p (finds table g words v p))
goes g words v p limits few here stands =
    goes_alone g (length v.made) (length v.taken) words (v ∷ []) 0 v p limits (subst (Stands g words v) here stands) (let e = made_one v in omega arith) refl here

pub retry_exactly : AnswersExactly table IsSound lone
retry_exactly = record {
  holds = λ g words v stands. stands_hold g words v v.phase stands;
  starts = λ g limits one. subst (IsStill g 0 0 (start_words g)) (one_resting g one) (start_still g limits);
  begins = λ g words v s limits wide rest stands. begins_alone g words v s limits wide rest (subst (Stands g words v) rest stands);
  steps = λ g words v p limits few here stands. stands_by g (length v.made) (length v.taken) (words_after table g words v p) (view_after table g words v p) (after g p (finds table g words v p)) (goes g words v p limits few here stands);
  answers = λ g words v p a limits few here stands is. (subst (GoesOnAlone g (length v.made) (length v.taken) (words_after table g words v p) (view_after table g words v p ∷ []) 0) is (goes g words v p limits few here stands)).0;
}
