-- The machine that drops its oldest entries answers the one seat exactly.
use Rattle.std.proofs.Common.{◌≡◌, ℕ, ◌≤◌, List, [], ◌∷◌, Bool, true, false, length, refl, sym, ap, ◌∙◌, subst, inl, arith}
use Rattle.std.specs.Prelude.{Option, Some, None, if◌then◌else◌, replicate, ◌==◌}
use Rattle.std.proofs.lemmas.List.{map-append}
use Rattle.std.proofs.lemmas.List.Sums.{sum_by-cons}
use Rattle.cursor_word.specs.Shape.{Grid, IsWithinLimits}
use Rattle.cursor_word.specs.Cursor.{place_span}
use Rattle.rail.specs.declared.entry.Placed.{Placed}
use Rattle.rail.specs.declared.answer.Answer.TheVariants as answer
use Rattle.rail.specs.declared.answer.Take.TheVariants as take
use Rattle.rail.specs.Items.{placed, places}
use Rattle.rail.specs.Sequential.{beyond, drop_next}
use Rattle.machine.specs.declared.event.Start.{Start}
use Rattle.machine.specs.declared.event.Start.TheVariants as start
use Rattle.machine.specs.declared.op.After.TheVariants.{Next, Done}
use Rattle.machine.specs.Steps.{IsWide, begun, finds, phase_after, resting, start_words, taken_after, view_after, words_after}
use Rattle.drop_core.specs.declared.phase.DropPhase.{DropPhase}
use Rattle.drop_core.specs.Types.{After, View}
use Rattle.drop_core.specs.PutSteps.{after}
use Rattle.put_side.specs.Counts.{takes}
use Rattle.drop_core.specs.Sound.{IsSound}
use Rattle.drop_core.specs.Steps.{table}
use Rattle.drop_core.specs.Alone.{GoesOnAlone, IsAlone, IsStill}
use Rattle.drop_core.proofs.AloneCalls.{goes_alone, put_alone, take_alone}
use Rattle.drop_core.proofs.History.{beyond_append, next_by}
use Rattle.drop_core.proofs.Starts.{starts}
use Rattle.solo_rail.specs.Lone.{AnswersExactly}
use Rattle.solo_rail.specs.Drop.{Stands, lone, next_place}
use Rattle.solo_rail.proofs.Kept.{made_one}
use Rattle.solo_rail.proofs.Stops.{rest_one}

stands_hold : (g : Grid) (words : List ℕ) (v : View) (ph : Option DropPhase) → Stands g words v ph → IsSound g words (v ∷ [])
stands_hold g words v None s = s.sound
stands_hold g words v (Some p) s = s.sound

start_still : (g : Grid) → IsWithinLimits g → g.seats ≡ 1 → IsStill g 0 0 (start_words g) (resting DropPhase g ∷ [])
start_still g limits one = record {
  sound = subst (IsSound g (start_words g)) (ap (λ (n : ℕ). replicate n (resting DropPhase g)) one) (starts g limits);
  rest = rest_one (resting DropPhase g) refl;
  made = made_one (resting DropPhase g);
  answered = record { taken = λ p le. sum_by-cons (takes p) (resting DropPhase g) []; behind = inl refl };
}

begins_alone : (g : Grid) (words : List ℕ) (v : View) (s : Start) → IsWithinLimits g → IsWide g s → v.phase ≡ None → IsStill g (length v.made) (next_place v.taken) words (v ∷ []) → (let b = begun table g v None s in Stands g words b b.phase)
begins_alone g words v (start.Put entry) limits wide rest still = put_alone g (length v.made) (next_place v.taken) words (v ∷ []) 0 v entry limits still refl wide
begins_alone g words v start.Take limits wide rest still = take_alone g (length v.made) (next_place v.taken) words (v ∷ []) 0 v limits still refl
begins_alone g words v start.Go limits wide rest still = subst (Stands g words v) (sym rest) still

-- where the seat stands after a step, by its own lists
stands_by : (g : Grid) (n next : ℕ) (words : List ℕ) (w : View) (b : After) → next_by next b ≡ next_place w.taken → GoesOnAlone g n next words (w ∷ []) 0 b → Stands g words w (phase_after b)
stands_by g n next words w (Next q) is alone =
    subst (λ (k : ℕ). IsAlone g (length w.made) k words (w ∷ []) 0 q) is (subst (λ (k : ℕ). IsAlone g k next words (w ∷ []) 0 q) (sym alone.made ∙ made_one w) alone)
stands_by g n next words w (Done a) is rest = let still = rest.1 in
    subst (λ (k : ℕ). IsStill g (length w.made) k words (w ∷ [])) is (subst (λ (k : ℕ). IsStill g k (next_by next (Done a)) words (w ∷ [])) (sym still.made ∙ made_one w) still)

no_overrun : {A : Type 0} (b : Bool) (n k place : ℕ) (now : _) → take.Overrun place now ≡ (if b then take.Empty n else take.Ok k) → A
no_overrun true n k place now e = cc
no_overrun false n k place now e = cc

-- the next place to take, by what a step answers
next_is : (g : Grid) (n : ℕ) (taken : List Placed) (read : List ℕ) (words : List ℕ) (w : View) (b : After) → GoesOnAlone g n (next_place taken) words (w ∷ []) 0 b → next_by (next_place taken) b ≡ next_place (taken_after taken read b)
next_is g n taken read words w (Next q) goes = refl
next_is g n taken read words w (Done (answer.Put a)) goes = omega arith
next_is g n taken read words w (Done (answer.Take (take.Ok place))) goes = sym (ap beyond (map-append (λ (i : Placed). i.place) taken (placed place read ∷ [])) ∙ beyond_append (places taken) (place ∷ []))
next_is g n taken read words w (Done (answer.Take (take.Empty place))) goes = omega arith
next_is g n taken read words w (Done (answer.Take (take.Busy reason))) goes = omega arith
next_is g n taken read words w (Done (answer.Take (take.Overrun place now))) goes = let next = drop_next g n (next_place taken) in no_overrun (next == n) n next place now goes.0

module _ (g : Grid) (words : List ℕ) (v : View) (p : DropPhase) (limits : IsWithinLimits g) (few : length v.made ≤ place_span g) (here : v.phase ≡ Some p) (stands : Stands g words v v.phase) where
  abbrev ws : List ℕ
  ws = words_after table g words v p

  abbrev w : View
  w = view_after table g words v p

  abbrev b : After
  b = after g p (finds table g words v p)

  goes : GoesOnAlone g (length v.made) (next_place v.taken) ws (w ∷ []) 0 b
  goes = goes_alone g (length v.made) (next_place v.taken) words (v ∷ []) 0 v p limits (subst (Stands g words v) here stands) few refl here

  stands_next : Stands g ws w w.phase
  stands_next = stands_by g (length v.made) (next_place v.taken) ws w b (next_is g (length v.made) v.taken v.read ws w b goes) goes

pub drop_exactly : AnswersExactly table IsSound lone
drop_exactly = record {
  holds = λ g words v stands. stands_hold g words v v.phase stands;
  starts = λ g limits one. start_still g limits one;
  begins = λ g words v s limits wide rest stands. begins_alone g words v s limits wide rest (subst (Stands g words v) rest stands);
  steps = λ g words v p limits few here stands. stands_next g words v p limits few here stands;
  answers = λ g words v p a limits few here stands is. (subst (GoesOnAlone g (length v.made) (next_place v.taken) (words_after table g words v p) (view_after table g words v p ∷ []) 0) is (goes g words v p limits few here stands)).0;
}
