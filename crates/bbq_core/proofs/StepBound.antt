-- A call ends within its bound, since the rank of its phase falls at each step.
use Rattle.std.proofs.Common.{◌≡◌, ℕ, ◌+◌, ◌-◌, ◌/◌, ◌%◌, ◌<◌, ◌≤◌, refl, arith}
use Rattle.std.specs.Prelude.{Bool, true, false, if◌then◌else◌}
use Rattle.cursor_word.specs.Shape.{Grid}
use Rattle.cursor_word.specs.Cursor.{offset_span, packed, unpacked}
use Rattle.cursor_word.specs.declared.cursor.Cursor.{Cursor}
use Rattle.rail.specs.declared.answer.Answer.{Answer}
use Rattle.bbq_core.specs.declared.phase.Phase.{Phase}
use Rattle.bbq_core.specs.declared.phase.Phase.TheVariants.{Put, SeeX, SeeR, Take}
use Rattle.bbq_core.specs.declared.take_phase.TakePhase.TheVariants.{HeadC, SeeRes, SeeCom, SeeAll, Reserve, Read, Consume, NextCom, OpenX, OpenR, RaiseC}
use Rattle.bbq_core.specs.Types.{After}
use Rattle.machine.specs.declared.op.After.TheVariants.{Next, Done}
use Rattle.bbq_core.specs.PutSteps.{IsInRange, after, rank}
use Rattle.bbq_core.specs.TakeSteps.{passed}
use Rattle.bbq_core.specs.Stage.{stage}
use Rattle.put_side.specs.declared.put_phase.PutPhase.TheVariants.{OpenM}
use Rattle.put_side.specs.PutSteps.{by_turn, is_same, older_full}
use Rattle.put_side.proofs.PutRanks.{put_leads, put_within, ranked_by}
use Rattle.bbq_core.proofs.PutSteps.{shares}
use Rattle.bbq_core.specs.Laws.{steps_of_answer, steps_of_phase}
use Rattle.put_side.proofs.Sums.{by_test_le}
use Rattle.machine.specs.Bounds as bounds
use Rattle.machine.specs.Bounds.{IsBounded, IsRanked, call_bound}
use Rattle.bbq_core.specs.Table.{table}
use Rattle.put_side.proofs.Choices.{pick_equal, pick_less, pick_same, turn_above, turn_falls, turn_one, turn_within}

abbrev Leads : Grid → ℕ → ℕ → After → Type 0
Leads g high most b = bounds.Leads (rank g) (steps_of_phase g) (steps_of_answer g) high most b

either_done : (g : Grid) (high most : ℕ) (c : Bool) (x y : Answer) → 1 ≤ high → steps_of_answer g x ≡ most → steps_of_answer g y ≡ most → Leads g high most (if c then Done x else Done y)
either_done g high most true x y h a b = (h, a)
either_done g high most false x y h a b = (h, b)

passes : (g : Grid) (high turn : ℕ) (first found : Cursor) → (turn ≡ 1 → g.width + 10 < high) → 1 ≤ high → Leads g high (g.width + 12) (passed turn first found)
passes g high turn first found more least = pick_equal (Leads g high (g.width + 12)) turn 1 _ _ (λ e. (more e, refl)) (λ n. (least, refl))

pub leads : (g : Grid) (p : Phase) (old : ℕ) → IsInRange g p → Leads g (rank g p) (steps_of_phase g p) (after g p old)
leads g (Put q) old r = put_leads table stage Put SeeX shares g (steps_of_phase g) (steps_of_answer g) (record { phase = λ q. refl; fills = λ full. refl; answers = λ a. refl }) q old r
leads g (SeeX full) old r = by_test_le (older_full g full.block) old (λ c. Leads g (g.width + 8) (g.width + 11) (if c then Next (Put (OpenM full)) else Next (SeeR full (unpacked old)))) (λ l. (omega arith, refl)) (λ l. (omega arith, refl))
leads g (SeeR full x) old r = either_done g 1 (g.width + 11) (is_same x (unpacked old)) _ _ (omega arith) refl refl
leads g (Take (HeadC turn first)) old r = (turn_falls turn (g.width + 12) (g.width + 6) (g.width + 11) (g.width + 5) (omega arith) (omega arith), refl)
leads g (Take (SeeRes turn first head)) old r =
    let high : ℕ = by_turn turn (g.width + 11) (g.width + 5) in
    pick_less (Leads g high (g.width + 12)) (old % offset_span) g.size _ _ (λ l. (turn_above turn (g.width + 11) (g.width + 5) (g.width + 4) (omega arith) (omega arith), refl))
    (λ l. passes g high turn first (unpacked old) (λ e. let t = turn_one turn (g.width + 11) (g.width + 5) e in omega arith) (turn_above turn (g.width + 11) (g.width + 5) 0 (omega arith) (omega arith)))
leads g (Take (SeeCom c)) old r =
    let L : After → Type 0 = Leads g (g.width + 4) (g.width + 12) in
    pick_equal L old (packed c) _ _ (λ e. (omega arith, refl)) (λ n. pick_less L c.block (old / offset_span) _ _ (λ l. (omega arith, refl)) (λ l. pick_equal L (old % offset_span) g.size _ _ (λ e. (omega arith, refl)) (λ e. (omega arith, refl))))
leads g (Take (SeeAll c m)) old r =
    let L : After → Type 0 = Leads g (g.width + 3) (g.width + 12) in
    pick_same L old m _ _ (λ e. (omega arith, refl)) (λ n. pick_equal L (old / offset_span) m.block _ _ (λ e. (omega arith, refl)) (λ e. (omega arith, refl)))
leads g (Take (Reserve c)) old r = pick_equal (Leads g (g.width + 2) (g.width + 12)) old (packed c) _ _ (λ e. (omega arith, refl)) (λ n. (omega arith, refl))
leads g (Take (Read at next)) old r = let within = r.2 in pick_less (Leads g (g.width - next + 1) (g.width + 12)) (next + 1) g.width _ _ (λ l. (omega arith, refl)) (λ l. (omega arith, refl))
leads g (Take (Consume at)) old r = (omega arith, refl)
leads g (Take (NextCom sp)) old r = pick_less (Leads g (g.width + 10) (g.width + 12)) (old / offset_span) (sp.block + 1) _ _ (λ l. (omega arith, refl)) (λ l. (omega arith, refl))
leads g (Take (OpenX sp)) old r = (omega arith, refl)
leads g (Take (OpenR sp)) old r = (omega arith, refl)
leads g (Take (RaiseC sp)) old r = (omega arith, refl)

pub bounded : IsBounded table steps_of_phase steps_of_answer
bounded = record { first_put = λ g. omega arith; first_take = λ g taken. omega arith; leads = leads }

within : (g : Grid) (p : Phase) → rank g p ≤ call_bound g
within g (Put q) = put_within g q
within g (SeeX full) = omega arith
within g (SeeR full x) = omega arith
within g (Take (HeadC turn first)) = turn_within turn (g.width + 12) (g.width + 6) (g.width + 12) (omega arith) (omega arith)
within g (Take (SeeRes turn first head)) = turn_within turn (g.width + 11) (g.width + 5) (g.width + 12) (omega arith) (omega arith)
within g (Take (SeeCom r)) = omega arith
within g (Take (SeeAll r m)) = omega arith
within g (Take (Reserve r)) = omega arith
within g (Take (Read at next)) = omega arith
within g (Take (Consume at)) = omega arith
within g (Take (NextCom spent)) = omega arith
within g (Take (OpenX spent)) = omega arith
within g (Take (OpenR spent)) = omega arith
within g (Take (RaiseC spent)) = omega arith

pub ranked : IsRanked table
ranked = ranked_by table steps_of_phase steps_of_answer bounded within
