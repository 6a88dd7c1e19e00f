-- A call ends within its bound, since the rank of its phase falls at each step.
use Rattle.std.proofs.Common.{ℕ, ◌+◌, ◌-◌, ◌/◌, ◌%◌, ◌≤◌, refl, arith}
use Rattle.std.specs.Prelude.{if◌then◌else◌}
use Rattle.cursor_word.specs.Shape.{Grid}
use Rattle.cursor_word.specs.Cursor.{offset_span, packed, unpacked}
use Rattle.rail.specs.declared.answer.Answer.TheVariants as answer
use Rattle.rail.specs.declared.answer.Put.TheVariants as put
use Rattle.sole_core.specs.declared.phase.SolePhase.{SolePhase}
use Rattle.sole_core.specs.declared.phase.SolePhase.TheVariants.{Put, SeeX, Take}
use Rattle.sole_core.specs.declared.take_phase.SoleTake.TheVariants.{Com, All, Word, Consume}
use Rattle.sole_core.specs.Types.{After}
use Rattle.machine.specs.declared.op.After.TheVariants.{Next, Done}
use Rattle.sole_core.specs.PutSteps.{IsInRange, after, rank}
use Rattle.sole_core.specs.Stage.{stage}
use Rattle.sole_core.specs.Laws.{steps_of_answer, steps_of_phase}
use Rattle.put_side.specs.declared.put_phase.PutPhase.TheVariants.{OpenM}
use Rattle.put_side.specs.PutSteps.{older_full}
use Rattle.put_side.proofs.Choices.{pick_equal, pick_less, pick_same}
use Rattle.put_side.proofs.PutRanks.{put_leads, put_within, ranked_by}
use Rattle.put_side.proofs.Sums.{by_test_le}
use Rattle.machine.specs.Bounds as bounds
use Rattle.machine.specs.Bounds.{IsBounded, IsRanked, call_bound}
use Rattle.sole_core.specs.Table.{table}
use Rattle.sole_core.proofs.Shares.{shares}

abbrev Leads : Grid → ℕ → ℕ → After → Type 0
Leads g high most b = bounds.Leads (rank g) (steps_of_phase g) (steps_of_answer g) high most b

pub leads : (g : Grid) (p : SolePhase) (old : ℕ) → IsInRange g p → Leads g (rank g p) (steps_of_phase g p) (after g p old)
leads g (Put q) old r = put_leads table stage Put SeeX shares g (steps_of_phase g) (steps_of_answer g) (record { phase = λ q. refl; fills = λ full. refl; answers = λ a. refl }) q old r
leads g (SeeX full) old r = by_test_le (older_full g full.block) old (λ c. Leads g (g.width + 8) (g.width + 11) (if c then Next (Put (OpenM full)) else Done (answer.Put (put.Full full.block (unpacked old))))) (λ l. (omega arith, refl)) (λ l. (omega arith, refl))
leads g (Take (Com c)) old r =
    let L : After → Type 0 = Leads g (g.width + 3) (g.width + 3) in
    pick_equal L old (packed c) _ _ (λ e. (omega arith, refl)) (λ n. pick_less L (old / offset_span) c.block _ _ (λ l. (omega arith, refl)) (λ l. pick_equal L (old % offset_span) g.size _ _ (λ e. (omega arith, refl)) (λ e. (omega arith, refl))))
leads g (Take (All c m)) old r = pick_same (Leads g (g.width + 2) (g.width + 3)) old m _ _ (λ e. (omega arith, refl)) (λ n. (omega arith, refl))
leads g (Take (Word c next)) old r = let within = r.1 in pick_less (Leads g (g.width - next + 1) (g.width + 3)) (next + 1) g.width _ _ (λ l. (omega arith, refl)) (λ l. (omega arith, refl))
leads g (Take (Consume c)) old r = (omega arith, refl)

pub bounded : IsBounded table steps_of_phase steps_of_answer
bounded = record { first_put = λ g. omega arith; first_take = λ g taken. omega arith; leads = leads }

within : (g : Grid) (p : SolePhase) → rank g p ≤ call_bound g
within g (Put q) = put_within g q
within g (SeeX full) = omega arith
within g (Take (Com r)) = omega arith
within g (Take (All r m)) = omega arith
within g (Take (Word r next)) = omega arith
within g (Take (Consume r)) = omega arith

pub ranked : IsRanked table
ranked = ranked_by table steps_of_phase steps_of_answer bounded within
