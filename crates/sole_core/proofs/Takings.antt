-- What all seats have taken is what the consumer has.
use Rattle.std.proofs.Common.{◌≡◌, ◌≢◌, ℕ, zero, suc, ◌+◌, List, [], ◌∷◌, ◌++◌, length, refl, sym, ap, ◌∙◌, ⊎_elim, arith}
use Rattle.std.specs.Prelude.{Some, slice_get}
use Rattle.std.specs.List.{sum_by}
use Rattle.std.proofs.lemmas.Bool.{cases_lt}
use Rattle.cursor_word.specs.Shape.{Grid}
use Rattle.rail.specs.Items.{places}
use Rattle.rail.specs.Outcome.{numbers_below}
use Rattle.rail.specs.declared.entry.Placed.{Placed}
use Rattle.std.proofs.lemmas.List.Sums.{sum_by-cons}
use Rattle.put_side.specs.Cursors.{Front}
use Rattle.put_side.specs.Counts.{makes, one_at, one_below, taken_count, taken_total, takes, times}
use Rattle.put_side.proofs.Draws.{below_more}
use Rattle.put_side.proofs.Orders.{range_more}
use Rattle.put_side.proofs.Sums.{none_from, sum_none, times_push}
use Rattle.sole_core.specs.Types.{View}
use Rattle.sole_core.specs.Table.{consumer}
use Rattle.sole_core.specs.Sound.{IsSoundAt}
use Rattle.sole_core.proofs.Starts.{taken_long}

-- each number below n is among the numbers below n once
pub times_below : (p n : ℕ) → times p (numbers_below n) ≡ one_below p n
times_below p zero = sym (none_from p 0 (omega arith))
times_below p (suc n) =
    let e : 0 + n ≡ n = omega arith in
    let m = times_below p n in
    let b = below_more p n in
    let f : n + 1 ≡ suc n = omega arith in
    ap (times p) (range_more 0 n ∙ ap (λ (k : ℕ). numbers_below n ++ k ∷ []) e) ∙ times_push p n (numbers_below n) ∙ ap (λ (k : ℕ). k + one_at n p) m ∙ b ∙ ap (one_below p) f

-- a sum over all seats, of what is nothing for those that took nothing
total_by : (f : View → ℕ) → ((u : View) → u.taken ≡ [] → f u ≡ 0) → (vs : List View) → ((j : ℕ) (u : View) → j ≢ consumer → slice_get vs j ≡ Some u → u.taken ≡ [])
    → (n : ℕ) → ((v : View) → slice_get vs consumer ≡ Some v → f v ≡ n) → (vs ≡ [] → 0 ≡ n) → sum_by f vs ≡ n
total_by f nothing [] others n first none = none refl
total_by f nothing (v ∷ vs) others n first none =
    let z = sum_none f vs (λ j u e. nothing u (others (suc j) u (λ q. omega arith) e)) in
    let e = first v refl in omega (arith, sum_by-cons f v vs)

module _ (g : Grid) (front : Front) (next : ℕ) (ws : List ℕ) (vs : List View) (s : IsSoundAt g front next ws vs) where
  none_there : vs ≡ [] → 0 ≡ next
  none_there e = ⊎_elim (λ l. omega arith) (λ l. let h = s.made 0 l in let z = ap (sum_by (makes 0)) e in absurd (omega arith)) (cases_lt next 1)

  -- each place below the next one is taken once, and no other is
  pub taken_once : (p : ℕ) → sum_by (takes p) vs ≡ one_below p next
  taken_once p = total_by (takes p) (λ u e. ap (λ (l : List Placed). times p (places l)) e) vs (λ j u n e. (s.others j u n e).none) (one_below p next)
      (λ v e. ap (times p) (s.taken v e) ∙ times_below p next)
      (λ e. sym (none_from p next (let z = none_there e in omega arith)))

  pub taken_number : taken_total vs ≡ next
  taken_number = total_by taken_count (λ u e. ap (λ (l : List Placed). length l) e) vs (λ j u n e. (s.others j u n e).none) next (λ v e. taken_long v.taken next (s.taken v e)) none_there
