-- The puts of this queue take the shared steps.
use Rattle.std.proofs.Common.{◌≡◌, ℕ, ◌+◌, ◌/◌, ◌%◌, List, refl, ap}
use Rattle.std.specs.Prelude.{◌==◌, nat_lt, nat_le}
use Rattle.cursor_word.specs.Shape.{Grid}
use Rattle.cursor_word.specs.Cursor.{offset_span, packed, unpacked}
use Rattle.rail.specs.declared.entry.Placed.{Placed}
use Rattle.machine.specs.Steps.{made_after}
use Rattle.put_side.specs.declared.put_phase.PutPhase.{PutPhase}
use Rattle.put_side.specs.PutSteps.{is_same, older_full}
use Rattle.put_side.specs.PutTable.{IsPutTable}
use Rattle.put_side.specs.SharesSteps.{IsOwn, SharesSteps}
use Rattle.put_side.specs.Stages.{At}
use Rattle.put_side.proofs.Choices.{pick_any}
use Rattle.put_side.proofs.SharedTable.{shared_table}
use Rattle.sole_core.specs.Types.{After}
use Rattle.sole_core.specs.declared.phase.SolePhase.{SolePhase}
use Rattle.sole_core.specs.declared.phase.SolePhase.TheVariants.{Put, SeeX, Take}
use Rattle.sole_core.specs.declared.take_phase.SoleTake.{SoleTake}
use Rattle.sole_core.specs.declared.take_phase.SoleTake.TheVariants.{Com, All, Word, Consume}
use Rattle.sole_core.specs.PutSteps.{after}
use Rattle.sole_core.specs.TakeSteps.{after_take}
use Rattle.sole_core.specs.Table.{table}
use Rattle.sole_core.specs.Stage.{stage}

only : (p : SolePhase) (q : PutPhase) → stage p ≡ At q → p ≡ Put q
only (Put p) q e = let z : p ≡ q = cc in ap Put z
only (SeeX full) q e = cc
only (Take t) q e = cc

take_makes_none : (g : Grid) (q : SoleTake) (old : ℕ) (made : List Placed) (entry : List ℕ) → made_after made entry (after_take g q old) ≡ made
take_makes_none g (Com r) old made entry = let K : After → Type 0 = λ b. made_after made entry b ≡ made in pick_any K (old == packed r) _ _ refl (pick_any K (nat_lt (old / offset_span) r.block) _ _ refl (pick_any K ((old % offset_span) == g.size) _ _ refl refl))
take_makes_none g (All r m) old made entry = let K : After → Type 0 = λ b. made_after made entry b ≡ made in pick_any K (is_same (unpacked old) m) _ _ refl refl
take_makes_none g (Word r next) old made entry = let K : After → Type 0 = λ b. made_after made entry b ≡ made in pick_any K (nat_lt (next + 1) g.width) _ _ refl refl
take_makes_none g (Consume r) old made entry = refl

makes_none : (g : Grid) (p : SolePhase) (old : ℕ) (made : List Placed) (entry : List ℕ) → IsOwn (stage p) → made_after made entry (after g p old) ≡ made
makes_none g (Put q) old made entry h = absurd h
makes_none g (SeeX full) old made entry h = pick_any (λ b. made_after made entry b ≡ made) (nat_le (older_full g full.block) old) _ _ refl refl
makes_none g (Take q) old made entry h = take_makes_none g q old made entry

pub shares : SharesSteps table stage Put SeeX
shares = record {
  first_put = refl;
  first_take = λ g taken. refl;
  want = λ g q words. refl;
  after = λ g q found. refl;
  rank = λ g q. refl;
  rank_fills = λ g full. refl;
  is_in_range = λ g q. refl;
  fills_in_range = λ g full. refl;
  finds_fit = λ q found. refl;
  is_put = λ q. refl;
  fills_is_put = λ full. refl;
  reads_none = λ q. refl;
  stands = λ q. refl;
  fills = λ full. refl;
  only = only;
  makes_none = makes_none;
}

pub puts : IsPutTable stage table
puts = shared_table table stage Put SeeX shares
