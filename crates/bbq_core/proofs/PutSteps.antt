-- The puts of this queue take the shared steps.
use Rattle.std.proofs.Common.{◌≡◌, ℕ, ◌+◌, ◌/◌, ◌%◌, List, refl, ap}
use Rattle.std.specs.Prelude.{◌==◌, nat_lt, nat_le}
use Rattle.cursor_word.specs.Shape.{Grid}
use Rattle.cursor_word.specs.Cursor.{offset_span, packed, unpacked}
use Rattle.rail.specs.declared.entry.Placed.{Placed}
use Rattle.machine.specs.Steps.{made_after}
use Rattle.put_side.specs.declared.put_phase.PutPhase.{PutPhase}
use Rattle.put_side.specs.PutSteps.{is_same, older_full}
use Rattle.put_side.specs.PutTable.{IsPutTable}
use Rattle.put_side.specs.SharesSteps.{IsOwn, SharesSteps}
use Rattle.put_side.specs.Stages.{At}
use Rattle.put_side.proofs.Choices.{pick_any}
use Rattle.put_side.proofs.SharedTable.{shared_table}
use Rattle.bbq_core.specs.Types.{After}
use Rattle.bbq_core.specs.declared.phase.Phase.{Phase}
use Rattle.bbq_core.specs.declared.phase.Phase.TheVariants.{Put, SeeX, SeeR, Take}
use Rattle.bbq_core.specs.declared.take_phase.TakePhase.{TakePhase}
use Rattle.bbq_core.specs.declared.take_phase.TakePhase.TheVariants.{HeadC, SeeRes, SeeCom, SeeAll, Reserve, Read, Consume, NextCom, OpenX, OpenR, RaiseC}
use Rattle.bbq_core.specs.PutSteps.{after}
use Rattle.bbq_core.specs.TakeSteps.{after_take}
use Rattle.bbq_core.specs.Table.{table}
use Rattle.bbq_core.specs.Stage.{stage}

abbrev MakesNone : List Placed → List ℕ → After → Type 0
MakesNone made entry b = made_after made entry b ≡ made

pub take_makes_none : (g : Grid) (q : TakePhase) (old : ℕ) (made : List Placed) (entry : List ℕ) → made_after made entry (after_take g q old) ≡ made
take_makes_none g (HeadC turn first) old made entry = refl
take_makes_none g (SeeRes turn first head) old made entry = pick_any (MakesNone made entry) (nat_lt (old % offset_span) g.size) _ _ refl (pick_any (MakesNone made entry) (turn == 1) _ _ refl refl)
take_makes_none g (SeeCom r) old made entry = pick_any (MakesNone made entry) (old == packed r) _ _ refl (pick_any (MakesNone made entry) (nat_lt r.block (old / offset_span)) _ _ refl (pick_any (MakesNone made entry) ((old % offset_span) == g.size) _ _ refl refl))
take_makes_none g (SeeAll r m) old made entry = pick_any (MakesNone made entry) (is_same (unpacked old) m) _ _ refl (pick_any (MakesNone made entry) ((old / offset_span) == m.block) _ _ refl refl)
take_makes_none g (Reserve r) old made entry = pick_any (MakesNone made entry) (old == packed r) _ _ refl refl
take_makes_none g (Read at next) old made entry = pick_any (MakesNone made entry) (nat_lt (next + 1) g.width) _ _ refl refl
take_makes_none g (Consume at) old made entry = refl
take_makes_none g (NextCom spent) old made entry = pick_any (MakesNone made entry) (nat_lt (old / offset_span) (spent.block + 1)) _ _ refl refl
take_makes_none g (OpenX spent) old made entry = refl
take_makes_none g (OpenR spent) old made entry = refl
take_makes_none g (RaiseC spent) old made entry = refl

makes_none : (g : Grid) (p : Phase) (old : ℕ) (made : List Placed) (entry : List ℕ) → IsOwn (stage p) → made_after made entry (after g p old) ≡ made
makes_none g (Put q) old made entry h = absurd h
makes_none g (SeeX full) old made entry h = pick_any (MakesNone made entry) (nat_le (older_full g full.block) old) _ _ refl refl
makes_none g (SeeR full x) old made entry h = pick_any (MakesNone made entry) (is_same x (unpacked old)) _ _ refl refl
makes_none g (Take q) old made entry h = take_makes_none g q old made entry

only : (p : Phase) (q : PutPhase) → stage p ≡ At q → p ≡ Put q
only (Put p) q e = let z : p ≡ q = cc in ap Put z
only (SeeX full) q e = cc
only (SeeR full x) q e = cc
only (Take take) q e = cc

pub shares : SharesSteps table stage Put SeeX
shares = record {
  first_put = refl;
  first_take = λ g taken. refl;
  want = λ g q words. refl;
  after = λ g q found. refl;
  rank = λ g q. refl;
  rank_fills = λ g full. refl;
  is_in_range = λ g q. refl;
  fills_in_range = λ g full. refl;
  finds_fit = λ q found. refl;
  is_put = λ q. refl;
  fills_is_put = λ full. refl;
  reads_none = λ q. refl;
  stands = λ q. refl;
  fills = λ full. refl;
  only = only;
  makes_none = makes_none;
}

pub puts : IsPutTable stage table
puts = shared_table table stage Put SeeX shares
