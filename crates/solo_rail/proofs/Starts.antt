-- The rule holds at the start, where the one seat has done nothing.
use Rattle.std.proofs.Common.{◌≡◌, ℕ, List, [], ◌∷◌, refl, sym, subst, arith}
use Rattle.cursor_word.specs.Shape.{Grid, IsWithinLimits}
use Rattle.machine.specs.Table.{Table}
use Rattle.machine.specs.Invariant.{Fact}
use Rattle.machine.specs.Steps.{start_words}
use Rattle.solo_rail.specs.Holding.{IsHeld, first_holding}
use Rattle.solo_rail.specs.Lone.{AnswersExactly, LoneFacts}

pub starts_held : {P : Type 0} (t : Table P) (Holds : Fact P) (lone : LoneFacts P) → AnswersExactly t Holds lone → (g : Grid) (words : List ℕ) → IsWithinLimits g → g.seats ≡ 1 → words ≡ start_words g → IsHeld t lone g words (first_holding P g ∷ [])
starts_held {P} t Holds lone exactly g words limits one is = subst (λ (ws : List ℕ). IsHeld t lone g ws (first_holding P g ∷ [])) (sym is)
    record {
      seat = first_holding P g;
      only = refl;
      limits = limits;
      shape = refl;
      known = refl;
      room = omega arith;
      stands = exactly.starts g limits one;
    }
