-- The first seat of a queue has the first number.
use Rattle.std.proofs.Common.{◌≡◌, ℕ, zero, suc, ◌<◌, List, [], ◌∷◌, map, length, get_or, arith}
use Rattle.rail.specs.Outcome.{numbers_below}
use Rattle.call_steps.specs.Queue.{Seated}

pub first_number : {P : Type 0} (seats : List (Seated P)) (n : ℕ) → map (λ (s : Seated P). s.number) seats ≡ numbers_below n → (other : Seated P) → 0 < length seats → (get_or seats 0 other).number ≡ 0
first_number [] n e other some = absurd (omega arith)
first_number (x ∷ xs) zero e other some = cc
first_number (x ∷ xs) (suc n) e other some = cc
