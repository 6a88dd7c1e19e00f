-- Two lists of seats with the same numbers, one by one, have the same list of numbers.
use Rattle.std.proofs.Common.{◌≡◌, ℕ, suc, ◌<◌, List, [], ◌∷◌, map, length, get_or, ap, refl, arith, ◌∙◌}

pub same_numbers : {S : Type 0} (number : S → ℕ) (xs ys : List S) → length xs ≡ length ys → ((k : ℕ) (d : S) → k < length ys → number (get_or xs k d) ≡ number (get_or ys k d)) → map number xs ≡ map number ys
same_numbers number [] [] long each = refl
same_numbers number [] (y ∷ ys) long each = absurd (omega arith)
same_numbers number (x ∷ xs) [] long each = absurd (omega arith)
same_numbers number (x ∷ xs) (y ∷ ys) long each = let first = each 0 y (omega arith) in
    ap (λ (n : ℕ). n ∷ map number xs) first ∙ ap (λ (ns : List ℕ). number y ∷ ns) (same_numbers number xs ys (omega arith) (λ k d lt. each (suc k) d (omega arith)))
