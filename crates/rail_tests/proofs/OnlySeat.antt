-- What went through the only seat of a queue.
use Rattle.std.proofs.Common.{◌≡◌, List, [], ◌∷◌, ◌++◌, sym, ap, subst, ◌∙◌}
use Rattle.std.specs.Prelude.{flat_map, IsPermutation}
use Rattle.std.proofs.lemmas.List.{append-nil}
use Rattle.rail.specs.declared.entry.Placed.{Placed}

pub of_only_seat : {S : Type 0} (made taken : S → List Placed) (seat : S) (seats : List S) (put took left : List Placed) → seats ≡ seat ∷ [] → put ≡ made seat → took ≡ taken seat
    → IsPermutation (flat_map taken seats ++ left) (flat_map made seats) → IsPermutation (took ++ left) put
of_only_seat made taken seat seats put took left one is_made is_taken p =
    let m : flat_map made seats ≡ put = ap (flat_map made) one ∙ append-nil (made seat) ∙ sym is_made in
    let t : flat_map taken seats ≡ took = ap (flat_map taken) one ∙ append-nil (taken seat) ∙ sym is_taken in
    subst (IsPermutation (took ++ left)) m (subst (λ xs. IsPermutation (xs ++ left) (flat_map made seats)) t p)
