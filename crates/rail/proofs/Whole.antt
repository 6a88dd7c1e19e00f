-- What was taken of a queue that drops nothing, and what is left, is all that was put.
use Rattle.std.proofs.Common.{◌≡◌, List, ◌++◌, take, ap, subst, ◌∙◌}
use Rattle.std.specs.Prelude.{flat_map, IfOk, IsPermutation, Result, Ok, Err}
use Rattle.std.proofs.lemmas.List.{take-append-drop}
use Rattle.std.proofs.lemmas.List.Sorted.{IsPermutation-sym, IsPermutation-trans, IsPermutation-append_left}
use Rattle.rail.specs.declared.entry.Placed.{Placed}
use Rattle.rail.specs.Outcome.{IsAccepted, RetryOutcome}

pub taken_and_left : (made taken accepted done_taken left : List Placed) → IsAccepted made accepted → IsPermutation taken done_taken → RetryOutcome accepted done_taken left → IsPermutation (taken ++ left) made
taken_and_left made taken accepted done_taken left a p r =
    let first : IsPermutation (taken ++ left) (take r.count accepted ++ left) = IsPermutation-append_left left _ _ (IsPermutation-trans _ _ _ p r.first_taken) in
    let all : take r.count accepted ++ left ≡ accepted = ap (λ (t : List Placed). take r.count accepted ++ t) r.rest_left ∙ take-append-drop r.count accepted in
    IsPermutation-trans _ _ _ (subst (IsPermutation (taken ++ left)) all first) (IsPermutation-sym _ _ a.all_made)

-- the same of a close, which may be refused
module _ {S D E : Type 0} (made taken : S → List Placed) (accepted done_taken left : D → List Placed) (seats : List S) where
  pub closed_whole : (closed : Result D E) → IfOk closed (λ done. IsAccepted (flat_map made seats) (accepted done)) → IfOk closed (λ done. IsPermutation (flat_map taken seats) (done_taken done))
      → IfOk closed (λ done. RetryOutcome (accepted done) (done_taken done) (left done)) → IfOk closed (λ done. IsPermutation (flat_map taken seats ++ left done) (flat_map made seats))
  closed_whole (Ok done) a p r = taken_and_left (flat_map made seats) (flat_map taken seats) (accepted done) (done_taken done) (left done) a p r
  closed_whole (Err e) a p r = tt
