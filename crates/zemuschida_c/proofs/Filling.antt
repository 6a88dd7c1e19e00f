-- A list that is filled from its front with what a function makes of another's items.
use Rattle.std.proofs.Common.{◌≡◌, ◌∙◌, ℕ, ◌+◌, ◌<◌, ◌++◌, ◌∷◌, [], List, Some, ap, length, map, slice_get, slice_set, sym, take}
use Rattle.std.proofs.lemmas.List.{map_push, take_more, take_more_set}
use Rattle.std.proofs.lemmas.Option.{get_or_from_slice_get}

pub filled_on : {A B : Type 0} (f : A → B) (found : List A) (now : List B) (i : ℕ) (x : A) (y : B) → slice_get found i ≡ Some x → y ≡ f x → i < length found → i < length now → take i now ≡ map f (take i found)
    → take (i + 1) (slice_set now i y) ≡ map f (take (i + 1) found)
filled_on f found now i x y is made within room front =
    take_more_set now i y room ∙ ap (λ ys. ys ++ y ∷ []) front ∙ ap (λ z. map f (take i found) ++ z ∷ []) made
    ∙ sym (ap (map f) (take_more found i x within ∙ ap (λ z. take i found ++ z ∷ []) (get_or_from_slice_get found i x x is)) ∙ map_push f (take i found) x)
