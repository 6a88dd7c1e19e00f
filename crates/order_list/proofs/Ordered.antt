-- What is sorted by place is in order of place, where no place stands twice.
use Rattle.std.proofs.Common.{◌≡◌, ℕ, ◌+◌, ◌<◌, List, [], ◌∷◌, ◌++◌, get_or, length, take, ap, ◌∙◌, arith}
use Rattle.std.specs.Prelude.{flat_map, nat_eq, IsPermutation}
use Rattle.std.specs.List.{IsDistinct}
use Rattle.std.specs.List.Sorted.{IsNonDecreasingBy}
use Rattle.std.proofs.lemmas.List.{append-nil, take_more}
use Rattle.std.proofs.lemmas.List.Concat.{flat_map-append}
use Rattle.std.proofs.lemmas.List.Sorted.{IsPermutation-map}
use Rattle.std.proofs.lemmas.Bool.Decides.{nat_tests}
use Rattle.std.proofs.lemmas.Map.Keys.{IsDistinct-IsPermutation}
use Rattle.rail.specs.Batch.{Gathered}
use Rattle.rail.specs.declared.entry.Placed.{Placed}
use Rattle.rail.specs.Items.{IsRising, places}
use Rattle.rail.proofs.Rising.{rising_sorted}

pub rising_gathered : (xs ys : List Placed) → IsDistinct nat_eq (places xs) → IsPermutation xs ys → IsNonDecreasingBy (λ (i : Placed). i.place) ys → IsRising (places ys)
rising_gathered xs ys apart p sorted =
    rising_sorted ys sorted (IsDistinct-IsPermutation nat_eq (λ a b. grind (arith, nat_tests)) (places xs) (places ys) (IsPermutation-map (λ (i : Placed). i.place) xs ys p) apart)

pub items_more : (batches : List Gathered) (i : ℕ) (d : Gathered) → i < length batches
    → flat_map (λ (b : Gathered). b.items) (take (i + 1) batches) ≡ flat_map (λ (b : Gathered). b.items) (take i batches) ++ (get_or batches i d).items
items_more batches i d lt =
    ap (flat_map (λ (b : Gathered). b.items)) (take_more batches i d lt) ∙ flat_map-append (λ (b : Gathered). b.items) (take i batches) (get_or batches i d ∷ [])
    ∙ ap (λ (xs : List Placed). flat_map (λ (b : Gathered). b.items) (take i batches) ++ xs) (append-nil (get_or batches i d).items)
