-- Items whose places are the first numbers, each once, in order of place.
use Rattle.std.proofs.Common.{◌≡◌, ℕ, zero, suc, ◌+◌, ◌<◌, List, [], ◌∷◌, get_or, length, refl, sym, ap, ◌∙◌, ⊎_elim, arith}
use Rattle.std.specs.Prelude.{Some, slice_get, ◌==◌}
use Rattle.std.specs.List.{Contains}
use Rattle.std.proofs.lemmas.Bool.{cases_eq, cond-false, cond-true, eq-eqb, ne_eqb}
use Rattle.std.proofs.lemmas.List.{get_or-map, same_lists}
use Rattle.std.proofs.lemmas.List.FromFn.{get_or-map-range_with_len, get_or-range_with_len, length-map-range_with_len}
use Rattle.std.proofs.lemmas.List.Sorted.{Contains-permutation, IsPermutation-sym, length_permutation}
use Rattle.std.proofs.lemmas.Option.{get_or_from_slice_get, slice_get-get_or, slice_get_within}
use Rattle.rail.specs.declared.entry.Placed.{Placed}
use Rattle.rail.specs.Items.{places}
use Rattle.rail.specs.Outcome.{IsAccepted}
use Rattle.shared_seats.specs.Seats.{in_order, item_at}

-- an item that no other of its place stands beside
item_found : (items : List Placed) (p : ℕ) (x : Placed) (i : ℕ) → slice_get items i ≡ Some x → x.place ≡ p → ((j : ℕ) (y : Placed) → slice_get items j ≡ Some y → y.place ≡ p → y ≡ x) → item_at items p ≡ x
item_found [] p x i at is only = cc
item_found (y ∷ ys) p x zero at is only = let e : y ≡ x = cc in cond-true (y.place == p) y (item_at ys p) (eq-eqb y.place p (ap (λ (z : Placed). z.place) e ∙ is)) ∙ e
item_found (y ∷ ys) p x (suc i) at is only = ⊎_elim
    (λ same. cond-true (y.place == p) y (item_at ys p) (eq-eqb y.place p same) ∙ only 0 y refl same)
    (λ other. cond-false (y.place == p) y (item_at ys p) (ne_eqb y.place p other) ∙ item_found ys p x i at is (λ j z e. only (suc j) z e))
    (cases_eq y.place p)

contained : {A : Type 0} (xs : List A) (i : ℕ) (x : A) → slice_get xs i ≡ Some x → Contains xs x
contained xs i x e = (i, slice_get_within xs i x e, get_or_from_slice_get xs i x x e)

module _ (items accepted : List Placed) (is : IsAccepted items accepted) where
  -- an accepted item stands at its place
  at_place : (i : ℕ) (x : Placed) → slice_get accepted i ≡ Some x → x.place ≡ i
  at_place i x at =
      let within = slice_get_within accepted i x at in
      let read : get_or (places accepted) i 0 ≡ x.place = get_or-map (λ (y : Placed). y.place) accepted i x 0 within ∙ ap (λ (y : Placed). y.place) (get_or_from_slice_get accepted i x x at) in
      sym read ∙ ap (λ (l : List ℕ). get_or l i 0) is.no_gap ∙ (get_or-range_with_len 0 (length accepted) i 0 within ∙ (let z : 0 + i ≡ i = omega arith in z))

  -- one item of a place is the other
  only_one : (i : ℕ) (x y : Placed) → slice_get accepted i ≡ Some x → Contains items y → y.place ≡ i → y ≡ x
  only_one i x y at there place =
      let k = Contains-permutation items accepted y is.all_made there in
      let found : slice_get accepted k.0 ≡ Some y = slice_get-get_or accepted k.0 y k.1 ∙ ap Some k.2 in
      let same : i ≡ k.0 = sym place ∙ at_place k.0 y found in
      let found_here : slice_get accepted i ≡ Some y = ap (slice_get accepted) same ∙ found in
      cc

  long : length (in_order items) ≡ length accepted
  long = length-map-range_with_len (item_at items) 0 (length items) ∙ sym (length_permutation items accepted is.all_made)

  -- the accepted items are those in order of place
  pub ordered : in_order items ≡ accepted
  ordered = same_lists (in_order items) accepted long
      (λ k d lt.
      let within : k < length accepted = omega (arith, long) in
      let x : Placed = get_or accepted k d in
      let at : slice_get accepted k ≡ Some x = slice_get-get_or accepted k d within in
      let there = Contains-permutation accepted items x (IsPermutation-sym items accepted is.all_made) (contained accepted k x at) in
      let found : slice_get items there.0 ≡ Some x = slice_get-get_or items there.0 x there.1 ∙ ap Some there.2 in
      get_or-map-range_with_len (item_at items) 0 (length items) k k d (omega (arith, length_permutation items accepted is.all_made)) (omega arith)
      ∙ item_found items k x there.0 found (at_place k x at) (λ j y e place. only_one k x y at (contained items j y e) place))
