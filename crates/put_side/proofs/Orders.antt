-- Items whose places are the first numbers, each once, in order of place.
use Rattle.std.proofs.Common.{◌≡◌, ℕ, zero, suc, ◌+◌, ◌<◌, List, [], ◌∷◌, ◌++◌, cond, length, get_or, refl, sym, ap, ◌∙◌, arith}
use Rattle.std.specs.Prelude.{Some, slice_get, ◌==◌, Contains, IsPermutation, remove}
use Rattle.std.specs.List.{range_with_len}
use Rattle.std.proofs.lemmas.List.{get_or-map, length-map, map-append}
use Rattle.std.proofs.lemmas.List.Sums.{sum_by-append}
use Rattle.std.proofs.lemmas.List.FromFn.{get_or-range_with_len, length-range_with_len}
use Rattle.std.proofs.lemmas.List.Sorted.{Contains-permutation, IsPermutation-cons, IsPermutation-map, IsPermutation-refl, IsPermutation-remove, IsPermutation-sym, IsPermutation-to_front, IsPermutation-trans, sum_by-IsPermutation}
use Rattle.std.proofs.lemmas.Option.{get_or_from_slice_get, slice_get-get_or, slice_get_within}
use Rattle.rail.specs.declared.entry.Placed.{Placed}
use Rattle.rail.specs.Items.{places}
use Rattle.put_side.specs.Counts.{one_at, one_below, times}
use Rattle.put_side.proofs.Sums.{none_from, not_there, one_in, times-cons}
use Rattle.put_side.proofs.Draws.{below_more}
use Rattle.put_side.proofs.Items.{some_item}

pub times_append : (p : ℕ) (xs ys : List ℕ) → times p (xs ++ ys) ≡ times p xs + times p ys
times_append p xs ys = sum_by-append (λ q. cond (q == p) 1 0) xs ys

pub places_append : (xs ys : List Placed) → places (xs ++ ys) ≡ places xs ++ places ys
places_append xs ys = map-append (λ (i : Placed). i.place) xs ys

pub range_more : (a n : ℕ) → range_with_len a (suc n) ≡ range_with_len a n ++ (a + n) ∷ []
range_more a zero = let e : a ≡ a + 0 = omega arith in ap (λ (k : ℕ). k ∷ []) e
range_more a (suc n) = let e : a + 1 + n ≡ a + suc n = omega arith in ap (λ (l : List ℕ). a ∷ l) (range_more (a + 1) n ∙ ap (λ (k : ℕ). range_with_len (a + 1) n ++ k ∷ []) e)

-- the items in order of place
pub record InOrder (items : List Placed) (n : ℕ) : Type 0 where
  pub list : List Placed
  pub same : IsPermutation items list
  pub no_gap : places list ≡ range_with_len 0 n

-- how often a place stands among the rest, where one item is taken out
rest_times : (items : List Placed) (i : ℕ) (x : Placed) (p : ℕ) → slice_get items i ≡ Some x → times p (places items) ≡ one_at x.place p + times p (places (remove items i))
rest_times items i x p at =
    let m = IsPermutation-map (λ (j : Placed). j.place) items (x ∷ remove items i) (IsPermutation-remove items i x (slice_get_within items i x at) (sym (get_or_from_slice_get items i x x at))) in
    sym (sum_by-IsPermutation (λ q. cond (q == p) 1 0) (places items) (x.place ∷ places (remove items i)) m) ∙ times-cons p x.place (places (remove items i))

pub in_order : (n : ℕ) (items : List Placed) → ((p : ℕ) → times p (places items) ≡ one_below p n) → InOrder items n
in_order zero [] c = record { list = []; same = IsPermutation-refl []; no_gap = refl }
in_order zero (x ∷ xs) c = absurd (not_there x.place (places xs) (sym (times-cons x.place x.place (places xs)) ∙ c x.place ∙ none_from x.place 0 (omega arith)))
in_order (suc m) items c =
    let one = one_in m (suc m) (omega arith) in
    let s = some_item items m (let e = c m in omega arith) in
    let i : ℕ = s.0 in
    let x : Placed = s.1 in
    let left : (p : ℕ) → times p (places (remove items i)) ≡ one_below p m =
    λ p. let r = rest_times items i x p s.2 in let e = c p in let b = below_more p m in let q = ap (λ (k : ℕ). one_at k p) s.3 in let n = ap (one_below p) (let z : suc m ≡ m + 1 = omega arith in z) in omega arith in
    let r = in_order m (remove items i) left in
    record {
      list = r.list ++ x ∷ [];
      same = IsPermutation-trans items (x ∷ remove items i) (r.list ++ x ∷ []) (IsPermutation-remove items i x (slice_get_within items i x s.2) (sym (get_or_from_slice_get items i x x s.2)))
          (IsPermutation-trans (x ∷ remove items i) (x ∷ r.list) (r.list ++ x ∷ []) (IsPermutation-cons x _ _ r.same) (IsPermutation-sym _ _ (IsPermutation-to_front r.list x)));
      no_gap = places_append r.list (x ∷ []) ∙ ap (λ (l : List ℕ). l ++ x.place ∷ []) r.no_gap ∙ ap (λ (k : ℕ). range_with_len 0 m ++ k ∷ []) (s.3 ∙ (let z : m ≡ 0 + m = omega arith in z)) ∙ sym (range_more 0 m);
    }

-- an item of such a list stands at its place
pub at_place : (list : List Placed) (n i : ℕ) (x : Placed) → places list ≡ range_with_len 0 n → slice_get list i ≡ Some x → (x.place ≡ i) × (i < n)
at_place list n i x e at =
    let long : length list ≡ n = sym (length-map list (λ (j : Placed). j.place)) ∙ ap length e ∙ length-range_with_len 0 n in
    let within : i < length list = slice_get_within list i x at in
    let read : get_or (places list) i 0 ≡ x.place = get_or-map (λ (j : Placed). j.place) list i x 0 within ∙ ap (λ (j : Placed). j.place) (get_or_from_slice_get list i x x at) in
    (sym read ∙ ap (λ (l : List ℕ). get_or l i 0) e ∙ get_or-range_with_len 0 n i 0 (omega arith) ∙ (let z : 0 + i ≡ i = omega arith in z), omega arith)

pub order_length : (items : List Placed) (n : ℕ) (o : InOrder items n) → length o.list ≡ n
order_length items n o = sym (length-map o.list (λ (j : Placed). j.place)) ∙ ap length o.no_gap ∙ length-range_with_len 0 n

-- an item of the whole stands in the list at its place
pub stands_at : (items : List Placed) (n : ℕ) (o : InOrder items n) (x d : Placed) → Contains items x → (x.place < n) × (get_or o.list x.place d ≡ x)
stands_at items n o x d c =
    let k = Contains-permutation items o.list x o.same c in
    let at : slice_get o.list k.0 ≡ Some x = slice_get-get_or o.list k.0 x k.1 ∙ ap Some k.2 in
    let p = at_place o.list n k.0 x o.no_gap at in
    (omega arith, ap (λ (j : ℕ). get_or o.list j d) p.0 ∙ get_or_from_slice_get o.list k.0 x d at)

pub stands_from : (items : List Placed) (n : ℕ) (o : InOrder items n) (i : ℕ) (d : Placed) → i < n → (x : Placed) × Contains items x × (x.place ≡ i) × (get_or o.list i d ≡ x)
stands_from items n o i d h =
    let x : Placed = get_or o.list i d in
    let within : i < length o.list = let e = order_length items n o in omega arith in
    let at : slice_get o.list i ≡ Some x = slice_get-get_or o.list i d within in
    let there : Contains o.list x = (i, within, get_or_from_slice_get o.list i x x at) in
    (x, Contains-permutation o.list items x (IsPermutation-sym items o.list o.same) there, (at_place o.list n i x o.no_gap at).0, refl)
