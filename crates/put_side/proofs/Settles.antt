-- Where what was taken are the first of what was made and the rest stands in the words, all is settled.
use Rattle.std.proofs.Common.{◌≡◌, ℕ, ◌+◌, ◌-◌, ◌≤◌, List, length, get_or, take, drop, sym, ap, ◌∙◌, subst, refl, arith}
use Rattle.std.specs.Prelude.{Contains, IsPermutation}
use Rattle.std.proofs.lemmas.List.{get_or-drop, get_or-take, length-drop, length-take-le, same_lists}
use Rattle.std.proofs.lemmas.List.FromFn.{get_or-map-range_with_len, length-map-range_with_len}
use Rattle.std.proofs.lemmas.List.Sorted.{length_permutation}
use Rattle.cursor_word.specs.Shape.{Grid}
use Rattle.rail.specs.declared.entry.Placed.{Placed}
use Rattle.rail.specs.Items.{placed}
use Rattle.rail.specs.Outcome.{numbers_below}
use Rattle.machine.specs.declared.view.View.{View}
use Rattle.machine.specs.Entries.{entry_at, left_in}
use Rattle.put_side.specs.Gathered.{all_made, all_taken}
use Rattle.put_side.specs.Settled.{IsSettled}
use Rattle.put_side.proofs.Orders.{InOrder, order_length, stands_at, stands_from}

module _ {P : Type 0} (g : Grid) (a t : ℕ) (ws : List ℕ) (vs : List (View P)) (made : InOrder (all_made vs) a) (taken : InOrder (all_taken vs) t) (within : t ≤ a)
    (is_made : (x : Placed) → Contains (all_taken vs) x → Contains (all_made vs) x) (stands : (x : Placed) → Contains (all_made vs) x → t ≤ x.place → entry_at g ws x.place ≡ x.words) where
  n : length made.list ≡ a
  n = order_length (all_made vs) a made

  m : length taken.list ≡ t
  m = order_length (all_taken vs) t taken

  -- the first of the accepted items are the taken ones
  first_taken : taken.list ≡ take t made.list
  first_taken =
      let e = n in
      let c : length (take t made.list) ≡ t = length-take-le t made.list (omega arith) in
      same_lists taken.list (take t made.list) (m ∙ sym c) (λ i d h.
      let l = m in
      let k = stands_from (all_taken vs) t taken i d (omega arith) in
      let there = stands_at (all_made vs) a made k.0 d (is_made k.0 k.1) in
      k.3 ∙ sym there.1 ∙ ap (λ (j : ℕ). get_or made.list j d) k.2 ∙ sym (get_or-take t made.list i d (omega arith)))

  -- and the rest stands in the words
  rest_left : left_in g ws t a ≡ drop t made.list
  rest_left =
      let c : length (left_in g ws t a) ≡ a - t = length-map-range_with_len _ t (a - t) in
      let b : length (drop t made.list) ≡ a - t = length-drop t made.list ∙ ap (λ (k : ℕ). k - t) n in
      same_lists (left_in g ws t a) (drop t made.list) (c ∙ sym b) (λ i d h.
      let k = stands_from (all_made vs) a made (t + i) d (omega arith) in
      let words = stands k.0 k.1 (let e = k.2 in omega arith) in
      let item : placed (t + i) (entry_at g ws (t + i)) ≡ k.0 = λ q. record { place = sym k.2 q; words = (ap (entry_at g ws) (sym k.2) ∙ words) q } in
      get_or-map-range_with_len _ t (a - t) i (t + i) d (omega arith) refl ∙ item ∙ sym k.3 ∙ sym (get_or-drop t made.list i d))

  pub settled : IsSettled g ws vs
  settled =
      let gone : length (all_taken vs) ≡ t = sym (length_permutation (all_taken vs) taken.list taken.same) ∙ m in
      let total : length (all_made vs) ≡ a = sym (length_permutation (all_made vs) made.list made.same) ∙ n in
      record {
        accepted = made.list;
        is_accepted = record { all_made = made.same; no_gap = made.no_gap ∙ ap numbers_below (sym n) };
        outcome = record {
          count = t;
          within = let e = n in omega arith;
          first_taken = subst (λ (l : List Placed). IsPermutation (all_taken vs) l) first_taken taken.same;
          rest_left = ap (λ (k : ℕ). left_in g ws k (length (all_made vs))) gone ∙ ap (left_in g ws t) total ∙ rest_left;
        };
      }
