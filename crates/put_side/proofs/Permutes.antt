-- The side of puts does not mind in which order the seats stand.
use Rattle.std.proofs.Common.{◌≡◌, ℕ, List, sym, ap, ◌∙◌, inl, inr, ⊎_elim, arith}
use Rattle.std.specs.Prelude.{Some, slice_get, IsPermutation}
use Rattle.std.specs.List.{sum_by}
use Rattle.std.proofs.lemmas.List.Sorted.{Contains-permutation, IsPermutation-sym, length_permutation, sum_by-IsPermutation}
use Rattle.std.proofs.lemmas.Option.{get_or_from_slice_get, slice_get-get_or, slice_get_within}
use Rattle.cursor_word.specs.Shape.{Grid}
use Rattle.machine.specs.declared.view.View.{View}
use Rattle.put_side.specs.Cursors.{Front, PutCursors, place}
use Rattle.put_side.specs.Stages.{PutStage}
use Rattle.put_side.specs.Counts.{adds, claim_count, claims, makes}
use Rattle.put_side.specs.PutSide.{PutSide}
use Rattle.put_side.specs.Manned.{IsManned, enters, opens_allocated, raises_producer}
use Rattle.put_side.proofs.Sums.{upto_same}
use Rattle.put_side.proofs.Made.{KeepsMade}

module _ {P : Type 0} (vs vs' : List (View P)) (moved : IsPermutation vs vs') where
  pub same_sum : (f : View P → ℕ) → sum_by f vs' ≡ sum_by f vs
  same_sum f = sum_by-IsPermutation f vs vs' moved

  -- each view stands in the other list too
  pub view_from : (j : ℕ) (u : View P) → slice_get vs' j ≡ Some u → (i : ℕ) × (slice_get vs i ≡ Some u)
  view_from j u at =
      let c = Contains-permutation vs' vs u (IsPermutation-sym vs vs' moved) (j, slice_get_within vs' j u at, get_or_from_slice_get vs' j u u at) in
      (c.0, slice_get-get_or vs c.0 u c.1 ∙ ap Some c.2)

  pub view_to : (j : ℕ) (u : View P) → slice_get vs j ≡ Some u → (i : ℕ) × (slice_get vs' i ≡ Some u)
  view_to j u at =
      let c = Contains-permutation vs vs' u moved (j, slice_get_within vs j u at, get_or_from_slice_get vs j u u at) in
      (c.0, slice_get-get_or vs' c.0 u c.1 ∙ ap Some c.2)

  pub permuted_made : KeepsMade vs vs'
  permuted_made = record {
    counts = λ q. let e = same_sum (makes q) in omega arith;
    items = λ item m. let b = view_to m.seat m.view m.at in record { seat = b.0; view = m.view; at = b.1; number = m.number; there = m.there };
  }

  module _ (stage : View P → PutStage) (g : Grid) (front : Front) where
    pub permuted_side : (ws : List ℕ) → PutSide stage g front ws vs → PutSide stage g front ws vs'
    permuted_side ws s =
        let p = s.places in
        let c = p.counts in
        record {
          all = s.all;
          places = record {
            few = let n = length_permutation vs vs' moved in let f = p.few in omega arith;
            words = p.words;
            counts = record {
              once = λ q. same_sum (claims stage g q) ∙ c.once q;
              number = same_sum (claim_count stage g) ∙ c.number;
              adds = λ k l n. let e = same_sum (adds stage g k) in let b = c.adds k l n in omega arith;
              made = λ k l n o. c.made k l n o ∙ upto_same g.size _ _ (λ q h. sym (same_sum (makes (place g k q))));
            };
            each = λ j u e. let i = view_from j u e in p.each i.0 u i.1;
          };
          entries = λ j u e. let i = view_from j u e in s.entries i.0 u i.1;
        }

    pub permuted_manned : (cs : PutCursors) → IsManned stage g front cs vs → IsManned stage g front cs vs'
    permuted_manned cs m = record {
      allocated = ⊎_elim (λ z. inl z) (λ z. inr (let e = same_sum (λ (u : View P). opens_allocated front.last (stage u)) in omega arith)) m.allocated;
      producer = ⊎_elim (λ z. inl z) (λ z. inr (let e = same_sum (λ (u : View P). raises_producer front.last (stage u)) in omega arith)) m.producer;
      entered = ⊎_elim (λ z. inl z) (λ z. inr (let e = same_sum (λ (u : View P). enters front.last (stage u)) in omega arith)) m.entered;
    }
