-- Where a count is not zero, some item counts.
use Rattle.std.proofs.Common.{◌≡◌, ℕ, suc, ◌+◌, ◌≤◌, List, [], ◌∷◌, refl, ap, ◌∙◌, ⊎_elim, arith}
use Rattle.std.specs.Prelude.{Some, slice_get}
use Rattle.std.specs.List.{sum_by}
use Rattle.std.proofs.lemmas.Bool.{cases_lt}
use Rattle.std.proofs.lemmas.Bool.Decides.{nat_tests}
use Rattle.rail.specs.declared.entry.Placed.{Placed}
use Rattle.rail.specs.Items.{placed, places}
use Rattle.machine.specs.declared.view.View.{View}
use Rattle.machine.proofs.Lists.{one_le_sum}
use Rattle.put_side.specs.Counts.{makes, one_at, times}
use Rattle.put_side.specs.Entries.{IsMade}
use Rattle.put_side.proofs.Sums.{some_counts, times-cons}
use Rattle.put_side.proofs.Stores.{counted}

pub one_there : (q p : ℕ) → 1 ≤ one_at q p → q ≡ p
one_there q p h = grind (arith, nat_tests)

pub some_item : (items : List Placed) (p : ℕ) → 1 ≤ times p (places items) → (i : ℕ) × (item : Placed) × (slice_get items i ≡ Some item) × (item.place ≡ p)
some_item [] p h = absurd (omega arith)
some_item (x ∷ xs) p h =
    let t : times p (places (x ∷ xs)) ≡ one_at x.place p + times p (places xs) = times-cons p x.place (places xs) in
    ⊎_elim (λ z. let r = some_item xs p (omega arith) in (suc r.0, r.1, r.2, r.3)) (λ z. (0, x, refl, one_there x.place p z)) (cases_lt (one_at x.place p) 1)

module _ {P : Type 0} (vs : List (View P)) where
  pub made_counts : (item : Placed) → IsMade vs item → 1 ≤ sum_by (makes item.place) vs
  made_counts item m = let c = counted m.view.made m.number item m.there in let o = one_le_sum (makes item.place) vs m.seat m.view m.at in omega arith

  pub made_there : (p : ℕ) → 1 ≤ sum_by (makes p) vs → (words : List ℕ) × IsMade vs (placed p words)
  made_there p h =
      let r = some_counts (makes p) vs h in
      let i = some_item r.1.made p r.3 in
      let e : i.1 ≡ placed p i.1.words = λ k. record { place = i.3 k; words = i.1.words } in
      (i.1.words, record { seat = r.0; view = r.1; at = r.2; number = i.0; there = i.2 ∙ ap Some e })
