use Rattle.std.proofs.Common.{rules, subst, sym}
use Rattle.std.specs.Prelude.{IsPermutation}
use Rattle.std.specs.List.Sorted.{IsNonDecreasingBy}
use Rattle.std.proofs.lemmas.List.Sorted.{IsNonDecreasingBy-from_sort_by_key}
use Rattle.rail.specs.Batch.{Gathered}
use Rattle.rail.specs.declared.entry.Placed.{Placed}
use Rattle.rail.specs.Items.{IsRising, places}
use Rattle.order_list.specs.Whole.{all_items}
use Rattle.order_list.proofs.Ordered.{rising_gathered}
use Rattle.order_list.proofs.gather.Goals as goal

pub returns-clause-order : goal.returns-clause-order
returns-clause-order c =
    let all : IsPermutation (all_items c.args.batches.now c.args.left.now) c.sort_unstable_by_key.new.self.items = search rules in
    let sorted : IsNonDecreasingBy (λ (i : Placed). i.place) c.sort_unstable_by_key.new.self.items =
    IsNonDecreasingBy-from_sort_by_key (λ (i : Placed). i.place) _ c.sort_unstable_by_key.ensures.sorted (λ a r q k. search rules) in
    let order : IsRising (places c.sort_unstable_by_key.new.self.items) = rising_gathered _ _ c.requires.apart all sorted in
    subst (λ (b : Gathered). IsRising (places b.items)) (sym c.from_vec.ensures) order
