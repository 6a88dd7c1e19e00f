use Rattle.std.proofs.Common.{◌≡◌, List, [], ◌∷◌, ◌++◌, refl, subst, sym}
use Rattle.std.specs.Prelude.{nat_eq}
use Rattle.std.specs.List.{IsDistinct}
use Rattle.rail.specs.declared.entry.Placed.{Placed}
use Rattle.rail.specs.Items.{placed, places}
use Rattle.rail_tests.proofs.gathering.gathers_in_order_of_place.Goals as goal

four : (a b c d : List Placed) → a ≡ placed 2 (20 ∷ []) ∷ [] → b ≡ placed 0 (0 ∷ []) ∷ [] → c ≡ placed 1 (10 ∷ []) ∷ [] → d ≡ placed 3 (30 ∷ []) ∷ [] → IsDistinct nat_eq (places ((a ++ (b ++ (c ++ []))) ++ d))
unfolding IsDistinct
four a b c d ea eb ec ed =
    let e : places ((a ++ (b ++ (c ++ []))) ++ d) ≡ 2 ∷ 0 ∷ 1 ∷ 3 ∷ [] = λ k. places ((ea k ++ (eb k ++ (ec k ++ []))) ++ ed k) in
    subst (IsDistinct nat_eq) (sym e) ((refl, (refl, (refl, tt))), ((refl, (refl, tt)), ((refl, tt), (tt, tt))))

pub gather-requires : goal.gather-requires
gather-requires g c = record { apart = four _ _ _ _ c.in_ok-batch_of.ensures c.in_ok-batch_of-2.ensures c.in_ok-batch_of-3.ensures c.in_ok-left.ensures }
