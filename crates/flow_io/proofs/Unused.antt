-- Facts of each element of a list that gains one or loses its last.
use Rattle.std.proofs.Common.{List, [], ◌∷◌, ◌++◌}
use Rattle.std.specs.List.{AllByRecursion}

module _ {X : Type 0} (P : X → Type 0) where
  pub all_push : (xs : List X) (x : X) → AllByRecursion P xs → P x → AllByRecursion P (xs ++ x ∷ [])
  all_push [] x all p = (p, tt)
  all_push (y ∷ ys) x all p = (all.0, all_push ys x all.1 p)

  pub all_pop : (xs : List X) (x : X) → AllByRecursion P (xs ++ x ∷ []) → AllByRecursion P xs × P x
  all_pop [] x all = (tt, all.0)
  all_pop (y ∷ ys) x all = let rest = all_pop ys x all.1 in ((all.0, rest.0), rest.1)
