-- Lists of one.
use Rattle.std.proofs.Common.{◌≡◌, List, [], ◌∷◌, sym, ap, subst, ◌∙◌, arith}
use Rattle.std.specs.Prelude.{flat_map}
use Rattle.std.specs.List.{All}
use Rattle.std.proofs.lemmas.List.{append-nil}
use Rattle.std.proofs.lemmas.List.Elements.{All-from_recursion}

pub flat_map-one : {X Y : Type 0} (f : X → List Y) (xs : List X) (x : X) → xs ≡ x ∷ [] → flat_map f xs ≡ f x
flat_map-one f xs x e = ap (flat_map f) e ∙ append-nil (f x)

pub all_one : {X : Type 0} (P : X → Type 0) (xs : List X) (x : X) → xs ≡ x ∷ [] → P x → All P xs
all_one P xs x e p = subst (All P) (sym e) (All-from_recursion P (x ∷ []) (p, tt))

pub of_one : {X : Type 0} (P : X → Type 0) (xs : List X) (x : X) → xs ≡ x ∷ [] → All P xs → P x
of_one P xs x e a = let b : All P (x ∷ []) = subst (All P) e a in b 0 x (omega arith)
