-- An input asks for one ending.
use Rattle.std.proofs.Common.{◌≡◌, ℕ, ◌≤◌, length, refl, sym, ap, subst, arith, inl, inr}
use Rattle.std.specs.Prelude.{List, Option, Some, None, IfSome, IsSome}
use Rattle.std.proofs.lemmas.Bool.{cases_order}
use Rattle.profile_cli.specs.declared.ending.Ending.{Ending}
use Rattle.profile_cli.specs.declared.ending.Ending.TheVariants.{Unread, TooLarge}
use Rattle.profile_cli.specs.Input.{AreRead, CanRun, Input, IsDue, IsMissing, IsReached, IsRead, IsThere, IsTooLarge, IsTooMany, IsTooMuch, known, origin_at, text_at}
use Rattle.profile_cli.specs.Texts.{text_limit}
use Rattle.profile_cli.specs.Input.IsDue.{done, missing, too_large, too_much, too_many}

missing_there : (is : Option (Option (List ℕ))) → IfSome is IsSome → is ≡ Some None → ⊥
missing_there None there none = cc
missing_there (Some None) there none = cc
missing_there (Some (Some text)) there none = cc

module _ (input : Input) where
  -- text n is the first that can't be had
  record IsFirst (n : ℕ) : Type 0 where
    reached : IsReached input n
    refused : IsRead input n → ⊥

  first_missing : (n : ℕ) → IsMissing input n → IsFirst n
  first_missing n m = record { reached = m.reached; refused = λ r. missing_there (known input.files (origin_at input.origins n)) r.there m.missing }

  first_large : (n : ℕ) → IsTooLarge input n → IsFirst n
  first_large n l = record { reached = l.reached; refused = λ r. (let a = l.large in let b = r.small in let no : ⊥ = omega arith in no) }

  first_much : (n : ℕ) → IsTooMuch input n → IsFirst n
  first_much n m = record { reached = m.reached; refused = λ r. (let a = m.large in let b = r.fits in let no : ⊥ = omega arith in no) }

  same : (n m : ℕ) → IsFirst n → IsFirst m → n ≡ m
  same n m a b = elim (cases_order n m) [
    | inl e ↦ e
    | inr (inl lt) ↦ absurd (a.refused (b.reached.before n lt))
    | inr (inr lt) ↦ absurd (b.refused (a.reached.before m lt))
  ]

  none : (n : ℕ) → AreRead input (length input.origins) → IsFirst n → ⊥
  none n read a = a.refused (read n a.reached.number)

  missing_large : (n m : ℕ) → IsMissing input n → IsTooLarge input m → ⊥
  missing_large n m a b = missing_there (known input.files (origin_at input.origins n)) (subst (IsThere input) (sym (same n m (first_missing n a) (first_large m b))) b.there) a.missing

  missing_much : (n m : ℕ) → IsMissing input n → IsTooMuch input m → ⊥
  missing_much n m a b = missing_there (known input.files (origin_at input.origins n)) (subst (IsThere input) (sym (same n m (first_missing n a) (first_much m b))) b.there) a.missing

  large_much : (n m : ℕ) → IsTooLarge input n → IsTooMuch input m → ⊥
  large_much n m a b =
      let at = subst (λ (k : ℕ). length (text_at input k) ≤ text_limit) (sym (same n m (first_large n a) (first_much m b))) b.small in
      let large = a.large in let no : ⊥ = omega (arith, at, large) in no

  few_many : (piece : ℕ) → CanRun input piece → IsTooMany input piece → ⊥
  few_many piece a b = let few = a.few in let many = b.many in let no : ⊥ = omega (arith, few, many) in no

  -- and no other
  pub due_once : {piece : ℕ} {a b : Ending} → IsDue piece input a → IsDue piece input b → a ≡ b
  due_once (done x) (done y) = refl
  due_once (done x) (missing m y) = absurd (none m x.read (first_missing m y))
  due_once (done x) (too_large m y) = absurd (none m x.read (first_large m y))
  due_once (done x) (too_much m y) = absurd (none m x.read (first_much m y))
  due_once (done x) (too_many y) = absurd (few_many _ x y)
  due_once (missing n x) (done y) = absurd (none n y.read (first_missing n x))
  due_once (missing n x) (missing m y) = ap Unread (same n m (first_missing n x) (first_missing m y))
  due_once (missing n x) (too_large m y) = absurd (missing_large n m x y)
  due_once (missing n x) (too_much m y) = absurd (missing_much n m x y)
  due_once (missing n x) (too_many y) = absurd (none n y.read (first_missing n x))
  due_once (too_large n x) (done y) = absurd (none n y.read (first_large n x))
  due_once (too_large n x) (missing m y) = absurd (missing_large m n y x)
  due_once (too_large n x) (too_large m y) = ap TooLarge (same n m (first_large n x) (first_large m y))
  due_once (too_large n x) (too_much m y) = absurd (large_much n m x y)
  due_once (too_large n x) (too_many y) = absurd (none n y.read (first_large n x))
  due_once (too_much n x) (done y) = absurd (none n y.read (first_much n x))
  due_once (too_much n x) (missing m y) = absurd (missing_much m n y x)
  due_once (too_much n x) (too_large m y) = absurd (large_much m n y x)
  due_once (too_much n x) (too_much m y) = refl
  due_once (too_much n x) (too_many y) = absurd (none n y.read (first_much n x))
  due_once (too_many x) (done y) = absurd (few_many _ y x)
  due_once (too_many x) (missing m y) = absurd (none m x.read (first_missing m y))
  due_once (too_many x) (too_large m y) = absurd (none m x.read (first_large m y))
  due_once (too_many x) (too_much m y) = absurd (none m x.read (first_much m y))
  due_once (too_many x) (too_many y) = refl
