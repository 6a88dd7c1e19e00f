-- Numbers among the values of the options.
use Rattle.std.proofs.Common.{◌≡◌, ℕ, ◌^◌, ◌<◌, ◌≤◌, Bool, true, false, ◌&&◌, List, [], ◌∷◌, length, get_or, Some, None, Result, Ok, Err, refl, ap, subst, arith}
use Rattle.std.specs.Prelude.{nat_le, if◌then◌else◌}
use Rattle.std.specs.Str.{all_ascii_digits}
use Rattle.std.specs.Str.Parse.{digits_value, ParsesUnsigned}
use Rattle.std.proofs.lemmas.Bool.{leb-true, le-leb}
use Rattle.std.proofs.lemmas.Str.Parse.{parse_plain, numerals_by_value, tells_all_ascii_digits}
use Rattle.command_words.specs.Usage.{number_within}

no_number : (a b c : Bool) (n : ℕ) → (a ≡ true → c ≡ true → ⊥) → None ≡ (if a && (b && c) then Some n else None)
no_number true true true n h = absurd (h refl refl)
no_number true true false n h = refl
no_number true false c n h = refl
no_number false b c n h = refl

some_number : (a b c : Bool) (m n : ℕ) → a ≡ true → b ≡ true → c ≡ true → m ≡ n → Some m ≡ (if a && (b && c) then Some n else None)
some_number true true true m n ta tb tc e = ap Some e
some_number true true false m n ta tb tc e = absurd (cc)
some_number true false c m n ta tb tc e = absurd (cc)
some_number false b c m n ta tb tc e = absurd (cc)

module _ (least most : ℕ) where
  some_within : (bs : List ℕ) (n : ℕ) → least ≤ n → n ≤ most → all_ascii_digits bs ≡ true → 0 < length bs → n ≡ digits_value 10 bs → Some n ≡ number_within least most bs
  some_within [] n low high digits some is = let none : ⊥ = omega (arith, some) in absurd none
  some_within (d ∷ ds) n low high digits some is =
      some_number _ _ _ n (digits_value 10 (d ∷ ds)) digits
      (subst (λ m. nat_le least m ≡ true) is (le-leb least n low))
      (subst (λ m. nat_le m most ≡ true) is (le-leb n most high))
      is

  none_within : (bs : List ℕ) → most < 2 ^ 64 → ((all_ascii_digits bs ≡ true) × (0 < length bs) × (digits_value 10 bs < 2 ^ 64) → ⊥) → None ≡ number_within least most bs
  none_within [] small no_digits = refl
  none_within (d ∷ ds) small no_digits =
      no_number (all_ascii_digits (d ∷ ds)) _ _ (digits_value 10 (d ∷ ds)) (λ digits within.
      let le : digits_value 10 (d ∷ ds) ≤ most = leb-true (digits_value 10 (d ∷ ds)) most within in
      no_digits (digits, omega arith, omega (arith, le, small)))

-- what `parse` reads of a text that doesn't begin with a plus
module _ (least most : ℕ) (bs : List ℕ) (plain : get_or bs 0 0 ≡ 43 → ⊥) where
  pub number_read : (n : ℕ) → least ≤ n → n ≤ most → ParsesUnsigned {E = ℕ} 64 10 bs (Ok n) → Some n ≡ number_within least most bs
  number_read n low high told =
      let result : Result ℕ ℕ = Ok n in
      let read = parse_plain (numerals_by_value _ tells_all_ascii_digits) 64 bs result told plain in
      some_within least most bs n low high read.0.0 read.0.1 read.1

  pub none_read : most < 2 ^ 64 → ParsesUnsigned {E = ℕ} 64 10 bs (Err 0) → None ≡ number_within least most bs
  none_read small told =
      let result : Result ℕ ℕ = Err 0 in
      none_within least most bs small (parse_plain (numerals_by_value _ tells_all_ascii_digits) 64 bs result told plain)
