-- Bytes that a source gave in parts.
use Rattle.std.proofs.Common.{◌≡◌, ℕ, ◌+◌, ◌<◌, List, ◌++◌, length, take, drop, Option, Some, None, sym, ap, ◌∙◌, subst, arith, take-add, drop-drop, length-drop, take_all}
use Rattle.flow_io.specs.Flow.{Files, BeginsFile, GivesNext}
use Rattle.flow_io.specs.Reading.{IfHeld}

pub gives_more : (all mid new : Option (List ℕ)) (old text : List ℕ) (a n : ℕ) → GivesNext all mid a old → take a text ≡ take a old → GivesNext mid new n (drop a text) → GivesNext all new (a + n) text
gives_more None mid new old text a n g front h = tt
gives_more (Some bytes) mid new old text a n g front h =
    let next = subst (λ m. GivesNext m new n (drop a text)) g.2 h in (
      omega (arith, next.0, g.0, length-drop a bytes),
      take-add a n text ∙ ap (λ l. l ++ take n (drop a text)) (front ∙ g.1) ∙ ap (λ l. take a bytes ++ l) next.1 ∙ sym (take-add a n bytes),
      next.2 ∙ ap Some (drop-drop n a bytes),
    )

-- a buffer that is full of the first bytes of the file, one more than the limit
pub full_of_file : (files : Option Files) (name : List ℕ) (all left : Option (List ℕ)) (text : List ℕ) (n limit : ℕ) → BeginsFile files name all → GivesNext all left n text → n ≡ limit + 1 → length text ≡ limit + 1
    → IfHeld files name (λ bytes. (text ≡ take (limit + 1) bytes) × (limit < length bytes))
full_of_file None name all left text n limit b g e l = tt
full_of_file (Some held) name all left text n limit b g e l =
    let given = subst (λ a. GivesNext a left n text) b.2 g in
    (b.0, b.1, (sym (take_all n text (omega arith)) ∙ given.1 ∙ ap (λ k. take k b.0) e, omega (arith, given.0)))
