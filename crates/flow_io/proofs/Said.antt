-- A message that is written in parts.
use Rattle.std.proofs.Common.{◌≡◌, ℕ, ◌+◌, ◌≤◌, Bool, true, false, List, ◌++◌, length, take, Option, refl, sym, ap, ◌∙◌, length-append, inl, inr, arith}
use lib.Seq.{take-append-add}
use Rattle.std.proofs.lemmas.List.{take-append-le}
use Rattle.flow_io.specs.Flow.{Rose, gained, GainedPart}
use Rattle.flow_io.specs.Saying.{Said}
use Rattle.flow_io.proofs.Parts.{gained_twice}

rose_from : (a b c : ℕ) → a ≤ b → Rose b c → Rose a c
rose_from a b c le (inl h) = inl (omega arith)
rose_from a b c le (inr h) = inr h

pub said_part : (old new : Option (List ℕ)) (before now : ℕ) (xs ys : List ℕ) → Rose before now → GainedPart old new xs → Said old new before now (xs ++ ys)
said_part old new before now xs ys rose part =
    inr (rose, (part.0, omega (arith, part.1, length-append xs ys), part.2 ∙ ap (gained old) (sym (take-append-le part.0 xs ys (omega (arith, part.1))))))

pub said_more : (old mid new : Option (List ℕ)) (before between now : ℕ) (xs ys : List ℕ) → mid ≡ gained old xs → between ≡ before → Said mid new between now ys → Said old new before now (xs ++ ys)
said_more old mid new before between now xs ys m same (inl h) = inl (h.0 ∙ ap (λ t. gained t ys) m ∙ gained_twice old xs ys, h.1 ∙ same)
said_more old mid new before between now xs ys m same (inr h) = inr (rose_from before between now (omega (arith, same)) h.0, (length xs + h.1.0, omega (arith, h.1.1, length-append xs ys), h.1.2 ∙ ap (λ t. gained t (take h.1.0 ys)) m ∙ gained_twice old xs _ ∙ ap (gained old) (sym (take-append-add xs ys h.1.0))))

pub said_last : (b : Bool) (old new : Option (List ℕ)) (before now : ℕ) (xs : List ℕ) → (b ≡ true → new ≡ gained old xs) → (b ≡ true → now ≡ before) → (b ≡ false → GainedPart old new xs) → (b ≡ false → Rose before now) → Said old new before now xs
said_last true old new before now xs all quiet part cause = inl (all refl, quiet refl)
said_last false old new before now xs all quiet part cause = inr (cause refl, part refl)
