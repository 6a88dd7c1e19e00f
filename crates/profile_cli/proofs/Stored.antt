-- Documents that were begun and written to.
use Rattle.std.proofs.Common.{◌≡◌, ℕ, ◌++◌, Bool, true, false, List, [], ◌∷◌, take, refl, Option, Some, None, IfSome, ap, ◌∙◌, inl, inr, append_assoc, subst}
use Rattle.flow_io.specs.Flow.{Files, Beside, documents, gained, GainedPart}
use Rattle.profile_cli.specs.Written.{GainsDocuments, GainsPart, documents_by}

pub stored : (old : Option Files) (mid new : Option (List ℕ)) (begun kept : Beside) (name text : List ℕ) → IfSome old (λ earlier. (mid ≡ Some []) × (begun ≡ Some (earlier, name))) → new ≡ gained mid text → kept ≡ begun → GainsDocuments old (documents new kept) ((name, text) ∷ [])
stored None mid new begun kept name text begins grew same = tt
stored (Some earlier) mid new begun kept name text begins grew same =
    ap (λ t. documents t kept) (grew ∙ ap (λ m. gained m text) begins.0) ∙ ap (λ b. documents (Some text) b) (same ∙ begins.1)

-- a shorter prefix of the text was written
pub stored_part : (old : Option Files) (mid new : Option (List ℕ)) (begun kept : Beside) (name text : List ℕ) → IfSome old (λ earlier. (mid ≡ Some []) × (begun ≡ Some (earlier, name))) → GainedPart mid new text → kept ≡ begun → GainsPart old (documents new kept) ((name, text) ∷ [])
stored_part old mid new begun kept name text begins part same =
    ((name, take part.0 text) ∷ [], inr (inl (part.0, part.1, refl)), stored old mid new begun kept name (take part.0 text) begins part.2 same)

-- nothing was begun
pub stored_none : (old new : Option Files) (document : List ℕ × List ℕ) → new ≡ old → GainsPart old new (document ∷ [])
stored_none old new document same = ([], inl refl, same)

-- ---- one document, and others behind it

module _ (old mid new : Option Files) (document : List ℕ × List ℕ) (gains : GainsDocuments old mid (document ∷ [])) where
  gained_behind : (others : Files) → GainsDocuments mid new others → GainsDocuments old new (document ∷ others)
  gained_behind others more = behind old others gains more
    where
      behind : (old : Option Files) (others : Files) → GainsDocuments old mid (document ∷ []) → GainsDocuments mid new others → GainsDocuments old new (document ∷ others)
      behind None others first more = tt
      behind (Some earlier) [] first more = more ∙ first
      behind (Some earlier) (d ∷ ds) first more =
          let is : new ≡ Some ((earlier ++ document ∷ []) ++ d ∷ ds) = subst (λ (m : Option Files). GainsDocuments m new (d ∷ ds)) first more in
          is ∙ ap (λ (l : Files). Some l) (append_assoc earlier (document ∷ []) (d ∷ ds))

  part_behind : (others : Files) → GainsPart mid new others → GainsPart old new (document ∷ others)
  part_behind others part = (document ∷ part.0, inr (inr (part.0, refl, part.1)), gained_behind part.0 part.2)

-- the trace is whole, and what is folded isn't
pub part_both : (old mid new : Option Files) (trace folded_times : List ℕ × List ℕ) (fold : Bool) → fold ≡ true → GainsDocuments old mid (trace ∷ []) → GainsPart mid new (folded_times ∷ []) → GainsPart old new (documents_by fold trace folded_times)
part_both old mid new trace folded_times false is gains part = absurd (cc)
part_both old mid new trace folded_times true is gains part = part_behind old mid new trace gains (folded_times ∷ []) part
