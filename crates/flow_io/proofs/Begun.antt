-- A document that is begun behind the earlier ones.
use Rattle.std.proofs.Common.{◌≡◌, ℕ, Result, Ok, Err, IsOk, is_ok, if◌then◌else◌, List, [], ◌∷◌, ◌++◌, map, Option, Some, None, refl, ap, ◌∙◌, sym, subst, MatchOption}
use Rattle.std.specs.Option.{option_to_list}
use Rattle.std.proofs.lemmas.List.{map-append}
use Rattle.flow_io.specs.Flow.{Files, BeginsDocument}
use Rattle.flow_io.specs.Held.{last_bytes, last_name}
use Rattle.flow_io.specs.Stored.{begun_of, document_of}
use Rattle.flow_io.specs.declared.store.Document.{Document}

behind : (kept earlier : List Document) (d : Document) (files : Files) (name : List ℕ) → kept ≡ earlier → map document_of earlier ≡ files → document_of d ≡ (name, [])
    → (Some (document_of d).1 ≡ Some []) × (last_name (Some (map document_of kept, document_of d)) ≡ Some (files, name))
behind kept earlier d files name k f e = (
  ap (λ (p : List ℕ × List ℕ). Some p.1) e,
  ap (λ (l : List Document). last_name (Some (map document_of l, document_of d))) k
      ∙ ap (λ (l : Files). last_name (Some (l, document_of d))) f
      ∙ ap (λ (p : List ℕ × List ℕ). last_name (Some (files, p))) e,
)

from_last : (earlier kept : List Document) (last : Option Document) (d : Document) (name : List ℕ) (P : Document → Type 0) → MatchOption last (earlier ≡ []) P → kept ≡ earlier ++ option_to_list last → document_of d ≡ (name, [])
    → BeginsDocument (Some (last_bytes (begun_of earlier last))) (last_name (begun_of earlier last)) (Some (document_of d).1) (last_name (Some (map document_of kept, document_of d))) name
from_last earlier kept None d name P none k e = behind kept [] d [] name (k ∙ ap (λ (l : List Document). l ++ []) none) refl e
from_last earlier kept (Some last) d name P some k e = behind kept (earlier ++ last ∷ []) d _ name k (map-append document_of earlier (last ∷ [])) e

pub begins : (old : Option (Files × (List ℕ × List ℕ))) (earlier kept : List Document) (last replaced new_last : Option Document) (d : Document) (name : List ℕ) (P : Document → Type 0)
    → begun_of earlier last ≡ old → MatchOption last (earlier ≡ []) P → replaced ≡ last → kept ≡ earlier ++ option_to_list replaced → new_last ≡ Some d → document_of d ≡ (name, [])
    → BeginsDocument (Some (last_bytes old)) (last_name old) (Some (last_bytes (begun_of kept new_last))) (last_name (begun_of kept new_last)) name
begins old earlier kept last replaced new_last d name P o m r k n e =
    subst (λ (b : Option (Files × (List ℕ × List ℕ))). BeginsDocument (Some (last_bytes b)) (last_name b) (Some (last_bytes (begun_of kept new_last))) (last_name (begun_of kept new_last)) name) o
    (subst (λ (l : Option Document). BeginsDocument (Some (last_bytes (begun_of earlier last))) (last_name (begun_of earlier last)) (Some (last_bytes (begun_of kept l))) (last_name (begun_of kept l)) name) (sym n)
    (from_last earlier kept last d name P m (k ∙ ap (λ (l : Option Document). earlier ++ option_to_list l) r) e))

-- an empty text that a name was put behind
pub named : {A E : Type 0} (r : Result A E) (new old name : List ℕ) → IsOk r → new ≡ (if is_ok r then old ++ name else old) → old ≡ [] → new ≡ name
named (Ok a) new old name ok e n = e ∙ ap (λ l. l ++ name) n
named (Err a) new old name ok e n = let no : ⊥ = cc ok in absurd no
