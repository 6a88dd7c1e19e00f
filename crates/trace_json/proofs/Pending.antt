-- A text that is on its way to a sink: some of it is there, some waits, and the rest is still to come.
use Rattle.std.proofs.Common.{◌≡◌, ℕ, ◌+◌, ◌<◌, ◌≤◌, List, [], ◌++◌, length, take, Option, Some, None, refl, sym, ap, ◌∙◌, arith, append-nil, append_assoc, length-append}
use Rattle.std.specs.Prelude.{Result, Ok, Err, OnErr}
use Rattle.std.proofs.Math.Seq.{take-append-add, take-append_seam}
use Rattle.std.proofs.lemmas.List.{take-append-le}
use Rattle.flow_io.specs.Flow.{gained, GainedPart}
use Rattle.trace_json.specs.Trace.{HandsOver}

abbrev pub Pending : Option (List ℕ) → Option (List ℕ) → List ℕ → List ℕ → List ℕ → Type 0
Pending told new_told waiting rest whole = (sent : List ℕ) × (new_told ≡ gained told sent) × (sent ++ (waiting ++ rest) ≡ whole)

gained-nil : (told : Option (List ℕ)) → gained told [] ≡ told
gained-nil None = refl
gained-nil (Some bytes) = ap Some (append-nil bytes)

gained-gained : (told : Option (List ℕ)) (a b : List ℕ) → gained (gained told a) b ≡ gained told (a ++ b)
gained-gained None a b = refl
gained-gained (Some bytes) a b = ap Some (append_assoc bytes a b)

pub pending_first : (told : Option (List ℕ)) (waiting rest whole : List ℕ) → waiting ++ rest ≡ whole → Pending told told waiting rest whole
pending_first told waiting rest whole e = ([], sym (gained-nil told), e)

pub pending_more : (told now : Option (List ℕ)) (waiting added more rest left whole : List ℕ) → Pending told now waiting rest whole → rest ≡ more ++ left → added ≡ waiting ++ more → Pending told now added left whole
pending_more told now waiting added more rest left whole p e f =
    (p.0, p.1, ap (λ l. p.0 ++ l) (ap (λ l. l ++ left) f ∙ append_assoc waiting more left ∙ ap (λ l. waiting ++ l) (sym e)) ∙ p.2)

pub pending_handed : (told now next : Option (List ℕ)) (waiting left rest whole : List ℕ) → Pending told now waiting rest whole → HandsOver now next waiting left → Pending told next left rest whole
pending_handed told now next waiting left rest whole p h = (
  p.0 ++ h.0,
  h.1 ∙ ap (λ t. gained t h.0) p.1 ∙ gained-gained told p.0 h.0,
  append_assoc p.0 h.0 (left ++ rest) ∙ ap (λ l. p.0 ++ l) (sym (append_assoc h.0 left rest) ∙ ap (λ l. l ++ rest) h.2) ∙ p.2,
)

-- the last of it was taken
pub pending_all : (told now next : Option (List ℕ)) (waiting whole : List ℕ) → Pending told now waiting [] whole → next ≡ gained now waiting → next ≡ gained told whole
pending_all told now next waiting whole p e =
    e ∙ ap (λ t. gained t waiting) p.1 ∙ gained-gained told p.0 waiting ∙ ap (gained told) (ap (λ l. p.0 ++ l) (sym (append-nil waiting)) ∙ p.2)

take_within : (a b rest : List ℕ) (n : ℕ) → n ≤ length b → take (length a + n) (a ++ (b ++ rest)) ≡ a ++ take n b
take_within a b rest n le = take-append-add a (b ++ rest) n ∙ ap (λ l. a ++ l) (take-append-le n b rest le)

-- a shorter part of it was taken
pub pending_part : (told now next : Option (List ℕ)) (waiting rest whole : List ℕ) → Pending told now waiting rest whole → GainedPart now next waiting → GainedPart told next whole
pending_part told now next waiting rest whole p g = (
  length p.0 + g.0,
  omega (arith, g.1, ap length p.2, length-append p.0 (waiting ++ rest), length-append waiting rest),
  g.2 ∙ ap (λ t. gained t (take g.0 waiting)) p.1 ∙ gained-gained told p.0 (take g.0 waiting)
      ∙ ap (gained told) (sym (take_within p.0 waiting rest g.0 (omega (arith, g.1))) ∙ ap (take (length p.0 + g.0)) p.2),
)

-- nothing was taken, and something is to come
pub pending_none : (told : Option (List ℕ)) (whole : List ℕ) → 0 < length whole → GainedPart told told whole
pending_none told whole some = (0, some, sym (gained-nil told))

-- some of it was taken, and something is to come
pub pending_short : (told now : Option (List ℕ)) (waiting rest whole : List ℕ) → Pending told now waiting rest whole → 0 < length rest → GainedPart told now whole
pending_short told now waiting rest whole p some = (
  length p.0,
  omega (arith, some, ap length p.2, length-append p.0 (waiting ++ rest), length-append waiting rest),
  p.1 ∙ ap (gained told) (sym (take-append_seam p.0 (waiting ++ rest)) ∙ ap (take (length p.0)) p.2),
)

pub on_err_always : {T E P : Type 0} (r : Result T E) → P → OnErr r P
on_err_always (Ok x) p = tt
on_err_always (Err e) p = p
