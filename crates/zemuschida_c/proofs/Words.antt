-- What a slot is to the machine: one word, and beside it what it owns.
use mathlib.Core.List.{List, [], ◌∷◌}
use mathlib.Core.Path.{refl}
use seplogic.Ra.Ura.{Ura}
use mir.Val.{Val, vstruct, vcons, vnil}
use types.Logic.{Logic}
use base.Fraction.{full_share}
use base.Fml.{ftrue, flft}
use base.Logic.{emp}
use contract.Monad.{fact, fact_i}
use types.Kit.{Item, Goal, Step, step, ‵, raw, ◌⊛◌, ◌$◌, use0, join, fjoin}
use denote.Steps.{nothing}
use denote.RawPtr.{Ptr, ptr_val, rawptr_Lawful}
use denote.Struct.Owning.{shape}
use denote.Struct.Struct.{Struct, Struct-Lawful, Struct-Makes}
use denote.Struct.OwningLaws.{tells}
use denote.Laws.{Is, Tells, Typed}
use Rattle.zemuschida_c.specs.contracts.slot.Slot as slot
use Rattle.zemuschida_c.proofs.slot.Slot.TheLaws as laws

abbrev pub word : Ptr → Val
word p = vstruct (vcons (ptr_val p) vnil)

abbrev pub words : slot.the_row.Denot → List Val
words s = word s.at ∷ []

pub slot_Tells : Tells slot.the_row (Is slot.the_row) words
slot_Tells = tells slot.the_type laws.the_laws

-- the word is the slot's pointer
said : (p : Ptr) → Is (Struct (shape slot.the_type)) (p, tt) (word p ∷ [])
said p = ((ptr_val p ∷ [], tt), (refl, (refl, tt)))

pub word_typed : {M : Type 1} {𝓤 : Ura M} (𝓛 : Logic 𝓤) (p : Ptr) → Typed (Struct (shape slot.the_type)).mir (word p ∷ [])
word_typed 𝓛 p = (Struct-Lawful 𝓛 (shape slot.the_type) (rawptr_Lawful 𝓛, tt)).typed (p, tt) (word p ∷ []) (said p)

module _ {M : Type 1} {𝓤 : Ura M} {𝓛 : Logic 𝓤} {K : Type 0} {Γ : List (Item 𝓤)} {G : Goal 𝓤 𝓛.H} where
  pub owns_slot : K → (s : slot.the_row.Denot) → Step K 𝓛 (‵ (slot.the_row.own_val s (words s)) ∷ Γ) G (‵ (slot.the_heap s) ∷ Γ) G
  owns_slot t s = step (λ k.
      use0 𝓛 (‵ ((Struct (shape slot.the_type)).own_val (s.at, tt) (words s)))
      (Struct-Makes 𝓛 (shape slot.the_type) ((λ p vs. tt), tt) (s.at, tt) (words s) (said s.at)) $
      fjoin t $ k)

-- a call is run for no lifetime of its own
abbrev pub for_ever : {M : Type 1} {𝓤 : Ura M} → Item 𝓤
for_ever = ‵ (flft [] full_share) ⊛ ‵ (flft [] full_share) ⊛ ‵ ftrue

module _ {M : Type 1} {𝓤 : Ura M} {𝓛 : Logic 𝓤} {K : Type 0} {Γ : List (Item 𝓤)} {G : Goal 𝓤 𝓛.H} where
  pub lasts_for_ever : K → Step K 𝓛 (for_ever ∷ Γ) G Γ G
  lasts_for_ever t = step (λ k.
      nothing t $ use0 𝓛 (‵ (flft [] full_share)) (𝓛.lfts.lft-nil full_share) $ join t $
      use0 𝓛 (‵ (flft [] full_share)) (𝓛.lfts.lft-nil full_share) $ join t $ k)

  pub states : K → (P : Type 0) → P → {I : Item 𝓤} → Step K 𝓛 ((raw (fact 𝓤 P) ⊛ I) ∷ Γ) G (I ∷ Γ) G
  states t P p = step (λ k. use0 𝓛 (raw (fact 𝓤 P)) (fact_i 𝓤 P (emp 𝓤) p) $ join t $ k)
