-- A box of what a slot keeps, on the heap, and what a call of one of its functions is passed.
use mathlib.Core.List.{[], ◌∷◌}
use mir.Syntax.{Dict, impl, tnil, tcons, dnil}
use types.Logic.{Logic}
use seplogic.Ra.Ura.{Ura}
use denote.Laws.{Lawful}
use mathlib.Core.Path.{refl}
use mir.Raw.{raw}
use denote.Exit.{no}
use denote.Param.{arg, layout}
use denote.Param.Laws.{Laws, arg_laws}
use denote.RattleType.{RattleType}
use Rattle.std_alloc.specs.contracts.boxed.Box as box
use Rattle.std_alloc.proofs.boxed.Box.TheLaws as box_laws
use Rattle.std_heap.specs.contracts.Global as heap
use Rattle.std_heap.proofs.Global.TheLaws as heap_laws
use Rattle.std_heap.specs.contracts.GlobalAllocator.TheImpl.{ghosts}
use Rattle.std.proofs.mem.ManuallyDrop.TheLaws as kept_laws
use Rattle.zemuschida_c.specs.Slot.{kept_row}
use Rattle.zemuschida_c.specs.contracts.held.Held as held
use Rattle.zemuschida_c.proofs.held.Held.TheLaws as held_laws

abbrev pub box_row : RattleType
box_row = box.the_row kept_row heap.the_row ghosts

abbrev pub row_laws : Laws kept_row
row_laws = kept_laws.the_row_laws held.the_row held_laws.the_row_laws

pub box_lawful : {M : Type 1} {𝓤 : Ura M} (𝓛 : Logic 𝓤) → Lawful 𝓛 box_row
box_lawful 𝓛 = (box_laws.the_field_loose kept_row heap.the_row ghosts row_laws heap_laws.the_row_laws).lawful 𝓛

-- what lies there, and the heap, as a call is passed them
abbrev passed : RattleType → RattleType
passed R = arg (raw (layout R)) no R

abbrev pub whole_row : RattleType
whole_row = passed kept_row

abbrev pub whole_laws : Laws whole_row
whole_laws = arg_laws (raw (layout kept_row)) no kept_row row_laws refl

abbrev pub heap_row : RattleType
heap_row = passed heap.the_row

abbrev pub heap_row_laws : Laws heap_row
heap_row_laws = arg_laws (raw (layout heap.the_row)) no heap.the_row heap_laws.the_row_laws refl

-- neither is dropped by any code
abbrev pub no_drop : RattleType → Dict
no_drop R = impl ("zemuschida_c::Destruct++none::drop" ∷ []) (tcons (layout R) tnil) dnil
