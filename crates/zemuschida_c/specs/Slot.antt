-- What a slot owns.
use base.Fml.{Fml, ftrue}
use denote.RawPtr.{Ptr}
use denote.RattleType.{RattleType}
use Rattle.std.specs.Global.{Global}
use Rattle.std.specs.Box.Ownership.{box_owns}
use Rattle.std_heap.specs.contracts.GlobalAllocator.TheImpl.{ghosts}
use Rattle.std.specs.contracts.mem.ManuallyDrop as ManuallyDrop
use Rattle.std.specs.declared.option.Option.{Option}
use Rattle.std.specs.declared.option.Option.TheVariants.{None, Some}
use Rattle.zemuschida_c.specs.contracts.held.Held as Held

-- the heap, whose values are all equal
abbrev pub heap : Global
heap = record { memory = record { seal = tt } }

abbrev pub kept_row : RattleType
kept_row = ManuallyDrop.the_row Held.the_row

-- a box at the pointer that has the value, if there is one
abbrev pub slot_owns : Ptr → Option Held.the_row.Denot → Fml
slot_owns p None = ftrue
slot_owns p (Some held) = box_owns (ghosts.dealloc_token heap) kept_row p (record { value = held })
