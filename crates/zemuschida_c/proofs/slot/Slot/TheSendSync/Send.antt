-- What lies at the pointer, and the right to free it, may go to any thread.
use mir.Raw.{raw}
use base.Shift.{Keyless}
use denote.Memory.{lone}
use denote.RawPtr.{Ptr}
use denote.Param.Send.{AllSend, IsSend, owning_send, recorded_send, sendable, struct_send}
use denote.Struct.Declared as declared
use denote.Struct.Owning.{fields, shape, to}
use denote.Struct.Struct.{Struct, exits_of}
use Rattle.std.specs.Prelude.{None, Option, Some}
use Rattle.std.specs.contracts.mem.ManuallyDrop as ManuallyDrop
use Rattle.std.proofs.Crossing as crossing
use Rattle.std_alloc.proofs.SendSync.{lies, quiet}
use Rattle.zemuschida_c.specs.Slot.{heap, kept_row, slot_owns}
use Rattle.zemuschida_c.specs.contracts.held.Held as Held
use Rattle.zemuschida_c.specs.contracts.slot.Slot.{the_row, the_type}
use Rattle.zemuschida_c.proofs.held.Held.TheSendSync.{the_send}

kept : IsSend kept_row
kept = let T = ManuallyDrop.the_type Held.the_row in recorded_send (Struct (declared.shape T)) T.D T.to T.to_one (struct_send (declared.shape T) (the_send, tt))

keyless : (p : Ptr) (value : Option Held.the_row.Denot) → Keyless (slot_owns p value)
keyless p None = tt
keyless p (Some held) = (lies kept_row kept p (record { value = held }), crossing.frees.frees heap (raw (lone kept_row.mir)) p)

pub send : IsSend the_row
send = let word : AllSend (fields the_type) = (search sendable, tt) in
    owning_send the_type word (λ d. keyless d.at d.value) (λ k. quiet (to the_type) (exits_of k (fields the_type)) ((struct_send (shape the_type) word).leaving k))
