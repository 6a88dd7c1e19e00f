-- The seats of handles.
use Rattle.std.specs.Prelude.{◌≡◌, Option, Some}
use Rattle.bbq_core.specs.declared.phase.Phase.{Phase}
use Rattle.block_looks.specs.declared.looks.Looks.{Looks}
use Rattle.drop_core.specs.declared.phase.DropPhase.{DropPhase}
use Rattle.sole_core.specs.declared.phase.SolePhase.{SolePhase}
use Rattle.zemuschida_c.specs.Owned.{SeatOf}
use Rattle.zemuschida_c.specs.declared.kinds.ZemLogConsumer.{ZemLogConsumer}
use Rattle.zemuschida_c.specs.declared.kinds.ZemLogSeat.{ZemLogSeat}
use Rattle.zemuschida_c.specs.declared.kinds.ZemRingSeat.{ZemRingSeat}
use Rattle.zemuschida_c.specs.declared.kinds.ZemSeat.{ZemSeat}
use Rattle.zemuschida_c.specs.declared.held.Held.{Held}
use Rattle.zemuschida_c.specs.declared.held.Held.TheVariants as kinds

-- a seat of a queue that refuses, of one that overwrites, and of one with a sole consumer
abbrev pub RetrySeat : Type 0
RetrySeat = SeatOf Phase (Unit {0})

abbrev pub RingSeat : Type 0
RingSeat = SeatOf DropPhase Looks

abbrev pub LogSeat : Type 0
LogSeat = SeatOf SolePhase (Unit {0})

-- as they lie behind a handle
abbrev pub retry_kind : RetrySeat → Held
retry_kind seat = kinds.Seat seat

abbrev pub ring_kind : RingSeat → Held
ring_kind seat = kinds.RingSeat seat

abbrev pub log_kind : LogSeat → Held
log_kind seat = kinds.LogSeat seat

abbrev pub consumer_kind : LogSeat → Held
consumer_kind seat = kinds.LogConsumer seat

-- what a handle has
abbrev pub in_seat : ZemSeat → Option Held
in_seat handle = handle.handle.slot.value

abbrev pub in_ring_seat : ZemRingSeat → Option Held
in_ring_seat handle = handle.handle.slot.value

abbrev pub in_log_seat : ZemLogSeat → Option Held
in_log_seat handle = handle.handle.slot.value

abbrev pub in_log_consumer : ZemLogConsumer → Option Held
in_log_consumer handle = handle.handle.slot.value

-- the handle has this seat
abbrev pub Has : ZemSeat → RetrySeat → Type 0
Has handle seat = in_seat handle ≡ Some (retry_kind seat)

abbrev pub HasRing : ZemRingSeat → RingSeat → Type 0
HasRing handle seat = in_ring_seat handle ≡ Some (ring_kind seat)

abbrev pub HasLog : ZemLogSeat → LogSeat → Type 0
HasLog handle seat = in_log_seat handle ≡ Some (log_kind seat)

abbrev pub HasConsumer : ZemLogConsumer → LogSeat → Type 0
HasConsumer handle seat = in_log_consumer handle ≡ Some (consumer_kind seat)
