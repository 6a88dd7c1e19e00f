-- What a slot may hold.
use mathlib.Core.Bool.{Bool, true, false}
use Rattle.std.specs.declared.option.Option.{Option}
use Rattle.std.specs.declared.option.Option.TheVariants.{None, Some}
use Rattle.zemuschida_c.specs.declared.held.Held.{Held}
use Rattle.zemuschida_c.specs.declared.held.Held.TheVariants.{Seat, RingSeat, LogSeat, LogConsumer, Closed}

-- whether there is a value
abbrev pub is_full : {A : Type 0} → Option A → Bool
is_full None = false
is_full (Some x) = true

-- whether a value, if there is one, is of this kind
abbrev pub fits : {A : Type 0} → (A → Bool) → Option A → Bool
fits is_kind None = true
fits is_kind (Some x) = is_kind x

abbrev pub is_seat : Held → Bool
is_seat (Seat seat) = true
is_seat held = false

abbrev pub is_ring_seat : Held → Bool
is_ring_seat (RingSeat seat) = true
is_ring_seat held = false

abbrev pub is_log_seat : Held → Bool
is_log_seat (LogSeat seat) = true
is_log_seat held = false

abbrev pub is_log_consumer : Held → Bool
is_log_consumer (LogConsumer seat) = true
is_log_consumer held = false

abbrev pub is_closed : Held → Bool
is_closed (Closed ended) = true
is_closed held = false
