-- What a clock's hand tells of its readings.
use Rattle.std.specs.Prelude.{◌≡◌, ℕ, ◌+◌, ◌*◌, Option, Some, IfSome, min}
use Rattle.flow_io.specs.declared.clock.TheConstants.{LAST_READING}

-- the greatest reading
abbrev pub last_reading : ℕ
last_reading = LAST_READING

-- the next reading, and the step from each reading to the one after it
pub record Ticks : Type 0 where
  pub next : ℕ
  pub step : ℕ

abbrev pub ticked : Ticks → Ticks
ticked ticks = record { next = min (ticks.next + ticks.step) last_reading; step = ticks.step }

-- where a hand tells its ticks, a reading is the next one
abbrev pub Reads : Option Ticks → Option Ticks → ℕ → Type 0
Reads old new reading = IfSome old (λ ticks. (reading ≡ ticks.next) × (new ≡ Some (ticked ticks)))

-- the reading after j others
abbrev pub reading_at : Ticks → ℕ → ℕ
reading_at ticks j = min (ticks.next + j * ticks.step) last_reading
