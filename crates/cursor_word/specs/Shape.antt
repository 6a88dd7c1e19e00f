-- The four numbers of a queue, and their limits.
use Rattle.std.specs.Prelude.{ℕ, ◌≤◌}

-- blocks, entries per block, words per entry, seats
pub record Grid : Type 0 where
  pub blocks : ℕ
  pub size : ℕ
  pub width : ℕ
  pub seats : ℕ

abbrev pub least_blocks : ℕ
least_blocks = 2

abbrev pub most_blocks : ℕ
most_blocks = 256

abbrev pub most_size : ℕ
most_size = 65536

abbrev pub most_width : ℕ
most_width = 8

abbrev pub most_seats : ℕ
most_seats = 1024

pub record IsWithinLimits (g : Grid) : Type 0 where
  pub blocks_from : least_blocks ≤ g.blocks
  pub blocks_to : g.blocks ≤ most_blocks
  pub size_from : 1 ≤ g.size
  pub size_to : g.size ≤ most_size
  pub width_from : 1 ≤ g.width
  pub width_to : g.width ≤ most_width
  pub seats_from : 1 ≤ g.seats
  pub seats_to : g.seats ≤ most_seats
