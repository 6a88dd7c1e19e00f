-- What one thread alone is answered: a list and two numbers. So many entries are accepted, and so
-- many are taken.
use Rattle.std.specs.Prelude.{◌≡◌, ℕ, ◌+◌, ◌-◌, ◌*◌, ◌/◌, ◌%◌, ◌<◌, ◌≤◌, List, [], ◌∷◌, max, if◌then◌else◌, ◌==◌}
use Rattle.cursor_word.specs.Shape.{Grid}
use Rattle.cursor_word.specs.Cursor.{low}
use Rattle.rail.specs.declared.answer.Put.{Put}
use Rattle.rail.specs.declared.answer.Put.TheVariants as put
use Rattle.rail.specs.declared.answer.Take.{Take}
use Rattle.rail.specs.declared.answer.Take.TheVariants as take

-- the newest block is filled, and the block that the next one would reuse is not wholly taken
pub record IsFull (g : Grid) (accepted taken : ℕ) : Type 0 where
  pub some : 1 ≤ accepted
  pub filled : accepted % g.size ≡ 0
  pub untaken : taken < (accepted / g.size + 1 - g.blocks) * g.size

-- in retry-new. Of the consumed cursor nothing is said
abbrev pub RetryPut : Grid → ℕ → ℕ → Put → Type 0
RetryPut g accepted taken (put.Ok place) = (place ≡ accepted) × (IsFull g accepted taken → ⊥)
RetryPut g accepted taken (put.Full head consumed) = (head ≡ g.blocks + accepted / g.size - 1)
    × IsFull g accepted taken
RetryPut g accepted taken (put.Busy why) = ⊥

abbrev pub retry_take : ℕ → ℕ → Take
retry_take accepted taken = if taken == accepted then take.Empty accepted else take.Ok taken

-- one more than the greatest
abbrev pub beyond : List ℕ → ℕ
beyond [] = 0
beyond (p ∷ ps) = max (p + 1) (beyond ps)

abbrev pub drop_put : ℕ → Put
drop_put accepted = put.Ok accepted

-- in drop-old. The takes so far were answered places below `next`
abbrev pub drop_next : Grid → ℕ → ℕ → ℕ
drop_next g accepted next = max next (low g accepted)

abbrev pub drop_take : Grid → ℕ → ℕ → Take
drop_take g accepted next =
    if drop_next g accepted next == accepted then take.Empty accepted
    else take.Ok (drop_next g accepted next)
