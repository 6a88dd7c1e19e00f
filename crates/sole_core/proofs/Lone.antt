-- What puts tell of what is taken: a block is opened only where the older one in its place is wholly taken.
use Rattle.std.proofs.Common.{◌≡◌, ℕ, ◌+◌, ◌-◌, ◌*◌, ◌<◌, ◌≤◌, List, ⊎_elim, arith}
use Rattle.std.proofs.lemmas.Bool.{cases_lt}
use Rattle.cursor_word.specs.Shape.{Grid, IsWithinLimits}
use Rattle.cursor_word.specs.Cursor.{cursor_of}
use Rattle.cursor_word.proofs.Places.{block_of_place_from, first_after, first_to, offset_of_place, place_in_block, place_of_cursor}
use Rattle.cursor_word.proofs.Blocks.{shifted}
use Rattle.put_side.specs.Cursors.{Front, consumed_word, place}
use Rattle.put_side.specs.PutSteps.{older_full}
use Rattle.put_side.proofs.Facts.{physical}
use Rattle.sole_core.specs.Types.{View}
use Rattle.sole_core.specs.Sound.{IsSoundAt}

module _ (g : Grid) (front : Front) (next : ℕ) (ws : List ℕ) (vs : List View) (limits : IsWithinLimits g) (s : IsSoundAt g front next ws vs) where
  -- the block before one that is opened in its place is wholly taken
  pub reused_taken : (k : ℕ) → g.blocks ≤ k → k + g.blocks ≤ front.last → place g (k + 1) 0 ≤ next
  reused_taken k from le =
      let near = s.near in
      let is = place_of_cursor g next in
      let at = place_in_block g (cursor_of g next) in
      let t = first_to g (k + 1) (cursor_of g next).block (omega arith) in omega arith

  -- the block in whose place the next would lie is not wholly taken
  pub not_consumed : consumed_word g ws (front.last + 1) < older_full g front.last → next < (front.last + 1 - g.blocks + 1 - g.blocks) * g.size
  not_consumed less =
      let from = s.puts.places.words.from in
      let two = limits.blocks_from in
      let j : ℕ = front.last + 1 - g.blocks in
      let i : j + g.blocks ≡ front.last + 1 = omega arith in
      let x = physical g ws 5 j (front.last + 1) (shifted g.blocks j (front.last + 1) i) in
      let within = offset_of_place g next limits in
      let least = block_of_place_from g next in
      let is = place_of_cursor g next in
      let at = place_in_block g (cursor_of g next) in
      let f = first_after g (cursor_of g next).block least in
      let behind : (cursor_of g next).block ≤ j = ⊎_elim (λ l. absurd (let h = s.takes.shown j l in omega arith)) (λ l. l) (cases_lt j (cursor_of g next).block) in
      let t = first_to g ((cursor_of g next).block + 1) (j + 1) (omega arith) in omega arith
