-- A cursor of a greater block shows that a block was reused.
use Rattle.std.proofs.Common.{◌≡◌, ℕ, ◌+◌, ◌/◌, ◌%◌, ◌<◌, ◌≤◌, sym, ⊎_elim, arith}
use Rattle.std.proofs.lemmas.Bool.{cases_lt}
use Rattle.cursor_word.specs.Shape.{Grid, IsWithinLimits}
use Rattle.cursor_word.specs.Cursor.{offset_span}
use Rattle.cursor_word.proofs.Blocks.{latest, latest_is, same_block}
use Rattle.put_side.specs.Cursors.{allocated_word, committed_word}
use Rattle.put_side.proofs.Facts.{allocated_below, allocated_same, committed_below, physical}
use Rattle.drop_core.specs.Types.{MachineState}
use Rattle.drop_core.specs.Moments.{IsReused}
use Rattle.flight_view.specs.Promised.{IsLastOpened}
use Rattle.flight_view.specs.Viewers.{IsGood}

-- of two blocks with one physical block the greater lies as far ahead as there are of these
far_ahead : (B k h : ℕ) → k % B ≡ h % B → k < h → k + B ≤ h
far_ahead B k h e lt = ⊎_elim (λ l. absurd (let s = same_block B k h e (omega arith) l in omega arith)) (λ l. l) (cases_lt h (k + B))

module _ (g : Grid) (limits : IsWithinLimits g) (w : MachineState) (good : IsGood g w) where
  abbrev last : ℕ
  last = good.sound.front.last

  pub last_opened : IsLastOpened g w.words last
  last_opened = let p = good.sound.at.puts.places.words in record {
    opened = p.committed last (omega arith) (omega (arith, limits.blocks_from));
    latest = λ block. committed_below p limits.blocks_from (physical g w.words 3) block;
  }

  pub allocated_to : (k : ℕ) → allocated_word g w.words k / offset_span ≤ last
  allocated_to k = allocated_below good.sound.at.puts.places.words limits.blocks_from (physical g w.words 2) k

  reused_before : (k : ℕ) → k + g.blocks ≤ last → IsReused g w.words k
  reused_before k far =
      let p = good.sound.at.puts.places.words in
      let l = latest_is g.blocks k last (omega (arith, limits.blocks_from)) (omega arith) in
      let j : ℕ = latest g.blocks k last in
      let same : committed_word g w.words j ≡ committed_word g w.words k = physical g w.words 3 j k l.same in
      let own = p.committed j l.to l.near in
      let ahead = far_ahead g.blocks k j (sym l.same) (omega (arith, l.near)) in omega arith

  pub committed_reused : (k : ℕ) → k < committed_word g w.words k / offset_span → IsReused g w.words k
  committed_reused k lt =
      let p = good.sound.at.puts.places.words in
      let to = committed_below p limits.blocks_from (physical g w.words 3) k in
      let l = latest_is g.blocks k last (omega (arith, limits.blocks_from)) (omega arith) in
      let j : ℕ = latest g.blocks k last in
      let same : committed_word g w.words j ≡ committed_word g w.words k = physical g w.words 3 j k l.same in
      let own = p.committed j l.to l.near in
      let ahead = far_ahead g.blocks k j (sym l.same) (omega arith) in omega arith

  pub allocated_reused : (k : ℕ) → k < allocated_word g w.words k / offset_span → IsReused g w.words k
  allocated_reused k lt =
      let p = good.sound.at.puts.places.words in
      let same = allocated_same p limits.blocks_from (physical g w.words 2) k in
      let ahead = far_ahead g.blocks k (allocated_word g w.words k / offset_span) (sym same) lt in
      reused_before k (let to = allocated_to k in omega arith)
