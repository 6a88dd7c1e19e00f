-- When the next block may be opened: the older one in its place is wholly committed.
use Rattle.std.proofs.Common.{◌≡◌, ℕ, ◌+◌, ◌-◌, ◌%◌, ◌≤◌, List, ap, arith}
use Rattle.std.specs.List.{sum_by}
use Rattle.cursor_word.specs.Shape.{Grid, IsWithinLimits}
use Rattle.cursor_word.specs.Cursor.{offset_span}
use Rattle.cursor_word.proofs.Blocks.{shifted}
use Rattle.machine.specs.declared.view.View.{View}
use Rattle.put_side.specs.Counts.{makes, sum_below}
use Rattle.put_side.specs.Cursors.{Front, committed_word, place, put_cursors}
use Rattle.put_side.specs.Places.{PutPlaces}
use Rattle.put_side.specs.PutSteps.{older_full}
use Rattle.put_side.specs.PutTable.{MayOpen}
use Rattle.put_side.specs.Stages.{PutStage}
use Rattle.put_side.proofs.Commits.{made_once}
use Rattle.put_side.proofs.Facts.{physical}
use Rattle.put_side.proofs.Sums.{upto_le}

module _ {P : Type 0} (stage : View P → PutStage) (g : Grid) (limits : IsWithinLimits g) (front : Front) (ws : List ℕ) (vs : List (View P)) (p : PutPlaces stage g front (put_cursors g ws) vs) where
  abbrev older : ℕ
  older = front.last + 1 - g.blocks

  abbrev made_in_older : ℕ
  made_in_older = sum_below g.size (λ o. sum_by (makes (place g older o)) vs)

  -- where each place of it is made
  pub may_open_made : (g.blocks + g.blocks ≤ front.last + 1 → g.size ≤ made_in_older) → MayOpen g front.last (put_cursors g ws)
  may_open_made least from =
      let two = limits.blocks_from in
      let all = least from in
      let is : older + g.blocks ≡ front.last + 1 = omega arith in
      let count = p.counts.made older (omega arith) (omega arith) (omega arith) in
      let most = upto_le g.size (λ o. sum_by (makes (place g older o)) vs) (λ o. made_once stage g front (put_cursors g ws) vs p (place g older o)) in
      let there = ap (λ (w : ℕ). w % offset_span) (physical g ws 3 older (front.last + 1) (shifted g.blocks older (front.last + 1) is)) in omega arith

  -- where its committed cursor was found at its end
  pub may_open_committed : older_full g front.last ≤ committed_word g ws (front.last + 1) → MayOpen g front.last (put_cursors g ws)
  may_open_committed found = may_open_made (λ from.
      let two = limits.blocks_from in
      let small = limits.size_to in
      let is : older + g.blocks ≡ front.last + 1 = omega arith in
      let there : committed_word g ws older ≡ committed_word g ws (front.last + 1) = physical g ws 3 older (front.last + 1) (shifted g.blocks older (front.last + 1) is) in
      let block = p.words.committed older (omega arith) (omega arith) in
      let count = p.counts.made older (omega arith) (omega arith) (omega arith) in omega arith)
