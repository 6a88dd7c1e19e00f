-- What the cursors of a block tell of the places that are made.
use Rattle.std.proofs.Common.{◌≡◌, ℕ, ◌+◌, ◌/◌, ◌%◌, ◌<◌, ◌≤◌, List, [], refl, ap, ⊎_elim, arith}
use Rattle.std.specs.List.{sum_by}
use Rattle.std.proofs.lemmas.Bool.{cases_lt}
use Rattle.std.proofs.lemmas.List.Sums.{sum_by-append}
use Rattle.cursor_word.specs.Shape.{Grid, IsWithinLimits}
use Rattle.cursor_word.specs.Cursor.{offset_span, place_at}
use Rattle.cursor_word.proofs.Blocks.{latest, latest_is}
use Rattle.rail.specs.Items.{places}
use Rattle.machine.proofs.Lists.{one_le_sum}
use Rattle.put_side.specs.Cursors.{Front, allocated_word, committed_word, place, put_cursors}
use Rattle.put_side.specs.declared.put_phase.PutPhase.TheVariants.{Write, Commit}
use Rattle.put_side.specs.Stages.{PutStage, At, held}
use Rattle.put_side.specs.Counts.{claims, makes, one_at, times}
use Rattle.put_side.specs.Places.{PutKnows}
use Rattle.put_side.specs.PutTable.{stage_of}
use Rattle.put_side.proofs.Facts.{allocated_to, physical, place_next}
use Rattle.put_side.proofs.Sums.{one_in, some_counts, times-cons, upto_le}
use Rattle.put_side.proofs.Commits.{made_once, one_apart}
use Rattle.drop_core.specs.Types.{View}
use Rattle.drop_core.specs.Stage.{stage}
use Rattle.drop_core.specs.Sound.{IsSoundAt}
use Rattle.put_side.proofs.Lows.{rows}

-- a place of a block so far back is held by no put
held_far : (g : Grid) (f : Front) (ws : List ℕ) (k o : ℕ) → g.blocks ≤ k → k + g.blocks ≤ f.last → o < g.size → (s : PutStage) → PutKnows g f.last (put_cursors g ws) s → times (place g k o) (held g s) ≡ 0
held_far g f ws k o from far within (At (Write at next)) h =
    let c = h.0 in let r = rows g (k + 1) at.block (omega (arith, c.near)) in let n = place_next g k from in
    let t = times-cons (place g k o) (place_at g at) [] in let z = one_apart (place_at g at) (place g k o) (λ e. omega arith) in omega arith
held_far g f ws k o from far within (At (Commit at)) h =
    let r = rows g (k + 1) at.block (omega (arith, h.near)) in let n = place_next g k from in
    let t = times-cons (place g k o) (place_at g at) [] in let z = one_apart (place_at g at) (place g k o) (λ e. omega arith) in omega arith
held_far g f ws k o from far within s h = refl

module _ (g : Grid) (f : Front) (ws : List ℕ) (vs : List View) (limits : IsWithinLimits g) (s : IsSoundAt g f ws vs) where
  -- the allocated cursor of an opened block's physical block is of a block no further back than all blocks
  pub near_last : (h : ℕ) → h ≤ f.last → f.last ≤ allocated_word g ws h / offset_span + g.blocks
  near_last h le =
      let w = s.puts.places.words in
      let l = latest_is g.blocks h f.last (omega (arith, limits.blocks_from)) le in
      let k : ℕ = latest g.blocks h f.last in
      let e : allocated_word g ws k ≡ allocated_word g ws h = physical g ws 2 k h l.same in
      ⊎_elim (λ n. let u = (w.full k n l.near).0 in omega (arith, l.near))
      (λ n. let top : k ≡ f.last = omega (arith, l.to) in let r = ap (allocated_word g ws) top in ⊎_elim (λ q. omega (arith, q.block)) (λ q. omega (arith, q.older)) w.newest)
      (cases_lt k f.last)

  -- and all places that are allocated lie below the block that comes after it in its physical block
  pub next_below : (h : ℕ) → h ≤ f.last → f.next ≤ place g (allocated_word g ws h / offset_span + g.blocks) 0
  next_below h le =
      let w = s.puts.places.words in
      let l = latest_is g.blocks h f.last (omega (arith, limits.blocks_from)) le in
      let k : ℕ = latest g.blocks h f.last in
      let e : allocated_word g ws k ≡ allocated_word g ws h = physical g ws 2 k h l.same in
      let b : ℕ = allocated_word g ws h / offset_span + g.blocks in
      let to = allocated_to w in
      let later : f.last + 1 ≤ b → f.next ≤ place g b 0 = λ x. let r = rows g (f.last + 1) b x in omega arith in
      ⊎_elim (λ n. let u = (w.full k n l.near).0 in later (omega (arith, l.near)))
      (λ n. let top : k ≡ f.last = omega (arith, l.to) in let r = ap (allocated_word g ws) top in
      ⊎_elim (λ q. later (omega (arith, q.block, limits.blocks_from))) (λ q. let same : f.last ≡ b = omega (arith, q.older) in let z = ap (λ (m : ℕ). place g m 0) same in omega (arith, q.at)) w.newest)
      (cases_lt k f.last)

  -- no place before the last block is unallocated
  last_from : place g f.last 0 ≤ f.next
  last_from = ⊎_elim (λ q. omega (arith, q.at)) (λ q. omega (arith, q.at)) s.puts.places.words.newest

  pub once : (k o : ℕ) → sum_by (makes (place g k o)) vs ≤ 1
  once k o = made_once (stage_of stage) g f (put_cursors g ws) vs s.puts.places (place g k o)

  -- each place of a block that was reused, or will be next, is made
  pub far_made : (k o : ℕ) → g.blocks ≤ k → k + g.blocks ≤ f.last → o < g.size → 1 ≤ sum_by (makes (place g k o)) vs
  far_made k o from far within =
      let p : ℕ = place g k o in
      let n = place_next g k from in
      let r = rows g (k + 1) f.last (omega (arith, limits.blocks_from)) in
      let b = one_in p f.next (let z = last_from in omega arith) in
      let c = s.puts.places.counts.once p in
      let u = some_counts (claims (stage_of stage) g p) vs (omega arith) in
      let v = u.1 in
      let none = held_far g f ws k o from far within (stage_of stage v) (s.puts.places.each u.0 v u.2).knows in
      let a = sum_by-append (λ (q : ℕ). one_at q p) (places v.made) (held g (stage_of stage v)) in
      let mine = u.3 in
      let l = one_le_sum (makes p) vs u.0 v u.2 in omega arith

  -- a committed offset is no greater than a block
  pub committed_within : (k : ℕ) → g.blocks ≤ k → k ≤ f.last → committed_word g ws k % offset_span ≤ g.size
  committed_within k from le =
      let l = latest_is g.blocks k f.last (omega (arith, limits.blocks_from)) le in
      let j : ℕ = latest g.blocks k f.last in
      let e : committed_word g ws j ≡ committed_word g ws k = physical g ws 3 j k l.same in
      let count = s.puts.places.counts.made j l.to l.near (omega (arith, l.from)) in
      let most = upto_le g.size (λ o. sum_by (makes (place g j o)) vs) (once j) in omega arith
