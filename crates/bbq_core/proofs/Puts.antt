-- The shared steps of a put keep the invariant.
use Rattle.std.proofs.Common.{◌≡◌, ℕ, ◌+◌, ◌-◌, ◌%◌, ◌<◌, ◌≤◌, ◌⊎◌, List, [], ◌++◌, refl, sym, ap, ◌∙◌, subst, ⊎_elim, arith}
use Rattle.std.specs.Prelude.{Some, slice_get, slice_set}
use Rattle.std.specs.List.{sum_by}
use Rattle.std.proofs.lemmas.Bool.{cases_lt}
use Rattle.cursor_word.specs.Shape.{Grid, IsWithinLimits}
use Rattle.cursor_word.specs.Cursor.{most_block, offset_span}
use Rattle.cursor_word.specs.declared.cursor.Cursor.{Cursor}
use Rattle.cursor_word.proofs.Blocks.{shifted}
use Rattle.rail.specs.declared.entry.Placed.{Placed}
use Rattle.rail.specs.Items.{places}
use Rattle.machine.specs.Steps.{finds, phase_after, view_after, words_after}
use Rattle.put_side.specs.Cursors.{Front, consumed_word, place, put_cursors}
use Rattle.put_side.specs.Counts.{makes, takes}
use Rattle.put_side.specs.declared.put_phase.PutPhase.{PutPhase}
use Rattle.put_side.specs.declared.put_phase.PutPhase.TheVariants.{OpenM}
use Rattle.put_side.specs.PutSteps.{older_full}
use Rattle.put_side.specs.Stages.{At}
use Rattle.put_side.specs.PutTable.{MayOpen}
use Rattle.put_side.proofs.Wholes.{may_open_made}
use Rattle.put_side.proofs.PutFollows.{IsLedTo, follows, put_takes_none}
use Rattle.put_side.proofs.Sums.{upto_more}
use Rattle.put_side.proofs.Facts.{IsPhysical, physical}
use Rattle.put_side.proofs.Keeps.{IsKept, OpensNext, keeps_shared}
use Rattle.put_side.proofs.Moves.{IsMovedByPuts}
use Rattle.put_side.proofs.Made.{step_keeps_made}
use Rattle.bbq_core.specs.declared.phase.Phase.{Phase}
use Rattle.bbq_core.specs.declared.phase.Phase.TheVariants.{Put, SeeX, Take}
use Rattle.bbq_core.specs.declared.take_phase.TakePhase.{TakePhase}
use Rattle.bbq_core.specs.Types.{After, View}
use Rattle.bbq_core.specs.PutSteps.{after}
use Rattle.bbq_core.specs.Table.{table}
use Rattle.bbq_core.specs.Stage.{stage, stage_of}
use Rattle.bbq_core.specs.Cursors.{TakeCursors, TakeWords, take_cursors}
use Rattle.bbq_core.specs.Counts.{reading}
use Rattle.bbq_core.specs.Sound.{IsSoundAt, Knows, Scene, scene}
use Rattle.bbq_core.proofs.PutSteps.{puts}
use Rattle.bbq_core.proofs.Frames.{IsLater, quiet, take_cursors_are}

-- what follows a shared step is no take, and doesn't open the next block
led_knows : (g : Grid) (s : Scene) (made : List Placed) (read : List ℕ) (q : PutPhase) → IsLedTo q → Knows g s made read (Some (Put q))
led_knows g s made read (OpenM full) h = absurd h
led_knows g s made read q h = tt

record IsPlain (g : Grid) (s : Scene) (made : List Placed) (read : List ℕ) (b : After) : Type 0 where
  pub reads : reading g (phase_after b) ≡ []
  pub knows : Knows g s made read (phase_after b)
  pub no_take : (q : TakePhase) → phase_after b ≡ Some (Take q) → ⊥

plain : (g : Grid) (s : Scene) (made : List Placed) (read : List ℕ) (q : PutPhase) (found : ℕ) → IsPlain g s made read (after g (Put q) found)
plain g s made read q found = follows Put SeeX (IsPlain g s made read) (record {
  next = λ p led. record { reads = refl; knows = led_knows g s made read p led; no_take = λ t e. cc };
  fills = λ full. record { reads = refl; knows = tt; no_take = λ t e. cc };
  ok = λ place. record { reads = refl; knows = tt; no_take = λ t e. cc };
  moved = λ earlier later. record { reads = refl; knows = tt; no_take = λ t e. cc };
}) g q found

-- the block in whose physical block the next to be opened would lie was opened to takes, and is wholly consumed
pub record IsSpentBefore (g : Grid) (opened : ℕ) (back : Front) (c : TakeCursors) (j : ℕ) : Type 0 where
  pub is : j + g.blocks ≡ opened + 1
  pub to : j ≤ back.last
  pub full : c.consumed j % offset_span ≡ g.size

pub spent_before : (g : Grid) (opened : ℕ) (back : Front) (c : TakeCursors) → IsWithinLimits g → IsPhysical g c.consumed → TakeWords g opened back c → g.blocks ≤ opened → older_full g opened ≤ c.consumed (opened + 1)
    → IsSpentBefore g opened back c (opened + 1 - g.blocks)
spent_before g opened back c limits same w from le =
    let j : ℕ = opened + 1 - g.blocks in
    let b = limits.blocks_from in
    let i : j + g.blocks ≡ opened + 1 = omega arith in
    let e = same j (opened + 1) (shifted g.blocks j (opened + 1) i) in
    let to : j ≤ back.last = ⊎_elim
    (λ n. let q : ℕ = back.last + 1 - g.blocks in let k : q + g.blocks ≡ j = omega (arith, w.near, w.from) in
    let r = same q j (shifted g.blocks q j k) in let d = w.consumed q (omega arith) (omega arith) in absurd (omega (arith, d.0)))
    (λ n. n) (cases_lt back.last j) in
    let d = w.consumed j to (omega (arith, w.behind)) in
    record { is = i; to = to; full = omega (arith, d.0, d.1) }

module _ (g : Grid) (limits : IsWithinLimits g) (front back : Front) (ws : List ℕ) (vs : List View) (s : IsSoundAt g front back ws vs) where
  -- the older block is wholly consumed, so it was wholly committed
  may_open : older_full g front.last ≤ consumed_word g ws (front.last + 1) → MayOpen g front.last (put_cursors g ws)
  may_open older = may_open_made stage_of g limits front ws vs s.puts.places (λ from.
      let j : ℕ = front.last + 1 - g.blocks in
      let is = spent_before g front.last back (take_cursors g ws) limits (physical g ws 5) s.takes s.puts.places.words.from older in
      let taken = s.counts.taken j (let t = is.to in omega arith) (let i = is.is in let b = s.takes.behind in omega arith) (let i = is.is in omega arith) in
      let least = upto_more g.size (λ o. sum_by (takes (place g j o)) vs) (λ o. sum_by (makes (place g j o)) vs) (λ o. s.counts.taken_made (place g j o)) in
      let full = is.full in omega arith)

  -- the words that takes move are as good for the block that puts opened
  opened_words : older_full g front.last ≤ consumed_word g ws (front.last + 1) → TakeWords g (front.last + 1) back (take_cursors g ws)
  opened_words older =
      let w = s.takes in
      let two = limits.blocks_from in
      let is = spent_before g front.last back (take_cursors g ws) limits (physical g ws 5) w s.puts.places.words.from older in
      let i = is.is in
      let to = is.to in
      record {
        from = w.from;
        behind = omega (arith, w.behind);
        near = omega arith;
        head_from = w.head_from;
        head_to = w.head_to;
        consumed = w.consumed;
        reused = λ k l n r. ⊎_elim (λ q. w.reused k l n (omega arith)) (λ q. let z : front.last + 1 - g.blocks ≡ k = omega arith in subst (λ (b : ℕ). consumed_word g ws b % offset_span ≡ g.size) z is.full) (cases_lt (k + g.blocks) (front.last + 1));
        passed = w.passed;
        newest = w.newest;
      }

  -- where puts opened the next block the older one had been found wholly consumed
  found_older : (q : PutPhase) (full : Cursor) (id : ℕ) (v : View) → slice_get vs id ≡ Some v → v.phase ≡ Some (Put q) → At q ≡ At (OpenM full) → older_full g full.block ≤ consumed_word g ws (full.block + 1)
  found_older q full id v at e opens =
      let y : q ≡ OpenM full = cc in
      subst (Knows g (scene g back ws vs) v.made v.read) (e ∙ ap (λ (r : PutPhase). Some (Put r)) y) (s.each id v at).knows

  pub words_after_put : (front' : Front) (q : PutPhase) (id : ℕ) (v : View) → slice_get vs id ≡ Some v → v.phase ≡ Some (Put q) → (front'.last ≡ front.last) ⊎ OpensNext (At q) front front' → TakeWords g front'.last back (take_cursors g ws)
  words_after_put front' q id v at e further =
      ⊎_elim (λ z. subst (λ (k : ℕ). TakeWords g k back (take_cursors g ws)) (sym z) s.takes)
      (λ o. let knows = found_older q o.full id v at e o.opens in
      subst (λ (k : ℕ). TakeWords g k back (take_cursors g ws)) (sym o.next) (opened_words (subst (λ (k : ℕ). older_full g k ≤ consumed_word g ws (k + 1)) o.newest knows)))
      further

  module _ (id : ℕ) (v : View) (at : slice_get vs id ≡ Some v) where
    pub shared_step : (q : PutPhase) → v.phase ≡ Some (Put q) → front.last < most_block
        → IsKept stage_of g (At q) front ws (words_after table g ws v (Put q)) vs (slice_set vs id (view_after table g ws v (Put q))) × IsMovedByPuts g ws (words_after table g ws v (Put q))
    shared_step q e small =
        keeps_shared stage table puts g limits front ws vs id v (Put q) s.puts small at e tt
        (λ full o newest. may_open (subst (λ (k : ℕ). older_full g k ≤ consumed_word g ws (k + 1)) newest (found_older q full id v at e o)))

    -- one law for the eight shared steps
    pub keeps_put : (q : PutPhase) (e : v.phase ≡ Some (Put q)) (small : front.last < most_block) → IsSoundAt g (shared_step q e small).0.to back (words_after table g ws v (Put q)) (slice_set vs id (view_after table g ws v (Put q)))
    keeps_put q e small =
        let p : Phase = Put q in
        let found : ℕ = finds table g ws v p in
        let b : After = after g p found in
        let v' : View = view_after table g ws v p in
        let ws' : List ℕ = words_after table g ws v p in
        let n = shared_step q e small in
        let k = n.0 in
        let moved = n.1 in
        let grown = moved.grown in
        let h = plain g (scene g back ws' (slice_set vs id v')) v'.made v'.read q found in
        let reads : reading g v.phase ≡ [] = ap (reading g) e in
        let taken : v'.taken ≡ v.taken = put_takes_none Put SeeX g q found v.taken v.read in
        let later : IsLater (scene g back ws vs) (scene g back ws' (slice_set vs id v')) = record {
          passed = refl;
          consumer = let z = moved.consumer in omega arith;
          reserved = λ i. let z = moved.reserved i in omega arith;
          consumed = λ i. let z = moved.consumed i in omega arith;
          committed = grown.committed;
          made = step_keeps_made table g vs id v p found at;
        } in
        let takes = subst (TakeWords g k.to.last back) (take_cursors_are g ws' (take_cursors g ws) moved.consumer moved.reserved moved.consumed) (words_after_put k.to q id v at e k.further) in
        quiet g front k.to back ws ws' vs id v v' s at later moved.consumed
        (ap (λ (l : List Placed). places l ++ reading g v'.phase) taken ∙ ap (λ (l : List ℕ). places v.taken ++ l) (h.reads ∙ sym reads)) taken
        k.side takes h.knows (λ t z none. absurd (h.no_take t z))
