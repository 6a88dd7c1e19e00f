-- The shared steps of a put keep the invariant.
use Rattle.std.proofs.Common.{◌≡◌, ℕ, ◌+◌, ◌-◌, ◌<◌, ◌≤◌, List, ap, ◌∙◌, subst, ⊎_elim, arith}
use Rattle.std.specs.Prelude.{Some, slice_get, slice_set}
use Rattle.std.specs.List.{sum_by}
use Rattle.cursor_word.specs.Shape.{Grid, IsWithinLimits}
use Rattle.cursor_word.specs.Cursor.{cursor_of, most_block}
use Rattle.cursor_word.specs.declared.cursor.Cursor.{Cursor}
use Rattle.cursor_word.proofs.Blocks.{shifted}
use Rattle.machine.specs.Steps.{finds, phase_after, view_after, words_after}
use Rattle.put_side.specs.Cursors.{Front, consumed_word, place, put_cursors}
use Rattle.put_side.specs.Counts.{makes}
use Rattle.put_side.specs.declared.put_phase.PutPhase.{PutPhase}
use Rattle.put_side.specs.declared.put_phase.PutPhase.TheVariants.{OpenM}
use Rattle.put_side.specs.PutSteps.{older_full}
use Rattle.put_side.specs.Stages.{At}
use Rattle.put_side.specs.PutTable.{MayOpen}
use Rattle.put_side.proofs.Sums.{upto_from}
use Rattle.put_side.proofs.Facts.{physical}
use Rattle.put_side.proofs.PutFollows.{IsLedTo, follows, put_takes_none}
use Rattle.put_side.proofs.Wholes.{may_open_made}
use Rattle.put_side.proofs.Keeps.{IsKept, keeps_shared}
use Rattle.put_side.proofs.Moves.{IsMovedByPuts}
use Rattle.put_side.proofs.Made.{step_keeps_made}
use Rattle.sole_core.specs.declared.phase.SolePhase.{SolePhase}
use Rattle.sole_core.specs.declared.phase.SolePhase.TheVariants.{Put, SeeX, Take}
use Rattle.sole_core.specs.declared.take_phase.SoleTake.{SoleTake}
use Rattle.sole_core.specs.Types.{View}
use Rattle.sole_core.specs.PutSteps.{after}
use Rattle.sole_core.specs.Table.{table}
use Rattle.sole_core.specs.Stage.{stage, stage_of}
use Rattle.sole_core.specs.Sound.{IsSoundAt, Knows, Scene, scene}
use Rattle.sole_core.proofs.Shares.{puts}
use Rattle.sole_core.proofs.Facts.{behind_next}
use Rattle.sole_core.proofs.Frames.{IsLater, quiet}

-- a shared step leads to no phase in which a seat remembers more than the side of puts says, and to no take
put_knows : (g : Grid) (s : Scene) (read : List ℕ) (q : PutPhase) → IsLedTo q → Knows g s read (Some (Put q))
put_knows g s read (OpenM full) led = absurd led
put_knows g s read q led = tt

put_leaves : (g : Grid) (s : Scene) (read : List ℕ) (q : PutPhase) (found : ℕ) → Knows g s read (phase_after (after g (Put q) found))
put_leaves g s read q found = follows Put SeeX (λ b. Knows g s read (phase_after b)) (record { next = put_knows g s read; fills = λ full. tt; ok = λ place. tt; moved = λ earlier later. tt }) g q found

put_no_take : (g : Grid) (q : PutPhase) (found : ℕ) (r : SoleTake) → phase_after (after g (Put q) found) ≡ Some (Take r) → ⊥
put_no_take g q found r = follows Put SeeX (λ b. phase_after b ≡ Some (Take r) → ⊥) (record { next = λ q led e. cc; fills = λ full e. cc; ok = λ place e. cc; moved = λ earlier later e. cc }) g q found

module _ (g : Grid) (limits : IsWithinLimits g) (front : Front) (next : ℕ) (ws : List ℕ) (vs : List View) (s : IsSoundAt g front next ws vs) where
  -- the older block was found wholly consumed, so it is behind the consumer
  passed_older : older_full g front.last ≤ consumed_word g ws (front.last + 1) → front.last + 1 < (cursor_of g next).block + g.blocks
  passed_older older =
      let from = s.puts.places.words.from in
      let j : ℕ = front.last + 1 - g.blocks in
      let i : j + g.blocks ≡ front.last + 1 = omega arith in
      let e : consumed_word g ws j ≡ consumed_word g ws (front.last + 1) = physical g ws 5 j (front.last + 1) (shifted g.blocks j (front.last + 1) i) in
      let h = s.takes.passed j (omega arith) in omega arith

  -- and so it was wholly committed
  may_open : older_full g front.last ≤ consumed_word g ws (front.last + 1) → MayOpen g front.last (put_cursors g ws)
  may_open older = may_open_made stage_of g limits front ws vs s.puts.places (λ from.
      let j : ℕ = front.last + 1 - g.blocks in
      let two = limits.blocks_from in
      let behind = passed_older older in
      upto_from g.size g.size (λ o. sum_by (makes (place g j o)) vs) (omega arith) (λ o l. s.made (place g j o) (behind_next g limits next j o (omega arith) (omega arith) l)))

  module _ (id : ℕ) (v : View) (at : slice_get vs id ≡ Some v) where
    older_at : (q : PutPhase) (full : Cursor) → v.phase ≡ Some (Put q) → At q ≡ At (OpenM full) → full.block ≡ front.last → older_full g front.last ≤ consumed_word g ws (front.last + 1)
    older_at q full e o newest =
        let own = s.each id v at in
        let opens : q ≡ OpenM full = cc in
        let knows : older_full g full.block ≤ consumed_word g ws (full.block + 1) = subst (Knows g (scene g next ws vs) v.read) (e ∙ ap (λ (r : PutPhase). Some (Put r)) opens) own.knows in
        subst (λ (k : ℕ). older_full g k ≤ consumed_word g ws (k + 1)) newest knows

    pub shared_step : (q : PutPhase) → v.phase ≡ Some (Put q) → front.last < most_block
        → IsKept stage_of g (At q) front ws (words_after table g ws v (Put q)) vs (slice_set vs id (view_after table g ws v (Put q))) × IsMovedByPuts g ws (words_after table g ws v (Put q))
    shared_step q e small = keeps_shared stage table puts g limits front ws vs id v (Put q) s.puts small at e tt (λ full o newest. may_open (older_at q full e o newest))

    -- one law for the eight shared steps
    pub keeps_put : (q : PutPhase) (e : v.phase ≡ Some (Put q)) (small : front.last < most_block) → IsSoundAt g (shared_step q e small).0.to next (words_after table g ws v (Put q)) (slice_set vs id (view_after table g ws v (Put q)))
    keeps_put q e small =
        let p : SolePhase = Put q in
        let found : ℕ = finds table g ws v p in
        let v' : View = view_after table g ws v p in
        let ws' : List ℕ = words_after table g ws v p in
        let n = shared_step q e small in
        let k = n.0 in
        let moved = n.1 in
        let grown = moved.grown in
        let later : IsLater g ws ws' vs (slice_set vs id v') = record {
          consumed = λ i. let z = moved.consumed i in omega arith;
          committed = grown.committed;
          made = step_keeps_made table g vs id v p found at;
        } in
        let near : k.to.last < (cursor_of g next).block + g.blocks = ⊎_elim (λ q. let y = s.near in omega arith) (λ o. let y = passed_older (older_at q o.full e o.opens o.newest) in let z = o.next in omega arith) k.further in
        quiet g front k.to next ws ws' vs id v v' s at later moved.consumed record { head = moved.consumer ∙ s.unmoved.head; reserved = λ i. moved.reserved i ∙ s.unmoved.reserved i } (put_takes_none Put SeeX g q found v.taken v.read)
        k.side near (put_leaves g (scene g next ws' (slice_set vs id v')) v'.read q found) (λ r z. absurd (put_no_take g q found r z))
