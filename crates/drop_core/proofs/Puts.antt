-- The steps of a put keep the invariant.
use Rattle.std.proofs.Common.{◌≡◌, ℕ, ◌+◌, ◌<◌, ◌≤◌, List, [], ◌++◌, refl, sym, ap, ◌∙◌, subst}
use Rattle.std.specs.Prelude.{Some, slice_get, slice_set}
use Rattle.cursor_word.specs.Shape.{Grid, IsWithinLimits}
use Rattle.cursor_word.specs.Cursor.{most_block}
use Rattle.rail.specs.declared.entry.Placed.{Placed}
use Rattle.rail.specs.Items.{places}
use Rattle.machine.specs.Steps.{finds, phase_after, view_after, words_after}
use Rattle.put_side.specs.Cursors.{committed_word, Front}
use Rattle.put_side.specs.declared.put_phase.PutPhase.{PutPhase}
use Rattle.put_side.specs.declared.put_phase.PutPhase.TheVariants.{OpenM}
use Rattle.put_side.specs.PutTable.{stage_of}
use Rattle.put_side.proofs.PutFollows.{IsLedTo, follows, put_takes_none}
use Rattle.put_side.proofs.Keeps.{keeps_shared, never_back}
use Rattle.put_side.specs.PutSteps.{older_full}
use Rattle.put_side.proofs.Wholes.{may_open_committed}
use Rattle.drop_core.specs.declared.phase.DropPhase.{DropPhase}
use Rattle.drop_core.specs.declared.phase.DropPhase.TheVariants.{Put, SeeM, Take}
use Rattle.drop_core.specs.declared.take_phase.DropTake.{DropTake}
use Rattle.drop_core.specs.Types.{After, View}
use Rattle.drop_core.specs.PutSteps.{after}
use Rattle.drop_core.specs.Steps.{table}
use Rattle.drop_core.specs.Stage.{stage}
use Rattle.drop_core.specs.Words.{Cursors, cursors}
use Rattle.drop_core.specs.Counts.{raises_consumer, reading}
use Rattle.drop_core.specs.Sound.{DropKnows, IsSoundAt}
use Rattle.drop_core.proofs.CallTable.{puts}
use Rattle.put_side.proofs.Made.{step_keeps_made}
use Rattle.drop_core.proofs.Frames.{quiet}

module _ (g : Grid) (q : PutPhase) (old : ℕ) where
  -- what follows a shared step reads no place, opens no block by its next step, and is no take
  plain_reads : reading g (phase_after (after g (Put q) old)) ≡ []
  plain_reads = follows Put SeeM (λ (b : After). reading g (phase_after b) ≡ []) (record { next = λ r led. refl; fills = λ full. refl; ok = λ place. refl; moved = λ earlier later. refl }) g q old

  led_knows : (last : ℕ) (c : Cursors) (vs : List View) (taken : List Placed) (read : List ℕ) (r : PutPhase) → IsLedTo r → DropKnows g last c vs taken read (Some (Put r))
  led_knows last c vs taken read (OpenM full) led = absurd led
  led_knows last c vs taken read r led = tt

  plain_knows : (last : ℕ) (c : Cursors) (vs : List View) (taken : List Placed) (read : List ℕ) → DropKnows g last c vs taken read (phase_after (after g (Put q) old))
  plain_knows last c vs taken read =
      follows Put SeeM (λ (b : After). DropKnows g last c vs taken read (phase_after b)) (record { next = led_knows last c vs taken read; fills = λ full. tt; ok = λ place. tt; moved = λ earlier later. tt }) g q old

  plain_no_take : (t : DropTake) → phase_after (after g (Put q) old) ≡ Some (Take t) → ⊥
  plain_no_take t = follows Put SeeM (λ (b : After). phase_after b ≡ Some (Take t) → ⊥) (record { next = λ r led e. cc; fills = λ full e. cc; ok = λ place e. cc; moved = λ earlier later e. cc }) g q old

module _ (g : Grid) (f : Front) (ws : List ℕ) (vs : List View) (limits : IsWithinLimits g) (s : IsSoundAt g f ws vs) where
  module _ (id : ℕ) (v : View) (at : slice_get vs id ≡ Some v) where
    -- the shared steps
    pub keeps_put : (q : PutPhase) → v.phase ≡ Some (Put q) → f.last < most_block → (f' : Front) × IsSoundAt g f' (words_after table g ws v (Put q)) (slice_set vs id (view_after table g ws v (Put q)))
    keeps_put q e small =
        let p : DropPhase = Put q in
        let old : ℕ = finds table g ws v p in
        let b : After = after g p old in
        let v' : View = view_after table g ws v p in
        let ws' : List ℕ = words_after table g ws v p in
        let own = s.each id v at in
        let kept = keeps_shared stage table puts g limits f ws vs id v p s.puts small at e tt
        (λ full o is. let y : q ≡ OpenM full = cc in
        let knows : older_full g full.block ≤ committed_word g ws (full.block + 1) = subst (DropKnows g f.last (cursors g ws) vs v.taken v.read) (e ∙ ap (λ (r : PutPhase). Some (Put r)) y) own.knows in
        may_open_committed (stage_of stage) g limits f ws vs s.puts.places (subst (λ (k : ℕ). older_full g k ≤ committed_word g ws (k + 1)) is knows)) in
        let n = kept.0 in
        let moves = kept.1 in
        let reads : reading g v.phase ≡ [] = ap (reading g) e in
        let taken : v'.taken ≡ v.taken = put_takes_none Put SeeM g q old v.taken v.read in
        let f' : Front = n.to in (
          f',
          quiet g f f' ws ws' vs id v v' s at
              record {
                last_to = never_back n.further;
                consumer = moves.consumer;
                puts = moves.grown;
                reserved = moves.reserved;
                fetched = ap (λ (l : List Placed). places l ++ reading g v'.phase) taken ∙ ap (λ (l : List ℕ). places v.taken ++ l) (plain_reads g q old ∙ sym reads);
                unraised = λ b. ap (raises_consumer b) e;
              }
              taken
              (step_keeps_made table g vs id v p old at)
              n.side
              (n.manned s.manned)
              (plain_knows g q old f'.last (cursors g ws') (slice_set vs id v') v'.taken v'.read)
              (λ t z none. absurd (plain_no_take g q old t z)),
        )
