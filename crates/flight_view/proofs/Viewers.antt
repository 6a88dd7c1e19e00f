-- What a load does to a seat's view.
use Rattle.std.proofs.Common.{◌≡◌, ◌≢◌, ℕ, ◌/◌, ◌%◌, ◌<◌, ◌≤◌, List, [], ◌∷◌, ◌++◌, length, length-append, refl, sym, ap, ◌∙◌, subst, inl, inr, ⊎_elim, arith}
use Rattle.std.specs.Prelude.{Some, flat_map, slice_index, if◌then◌else◌}
use Rattle.cursor_word.specs.Shape.{Grid, IsWithinLimits}
use Rattle.cursor_word.specs.Cursor.{offset_span, unpacked}
use Rattle.cursor_word.specs.declared.cursor.Cursor.{Cursor}
use Rattle.rail.specs.declared.entry.Placed.{Placed}
use Rattle.step_log.specs.declared.log.Step.{Step}
use Rattle.step_log.specs.Log.{loaded}
use Rattle.put_side.specs.Cursors.{put_cursors}
use Rattle.put_side.proofs.Sums.{by_test}
use Rattle.drop_core.specs.Types.{MachineState}
use Rattle.block_looks.specs.declared.look.LookPhase.{LookPhase}
use Rattle.block_looks.specs.declared.look.LookPhase.TheVariants.{Head, HeadA, Com, All as AllOf, Word, Check}
use Rattle.block_looks.specs.declared.look.LookAfter.TheVariants as after
use Rattle.block_looks.specs.declared.look.Look.TheVariants as look
use Rattle.block_looks.specs.Table.{IsLookInRange, look_want}
use Rattle.block_looks.specs.Laws.{LooksAreKept}
use Rattle.block_looks.specs.Looks.{LookKnows, no_looks, phase_after}
use Rattle.block_looks.specs.Shown.{LookLeads, look_loads}
use Rattle.block_looks.proofs.Lasts.{starts}
use Rattle.flight_view.specs.declared.gaps.Gap.{Gap}
use Rattle.flight_view.specs.declared.spot.Shown.{Shown}
use Rattle.flight_view.specs.declared.spot.Spot.{Spot}
use Rattle.flight_view.specs.declared.viewer.Viewer as code
use Rattle.flight_view.specs.declared.walking.View.{View}
use Rattle.flight_view.specs.Schedules.{AreShown}
use Rattle.flight_view.specs.Walks.{block_loads, entry_loads}
use Rattle.flight_view.specs.Spots.{HavePassed, IsAt, IsCount, IsInPhase, IsWhole, SoFar, gaps_of, items_of, read_after, so_far, with_load}
use Rattle.flight_view.specs.Viewers.{IsGood, IsOnWay, LoadsOne, LoadsTo, Stands}
use Rattle.flight_view.proofs.LookSteps.{some_seat}
use Rattle.flight_view.proofs.Follows.{goes_on}
use Rattle.flight_view.proofs.Spots.{from_first}

module _ (g : Grid) where
  head_some : (found : List ℕ) (newest : Cursor) → LookLeads g (after.Next Head) found (after.Head newest) → 0 < length (look_loads g (after.Next Head) found)
  head_some [] newest e = cc
  head_some (x ∷ xs) newest e = omega arith

  passed_some : (end k : ℕ) (view : SoFar) → HavePassed g end k view → 0 < length view.loads
  passed_some end k view p =
      let n = head_some p.walk.found p.walk.newest p.head in
      let l = ap (λ (s : List Step). length s) p.of.loads in
      let a = length-append (look_loads g (after.Next Head) p.walk.found) (flat_map (block_loads g) p.walk.blocks) in omega arith

  -- a walk that has begun has loaded something
  some_loads : (spot : Spot) (read : List ℕ) (view : SoFar) (p : LookPhase) → IsInPhase g spot read view p → p ≢ Head → 0 < length view.loads
  some_loads spot read view Head is begun = absurd (begun refl)
  some_loads spot read view (HeadA head) is begun = let l = ap (λ (v : SoFar). length v.loads) is in omega arith
  some_loads spot read view (Com k) is begun = passed_some spot.end k view is.0
  some_loads spot read view (AllOf k m) is begun = let l = ap (λ (s : List Step). length s) is.loads in let a = length-append is.before (loaded (look_want g (Com k)) is.found ∷ []) in omega arith
  some_loads spot read view (Word at next) is begun =
      let r = is.0 in let n = passed_some spot.end at.block r.before r.passed in let l = ap (λ (s : List Step). length s) r.loads in
      let a = length-append (r.before.loads ++ (look_loads g (after.Next (Com at.block)) r.found ++ flat_map (entry_loads g) r.entries)) (look_loads g (after.Next (Word at 0)) read) in
      let b = length-append r.before.loads (look_loads g (after.Next (Com at.block)) r.found ++ flat_map (entry_loads g) r.entries) in omega arith
  some_loads spot read view (Check at) is begun =
      let r = is.0 in let n = passed_some spot.end at.block r.before r.passed in let l = ap (λ (s : List Step). length s) r.loads in
      let a = length-append (r.before.loads ++ (look_loads g (after.Next (Com at.block)) r.found ++ flat_map (entry_loads g) r.entries)) (look_loads g (after.Next (Word at 0)) read) in
      let b = length-append r.before.loads (look_loads g (after.Next (Com at.block)) r.found ++ flat_map (entry_loads g) r.entries) in omega arith

  pub loads_begun : (loads : List Step) (viewer : code.Viewer) → Stands g loads viewer → viewer.spot.phase ≢ Head → loads ≢ []
  loads_begun loads viewer is begun none = let n = some_loads viewer.spot viewer.read.items _ viewer.spot.phase is begun in let l = ap (λ (s : List Step). length s) none in omega arith

  -- its next step is one that can be done
  pub in_range : (spot : Spot) (read : List ℕ) (view : SoFar) (p : LookPhase) → IsInPhase g spot read view p → IsLookInRange g p
  in_range spot read view (Word at next) is = (let l = is.0.within in let s = is.0.short in omega arith, is.1)
  in_range spot read view Head is = tt
  in_range spot read view (HeadA head) is = tt
  in_range spot read view (Com k) is = tt
  in_range spot read view (AllOf k m) is = tt
  in_range spot read view (Check at) is = tt

  -- a committed cursor counts no more than a block
  module _ (limits : IsWithinLimits g) (w : MachineState) (good : IsGood g w) (law : LooksAreKept) where
    committed_counts : (k : ℕ) → g.blocks ≤ k → IsCount g (Com k) (unpacked (slice_index w.words (look_want g (Com k))))
    committed_counts k from opened =
        let n : ℕ = slice_index w.words (look_want g (Com k)) in
        let u = some_seat g limits law w good in
        let done = law g w.words w.views 0 u.0 no_looks (Com k) limits good.sound good.room u.1 (starts g w.words w.views) from in
        by_test (n / offset_span) k (λ b. LookKnows g (put_cursors g w.words) w.views (n ∷ []) (phase_after (if b then after.Block (look.Unopened (unpacked n)) else after.Next (AllOf k (unpacked n)))) → n % offset_span ≤ g.size)
        (λ l h. absurd (omega (arith, opened))) (λ l h. h.within) done.holds.knows

    counts : (spot : Spot) (read : List ℕ) (view : SoFar) (p : LookPhase) → IsInPhase g spot read view p → IsCount g p (unpacked (slice_index w.words (look_want g p)))
    counts spot read view (Com k) is = committed_counts k (from_first g spot.end k view is.0)
    counts spot read view Head is = tt
    counts spot read view (HeadA head) is = tt
    counts spot read view (AllOf k m) is = tt
    counts spot read view (Word at next) is = tt
    counts spot read view (Check at) is = tt

    pub count_fits : (spot : Spot) (read : List ℕ) (view : SoFar) (n : ℕ) → IsAt g spot read view → n ≡ slice_index w.words (look_want g spot.phase) → IsCount g spot.phase (unpacked n)
    count_fits spot read view n is e = subst (λ (m : ℕ). IsCount g spot.phase (unpacked m)) (sym e) (counts spot read view spot.phase is)

  module _ (words : List ℕ) (loads : List Step) (old new : code.Viewer) (read : List ℕ) (n : ℕ) (s : Shown) (found : n ≡ slice_index words (look_want g old.spot.phase)) where
    abbrev more : List Step
    more = loads ++ loaded (look_want g old.spot.phase) n ∷ []

    abbrev after_load : SoFar
    after_load = with_load g old.spot.phase n s (so_far loads old.items.items old.gaps.items)

    more_is : more ≡ loads ++ loaded (look_want g old.spot.phase) (slice_index words (look_want g old.spot.phase)) ∷ []
    more_is = ap (λ (m : ℕ). loads ++ loaded (look_want g old.spot.phase) m ∷ []) found

    pub loads_on : 2 ≤ g.blocks → IsAt g new.spot (read_after old.spot.phase read n) after_load → new.read.items ≡ read_after old.spot.phase read n → new.items.items ≡ old.items.items ++ items_of s → new.gaps.items ≡ old.gaps.items ++ gaps_of s → new.view ≡ old.view → LoadsOne g words loads old new
    loads_on two is reads items gaps view =
        let begun : new.spot.phase ≢ Head = λ head. let v = ap (λ (z : SoFar). length z.loads) (subst (IsInPhase g new.spot (read_after old.spot.phase read n) after_load) head is) in let a = length-append loads (loaded (look_want g old.spot.phase) n ∷ []) in omega arith in
        let stands : Stands g more new = subst (λ (r : List ℕ). IsAt g new.spot r (so_far more new.items.items new.gaps.items)) (sym reads) (subst (λ (l : List Placed). IsAt g new.spot (read_after old.spot.phase read n) (so_far more l new.gaps.items)) (sym items) (subst (λ (l : List Gap). IsAt g new.spot (read_after old.spot.phase read n) (so_far more (old.items.items ++ items_of s) l)) (sym gaps) is)) in
        let go = goes_on g new.spot (read_after old.spot.phase read n) after_load new.spot.phase two is begun in
        record { index = look_want g old.spot.phase; to = subst (λ (l : List Step). LoadsTo g l old new) more_is (inl (go, stands, view)) }

    pub loads_end : (view : View) → IsWhole g after_load → new.view ≡ Some view → view.items.items ≡ old.items.items ++ items_of s → view.gaps ≡ old.gaps.items ++ gaps_of s → Stands g [] new → LoadsOne g words loads old new
    loads_end view w is items gaps stands =
        let shown : AreShown g more view = record { walk = w.walk; is = w.is; ended = w.ended; all = w.of.loads; items = items ∙ w.of.items; gaps = gaps ∙ w.of.gaps } in
        record { index = look_want g old.spot.phase; to = subst (λ (l : List Step). LoadsTo g l old new) more_is (inr (view, shown, stands, is)) }

  -- after a load the walk stands somewhere
  pub way_on : (words : List ℕ) (loads : List Step) (old new : code.Viewer) → LoadsOne g words loads old new → IsOnWay g new
  way_on words loads old new one = ⊎_elim (λ on. (loads ++ loaded one.index (slice_index words one.index) ∷ [], on.1)) (λ end. ([], end.2)) one.to
