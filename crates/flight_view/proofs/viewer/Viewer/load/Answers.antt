use Rattle.std.proofs.Common.{◌≡◌, ◌++◌, ℕ, List, ◌∙◌, ap, refl, subst, sym}
use Rattle.std.specs.Prelude.{slice_index}
use Rattle.rail.specs.declared.entry.Placed.{Placed}
use Rattle.block_looks.specs.Table.{look_want}
use Rattle.flight_view.specs.declared.gaps.Gap.{Gap}
use Rattle.flight_view.specs.declared.viewer.Viewer as code
use Rattle.flight_view.specs.Spots.{IsAt, Leaves, gaps_of, items_of, read_after, so_far, with_load}
use Rattle.flight_view.proofs.Viewers.{count_fits, in_range, loads_end, loads_on, way_on}
use Rattle.flight_view.proofs.viewer.Viewer.load.Goals as goal

pub follow-loaded-requires-clause-stands : goal.follow-loaded-requires-clause-stands
follow-loaded-requires-clause-stands c =
    let st = c.requires.stands in let old = c.args.self.now in
    let view = so_far st.0 old.items.items old.gaps.items in
    let reads : c.deref.result.now ≡ old.read.items = c.deref.ensures.value ∙ c.in_ok-reserve.ensures.items in
    (view, subst (λ (r : List ℕ). IsAt c.args.shape.now old.spot r view) (sym reads) st.1)

pub follow-loaded-requires-clause-count : goal.follow-loaded-requires-clause-count
follow-loaded-requires-clause-count c =
    let st = c.requires.stands in let old = c.args.self.now in
    let found : c.word-found.result ≡ slice_index c.args.queue.now.state.words (look_want c.args.shape.now old.spot.phase) = c.word-found.ensures ∙ ap (slice_index c.args.queue.now.state.words) c.look_want.ensures.index in
    count_fits c.args.shape.now c.blocks-blocks.ensures.limits c.args.queue.now.state c.requires.sound c.look_law.ensures old.spot old.read.items (so_far st.0 old.items.items old.gaps.items) c.word-found.result st.1 found

pub returns-in-Some-clause-loads : goal.returns-in-Some-clause-loads
returns-in-Some-clause-loads c = λ loads is.
    let g = c.args.shape.now in let old = c.args.self.now in let n = c.word-found.result in let read = c.deref.result.now in let s = c.follow-loaded.result.shown in
    let found : n ≡ slice_index c.args.queue.now.state.words (look_want g old.spot.phase) = c.word-found.ensures ∙ ap (slice_index c.args.queue.now.state.words) c.look_want.ensures.index in
    let reads : read ≡ old.read.items = c.deref.ensures.value ∙ c.in_ok-reserve.ensures.items in
    let view = so_far loads old.items.items old.gaps.items in
    let new : code.Viewer = record { spot = c.in-Some.spot; read = c.keep_word.new.read; items = c.add.new.items; gaps = c.add.new.gaps; view = old.view } in
    let on = c.follow-loaded.ensures view (subst (λ (r : List ℕ). IsAt g old.spot r view) (sym reads) is) in
    let stands = subst (Leaves g (read_after old.spot.phase read n) (with_load g old.spot.phase n s view)) c.in-Some.is on in
    loads_on g c.args.queue.now.state.words loads old new read n s found c.blocks-blocks.ensures.limits.blocks_from stands
    (c.keep_word.ensures ∙ ap (λ (r : List ℕ). read_after old.spot.phase r n) (sym c.deref.ensures.value))
    (c.add.ensures.items ∙ ap (λ (l : List Placed). l ++ items_of s) c.in_ok-reserve_one.ensures.items)
    (c.add.ensures.gaps ∙ ap (λ (l : List Gap). l ++ gaps_of s) c.in_ok-reserve-2.ensures.items) refl

pub returns-in-None-clause-loads : goal.returns-in-None-clause-loads
returns-in-None-clause-loads c = λ loads is.
    let g = c.args.shape.now in let old = c.args.self.now in let n = c.word-found.result in let read = c.deref.result.now in let s = c.follow-loaded.result.shown in
    let found : n ≡ slice_index c.args.queue.now.state.words (look_want g old.spot.phase) = c.word-found.ensures ∙ ap (slice_index c.args.queue.now.state.words) c.look_want.ensures.index in
    let reads : read ≡ old.read.items = c.deref.ensures.value ∙ c.in_ok-reserve.ensures.items in
    let view = so_far loads old.items.items old.gaps.items in
    let on = c.follow-loaded.ensures view (subst (λ (r : List ℕ). IsAt g old.spot r view) (sym reads) is) in
    let whole = subst (Leaves g (read_after old.spot.phase read n) (with_load g old.spot.phase n s view)) c.in-None.is on in
    let v = c.end.ensures.view in
    loads_end g c.args.queue.now.state.words loads old c.end.new.self read n s found v.0 whole v.1
    (v.2 ∙ c.add.ensures.items ∙ ap (λ (l : List Placed). l ++ items_of s) c.in_ok-reserve_one.ensures.items)
    (v.3 ∙ c.add.ensures.gaps ∙ ap (λ (l : List Gap). l ++ gaps_of s) c.in_ok-reserve-2.ensures.items) (c.end.ensures.stands g)

pub look_want-requires : goal.look_want-requires
look_want-requires c = let st = c.requires.stands in let old = c.args.self.now in record { phase = in_range c.args.shape.now old.spot old.read.items (so_far st.0 old.items.items old.gaps.items) old.spot.phase st.1 }

pub returns-in-Some-clause-on_way : goal.returns-in-Some-clause-on_way
returns-in-Some-clause-on_way c = let st = c.requires.stands in way_on c.args.shape.now c.args.queue.now.state.words st.0 c.args.self.now _ (returns-in-Some-clause-loads c st.0 st.1)

pub returns-in-None-clause-on_way : goal.returns-in-None-clause-on_way
returns-in-None-clause-on_way c = let st = c.requires.stands in way_on c.args.shape.now c.args.queue.now.state.words st.0 c.args.self.now _ (returns-in-None-clause-loads c st.0 st.1)
