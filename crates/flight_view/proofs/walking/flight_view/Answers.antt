use Rattle.std.proofs.Common.{◌≡◌, [], ℕ, List, ap, arith, refl, subst, sym, ◌∙◌}
use Rattle.std.proofs.lemmas.Result.{err_from_is_err_and}
use Rattle.rail.specs.declared.entry.Placed.{Placed}
use Rattle.flight_view.specs.declared.gaps.Gap.{Gap}
use Rattle.flight_view.specs.Walks.{first_block}
use Rattle.flight_view.specs.Parts.{midway}
use Rattle.flight_view.proofs.Walked.{HavePassed, ends_unopened, ends_whole, passed_none, passes_on, stops_before, stops_in}
use Rattle.flight_view.proofs.walking.flight_view.Goals as goal

pub loop-block-init : goal.loop-block-init
loop-block-init c =
    let g = c.args.rail.now.shape in let seat = c.look_head-newest.new.seat in let first = c.max-first.result in
    subst (λ (xs : List Placed). HavePassed g first first (midway seat [] []) (midway seat xs c.new-gaps.result.items)) (sym (ap (λ b. b.items) c.new-items.ensures))
    (subst (λ (ys : List Gap). HavePassed g first first (midway seat [] []) (midway seat [] ys)) (sym c.new-gaps.ensures.items) (passed_none g first seat))

pub returns-in_err-reserve-clause-walk : goal.returns-in_err-reserve-clause-walk
returns-in_err-reserve-clause-walk c =
    let g = c.args.rail.now.shape in let start = c.look_head-newest in let l = c.loop-block in
    let p = err_from_is_err_and c.from_residual.result c.from_residual.ensures.1 in
    let b : c.blocks-blocks.result ≡ g.blocks = c.blocks-blocks.ensures.value ∙ ap (λ s. s.blocks) c.shape.ensures.shape in
    let now = midway l.seat l.items.items l.gaps.items in
    let first : c.max-first.result ≡ first_block g start.result = grind arith in
    rw p.1 (stops_before g c.args.seat.now start.new.seat start.result start.ensures.look start.ensures.looked l.block now (subst (λ (f : ℕ). HavePassed g f l.block (midway start.new.seat [] []) now) first l.invariant) p.0 (omega arith))

pub returns-in_err-view_block-clause-walk : goal.returns-in_err-view_block-clause-walk
returns-in_err-view_block-clause-walk c =
    let g = c.args.rail.now.shape in let start = c.look_head-newest in let l = c.loop-block in
    let p = err_from_is_err_and c.from_residual-in_err-view_block.result c.from_residual-in_err-view_block.ensures.1 in
    let b : c.blocks-blocks.result ≡ g.blocks = c.blocks-blocks.ensures.value ∙ ap (λ s. s.blocks) c.shape.ensures.shape in
    let first : c.max-first.result ≡ first_block g start.result = grind arith in
    let roomy = subst (λ (ys : List Gap). HavePassed g c.max-first.result l.block (midway start.new.seat [] []) (midway l.seat l.items.items ys)) (sym c.in_ok-reserve.ensures.items) l.invariant in
    let now = midway l.seat l.items.items c.reserve.new.self.items in
    rw p.1 (stops_in g c.args.seat.now start.new.seat start.result start.ensures.look start.ensures.looked l.block now (subst (λ (f : ℕ). HavePassed g f l.block (midway start.new.seat [] []) now) first roomy)
    (midway c.view_block.new.seat c.view_block.new.items.items c.view_block.new.gaps.items) c.in_err-view_block.field-0.0 p.0 c.in_err-view_block.ensures.looks (omega arith))

pub returns-then-not-branch-clause-walk : goal.returns-then-not-branch-clause-walk
returns-then-not-branch-clause-walk c =
    let g = c.args.rail.now.shape in let start = c.look_head-newest in let l = c.loop-block in
    let b : c.blocks-blocks.result ≡ g.blocks = c.blocks-blocks.ensures.value ∙ ap (λ s. s.blocks) c.shape.ensures.shape in
    let first : c.max-first.result ≡ first_block g start.result = grind arith in
    let roomy = subst (λ (ys : List Gap). HavePassed g c.max-first.result l.block (midway start.new.seat [] []) (midway l.seat l.items.items ys)) (sym c.in_ok-reserve.ensures.items) l.invariant in
    let now = midway l.seat l.items.items c.reserve.new.self.items in
    ends_unopened g c.args.seat.now start.new.seat start.result start.ensures.look start.ensures.looked l.block now (subst (λ (f : ℕ). HavePassed g f l.block (midway start.new.seat [] []) now) first roomy)
    (midway c.view_block.new.seat c.view_block.new.items.items c.view_block.new.gaps.items) _ c.in_ok-view_block.field-0 c.if-not-branch.true c.in_ok-view_block.ensures.looks (omega arith) refl refl

pub loop-block-preserved : goal.loop-block-preserved
loop-block-preserved c =
    let g = c.args.rail.now.shape in let start = c.look_head-newest in let l = c.loop-block in
    let roomy = subst (λ (ys : List Gap). HavePassed g c.max-first.result l.block (midway start.new.seat [] []) (midway l.seat l.items.items ys)) (sym c.in_ok-reserve.ensures.items) l.invariant in
    passes_on g c.max-first.result l.block (midway start.new.seat [] []) (midway l.seat l.items.items c.reserve.new.self.items) (midway c.view_block.new.seat c.view_block.new.items.items c.view_block.new.gaps.items) roomy
    c.in_ok-view_block.field-0 c.if-not-branch.false c.in_ok-view_block.ensures.looks c.in_ok-view_block.ensures.order

pub returns-clause-walk : goal.returns-clause-walk
returns-clause-walk c =
    let g = c.args.rail.now.shape in let start = c.look_head-newest in let l = c.loop-block in
    let b : c.blocks-blocks.result ≡ g.blocks = c.blocks-blocks.ensures.value ∙ ap (λ s. s.blocks) c.shape.ensures.shape in
    let first : c.max-first.result ≡ first_block g start.result = grind arith in
    let now = midway l.seat l.items.items l.gaps.items in
    ends_whole g c.args.seat.now start.new.seat start.result start.ensures.look start.ensures.looked l.block now (subst (λ (f : ℕ). HavePassed g f l.block (midway start.new.seat [] []) now) first l.invariant)
    _ (omega arith) start.ensures.newest.before refl refl
