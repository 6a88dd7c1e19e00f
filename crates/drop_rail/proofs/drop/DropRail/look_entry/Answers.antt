use Rattle.std.proofs.Common.{◌≡◌, ◌<◌, ◌∙◌, ap, arith, subst, sym}
use Rattle.std.specs.Prelude.{take}
use Rattle.cursor_word.specs.Shape.{Grid}
use Rattle.cursor_word.specs.declared.cursor.Cursor.{Cursor}
use Rattle.block_looks.specs.declared.look.LookAfter.TheVariants as after
use Rattle.block_looks.specs.declared.look.LookPhase.TheVariants as phase
use Rattle.block_looks.specs.declared.look.Seen.TheVariants as seen
use Rattle.block_looks.specs.Shown.{LookShows}
use Rattle.drop_rail.specs.Looking.{HasLooked}
use Rattle.drop_rail.proofs.Entries.{ReadsEntry, check_other, check_same, has_looked, reads_on, shown_is, words_are}
use Rattle.drop_rail.proofs.drop.DropRail.look_entry.Goals as goal

pub loop-next-preserved : goal.loop-next-preserved
loop-next-preserved c =
    let t = c.loop-next-test.true in let w = c.width-width.ensures.value in
    reads_on c.shape-shape.result c.args.seat.now c.loop-next.seat c.args.at c.loop-next.next c.loop-next.out c.loop-next.invariant (omega arith) c.look_step-found.result c.look_step-found.new.seat c.look_step-found.ensures.seat

pub returns-then-now-at-clause-look : goal.returns-then-now-at-clause-look
returns-then-now-at-clause-look c =
    let g = c.shape-shape.result in let n = c.look_step-last.result in
    let t = c.loop-next-test.false in let w = c.width-width.ensures.value in let e = c.loop-next.auto.next-end in
    let ends : c.loop-next.next ≡ g.width = omega arith in
    let some : 0 < g.width = let l = c.shape-shape.ensures.limits.width_from in omega arith in
    let same = ap (λ (k : Cursor). k.block) (sym c.unpack-now.ensures.cursor) ∙ c.if-now-at.true in
    subst (λ k. HasLooked k c.args.seat.now c.look_step-last.new.seat (phase.Word c.args.at 0) (after.Entry seen.Whole)) (c.shape-shape.ensures.shape ∙ ap (λ q. q.shape) c.self.view_is)
    (has_looked g c.args.seat.now c.loop-next.seat c.look_step-last.new.seat c.args.at c.loop-next.out n some (subst (λ k. ReadsEntry g c.args.seat.now c.loop-next.seat c.args.at k c.loop-next.out) ends c.loop-next.invariant) c.look_step-last.ensures.seat seen.Whole (check_same g c.args.at n same))

pub returns-then-now-at-clause-shown : goal.returns-then-now-at-clause-shown
returns-then-now-at-clause-shown c =
    let g = c.shape-shape.result in let n = c.look_step-last.result in
    let t = c.loop-next-test.false in let w = c.width-width.ensures.value in let e = c.loop-next.auto.next-end in
    let ends : c.loop-next.next ≡ g.width = omega arith in
    let some : 0 < g.width = let l = c.shape-shape.ensures.limits.width_from in omega arith in
    let same = ap (λ (k : Cursor). k.block) (sym c.unpack-now.ensures.cursor) ∙ c.if-now-at.true in
    subst (λ k. LookShows k c.look_step-last.new.seat.view.made (phase.Check c.args.at) c.loop-next.out (after.Entry seen.Whole)) (c.shape-shape.ensures.shape ∙ ap (λ q. q.shape) c.self.view_is)
    (shown_is g c.args.seat.now c.loop-next.seat c.look_step-last.new.seat c.args.at c.loop-next.out n some (subst (λ k. ReadsEntry g c.args.seat.now c.loop-next.seat c.args.at k c.loop-next.out) ends c.loop-next.invariant) c.look_step-last.ensures.seat seen.Whole (check_same g c.args.at n same) c.look_step-last.ensures.shows)

pub returns-else-now-at-clause-look : goal.returns-else-now-at-clause-look
returns-else-now-at-clause-look c =
    let g = c.shape-shape.result in let n = c.look_step-last.result in
    let t = c.loop-next-test.false in let w = c.width-width.ensures.value in let e = c.loop-next.auto.next-end in
    let ends : c.loop-next.next ≡ g.width = omega arith in
    let some : 0 < g.width = let l = c.shape-shape.ensures.limits.width_from in omega arith in
    let follows = check_other g c.args.at n (λ q. c.if-now-at.false (ap (λ (k : Cursor). k.block) c.unpack-now.ensures.cursor ∙ q)) ∙ ap (λ (k : Cursor). after.Entry (seen.Reused k)) (sym c.unpack-now.ensures.cursor) in
    subst (λ k. HasLooked k c.args.seat.now c.look_step-last.new.seat (phase.Word c.args.at 0) (after.Entry (seen.Reused c.unpack-now.result))) (c.shape-shape.ensures.shape ∙ ap (λ q. q.shape) c.self.view_is)
    (has_looked g c.args.seat.now c.loop-next.seat c.look_step-last.new.seat c.args.at c.loop-next.out n some (subst (λ k. ReadsEntry g c.args.seat.now c.loop-next.seat c.args.at k c.loop-next.out) ends c.loop-next.invariant) c.look_step-last.ensures.seat (seen.Reused c.unpack-now.result) follows)

pub returns-then-now-at-clause-words : goal.returns-then-now-at-clause-words
returns-then-now-at-clause-words c =
    let g = c.shape-shape.result in let n = c.look_step-last.result in
    let t = c.loop-next-test.false in let w = c.width-width.ensures.value in let e = c.loop-next.auto.next-end in
    let ends : c.loop-next.next ≡ g.width = omega arith in
    let some : 0 < g.width = let l = c.shape-shape.ensures.limits.width_from in omega arith in
    let same = ap (λ (k : Cursor). k.block) (sym c.unpack-now.ensures.cursor) ∙ c.if-now-at.true in
    subst (λ (k : Grid). c.loop-next.out ≡ take k.width c.look_step-last.new.seat.memory.look_trail) (c.shape-shape.ensures.shape ∙ ap (λ q. q.shape) c.self.view_is)
    (words_are g c.args.seat.now c.loop-next.seat c.look_step-last.new.seat c.args.at c.loop-next.out n some (subst (λ k. ReadsEntry g c.args.seat.now c.loop-next.seat c.args.at k c.loop-next.out) ends c.loop-next.invariant) c.look_step-last.ensures.seat seen.Whole (check_same g c.args.at n same))

pub returns-else-now-at-clause-words : goal.returns-else-now-at-clause-words
returns-else-now-at-clause-words c =
    let g = c.shape-shape.result in let n = c.look_step-last.result in
    let t = c.loop-next-test.false in let w = c.width-width.ensures.value in let e = c.loop-next.auto.next-end in
    let ends : c.loop-next.next ≡ g.width = omega arith in
    let some : 0 < g.width = let l = c.shape-shape.ensures.limits.width_from in omega arith in
    let follows = check_other g c.args.at n (λ q. c.if-now-at.false (ap (λ (k : Cursor). k.block) c.unpack-now.ensures.cursor ∙ q)) ∙ ap (λ (k : Cursor). after.Entry (seen.Reused k)) (sym c.unpack-now.ensures.cursor) in
    subst (λ (k : Grid). c.loop-next.out ≡ take k.width c.look_step-last.new.seat.memory.look_trail) (c.shape-shape.ensures.shape ∙ ap (λ q. q.shape) c.self.view_is)
    (words_are g c.args.seat.now c.loop-next.seat c.look_step-last.new.seat c.args.at c.loop-next.out n some (subst (λ k. ReadsEntry g c.args.seat.now c.loop-next.seat c.args.at k c.loop-next.out) ends c.loop-next.invariant) c.look_step-last.ensures.seat (seen.Reused c.unpack-now.result) follows)
