use Rattle.std.proofs.Common.{◌≡◌, ◌∷◌, [], ◌∙◌, ap, subst, sym}
use Rattle.cursor_word.specs.Cursor.{unpacked}
use Rattle.block_looks.specs.declared.look.LookAfter.TheVariants as after
use Rattle.block_looks.specs.declared.look.LookPhase.{LookPhase}
use Rattle.block_looks.specs.declared.look.LookPhase.TheVariants as phase
use Rattle.block_looks.specs.Table.{look_after}
use Rattle.flight_view.specs.declared.spot.Loaded.{Loaded}
use Rattle.flight_view.specs.declared.spot.Spot.{Spot}
use Rattle.flight_view.specs.declared.spot.Shown.TheVariants as shown
use Rattle.flight_view.specs.Spots.{IsAt, IsInPhase, Leaves, SoFar, read_after, so_far, with_load}
use Rattle.flight_view.proofs.Follows.{all_fits, all_leads, all_view, com_fits, first_block_next, goes_to}
use Rattle.flight_view.proofs.spot.follow.Goals as goal

pub returns-in_default-Next : goal.returns-in_default-Next
returns-in_default-Next c = λ view is.
    let g = c.args.shape.now in let spot = c.args.spot.now in let n = c.args.found in
    let e : look_after g spot.phase n ≡ after.Next c.in_default-Next.next = sym c.look_after.ensures ∙ c.in_default-Next.is-1 in
    subst (λ (r : Loaded). Leaves g (read_after spot.phase c.args.read.now n) (with_load g spot.phase n r.shown view) r.next) (sym c.on.ensures)
    (subst (λ (s : Spot). IsAt g s (read_after spot.phase c.args.read.now n) (with_load g spot.phase n shown.Nothing view)) (sym c.in_phase.ensures)
    (goes_to g spot c.args.read.now n view spot.phase c.in_default-Next.next is c.requires.count c.ranges.found.fits e))

pub returns-in-HeadA-Head : goal.returns-in-HeadA-Head
returns-in-HeadA-Head c = λ view is.
    let g = c.args.shape.now in let spot = c.args.spot.now in let n = c.args.found in let head = c.in-HeadA-Head.head-0 in
    let to = c.begun.result in let r = c.on-in-HeadA-Head.result in
    let two = c.blocks-blocks.ensures.limits.blocks_from in
    let e : look_after g (phase.HeadA head) n ≡ after.Head c.in-HeadA-Head.newest = ap (λ (p : LookPhase). look_after g p n) (sym c.in-HeadA-Head.is-0) ∙ sym c.look_after.ensures ∙ c.in-HeadA-Head.is-1 in
    let same : unpacked n ≡ c.in-HeadA-Head.newest = cc in
    subst (λ (p : LookPhase). IsInPhase g spot c.args.read.now view p → Leaves g (read_after p c.args.read.now n) (with_load g p n r.shown view) r.next) (sym c.in-HeadA-Head.is-0)
    (λ at. subst (λ (l : Loaded). Leaves g [] (with_load g (phase.HeadA head) n l.shown view) l.next) (sym c.on-in-HeadA-Head.ensures)
    (first_block_next g head n view c.in-HeadA-Head.newest to two at same c.begun.ensures.phase c.begun.ensures.end)) is

pub returns-in-Com-Block : goal.returns-in-Com-Block
returns-in-Com-Block c = λ view is.
    let g = c.args.shape.now in let spot = c.args.spot.now in let n = c.args.found in let k = c.in-Com-Block.block in let l = c.in-Com-Block.look in let r = c.saw_block.result in
    let e : look_after g (phase.Com k) n ≡ after.Block l = ap (λ (p : LookPhase). look_after g p n) (sym c.in-Com-Block.is-0) ∙ sym c.look_after.ensures ∙ c.in-Com-Block.is-1 in
    subst (λ (p : LookPhase). IsInPhase g spot c.args.read.now view p → Leaves g (read_after p c.args.read.now n) (with_load g p n r.shown view) r.next) (sym c.in-Com-Block.is-0)
    (λ at. c.saw_block.ensures g view (n ∷ []) c.blocks-blocks.ensures.limits (com_fits g k n l e) at.0 e) is

pub returns-in-All-Block : goal.returns-in-All-Block
returns-in-All-Block c = λ view is.
    let g = c.args.shape.now in let spot = c.args.spot.now in let n = c.args.found in let k = c.in-All-Block.block in let m = c.in-All-Block.committed-0 in let l = c.in-All-Block.look in let r = c.saw_block-in-All-Block.result in
    let e : look_after g (phase.All k m) n ≡ after.Block l = ap (λ (p : LookPhase). look_after g p n) (sym c.in-All-Block.is-0) ∙ sym c.look_after.ensures ∙ c.in-All-Block.is-1 in
    subst (λ (p : LookPhase). IsInPhase g spot c.args.read.now view p → Leaves g (read_after p c.args.read.now n) (with_load g p n r.shown view) r.next) (sym c.in-All-Block.is-0)
    (λ at. subst (λ (v : SoFar). Leaves g [] v r.next) (all_view g spot.end k m view at n l e r.shown)
    (c.saw_block-in-All-Block.ensures g (so_far at.before view.items view.gaps) (at.found ∷ n ∷ []) c.blocks-blocks.ensures.limits (all_fits g spot.end k m view at n l e) at.passed (all_leads g spot.end k m view at n l e))) is

pub returns-in-Check-Entry : goal.returns-in-Check-Entry
returns-in-Check-Entry c = λ view is.
    let g = c.args.shape.now in let spot = c.args.spot.now in let n = c.args.found in let at = c.in-Check-Entry.at in let r = c.saw_entry.result in
    let e : look_after g (phase.Check at) n ≡ after.Entry c.in-Check-Entry.seen = ap (λ (p : LookPhase). look_after g p n) (sym c.in-Check-Entry.is-0) ∙ sym c.look_after.ensures ∙ c.in-Check-Entry.is-1 in
    subst (λ (p : LookPhase). IsInPhase g spot c.args.read.now view p → Leaves g (read_after p c.args.read.now n) (with_load g p n r.shown view) r.next) (sym c.in-Check-Entry.is-0)
    (λ here. c.saw_entry.ensures view n here.0 e) is
