use Rattle.std.proofs.Common.{◌≡◌, ◌+◌, [], arith, subst, sym}
use Rattle.rail.specs.declared.entry.Placed.{Placed}
use Rattle.rail.specs.Items.{placed}
use Rattle.cursor_word.specs.Cursor.{cursor, place_at}
use Rattle.block_looks.specs.declared.look.LookPhase.TheVariants as phase
use Rattle.flight_view.specs.declared.spot.Shown.TheVariants as shown
use Rattle.flight_view.specs.declared.spot.Spot.{Spot}
use Rattle.flight_view.specs.Spots.{HavePassed, IsAt, IsInPhase, Leaves, with_load}
use Rattle.flight_view.proofs.Follows.{entry_last, entry_more}
use Rattle.flight_view.proofs.spot.saw_item.Goals as goal

pub returns-then-offset-count : goal.returns-then-offset-count
returns-then-offset-count c = λ view found r e.
    let g = c.args.shape.now in let at = c.args.at in let read = c.args.read.now in
    let item : ◌≡◌ {A = Placed} (placed c.place_of.result c.new.result) (placed (place_at g at) read) = λ i. record { place = c.place_of.ensures.place i; words = c.new.ensures i } in
    subst (λ s. Leaves g [] (with_load g (phase.Check at) found s view) c.passed.result.next) (sym c.passed.ensures.shown)
    (c.passed.ensures.next g _ (subst (λ (x : Placed). HavePassed g c.args.spot.now.end (at.block + 1) (with_load g (phase.Check at) found (shown.Item x) view)) (sym item)
    (entry_last g c.args.spot.now at read view r found c.requires.read e (let t = c.if-offset-count.true in omega arith))))

pub returns : goal.returns
returns c = λ view found r e.
    let g = c.args.shape.now in let at = c.args.at in let read = c.args.read.now in let spot = c.args.spot.now in
    let item : ◌≡◌ {A = Placed} (placed c.place_of.result c.new.result) (placed (place_at g at) read) = λ i. record { place = c.place_of.ensures.place i; words = c.new.ensures i } in
    subst (λ (s : Spot). IsAt g s [] (with_load g (phase.Check at) found (shown.Item (placed c.place_of.result c.new.result)) view)) (sym c.in_phase.ensures)
    (subst (λ (x : Placed). IsInPhase g (record { phase = phase.Word (cursor at.block (at.offset + 1)) 0; end = spot.end; count = spot.count; committed = spot.committed }) [] (with_load g (phase.Check at) found (shown.Item x) view) (phase.Word (cursor at.block (at.offset + 1)) 0)) (sym item)
    (entry_more g spot at read view r found c.requires.read (phase.Word (cursor at.block (at.offset + 1)) 0) e (let t = c.if-offset-count.false in omega arith) (let w = c.width-width.ensures.limits.width_from in omega arith)))
