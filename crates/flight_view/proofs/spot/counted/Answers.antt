use Rattle.std.proofs.Common.{[], arith, subst, sym}
use Rattle.cursor_word.specs.Cursor.{cursor}
use Rattle.block_looks.specs.declared.look.LookPhase.TheVariants as phase
use Rattle.flight_view.specs.declared.spot.Loaded.{Loaded}
use Rattle.flight_view.specs.Spots.{Leaves, with_look}
use Rattle.flight_view.proofs.Follows.{block_empty, block_whole}
use Rattle.flight_view.proofs.spot.counted.Goals as goal

pub returns-then-count-eq0 : goal.returns-then-count-eq0
returns-then-count-eq0 c = λ shape view found allocated limits fit p leads.
    subst (λ s. Leaves shape [] (with_look shape c.args.block found s view) c.passed.result.next) (sym c.passed.ensures.shown)
    (c.passed.ensures.next shape _ (block_empty shape c.args.spot.now.end c.args.block found c.args.count c.args.committed allocated view c.if-count-eq0.true p c.requires.within leads))

pub returns : goal.returns
returns c = λ shape view found allocated limits fit p leads.
    subst (λ (r : Loaded). Leaves shape [] (with_look shape c.args.block found r.shown view) r.next) (sym c.on.ensures)
    (block_whole shape record { phase = phase.Word (cursor c.args.block 0) 0; end = c.args.spot.now.end; count = c.args.count; committed = c.args.committed } c.args.block found allocated view (let n = c.if-count-eq0.false in omega arith) fit (let w = limits.width_from in omega arith) p c.requires.within leads)
