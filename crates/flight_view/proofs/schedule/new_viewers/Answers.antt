use Rattle.std.proofs.Common.{[], ◌∷◌, List, length-append, ap, arith, length, subst, sym}
use Rattle.std.specs.Prelude.{All}
use Rattle.std.proofs.lemmas.List.Elements.{All-push}
use Rattle.flight_view.specs.declared.viewer.Viewer as code
use Rattle.flight_view.specs.Viewers.{IsFresh}
use Rattle.flight_view.proofs.schedule.new_viewers.Goals as goal

pub loop-seat-preserved : goal.loop-seat-preserved
loop-seat-preserved c =
    let g = c.args.shape.now in let i = c.loop-seat.invariant in let old : List code.Viewer = c.loop-seat.viewers.items in
    let n = ap (λ (l : List code.Viewer). length l) c.in_ok-push.ensures.items in let m = length-append old (c.new.result ∷ []) in let o = i.0 in
    (omega arith, subst (All (IsFresh g)) (sym c.in_ok-push.ensures.items) (All-push (IsFresh g) old c.new.result i.1 (c.new.ensures.stands g, c.new.ensures.view)))
