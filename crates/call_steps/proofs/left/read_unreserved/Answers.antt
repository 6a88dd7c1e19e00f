use Rattle.std.proofs.Common.{append-nil, [], ◌∷◌, ◌++◌, ap, arith, true, false, sym, ◌∙◌}
use Rattle.rail.specs.Items.{placed}
use Rattle.call_steps.proofs.LeftItems.{unreserved_more}
use Rattle.call_steps.proofs.left.read_unreserved.Goals as goal
use Rattle.call_steps.proofs.left.read_unreserved.Goals.{then-is_unreserved, else-is_unreserved}

pub loop-place-preserved : goal.loop-place-preserved
loop-place-preserved c =
    let i = c.loop-place.invariant in
    let from = c.loop-place.auto.place in
    let more = unreserved_more c.args.shape.now c.args.stopped.now c.args.from c.loop-place.place c.args.left.now.items c.loop-place.left.items in
    elim c.if-is_unreserved.branch [
      | then-is_unreserved w ↦ (
        ap (λ l. l.items) w.left-is
            ∙ (w.push.ensures.items
            ∙ (ap (λ e. c.loop-place.left.items ++ placed c.loop-place.place e ∷ []) w.read_entry.ensures
            ∙ more true from i.0 (sym c.is_unreserved.ensures ∙ w.if-is_unreserved.true))),
        omega (arith, ap (λ l. l.spare) w.left-is, w.push.ensures.spare, i.1),
      )
      | else-is_unreserved w ↦ (
        ap (λ l. l.items) w.left-is ∙ (sym (append-nil c.loop-place.left.items) ∙ more false from i.0 (sym c.is_unreserved.ensures ∙ w.if-is_unreserved.false)),
        omega (arith, ap (λ l. l.spare) w.left-is, i.1),
      )
    ]
