use Rattle.std.proofs.Common.{◌∙◌, ap, arith}
use Rattle.rail.specs.Items.{placed}
use Rattle.call_steps.proofs.LeftItems.{left_more}
use Rattle.call_steps.proofs.left.read_left.Goals as goal

pub overflow_add-place-end : goal.overflow_add-place-end
overflow_add-place-end c = omega (arith, c.requires.places, c.blocks-blocks.ensures.limits.size_to)

pub loop-place-preserved : goal.loop-place-preserved
loop-place-preserved c = let i = c.loop-place.invariant in let p = c.push.ensures in let a = c.loop-place.auto in
    (p.items ∙ left_more c.args.shape.now c.args.stopped.now c.args.from c.loop-place.place c.args.left.now.items c.loop-place.left.items _ (omega arith) i.0 (ap (placed c.loop-place.place) c.read_entry.ensures), (let s = p.spare in let t = c.loop-place-test.true in let j = i.1 in omega arith))
