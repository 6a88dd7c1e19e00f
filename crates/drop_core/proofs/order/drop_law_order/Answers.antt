use Rattle.machine.specs.Moments.{moment}
use Rattle.put_side.proofs.InTime.{puts_in_order}
use Rattle.drop_core.specs.Stage.{stage}
use Rattle.drop_core.specs.Steps.{table}
use Rattle.drop_core.proofs.Moments.{dense}
use Rattle.drop_core.proofs.CallTable.{puts}
use Rattle.drop_core.proofs.Reached.{moment_sound}
use Rattle.drop_core.proofs.order.drop_law_order.Goals as goal

pub returns : goal.returns
returns c = record {
  puts = puts_in_order stage table puts c.args.shape.now c.args.events.now (λ n. let d = dense c.args.shape.now (moment table c.args.shape.now c.args.events.now n) (moment_sound c.args.shape.now c.args.events.now c.blocks-blocks.ensures.limits c.requires.suits c.requires.few n) in (d.count, d.once));
}
