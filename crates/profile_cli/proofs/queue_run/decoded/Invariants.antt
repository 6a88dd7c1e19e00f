use Rattle.std.proofs.Common.{take}
use Rattle.profile_cli.specs.Written.{Spell}
use Rattle.profile_cli.proofs.queue_run.decoded.Given as goal

abbrev pub invariant-loop-item : goal.invariant-loop-item
invariant-loop-item l = Spell l.events.items (take l.item-index l.items)
