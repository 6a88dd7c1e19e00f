use Rattle.std.proofs.Common.{◌∙◌, ap}
use Rattle.std.specs.Map.{keys_of}
use Rattle.span_fold.proofs.Stacks.{inserted_keys}
use Rattle.span_fold.proofs.folding.add.Goals as goal

pub returns-clause-keys : goal.returns-clause-keys
returns-clause-keys g c = ap keys_of c.in_ok-insert.ensures.entries ∙ inserted_keys g.K.Ord.cmp c.args.times.now.entries c.args.key _
