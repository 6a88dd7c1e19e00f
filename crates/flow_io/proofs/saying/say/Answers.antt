use Rattle.std.proofs.Common.{[], ◌∷◌, rules}
use Rattle.flow_io.proofs.Said.{said_part, said_more, said_last}
use Rattle.flow_io.proofs.saying.say.Goals as goal

pub returns-then-not-write_all-2-clause-said : goal.returns-then-not-write_all-2-clause-said
returns-then-not-write_all-2-clause-said g c =
    let one = c.write_all.ensures in
    let two = c.write_all-2.ensures in
    said_more _ _ _ _ _ _ c.args.text.now _ (one.all (search rules)) (one.quiet (search rules)) (said_part _ _ _ _ c.args.name.now (10 ∷ []) (two.cause (search rules)) (two.part (search rules)))

pub returns-clause-said : goal.returns-clause-said
returns-clause-said g c =
    let one = c.write_all.ensures in
    let two = c.write_all-2.ensures in
    let three = c.write_all-3.ensures in
    said_more _ _ _ _ _ _ c.args.text.now _ (one.all (search rules)) (one.quiet (search rules))
    (said_more _ _ _ _ _ _ c.args.name.now _ (two.all (search rules)) (two.quiet (search rules)) (said_last _ _ _ _ _ (10 ∷ []) three.all three.quiet three.part three.cause))
