use Rattle.std.proofs.Common.{rules, ◌≡◌, ◌*◌, subst, arith}
use Rattle.cursor_word.specs.Cursor.{low}
use Rattle.cursor_word.specs.Shape.{IsWithinLimits}
use Rattle.cursor_word.proofs.Places.{low_keeps}
use Rattle.cursor_word.proofs.shape.Shape.first_live_place.Goals as goal

pub returns-clause-keeps : goal.returns-clause-keeps
returns-clause-keeps c =
    let live : c.saturating_sub.result * c.self.inside.size ≡ low c.args.self.now c.args.accepted = search rules in
    let keeps = low_keeps c.args.self.now c.args.accepted (subst IsWithinLimits c.self.view_is c.self.invariant) in
    omega arith
