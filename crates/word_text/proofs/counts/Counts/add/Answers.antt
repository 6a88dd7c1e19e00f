use Rattle.std.proofs.Common.{ap, arith}
use Rattle.std.proofs.lemmas.Result.{on_err_weaker}
use Rattle.word_text.specs.Counts.{told, total}
use Rattle.word_text.proofs.Totals.{count_in-le-total, IsCounted-after}
use Rattle.word_text.proofs.counts.Counts.add.Goals as goal

pub add_number-requires : goal.add_number-requires
add_number-requires c = omega (arith, c.requires.room, ap total c.self.view_is, count_in-le-total (told c.self.inside.table.entries) c.args.word.now)

pub invariant_of-self : goal.invariant_of-self
invariant_of-self c =
    IsCounted-after c.add_number.result _ _ c.args.word.now c.args.number c.add_number.ensures.ok (on_err_weaker c.add_number.result (λ e. ap (λ es. told es) e) c.add_number.ensures.err)
    c.self.invariant c.requires.some (omega (arith, c.requires.room, ap total c.self.view_is))
