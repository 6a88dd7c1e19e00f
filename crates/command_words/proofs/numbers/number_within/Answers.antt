use Rattle.std.proofs.Common.{◌≡◌, get_or, arith}
use Rattle.std.proofs.lemmas.Str.Pattern.{starts_char}
use Rattle.command_words.proofs.DigitsRead.{number_read, none_read}
use Rattle.command_words.proofs.numbers.number_within.Goals as goal
use Rattle.command_words.proofs.numbers.number_within.Goals.{Else-starts_with}

plain : (c : Else-starts_with) → get_or c.args.value.now 0 0 ≡ 43 → ⊥
plain c plus =
    cc ((starts_char 43 c.args.value.now c.starts_with.result c.starts_with.ensures.cases (omega arith) (omega arith)).1 plus, c.if-starts_with.false)

pub returns-in-Ok : goal.returns-in-Ok
returns-in-Ok c =
    number_read c.args.least c.args.most c.args.value.now (plain (goal.at.returns-in-Ok c).Else-starts_with) c.in-Ok.number c.if-least-number.true c.if-number-most.true c.in-Ok.ensures.value.0

pub returns-in-Err : goal.returns-in-Err
returns-in-Err c =
    none_read c.args.least c.args.most c.args.value.now (plain (goal.at.returns-in-Err c).Else-starts_with) c.ranges.most.fits c.in-Err.ensures.value.0
