use Rattle.std.proofs.Common.{◌≡◌, ◌+◌, ◌-◌, length, take, drop, sym, ap, ◌∙◌, arith}
use Rattle.std.specs.List.{position_or_len}
use Rattle.std.proofs.lemmas.List.Sums.{position_or_len_is}
use Rattle.std.proofs.lemmas.Slice.{between_to_end}
use Rattle.word_text.specs.Words.{is_separator}
use Rattle.word_text.proofs.plan.piece_len.Goals as goal

pub returns-clause-exact : goal.returns-clause-exact
returns-clause-exact c =
    let rest = c.args.rest.now in
    let least = c.min-least.result in
    let word = c.word_len.ensures in
    let from : take (length rest - least) (drop least rest) ≡ drop least rest = between_to_end rest least (length rest) (omega arith) in
    let len = sym (position_or_len_is is_separator (take (length rest - least) (drop least rest)) c.word_len.result 0 word.within word.unbroken word.stop) in
    ap (λ n. least + n) (len ∙ ap (position_or_len is_separator) from) ∙ ap (λ n. n + position_or_len is_separator (drop n rest)) c.min-least.ensures
