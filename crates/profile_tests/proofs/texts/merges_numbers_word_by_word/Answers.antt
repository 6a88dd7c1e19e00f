use Rattle.std.proofs.Common.{ap, ◌∙◌, arith, codes}
use Rattle.word_text.specs.Words.{words_of}
use Rattle.word_text.specs.Counts.{total}
use Rattle.word_text.proofs.Totals.{total-add_all}
use Rattle.profile_tests.proofs.texts.merges_numbers_word_by_word.Goals as goal

pub merge-requires : goal.merge-requires
merge-requires g c =
    let first = ap total c.in_ok-count_piece.ensures.counted ∙ total-add_all c.new-counts.result (words_of (codes "a b a")) in
    let second = ap total c.in_ok-count_piece-2.ensures.counted ∙ total-add_all c.new-other.result (words_of (codes "b b b")) in
    omega (arith, first, second, c.new-counts.ensures.total, c.new-other.ensures.total)
