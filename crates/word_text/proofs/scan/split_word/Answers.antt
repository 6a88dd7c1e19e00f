use Rattle.std.proofs.Common.{length, arith}
use Rattle.std.proofs.lemmas.Slice.{between_to_end}
use Rattle.word_text.proofs.Splits.{words_of-first, words_of-none}
use Rattle.word_text.proofs.scan.split_word.Goals as goal

pub returns-then-len-eq0 : goal.returns-then-len-eq0
returns-then-len-eq0 c =
    words_of-none c.args.text.now _ c.gap_len-gap.result c.word_len-len.result (between_to_end c.args.text.now c.gap_len-gap.result (length c.args.text.now) (omega arith))
    c.gap_len-gap.ensures.within c.gap_len-gap.ensures.gap c.gap_len-gap.ensures.stop c.if-len-eq0.true c.word_len-len.ensures.stop

pub returns : goal.returns
returns c =
    words_of-first c.args.text.now _ _ c.gap_len-gap.result c.word_len-len.result
    (between_to_end c.args.text.now c.gap_len-gap.result (length c.args.text.now) (omega arith))
    (between_to_end _ c.word_len-len.result _ (omega arith))
    c.gap_len-gap.ensures.within c.gap_len-gap.ensures.gap (omega arith) c.word_len-len.ensures.within c.word_len-len.ensures.unbroken c.word_len-len.ensures.stop
