use Rattle.std.proofs.Common.{arith}
use Rattle.std.proofs.lemmas.List.FromFn.{map-range_with_len_more}
use Rattle.cursor_word.specs.Layout.{start_at}
use Rattle.machine.proofs.start.start_words.Goals as goal

pub loop-index-preserved : goal.loop-index-preserved
loop-index-preserved c =
    let i = c.loop-index.index in
    let more = map-range_with_len_more (start_at c.args.shape.now) 0 i i (omega arith) in
    cc (c.in_ok-push.ensures.items, c.start_word.ensures.value)
