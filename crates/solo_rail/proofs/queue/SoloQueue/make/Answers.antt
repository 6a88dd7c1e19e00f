use Rattle.std.proofs.Common.{ap, length, ◌∙◌}
use Rattle.std.proofs.lemmas.List.FromFn.{length-map-range_with_len}
use Rattle.cursor_word.specs.Layout.{start_at, word_count}
use Rattle.solo_rail.proofs.Starts.{starts_held}
use Rattle.solo_rail.proofs.queue.SoloQueue.make.Goals as goal

pub make-requires-clause-rule : goal.make-requires-clause-rule
make-requires-clause-rule g c = starts_held g.P.Phase.table g.P.Phase.Holds g.P.LonePhase.lone c.answers_exactly.ensures _ _ c.blocks-blocks.ensures.limits c.requires.one c.in_ok-start.ensures

pub invariant_of-result : goal.invariant_of-result
invariant_of-result g c = let w = c.in_ok-words.ensures.words in
    (w.1, w.0 ∙ (ap length c.in_ok-start.ensures ∙ length-map-range_with_len (start_at c.args.shape) 0 (word_count c.args.shape)), c.requires.one)
