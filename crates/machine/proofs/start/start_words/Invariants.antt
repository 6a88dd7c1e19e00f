use Rattle.std.proofs.Common.{◌≡◌, map}
use Rattle.std.specs.List.{range_with_len}
use Rattle.cursor_word.specs.Layout.{start_at}
use Rattle.machine.proofs.start.start_words.Given as goal

abbrev pub invariant-loop-index : goal.invariant-loop-index
invariant-loop-index l = l.words.items ≡ map (start_at l.shape) (range_with_len 0 l.index)
