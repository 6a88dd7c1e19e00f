use Rattle.word_text.proofs.Merging.{count_in-merged, merged-counted, counted-permutation}
use Rattle.word_text.proofs.laws.merging_keeps_counts.Goals as goal

pub returns : goal.returns
returns c = record { numbers = count_in-merged; words = merged-counted; order = counted-permutation }
