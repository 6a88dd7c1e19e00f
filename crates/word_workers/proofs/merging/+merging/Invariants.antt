use Rattle.std.proofs.Common.{◌+◌, ◌*◌, length}
use Rattle.word_workers.proofs.merging.+merging.Given as goal

abbrev pub decreases-join+arg2 : goal.decreases-join+arg2
decreases-join+arg2 g l = 2 * length l.half.items + 1

abbrev pub decreases-join+arg3 : goal.decreases-join+arg3
decreases-join+arg3 g l = 2 * length l.rest.items + 1

abbrev pub decreases-merge_all : goal.decreases-merge_all
decreases-merge_all g l = 2 * length l.counts.items
