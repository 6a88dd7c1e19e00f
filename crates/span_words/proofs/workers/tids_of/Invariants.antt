use Rattle.std.proofs.Common.{◌≡◌, take}
use Rattle.span_words.specs.Workers.{tids_of}
use Rattle.span_words.proofs.workers.tids_of.Given as goal

abbrev pub invariant-loop-span : goal.invariant-loop-span
invariant-loop-span l = l.tids.keys ≡ tids_of (take l.span-index l.spans)
