use Rattle.std.proofs.Common.{◌≡◌, ◌++◌, map}
use Rattle.std.specs.Map.Iter.{deref_pair}
use Rattle.word_text.specs.Counts.{add_numbers, shown}
use Rattle.word_text.proofs.counts.merge.Given as goal

abbrev pub invariant-loop-word : goal.invariant-loop-word
invariant-loop-word l =
    let done = shown (map deref_pair l.yielded) in
    record {
      added : l.into ≡ add_numbers l.initial.into done;
      order : done ++ shown l.word-iterator ≡ shown l.initial.word-iterator;
    }
