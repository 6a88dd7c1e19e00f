use Rattle.std.proofs.Common.{◌≡◌}
use Rattle.generated_words.specs.Generated.{first_words}
use Rattle.generated_words.proofs.generator.push_words.Given as goal

abbrev pub invariant-loop-i : goal.invariant-loop-i
invariant-loop-i l = l.text.items ≡ first_words l.n l.i
