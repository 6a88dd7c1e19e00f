use Rattle.std.proofs.Common.{◌≡◌, ◌*◌}
use Rattle.generated_words.specs.Generated.{first_words}
use Rattle.generated_words.proofs.generator.generate.Given as goal

abbrev pub invariant-loop : goal.invariant-loop
invariant-loop l = l.text.items ≡ first_words l.n (l.counter * 1000)
