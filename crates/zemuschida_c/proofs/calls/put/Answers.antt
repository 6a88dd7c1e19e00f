use Rattle.std.proofs.Common.{rules, ◌∙◌, Some, ap}
use Rattle.zemuschida_c.proofs.calls.put.Goals as goal

pub returns-in-Some-clause-puts : goal.returns-in-Some-clause-puts
returns-in-Some-clause-puts g c = λ s has width room. let puts = c.put_held-code.ensures.puts s (search rules) width room in
    (puts.0, c.of.ensures ∙ ap Some puts.1, puts.2)
