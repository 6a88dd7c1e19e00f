use Rattle.std.proofs.Common.{rules, ◌∙◌, Some, ap}
use Rattle.zemuschida_c.proofs.calls.take.Goals as goal

pub returns-in-Some-clause-takes : goal.returns-in-Some-clause-takes
returns-in-Some-clause-takes g c = λ s has width. let takes = c.take_held-code.ensures.takes s (search rules) width in
    (takes.0, c.of.ensures ∙ ap Some takes.1, takes.2)
