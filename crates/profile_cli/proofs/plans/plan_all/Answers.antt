use Rattle.std.proofs.Common.{ℕ, List, ◌++◌, ap, ◌∙◌}
use Rattle.word_text.specs.Pieces.{pieces_of}
use Rattle.profile_cli.proofs.Planned.{plan_step}
use Rattle.profile_cli.proofs.plans.plan_all.Goals as goal

pub loop-file-preserved : goal.loop-file-preserved
loop-file-preserved c =
    plan_step _ _ _ c.index-texts-file.result _ _ c.loop-file-test.true c.index-texts-file.is c.loop-file.invariant
    (c.in_ok-pieces.ensures.ok ∙ ap (λ (t : List ℕ). c.loop-file.plan ++ pieces_of t c.loop-file.file c.args.k) c.bytes.ensures)
