use Rattle.std.proofs.Common.{◌≡◌, take}
use Rattle.word_text.specs.Pieces.{plan_from}
use Rattle.profile_cli.proofs.plans.plan_all.Given as goal

abbrev pub invariant-loop-file : goal.invariant-loop-file
invariant-loop-file l = l.plan ≡ plan_from 0 l.k (take l.file l.texts)
