use Rattle.std.proofs.Common.{◌∙◌, [], List, Option, ℕ, ap, codes}
use Rattle.std.specs.Prelude.{unwrap_or}
use Rattle.std.proofs.lemmas.Result.{IfOk-weaker}
use Rattle.clap.specs.Words.{found_of}
use Rattle.clap.proofs.WalkLemmas.{raw_values-rows}
use Rattle.command_words.specs.Texts.{bytes_of}
use Rattle.command_words.proofs.options.files_of.Goals as goal

pub returns-in-Some : goal.returns-in-Some
returns-in-Some c =
    IfOk-weaker c.owned.result _ _ (λ files same. same ∙ ap (λ (o : Option (List (List ℕ))). unwrap_or o []) (c.in-Some.ensures ∙ raw_values-rows (found_of c.args.found.now) (codes "FILE"))) c.owned.ensures

pub returns-in-None : goal.returns-in-None
returns-in-None c =
    ap bytes_of c.new.ensures.items ∙ ap (λ (o : Option (List (List ℕ))). unwrap_or o []) (c.in-None.ensures ∙ raw_values-rows (found_of c.args.found.now) (codes "FILE"))
