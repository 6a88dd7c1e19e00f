use Rattle.std.proofs.Common.{List, ◌++◌, ◌∷◌, [], ℕ, subst}
use Rattle.profile_cli.specs.Endings.{first_part}
use Rattle.flow_io.specs.Saying.{Said}
use Rattle.command_words.specs.Texts.{bytes_of}
use Rattle.profile_cli.proofs.Said.{says_other}
use Rattle.profile_cli.proofs.messages.say_ending.Goals as goal

pub returns-in_default-clause-says : goal.returns-in_default-clause-says
returns-in_default-clause-says g c =
    let m = g.M.Sink in
    let said = subst (λ (t : List ℕ). Said (m.told c.args.messages.now) (m.told c.say.new.messages) (m.faults c.args.messages.now) (m.faults c.say.new.messages) (t ++ (c.subject.result.now ++ 10 ∷ []))) c.first_part.ensures c.say.ensures.said in
    says_other (bytes_of c.args.names.now) c.args.ending _ _ c.in_default.not-Done
    (subst (λ (t : List ℕ). Said (m.told c.args.messages.now) (m.told c.say.new.messages) (m.faults c.args.messages.now) (m.faults c.say.new.messages) (first_part c.args.ending ++ (t ++ 10 ∷ []))) c.subject.ensures said)
