use Rattle.std.proofs.Common.{◌≡◌, ◌∙◌, ◌∷◌, ◌++◌, [], ap, codes, subst, List, ℕ}
use Rattle.flow_io.specs.Flow.{documents}
use Rattle.span_fold.specs.Folded.{folded, folded_text}
use Rattle.profile_cli.specs.Written.{GainsPart}
use Rattle.profile_cli.proofs.Stored.{stored_part}
use Rattle.profile_cli.proofs.writing.store_folded.Goals as goal

pub returns-then-not-write_all-clause-part : goal.returns-then-not-write_all-clause-part
returns-then-not-write_all-clause-part g c =
    let old = documents (g.T.Sink.told c.args.trace.now) (g.T.Sink.beside c.args.trace.now) in
    let new = documents (g.T.Sink.told c.write_all.new.sink) (g.T.Sink.beside c.write_all.new.sink) in
    let name : c.as_str.result.now ≡ c.args.results.now.trace.now ++ codes ".folded" = c.as_str.ensures.value ∙ c.in_ok-name.ensures in
    let text : c.bytes.result.now ≡ folded_text (folded c.args.results.now.events.now) = c.bytes.ensures ∙ c.in_ok-text.ensures ∙ ap folded_text c.in_ok-folded.ensures.lines in
    subst (λ (d : List ℕ × List ℕ). GainsPart old new (d ∷ [])) (λ i. (name i, text i))
    (stored_part _ _ _ _ _ _ _ (c.begin.ensures.begun c.if-not-begin.false) (c.write_all.ensures.part c.if-not-write_all.true) c.write_all.ensures.beside)
