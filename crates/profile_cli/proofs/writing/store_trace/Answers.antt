use Rattle.std.proofs.Common.{◌∙◌}
use Rattle.std.proofs.lemmas.Result.{IfErr-weaker, IfOk-weaker}
use Rattle.flow_io.specs.Flow.{documents}
use Rattle.profile_cli.proofs.Stored.{stored, stored_none, stored_part}
use Rattle.profile_cli.proofs.writing.store_trace.Goals as goal

pub returns-then-not-begin-clause-part : goal.returns-then-not-begin-clause-part
returns-then-not-begin-clause-part g c =
    let told = c.begin.ensures.told c.if-not-begin.true in let beside = c.begin.ensures.beside c.if-not-begin.true in
    stored_none _ _ _ (λ i. documents (told i) (beside i))

pub returns-clause-whole : goal.returns-clause-whole
returns-clause-whole g c =
    IfOk-weaker c.write_trace.result _ _ (λ _ grew. stored _ _ _ _ _ _ _ (c.begin.ensures.begun c.if-not-begin.false) grew c.write_trace.ensures.beside) c.write_trace.ensures.ok

pub returns-clause-part : goal.returns-clause-part
returns-clause-part g c =
    IfErr-weaker c.write_trace.result _ _ (λ _ part. stored_part _ _ _ _ _ _ _ (c.begin.ensures.begun c.if-not-begin.false) part c.write_trace.ensures.beside) c.write_trace.ensures.part

pub returns-clause-quiet : goal.returns-clause-quiet
returns-clause-quiet g c =
    IfOk-weaker c.write_trace.result _ _ (λ _ same. same ∙ c.begin.ensures.quiet c.if-not-begin.false) c.write_trace.ensures.quiet

pub returns-clause-sound : goal.returns-clause-sound
returns-clause-sound g c = λ memory. c.write_trace.ensures.sound memory ∙ c.begin.ensures.quiet c.if-not-begin.false
