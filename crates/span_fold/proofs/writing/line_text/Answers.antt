use Rattle.std.proofs.Common.{◌≡◌, Some, None, IfOk, string_bytes, append_assoc, sym, subst, rules}
use Rattle.span_fold.specs.Folded.{line_text}
use Rattle.span_fold.proofs.writing.line_text.Goals as goal

pub returns-in-Some : goal.returns-in-Some
returns-in-Some c =
    let line = c.args.line.now in
    let text : IfOk c.format.result (λ t. string_bytes t ≡ line_text (record { tid = line.tid; file = Some c.in-Some.file; time = line.time })) = search (rules, append_assoc) in
    subst (λ file. IfOk c.format.result (λ t. string_bytes t ≡ line_text (record { tid = line.tid; file = file; time = line.time }))) (sym c.in-Some.is) text

pub returns-in-None : goal.returns-in-None
returns-in-None c =
    let line = c.args.line.now in
    let text : IfOk c.format-in-None.result (λ t. string_bytes t ≡ line_text (record { tid = line.tid; file = None; time = line.time })) = search (rules, append_assoc) in
    subst (λ file. IfOk c.format-in-None.result (λ t. string_bytes t ≡ line_text (record { tid = line.tid; file = file; time = line.time }))) (sym c.in-None.is) text
