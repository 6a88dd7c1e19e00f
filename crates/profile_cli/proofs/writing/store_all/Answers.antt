use Rattle.std.proofs.lemmas.Result.{IfErr-weaker}
use Rattle.flow_io.specs.Flow.{documents}
use Rattle.command_words.specs.Texts.{bytes_of}
use Rattle.profile_cli.specs.Written.{folded_of, trace_of}
use Rattle.profile_cli.proofs.Stored.{part_both}
use Rattle.profile_cli.proofs.writing.store_all.Goals as goal

pub returns-clause-part : goal.returns-clause-part
returns-clause-part g c =
    let results = c.args.results.now in
    let trace = trace_of results.trace.now (bytes_of results.names.now) results.accepted results.events.now in
    IfErr-weaker c.store_folded.result _ _ (λ _ part. part_both _ (documents (g.T.Sink.told c.store_trace.new.trace) (g.T.Sink.beside c.store_trace.new.trace)) _ trace (folded_of results.trace.now results.events.now) results.fold c.if-not-results.false c.in_ok-store_trace.ensures.whole part) c.store_folded.ensures.part
