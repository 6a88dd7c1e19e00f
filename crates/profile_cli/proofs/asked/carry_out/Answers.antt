use Rattle.std.proofs.Common.{◌≡◌, ℕ, List, ap, ◌∙◌, sym, subst, length}
use Rattle.std.specs.Prelude.{Ok, Option, string_bytes}
use Rattle.std.specs.List.{All}
use Rattle.std.proofs.lemmas.List.{length-map}
use Rattle.span_words.specs.declared.span.SpanEvent.{SpanEvent}
use Rattle.flow_io.specs.Clock.{Ticks}
use Rattle.flow_io.specs.Flow.{Files, documents}
use Rattle.trace_json.specs.Trace.{HasFile}
use Rattle.word_text.specs.Counts.{Numbers, counts_of_all, counts_text_of}
use Rattle.profile_cli.specs.Run.{Leaves}
use Rattle.profile_cli.specs.Queue.{ClosedQueue, IsQueueOf}
use Rattle.command_words.specs.Texts.{bytes_of}
use Rattle.command_words.specs.Usage.{asked_of}
use Rattle.std.proofs.lemmas.Slice.Zip.{AllZip-long}
use Rattle.profile_cli.specs.Input.{IsTextOf, name_of, names_of, origins_of}
use Rattle.profile_cli.specs.Written.{Outputs, Writes, documents_by, documents_of, folded_of, trace_of}
use Rattle.profile_cli.proofs.Left.{left_before, left_behind}
use Rattle.profile_cli.proofs.asked.carry_out.Goals as goal

pub returns-in-Err-clause-leaves : goal.returns-in-Err-clause-leaves
returns-in-Err-clause-leaves g c =
    let e = c.in-Err.ensures in
    left_before (asked_of c.args.command.now.options) (g.F.Source.files c.args.files.now) (g.C.Clock.ticks c.args.clock.now) _ _ _ c.in-Err.ending e.unrun e.faults e.stopped

pub returns-clause-leaves : goal.returns-clause-leaves
returns-clause-leaves g c =
    let asked = asked_of c.args.command.now.options in
    let clock : ℕ → Option Ticks = g.C.Clock.ticks c.args.clock.now in
    let texts = c.in-Ok.planned.texts.items in
    let whole = c.as_slice-texts.ensures.value in
    let ran = c.in-Ok-ran.ensures in
    let wrote = c.write_results-ending.ensures in
    let queue : ClosedQueue = ran.queue.0 in
    let lists = ran.queue.2 in
    let before : Outputs = record { out = g.O.Sink.told c.args.out.now; out_faults = g.O.Sink.faults c.args.out.now; documents = documents (g.T.Sink.told c.args.trace.now) (g.T.Sink.beside c.args.trace.now); store_faults = g.T.Sink.faults c.args.trace.now } in
    let after : Outputs = record { out = g.O.Sink.told c.write_results-ending.new.out; out_faults = g.O.Sink.faults c.write_results-ending.new.out; documents = documents (g.T.Sink.told c.write_results-ending.new.trace) (g.T.Sink.beside c.write_results-ending.new.trace); store_faults = g.T.Sink.faults c.write_results-ending.new.trace } in
    let fold = c.args.command.now.options.fold in
    let asks : Files = documents_by fold (trace_of c.as_str.result.now (bytes_of c.as_slice.result.now) c.in-Ok-ran.ran.accepted c.as_slice-2.result.now) (folded_of c.as_str.result.now c.as_slice-2.result.now) in
    let counted = ran.counts ∙ ap counts_of_all whole in
    let events = c.as_slice-2.ensures.value ∙ lists.spans in
    let named : bytes_of c.as_slice.result.now ≡ names_of asked = ap bytes_of c.as_slice.ensures.value ∙ c.requires.names in
    let called = c.as_str.ensures.value in
    let listed : asks ≡ documents_of asked (names_of asked) queue =
    λ i. documents_by fold (trace_of (called i) (named i) (lists.number i) (events i)) (folded_of (called i) (events i)) in
    let by_texts = subst (λ (n : Numbers). Writes (counts_text_of n) asks before after c.write_results-ending.result) counted wrote.writes in
    subst (λ (q : Option ClosedQueue). Leaves (Ok asked) (g.F.Source.files c.args.files.now) (record { queue = q; clock = clock; faults_before = g.F.Source.faults c.args.files.now; faults_after = g.F.Source.faults c.read_input.new.files; before = before; after = after }) c.write_results-ending.result) (sym ran.queue.3)
    (left_behind asked (g.F.Source.files c.args.files.now) clock texts (g.F.Source.faults c.args.files.now) (g.F.Source.faults c.read_input.new.files) before after c.write_results-ending.result queue c.in-Ok.ensures.quiet c.in-Ok.ensures.read
    (subst (λ (t : List (List ℕ)). IsQueueOf asked t clock queue) whole ran.queue.1)
    wrote.out wrote.store
    (subst (λ (d : Files). Writes (counts_text_of (counts_of_all texts)) d before after c.write_results-ending.result) listed by_texts))

pub write_results-ending-requires-clause-files : goal.write_results-ending-requires-clause-files
write_results-ending-requires-clause-files g c =
    let asked = asked_of c.args.command.now.options in
    let origins = origins_of asked in
    let read = AllZip-long (IsTextOf (g.F.Source.files c.args.files.now)) origins c.in-Ok.planned.texts.items c.in-Ok.ensures.read.0 in
    let texts = ap length c.as_slice-texts.ensures.value ∙ read in
    let names : length c.as_slice.result.now ≡ length origins =
    ap length c.as_slice.ensures.value ∙ sym (length-map c.args.command.now.names.items string_bytes) ∙ ap length c.requires.names ∙ length-map origins name_of in
    subst (λ (es : List SpanEvent). All (HasFile (length c.as_slice.result.now)) es) (sym c.as_slice-2.ensures.value)
    (subst (λ (n : ℕ). All (HasFile n) c.in-Ok-ran.ran.events.items) (texts ∙ sym names) c.in-Ok-ran.ensures.files)
