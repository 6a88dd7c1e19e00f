use Rattle.std.proofs.Common.{◌+◌, ◌++◌, [], nat_lt, get_or, drop, map, codes, string_bytes, refl, sym, ap, ◌∙◌, append_assoc, append-nil, arith, rules}
use Rattle.std.proofs.lemmas.Result.{on_ok_weaker, on_err_weaker}
use Rattle.serde_json.specs.Written.{comma_if}
use Rattle.span_words.specs.declared.span.SpanEvent.{SpanEvent}
use Rattle.span_words.specs.declared.span.SpanKind.TheVariants.{Worker}
use Rattle.trace_json.specs.Trace.{text_of_span}
use Rattle.trace_json.proofs.Parts.{pending_head, spans_text, spans_text-drop, spans_text-end, trace_text-some, rest-some}
use Rattle.trace_json.proofs.Pending.{pending_more, pending_handed, pending_none, pending_part, pending_all, pending_short, on_err_always}
use Rattle.trace_json.proofs.trace.write_trace.Goals as goal

-- what an event reads as past the end
abbrev none : SpanEvent
none = record { kind = Worker; tid = 0; ts = 0; dur = 0; file = 0; piece = 0; words = 0; depth = 0; total = 0 }

pub loop-index-init : goal.loop-index-init
loop-index-init g c = record {
  later = search rules;
  quiet = refl;
  ready = c.requires.ready;
  beside = refl;
  pending = pending_head _ (map string_bytes c.args.files.now) c.args.accepted c.args.events.now _ _ _ c.in_ok-text.ensures.items c.in_ok-push_head.ensures c.in_ok-push_threads.ensures;
}

pub loop-index-preserved : goal.loop-index-preserved
loop-index-preserved g c =
    let names = map string_bytes c.args.files.now in
    let events = c.args.events.now in
    let i = c.loop-index.index in
    let inv = c.loop-index.invariant in
    let next = c.in_ok-hand_over_full.ensures in
    let more = comma_if (nat_lt 0 i) ++ text_of_span names (get_or events i none) in
    let left = spans_text (nat_lt 0 (i + 1)) names (drop (i + 1) events) in
    let step = ap (λ l. l ++ codes "}\n") (spans_text-drop names events i none c.loop-index-test.true) ∙ append_assoc more left (codes "}\n") in
    record {
      later = omega arith;
      quiet = next.quiet ∙ inv.quiet;
      ready = next.ready;
      beside = next.beside ∙ inv.beside;
      pending = pending_handed _ _ _ _ _ _ _ (pending_more _ _ _ _ more _ (left ++ codes "}\n") _ inv.pending step c.in_ok-push_span.ensures) next.ok;
    }

pub returns-in_err-text-clause-part : goal.returns-in_err-text-clause-part
returns-in_err-text-clause-part g c =
    on_err_always _ (pending_none (g.O.Sink.told c.args.sink.now) _ (trace_text-some (map string_bytes c.args.files.now) c.args.accepted c.args.events.now))

pub returns-in_err-push_head-clause-part : goal.returns-in_err-push_head-clause-part
returns-in_err-push_head-clause-part g c =
    on_err_always _ (pending_none (g.O.Sink.told c.args.sink.now) _ (trace_text-some (map string_bytes c.args.files.now) c.args.accepted c.args.events.now))

pub returns-in_err-push_threads-clause-part : goal.returns-in_err-push_threads-clause-part
returns-in_err-push_threads-clause-part g c =
    on_err_always _ (pending_none (g.O.Sink.told c.args.sink.now) _ (trace_text-some (map string_bytes c.args.files.now) c.args.accepted c.args.events.now))

pub returns-in_err-push_span-clause-part : goal.returns-in_err-push_span-clause-part
returns-in_err-push_span-clause-part g c =
    let names = map string_bytes c.args.files.now in
    let i = c.loop-index.index in
    on_err_always _ (pending_short _ _ _ _ _ c.loop-index.invariant.pending (rest-some (nat_lt 0 i) names (drop i c.args.events.now)))

pub returns-in_err-extend_from_slice-clause-part : goal.returns-in_err-extend_from_slice-clause-part
returns-in_err-extend_from_slice-clause-part g c =
    let names = map string_bytes c.args.files.now in
    let i = c.loop-index.index in
    on_err_always _ (pending_short _ _ _ _ _ c.loop-index.invariant.pending (rest-some (nat_lt 0 i) names (drop i c.args.events.now)))

pub returns-in_err-hand_over_full-clause-part : goal.returns-in_err-hand_over_full-clause-part
returns-in_err-hand_over_full-clause-part g c =
    let names = map string_bytes c.args.files.now in
    let events = c.args.events.now in
    let i = c.loop-index.index in
    let more = comma_if (nat_lt 0 i) ++ text_of_span names (get_or events i none) in
    let left = spans_text (nat_lt 0 (i + 1)) names (drop (i + 1) events) in
    let step = ap (λ l. l ++ codes "}\n") (spans_text-drop names events i none c.loop-index-test.true) ∙ append_assoc more left (codes "}\n") in
    let part = pending_part _ _ _ _ _ _ (pending_more _ _ _ _ more _ (left ++ codes "}\n") _ c.loop-index.invariant.pending step c.in_ok-push_span.ensures) c.in_err-hand_over_full.ensures.part in
    on_err_always c.from_residual-in_err-hand_over_full.result part

pub returns-clause-ok : goal.returns-clause-ok
returns-clause-ok g c =
    let names = map string_bytes c.args.files.now in
    let events = c.args.events.now in
    let i = c.loop-index.index in
    let last = ap (λ l. l ++ codes "}\n") (spans_text-end (nat_lt 0 i) names events i c.loop-index-test.false) ∙ sym (append-nil (codes "]}\n")) in
    let all = pending_more _ _ _ _ (codes "]}\n") _ [] _ c.loop-index.invariant.pending last c.in_ok-extend_from_slice.ensures.items in
    on_ok_weaker c.hand_over.result (pending_all _ _ _ _ _ all) c.hand_over.ensures.ok

pub returns-clause-part : goal.returns-clause-part
returns-clause-part g c =
    let names = map string_bytes c.args.files.now in
    let events = c.args.events.now in
    let i = c.loop-index.index in
    let last = ap (λ l. l ++ codes "}\n") (spans_text-end (nat_lt 0 i) names events i c.loop-index-test.false) ∙ sym (append-nil (codes "]}\n")) in
    let all = pending_more _ _ _ _ (codes "]}\n") _ [] _ c.loop-index.invariant.pending last c.in_ok-extend_from_slice.ensures.items in
    on_err_weaker c.hand_over.result (pending_part _ _ _ _ _ _ all) c.hand_over.ensures.part

pub returns-clause-quiet : goal.returns-clause-quiet
returns-clause-quiet g c = on_ok_weaker c.hand_over.result (λ same. same ∙ c.loop-index.invariant.quiet) c.hand_over.ensures.quiet
