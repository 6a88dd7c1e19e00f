-- The document of a trace is read as its spans.
use Rattle.std.proofs.Common.{◌≡◌, ℕ, suc, ◌+◌, ◌≤◌, List, [], ◌∷◌, ◌++◌, length, map, flat_map, Option, Some, None, Ok, refl, sym, ap, ◌∙◌, arith, eq-eqb, le-leb}
use Rattle.std.specs.Prelude.{All}
use Rattle.std.specs.Option.{ok_or, option_to_list}
use Rattle.std.specs.Str.{IsUtf8}
use Rattle.serde_json.specs.Data.{Data}
use Rattle.serde_json.specs.View.{items_of}
use Rattle.span_words.specs.declared.span.SpanKind.{SpanKind}
use Rattle.span_words.specs.declared.span.SpanKind.TheVariants.{Worker, Piece}
use Rattle.span_words.specs.declared.span.SpanEvent.{SpanEvent}
use Rattle.span_words.specs.declared.span.TheConstants.{MOST_WORKERS}
use Rattle.span_words.specs.Workers.{tids_of}
use Rattle.trace_json.specs.Trace.{event_of_kind, event_data, thread_data, counter_data, entries_of_kind, span_entries, trace_data, trace_text}
use Rattle.trace_read.specs.declared.reading.ReadError.TheVariants.{Json}
use Rattle.trace_read.specs.Event.{whole_at, whole_or_absent, text_at, tid_in, file_in, piece_in, span_of, span_kind}
use Rattle.trace_read.specs.Listed.{IsWord, IsListed, trace_of_spans}
use Rattle.trace_read.specs.Reading.{◌>>=◌, event_reading, spans_from, events_of, number_beside, if_all_kept, trace_of, reading}
use Rattle.trace_read.proofs.Listed.{trace_data-written}
use Rattle.trace_read.proofs.Written.{document_of-line}

thread_passed : (i tid : ℕ) → event_reading i (thread_data tid) ≡ Ok None
unfolding event_reading text_at span_kind
thread_passed i tid = refl

counter_passed : (i : ℕ) (e : SpanEvent) → event_reading i (counter_data e) ≡ Ok None
unfolding event_reading text_at span_kind
counter_passed i e = refl

span_read_back : (k : SpanKind) (names : List (List ℕ)) (e : SpanEvent) (i files : ℕ) → IsListed files e → e.kind ≡ k → event_reading i (event_of_kind k names e) ≡ Ok (Some e)
unfolding event_reading text_at span_kind span_of tid_in file_in piece_in whole_at whole_or_absent
span_read_back Piece names e i files h is =
    let low : 1 ≤ e.tid = h.tid.0 in
    let high : e.tid ≤ MOST_WORKERS = h.tid.1 in
    rw (le-leb 1 e.tid low, le-leb e.tid MOST_WORKERS high) (ap (λ k. Ok (Some (record e { kind = k }))) (sym is))
span_read_back Worker names e i files h is =
    let low : 1 ≤ e.tid = h.tid.0 in
    let high : e.tid ≤ MOST_WORKERS = h.tid.1 in
    rw (le-leb 1 e.tid low, le-leb e.tid MOST_WORKERS high)
    (ap (λ k. Ok (Some (record e { kind = k; file = 0 }))) (sym is) ∙ ap (λ n. Ok (Some (record e { file = n }))) (sym (h.of_worker is)))

-- one entry more
entry_read : (i : ℕ) (d : Data) (ds : List Data) (span : Option SpanEvent) (spans : List SpanEvent) → event_reading i d ≡ Ok span → spans_from (i + 1) (items_of ds) ≡ Ok spans
    → spans_from i (items_of (d ∷ ds)) ≡ Ok (option_to_list span ++ spans)
entry_read i d ds span spans first rest =
    ap (λ r. r >>= λ found. spans_from (i + 1) (items_of ds) >>= λ more. Ok (option_to_list found ++ more)) first
    ∙ ap (λ r. r >>= λ more. Ok (option_to_list span ++ more)) rest

threads_passed : (tids : List ℕ) (i : ℕ) (rest : List Data) (spans : List SpanEvent) → ((j : ℕ) → spans_from j (items_of rest) ≡ Ok spans) → spans_from i (items_of (map thread_data tids ++ rest)) ≡ Ok spans
threads_passed [] i rest spans h = h i
threads_passed (t ∷ ts) i rest spans h = entry_read i (thread_data t) (map thread_data ts ++ rest) None spans (thread_passed i t) (threads_passed ts (i + 1) rest spans h)

entries_read : (k : SpanKind) (names : List (List ℕ)) (e : SpanEvent) (rest : List Data) (spans : List SpanEvent) → IsListed (length names) e → ((j : ℕ) → spans_from j (items_of rest) ≡ Ok spans)
    → (i : ℕ) → spans_from i (items_of (entries_of_kind k names e ++ rest)) ≡ Ok (e ∷ spans)
entries_read Piece names e rest spans h more i =
    entry_read i (event_data names e) (counter_data e ∷ rest) (Some e) spans (span_read_back e.kind names e i (length names) h refl)
    (entry_read (i + 1) (counter_data e) rest None spans (counter_passed (i + 1) e) (more (i + 1 + 1)))
entries_read Worker names e rest spans h more i =
    entry_read i (event_data names e) rest (Some e) spans (span_read_back e.kind names e i (length names) h refl) (more (i + 1))

spans_read_back : (names : List (List ℕ)) (events : List SpanEvent) → All (IsListed (length names)) events → (i : ℕ) → spans_from i (items_of (flat_map (span_entries names) events)) ≡ Ok events
spans_read_back names [] h i = refl
spans_read_back names (e ∷ es) h i =
    entries_read e.kind names e (flat_map (span_entries names) es) es (h 0 e (omega arith)) (spans_read_back names es (λ k d lt. h (suc k) d (omega arith))) i

trace_of-data : (names : List (List ℕ)) (accepted : ℕ) (events : List SpanEvent) → All (IsListed (length names)) events → trace_of (trace_data names accepted events) ≡ Ok (trace_of_spans accepted events)
unfolding trace_of events_of number_beside whole_at
trace_of-data names accepted events h =
    ap (λ r. r >>= if_all_kept accepted (length events)) (threads_passed (tids_of events) 0 (flat_map (span_entries names) events) events (spans_read_back names events h))
    ∙ rw (eq-eqb (length events) (length events) refl) refl

pub trace_text_reads_back : (names : List (List ℕ)) (accepted : ℕ) (events : List SpanEvent) → All IsUtf8 names → IsWord accepted → IsWord (length events) → All (IsListed (length names)) events
    → reading (trace_text names accepted events) ≡ Ok (trace_of_spans accepted events)
unfolding trace_text reading
trace_text_reads_back names accepted events utf8 accepted_fits kept_fits h =
    let written = trace_data-written names accepted events utf8 accepted_fits kept_fits h in
    ap (λ o. ok_or o Json >>= trace_of) (document_of-line (trace_data names accepted events) written.0 written.1)
    ∙ trace_of-data names accepted events h
