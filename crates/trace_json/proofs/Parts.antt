-- The trace text in parts: what stands before the entries, the workers' names, the spans, and what stands behind them.
use Rattle.std.proofs.Common.{◌≡◌, ℕ, ◌+◌, ◌<◌, ◌≤◌, Bool, true, false, nat_lt, List, [], ◌∷◌, ◌++◌, length, Option, get_or, drop, map, codes, refl, sym, ap, ◌∙◌, append-nil, append_assoc, length-append, arith}
use Rattle.std.specs.Prelude.{flat_map}
use Rattle.std.specs.List.{join_with_byte}
use Rattle.std.proofs.lemmas.List.{drop_more, drop_all}
use Rattle.std.proofs.lemmas.Bool.{lt-ltb}
use Rattle.serde_json.specs.Data.{Data}
use Rattle.serde_json.specs.View.{items_of}
use Rattle.serde_json.specs.Written.{comma_if, compact_text, items_text}
use Rattle.serde_json.proofs.OnLiterals.{serde_json_on_literals}
use Rattle.span_words.specs.declared.span.SpanKind.{SpanKind}
use Rattle.span_words.specs.declared.span.SpanKind.TheVariants.{Worker, Piece}
use Rattle.span_words.specs.declared.span.SpanEvent.{SpanEvent}
use Rattle.trace_json.proofs.Pending.{Pending, pending_first}
use Rattle.span_words.specs.Workers.{tids_of}
use Rattle.trace_json.specs.Trace.{entries_of_kind, event_data, counter_data, head_text, span_entries, text_of_counter, text_of_event, text_of_span, text_of_thread, thread_data, trace_data, trace_entries, trace_text}

-- entries from one on, with the bracket behind them
abbrev pub entries_text : Bool → List Data → List ℕ
entries_text later entries = items_text later (items_of entries)

-- the workers' names, each with a comma behind it
abbrev pub threads_text : List ℕ → List ℕ
threads_text tids = flat_map (λ tid. text_of_thread tid ++ 44 ∷ []) tids

-- the spans from one on, with the bracket behind them
abbrev pub spans_text : Bool → List (List ℕ) → List SpanEvent → List ℕ
spans_text later names events = entries_text later (flat_map (span_entries names) events)

comma_first : (entries : List Data) → 0 < length entries → entries_text true entries ≡ 44 ∷ entries_text false entries
comma_first [] some = absurd (omega (arith, some))
comma_first (d ∷ ds) some = refl

threads_first : (tids : List ℕ) (entries : List Data) → 0 < length entries → entries_text false (map thread_data tids ++ entries) ≡ threads_text tids ++ entries_text false entries
threads_first [] entries some = refl
threads_first (t ∷ ts) entries some =
    ap (λ l. text_of_thread t ++ l) (comma_first (map thread_data ts ++ entries) (more ts entries some) ∙ ap (λ l. 44 ∷ l) (threads_first ts entries some))
    ∙ sym (ap (λ l. l ++ entries_text false entries) (append_assoc (text_of_thread t) (44 ∷ []) (threads_text ts)) ∙ append_assoc (text_of_thread t) (44 ∷ threads_text ts) (entries_text false entries))
  where
    more : (ts : List ℕ) (entries : List Data) → 0 < length entries → 0 < length (map thread_data ts ++ entries)
    more [] entries some = some
    more (t ∷ ts) entries some = omega arith

some_entries : (k : SpanKind) (names : List (List ℕ)) (e : SpanEvent) (more : List Data) → 0 < length (entries_of_kind k names e ++ more)
some_entries Worker names e more = omega arith
some_entries Piece names e more = omega arith

entries_in_parts : (names : List (List ℕ)) (events : List SpanEvent) → entries_text false (trace_entries names events) ≡ threads_text (tids_of events) ++ spans_text false names events
entries_in_parts names [] = refl
entries_in_parts names (e ∷ events) = threads_first (tids_of (e ∷ events)) (flat_map (span_entries names) (e ∷ events)) (some_entries e.kind names e (flat_map (span_entries names) events))

pub trace_text-parts : (names : List (List ℕ)) (accepted : ℕ) (events : List SpanEvent) → trace_text names accepted events ≡ head_text accepted (length events) ++ (entries_text false (trace_entries names events) ++ codes "}\n")
unfolding trace_text serde_json_on_literals
trace_text-parts names accepted events = simp append_assoc

pub trace_text-some : (names : List (List ℕ)) (accepted : ℕ) (events : List SpanEvent) → 0 < length (trace_text names accepted events)
unfolding trace_text
trace_text-some names accepted events = omega (arith, length-append (compact_text (trace_data names accepted events)) (10 ∷ []))

-- where only the head and the workers' names were written, and nothing handed over
pub pending_head : (told : Option (List ℕ)) (names : List (List ℕ)) (accepted : ℕ) (events : List SpanEvent) (start head text : List ℕ) → start ≡ [] → head ≡ start ++ head_text accepted (length events) → text ≡ head ++ threads_text (tids_of events)
    → Pending told told text (spans_text false names events ++ codes "}\n") (trace_text names accepted events)
pending_head told names accepted events start head text none is_head is_text =
    let before : List ℕ = head_text accepted (length events) in
    let threads : List ℕ = threads_text (tids_of events) in
    let spans : List ℕ = spans_text false names events in
    let written : text ≡ before ++ threads = is_text ∙ ap (λ l. l ++ threads) (is_head ∙ ap (λ l. l ++ before) none) in
    pending_first told text (spans ++ codes "}\n") (trace_text names accepted events)
    (ap (λ l. l ++ (spans ++ codes "}\n")) written
    ∙ append_assoc before threads (spans ++ codes "}\n")
    ∙ ap (λ l. before ++ l) (sym (append_assoc threads spans (codes "}\n")) ∙ ap (λ l. l ++ codes "}\n") (sym (entries_in_parts names events)))
    ∙ sym (trace_text-parts names accepted events))

-- a worker's name, and a comma behind it
pub thread_pushed : (tid : ℕ) (items rest text thread new whole : List ℕ) → items ≡ tid ∷ rest → thread ≡ text ++ text_of_thread tid → new ≡ thread ++ 44 ∷ [] → text ++ threads_text items ≡ whole → new ++ threads_text rest ≡ whole
thread_pushed tid items rest text thread new whole is_items is_thread is_new so_far =
    ap (λ l. l ++ threads_text rest) (is_new ∙ ap (λ l. l ++ 44 ∷ []) is_thread ∙ append_assoc text (text_of_thread tid) (44 ∷ []))
    ∙ append_assoc text (text_of_thread tid ++ 44 ∷ []) (threads_text rest)
    ∙ ap (λ l. text ++ threads_text l) (sym is_items) ∙ so_far

pub threads_pushed : (items text whole : List ℕ) → items ≡ [] → text ++ threads_text items ≡ whole → text ≡ whole
threads_pushed items text whole none so_far = sym (ap (λ l. text ++ threads_text l) none ∙ append-nil text) ∙ so_far

pub rest-some : (later : Bool) (names : List (List ℕ)) (events : List SpanEvent) → 0 < length (spans_text later names events ++ codes "}\n")
rest-some later names events = omega (arith, length-append (spans_text later names events) (codes "}\n"))

span_first : (k : SpanKind) (later : Bool) (names : List (List ℕ)) (e : SpanEvent) (more : List Data)
    → entries_text later (entries_of_kind k names e ++ more) ≡ (comma_if later ++ join_with_byte 44 (map compact_text (entries_of_kind k names e))) ++ entries_text true more
span_first Worker later names e more = sym (append_assoc (comma_if later) (compact_text (event_data names e)) (entries_text true more))
span_first Piece later names e more =
    let event : List ℕ = compact_text (event_data names e) in
    let counter : List ℕ = compact_text (counter_data e) in
    sym (append_assoc (comma_if later) (event ++ 44 ∷ counter) (entries_text true more) ∙ ap (λ l. comma_if later ++ l) (append_assoc event (44 ∷ counter) (entries_text true more)))

-- the entries of a piece, pushed one after another
pub piece_pushed : (later : Bool) (names : List (List ℕ)) (e : SpanEvent) (old comma event new : List ℕ) → e.kind ≡ Piece → comma ≡ old ++ comma_if later → event ≡ comma ++ text_of_event names e → new ≡ event ++ 44 ∷ text_of_counter e
    → new ≡ old ++ (comma_if later ++ text_of_span names e)
piece_pushed later names e old comma event new kind is_comma is_event is_new =
    let text : List ℕ = text_of_event names e in
    let counter : List ℕ = text_of_counter e in
    let both : text_of_span names e ≡ text ++ 44 ∷ counter = ap (λ (k : SpanKind). join_with_byte 44 (map compact_text (entries_of_kind k names e))) kind in
    is_new
    ∙ ap (λ l. l ++ 44 ∷ counter) (is_event ∙ ap (λ l. l ++ text) is_comma)
    ∙ append_assoc (old ++ comma_if later) text (44 ∷ counter)
    ∙ append_assoc old (comma_if later) (text ++ 44 ∷ counter)
    ∙ ap (λ l. old ++ (comma_if later ++ l)) (sym both)

pub spans_text-cons : (later : Bool) (names : List (List ℕ)) (e : SpanEvent) (events : List SpanEvent) → spans_text later names (e ∷ events) ≡ (comma_if later ++ text_of_span names e) ++ spans_text true names events
spans_text-cons later names e events = span_first e.kind later names e (flat_map (span_entries names) events)

pub spans_text-drop : (names : List (List ℕ)) (events : List SpanEvent) (i : ℕ) (d : SpanEvent) → i < length events
    → spans_text (nat_lt 0 i) names (drop i events) ≡ (comma_if (nat_lt 0 i) ++ text_of_span names (get_or events i d)) ++ spans_text (nat_lt 0 (i + 1)) names (drop (i + 1) events)
spans_text-drop names events i d lt =
    ap (spans_text (nat_lt 0 i) names) (drop_more events i d lt)
    ∙ spans_text-cons (nat_lt 0 i) names (get_or events i d) (drop (i + 1) events)
    ∙ ap (λ b. (comma_if (nat_lt 0 i) ++ text_of_span names (get_or events i d)) ++ spans_text b names (drop (i + 1) events)) (sym (lt-ltb 0 (i + 1) (omega arith)))

-- where no span is left
pub spans_text-end : (later : Bool) (names : List (List ℕ)) (events : List SpanEvent) (i : ℕ) → length events ≤ i → spans_text later names (drop i events) ≡ 93 ∷ []
spans_text-end later names events i le = ap (spans_text later names) (drop_all i events le)

joined : (later : Bool) (d : Data) (ds : List Data) → entries_text later (d ∷ ds) ≡ comma_if later ++ (join_with_byte 44 (map compact_text (d ∷ ds)) ++ 93 ∷ [])
joined later d [] = refl
joined later d (f ∷ ds) =
    ap (λ l. comma_if later ++ (compact_text d ++ l)) (joined true f ds)
    ∙ ap (λ l. comma_if later ++ l) (sym (append_assoc (compact_text d) (44 ∷ join_with_byte 44 (map compact_text (f ∷ ds))) (93 ∷ [])))

entries_text-join : (entries : List Data) → entries_text false entries ≡ join_with_byte 44 (map compact_text entries) ++ 93 ∷ []
entries_text-join [] = refl
entries_text-join (d ∷ ds) = joined false d ds

pub trace_text-join : (names : List (List ℕ)) (accepted : ℕ) (events : List SpanEvent) → trace_text names accepted events ≡ head_text accepted (length events) ++ (join_with_byte 44 (map compact_text (trace_entries names events)) ++ codes "]}\n")
trace_text-join names accepted events =
    trace_text-parts names accepted events
    ∙ ap (λ l. head_text accepted (length events) ++ l) (ap (λ l. l ++ codes "}\n") (entries_text-join (trace_entries names events)) ∙ append_assoc (join_with_byte 44 (map compact_text (trace_entries names events))) (93 ∷ []) (codes "}\n"))
