-- The spans of events, read one after another.
use Rattle.std.proofs.Common.{◌≡◌, ℕ, ◌+◌, ◌<◌, ◌≤◌, List, [], ◌++◌, length, get_or, drop, Option, Result, Ok, Err, refl, sym, ap, ◌∙◌, append_assoc, append-nil}
use Rattle.std.specs.Option.{option_to_list}
use Rattle.std.proofs.lemmas.List.{drop_more, drop_all}
use Rattle.serde_json.specs.View.{view, items_view}
use Rattle.serde_json.specs.declared.value.Value.{Value}
use Rattle.span_words.specs.declared.span.SpanEvent.{SpanEvent}
use Rattle.trace_read.specs.declared.reading.ReadError.{ReadError}
use Rattle.trace_read.specs.Reading.{event_reading, spans_from, ◌>>=◌}

-- the spans that were read, and those that are still to be read
abbrev pub with_rest : List SpanEvent → Result (List SpanEvent) ReadError → Result (List SpanEvent) ReadError
with_rest done (Ok rest) = Ok (done ++ rest)
with_rest done (Err refusal) = Err refusal

-- what is to be read from event i on
abbrev pub rest_from : List Value → ℕ → Result (List SpanEvent) ReadError
rest_from events i = spans_from i (items_view (drop i events))

with_more : (done : List SpanEvent) (span : Option SpanEvent) (rest : Result (List SpanEvent) ReadError)
    → with_rest done (rest >>= λ spans. Ok (option_to_list span ++ spans)) ≡ with_rest (done ++ option_to_list span) rest
with_more done span (Ok rest) = ap Ok (sym (append_assoc done (option_to_list span) rest))
with_more done span (Err refusal) = refl

rest_from-next : (events : List Value) (i : ℕ) (d : Value) → i < length events
    → rest_from events i ≡ (event_reading i (view (get_or events i d)) >>= λ span. rest_from events (i + 1) >>= λ spans. Ok (option_to_list span ++ spans))
rest_from-next events i d lt = ap (λ l. spans_from i (items_view l)) (drop_more events i d lt)

pub span_read : (events : List Value) (i : ℕ) (d : Value) (done : List SpanEvent) (span : Option SpanEvent) (whole : Result (List SpanEvent) ReadError)
    → i < length events → event_reading i (view (get_or events i d)) ≡ Ok span → whole ≡ with_rest done (rest_from events i) → whole ≡ with_rest (done ++ option_to_list span) (rest_from events (i + 1))
span_read events i d done span whole lt reads so_far =
    so_far ∙ ap (with_rest done) (rest_from-next events i d lt ∙ ap (λ r. r >>= λ span. rest_from events (i + 1) >>= λ spans. Ok (option_to_list span ++ spans)) reads)
    ∙ with_more done span (rest_from events (i + 1))

pub span_refused : (events : List Value) (i : ℕ) (d : Value) (done : List SpanEvent) (refusal : ReadError) (whole : Result (List SpanEvent) ReadError)
    → i < length events → event_reading i (view (get_or events i d)) ≡ Err refusal → whole ≡ with_rest done (rest_from events i) → whole ≡ Err refusal
span_refused events i d done refusal whole lt reads so_far =
    so_far ∙ ap (with_rest done) (rest_from-next events i d lt ∙ ap (λ r. r >>= λ span. rest_from events (i + 1) >>= λ spans. Ok (option_to_list span ++ spans)) reads)

pub none_read : (whole : Result (List SpanEvent) ReadError) → with_rest [] whole ≡ whole
none_read (Ok spans) = refl
none_read (Err refusal) = refl

pub all_read : (events : List Value) (i : ℕ) (done : List SpanEvent) (whole : Result (List SpanEvent) ReadError)
    → length events ≤ i → whole ≡ with_rest done (rest_from events i) → whole ≡ Ok done
all_read events i done whole le so_far =
    so_far ∙ ap (λ l. with_rest done (spans_from i (items_view l))) (drop_all i events le) ∙ ap Ok (append-nil done)
