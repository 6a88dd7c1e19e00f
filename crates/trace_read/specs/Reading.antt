-- Which text is which trace, and how any other text is refused.
use Rattle.std.specs.Prelude.{ℕ, ◌+◌, ◌==◌, if◌then◌else◌, List, [], ◌++◌, length, codes, Option, Some, None, option_and_then, option_map, Result, Ok, Err}
use Rattle.std.specs.Option.{ok_or, option_to_list}
use Rattle.std.specs.Str.{is_utf8}
use Rattle.serde_json.specs.Data.{Data, Items, no_items, item}
use Rattle.serde_json.specs.Find.{get, as_array, as_object}
use Rattle.serde_json.specs.Read.{read}
use Rattle.span_words.specs.declared.span.SpanKind.{SpanKind}
use Rattle.span_words.specs.declared.span.SpanEvent.{SpanEvent}
use Rattle.trace_read.specs.Event.{whole_at, text_at, span_kind, span_of}
use Rattle.trace_read.specs.declared.reading.ReadTrace.{ReadTrace}
use Rattle.trace_read.specs.declared.reading.ReadError.{ReadError}
use Rattle.trace_read.specs.declared.reading.ReadError.TheVariants.{Json, Top, Events, Numbers, Event, Span, Kept}

infixl 10 ◌>>=◌
-- what comes next, where nothing is refused before
abbrev pub ◌>>=◌ : {A B : Type 0} → Result A ReadError → (A → Result B ReadError)
    → Result B ReadError
Ok x >>= next = next x
Err refusal >>= next = Err refusal

-- the value that a text is as JSON
unfoldable pub document_of : List ℕ → Option Data
document_of text = if is_utf8 text then read text else None

-- what an event of this index is: a span, or none
abbrev pub span_or_refusal : ℕ → Data → Option SpanKind → Result (Option SpanEvent) ReadError
span_or_refusal index event None = Ok None
span_or_refusal index event (Some kind) = ok_or (option_map Some (span_of kind event)) (Span index)

unfoldable pub event_reading : ℕ → Data → Result (Option SpanEvent) ReadError
event_reading index event = do
  ph ← ok_or (text_at (codes "ph") event) (Event index)
  span_or_refusal index event (span_kind ph event)

-- the spans of events, of which the first has this index
abbrev pub spans_from : ℕ → Items → Result (List SpanEvent) ReadError
spans_from index no_items = Ok []
spans_from index (item event events) = do
  span ← event_reading index event
  spans ← spans_from (index + 1) events
  Ok (option_to_list span ++ spans)

-- the list of its events
unfoldable pub events_of : Data → Option Items
events_of document = option_and_then as_array (get (codes "traceEvents") document)

-- a number that stands beside the events: how many spans were accepted, how many are listed
unfoldable pub number_beside : List ℕ → Data → Option ℕ
number_beside name document = option_and_then (whole_at name) (get (codes "otherData") document)

-- the trace, where as many spans are listed as are said to be
abbrev pub if_all_kept : ℕ → ℕ → List SpanEvent → Result ReadTrace ReadError
if_all_kept accepted kept spans =
    if kept == length spans then Ok (record { accepted = accepted; kept = kept; spans = spans })
    else Err (Kept kept (length spans))

-- the trace that a document is
unfoldable pub trace_of : Data → Result ReadTrace ReadError
trace_of document = do
  members ← ok_or (as_object document) Top
  events ← ok_or (events_of document) Events
  accepted ← ok_or (number_beside (codes "accepted") document) Numbers
  kept ← ok_or (number_beside (codes "kept") document) Numbers
  spans ← spans_from 0 events
  if_all_kept accepted kept spans

-- the trace that a text is, or its first refusal
unfoldable pub reading : List ℕ → Result ReadTrace ReadError
reading text = do
  document ← ok_or (document_of text) Json
  trace_of document
