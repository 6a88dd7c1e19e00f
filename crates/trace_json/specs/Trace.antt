-- A trace in the JSON object form of the Trace Event Format: what the workers are called, and
-- complete events with counters, in an array with metadata beside it.
use Rattle.std.specs.Prelude.{◌≡◌, ℕ, ◌+◌, ◌<◌, min, List, [], ◌∷◌, ◌++◌, Option, length, map, flat_map, codes, decimal, slice_index_or}
use Rattle.std.specs.List.{join_with_byte}
use Rattle.flow_io.specs.Flow.{gained}
use Rattle.serde_json.specs.Data.{Data, number, unsigned, string, array, object, Members, member, no_members}
use Rattle.serde_json.specs.View.{items_of}
use Rattle.serde_json.specs.Written.{compact_text}
use Rattle.span_words.specs.declared.span.SpanKind.{SpanKind}
use Rattle.span_words.specs.declared.span.SpanKind.TheVariants.{Worker, Piece}
use Rattle.span_words.specs.declared.span.SpanEvent.{SpanEvent}
use Rattle.span_words.specs.Workers.{tids_of}

-- a whole number
abbrev pub whole : ℕ → Data
whole n = number (unsigned n)

-- the object of a complete event
abbrev pub complete_event : List ℕ → List ℕ → Data → SpanEvent → Data
complete_event cat name args e =
    object (member (codes "args") args
    (member (codes "cat") (string cat)
    (member (codes "dur") (whole e.dur)
    (member (codes "name") (string name)
    (member (codes "ph") (string (codes "X"))
    (member (codes "pid") (whole 1)
    (member (codes "tid") (whole e.tid)
    (member (codes "ts") (whole e.ts) no_members))))))))

abbrev pub piece_args : SpanEvent → Members
piece_args e =
    member (codes "depth") (whole e.depth)
    (member (codes "file") (whole e.file)
    (member (codes "piece") (whole e.piece)
    (member (codes "total") (whole e.total)
    (member (codes "words") (whole e.words) no_members))))

abbrev pub worker_args : SpanEvent → Members
worker_args e =
    member (codes "depth") (whole e.depth)
    (member (codes "pieces") (whole e.piece)
    (member (codes "total") (whole e.total)
    (member (codes "words") (whole e.words) no_members)))

-- the event of a span, where the texts have these names
abbrev pub event_of_kind : SpanKind → List (List ℕ) → SpanEvent → Data
event_of_kind Piece names e =
    complete_event (codes "piece") (slice_index_or names e.file []) (object (piece_args e)) e
event_of_kind Worker names e =
    complete_event (codes "worker") (codes "worker") (object (worker_args e)) e

abbrev pub event_data : List (List ℕ) → SpanEvent → Data
event_data names e = event_of_kind e.kind names e

-- the metadata event that names a worker
abbrev pub thread_data : ℕ → Data
thread_data tid =
    object (member (codes "args")
    (object (member (codes "name") (string (codes "worker " ++ decimal tid)) no_members))
    (member (codes "name") (string (codes "thread_name"))
    (member (codes "ph") (string (codes "M"))
    (member (codes "pid") (whole 1)
    (member (codes "tid") (whole tid) no_members)))))

-- when a span ended, up to the greatest number of 64 bits
abbrev pub end_of : SpanEvent → ℕ
end_of e = min (e.ts + e.dur) 18446744073709551615

-- the counter of a worker's words, as a span left it
abbrev pub counter_data : SpanEvent → Data
counter_data e =
    object (member (codes "args") (object (member (codes "words") (whole e.total) no_members))
    (member (codes "name") (string (codes "words " ++ decimal e.tid))
    (member (codes "ph") (string (codes "C"))
    (member (codes "pid") (whole 1)
    (member (codes "tid") (whole e.tid)
    (member (codes "ts") (whole (end_of e)) no_members))))))

-- the texts of a span, of a worker's name and of a counter
abbrev pub text_of_event : List (List ℕ) → SpanEvent → List ℕ
text_of_event names e = compact_text (event_data names e)

abbrev pub text_of_thread : ℕ → List ℕ
text_of_thread tid = compact_text (thread_data tid)

abbrev pub text_of_counter : SpanEvent → List ℕ
text_of_counter e = compact_text (counter_data e)

-- the entries of a span: its event, and behind that of a piece its counter
abbrev pub entries_of_kind : SpanKind → List (List ℕ) → SpanEvent → List Data
entries_of_kind Piece names e = event_data names e ∷ counter_data e ∷ []
entries_of_kind Worker names e = event_data names e ∷ []

abbrev pub span_entries : List (List ℕ) → SpanEvent → List Data
span_entries names e = entries_of_kind e.kind names e

-- their texts, with a comma between each two
abbrev pub text_of_span : List (List ℕ) → SpanEvent → List ℕ
text_of_span names e = join_with_byte 44 (map compact_text (span_entries names e))

-- the entries of a trace: the workers' names, and then those of each span
abbrev pub trace_entries : List (List ℕ) → List SpanEvent → List Data
trace_entries names events =
    map thread_data (tids_of events) ++ flat_map (span_entries names) events

-- the whole document, with how many spans were accepted and how many are listed
abbrev pub trace_data : List (List ℕ) → ℕ → List SpanEvent → Data
trace_data names accepted events =
    object (member (codes "displayTimeUnit") (string (codes "ms"))
    (member (codes "otherData") (object
    (member (codes "accepted") (whole accepted)
    (member (codes "kept") (whole (length events)) no_members)))
    (member (codes "traceEvents") (array (items_of (trace_entries names events))) no_members)))

-- the trace text: that document on one line
unfoldable pub trace_text : List (List ℕ) → ℕ → List SpanEvent → List ℕ
trace_text names accepted events = compact_text (trace_data names accepted events) ++ 10 ∷ []

-- the file of a piece is one of so many
abbrev pub HasFile : ℕ → SpanEvent → Type 0
HasFile files e = e.kind ≡ Piece → e.file < files

-- what stands before the entries
abbrev pub head_text : ℕ → ℕ → List ℕ
head_text accepted kept =
    codes "{\"displayTimeUnit\":\"ms\",\"otherData\":{\"accepted\":" ++ decimal accepted
    ++ codes ",\"kept\":" ++ decimal kept ++ codes "},\"traceEvents\":["

-- what the text has lost at its front, the sink has gained
abbrev pub HandsOver : Option (List ℕ) → Option (List ℕ) → List ℕ → List ℕ → Type 0
HandsOver told new_told text new_text =
    (sent : List ℕ) × (new_told ≡ gained told sent) × (sent ++ new_text ≡ text)
