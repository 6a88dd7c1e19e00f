-- What the entries of a run tell of its workers.
use Rattle.std.specs.Prelude.{◌≡◌, ℕ, ◌+◌, ◌*◌, ◌<◌, ◌≤◌, ◌==◌, Bool, true, false, List, length, map, filter, flat_map, [], slice_index_or, Option, IsPermutation}
use Rattle.std.specs.List.{All}
use Rattle.flow_io.specs.Clock.{Ticks}
use Rattle.rail.specs.declared.entry.Placed.{Placed}
use Rattle.rail.specs.Items.{IsRising, places}
use Rattle.rail.specs.Outcome.{numbers_below}
use Rattle.span_recorder.specs.Events.{events_of}
use Rattle.span_words.specs.declared.span.SpanKind.{SpanKind}
use Rattle.span_words.specs.declared.span.SpanKind.TheVariants.{Worker, Piece as PieceKind}
use Rattle.span_words.specs.declared.span.SpanEvent.{SpanEvent}
use Rattle.span_words.specs.Span.{event_of, spelling}
use Rattle.word_text.specs.declared.plan.Piece.{Piece}
use Rattle.word_workers.specs.Spans.{AreReadings, spans_of}

-- these words are those of a span of one of so many workers
pub record IsSpanOfSome (workers : ℕ) (words : List ℕ) : Type 0 where
  pub event : SpanEvent
  pub tid_some : 1 ≤ event.tid
  pub tid_most : event.tid ≤ workers
  pub spelled : words ≡ spelling event

-- where these words are those of a piece's span, it names one of so many texts
abbrev pub NamesText : ℕ → List ℕ → Type 0
NamesText texts words = (e : SpanEvent) → words ≡ spelling e → e.kind ≡ PieceKind → e.file < texts

-- whether the entry is a span of this worker
abbrev pub is_of : ℕ → Placed → Bool
is_of worker item = (event_of item.words).tid == worker + 1

-- the spans of this worker, in the order of the entries
abbrev pub spans_by : ℕ → List Placed → List SpanEvent
spans_by worker entries = events_of (filter (is_of worker) entries)

abbrev pub is_piece_kind : SpanKind → Bool
is_piece_kind Worker = false
is_piece_kind PieceKind = true

-- the numbers of the pieces of these spans
abbrev pub pieces_in : List SpanEvent → List ℕ
pieces_in events =
    map (λ (e : SpanEvent). e.piece) (filter (λ (e : SpanEvent). is_piece_kind e.kind) events)

-- the numbers of the pieces that this worker counted, in the order of the entries
abbrev pub pieces_by : ℕ → List Placed → List ℕ
pieces_by worker entries = pieces_in (spans_by worker entries)

-- the spans of this worker are those of a worker that counted these pieces, in its order
pub record HasSpans (plan : List Piece) (texts : List (List ℕ)) (ticks : Option Ticks)
    (worker : ℕ) (drawn : List ℕ) (entries : List Placed) : Type 0 where
  pub readings : List ℕ
  pub are_readings : AreReadings ticks readings (2 * length drawn + 2)
  pub spans : spans_by worker entries ≡ spans_of plan texts worker drawn readings

-- the entries that the seats of a run made, where its workers counted these pieces, each by its
-- hand
-- of the clock
pub record RunMakes (made : List Placed) (drawn : List (List ℕ)) (workers : ℕ)
    (plan : List Piece) (texts : List (List ℕ)) (clock : ℕ → Option Ticks) : Type 0 where
  pub number : length drawn ≡ workers
  pub rising : All IsRising drawn
  pub each_once : IsPermutation (flat_map (λ ns. ns) drawn) (numbers_below (length plan))
  pub all_spans : All (λ (i : Placed). IsSpanOfSome workers i.words) made
  pub in_order : (w : ℕ) → w < workers → IsRising (places (filter (is_of w) made))
  pub spans : (w : ℕ) → w < workers
      → HasSpans plan texts (clock w) w (slice_index_or drawn w []) made

-- the accepted entries of a run of these workers, in order of place, over the pieces of this plan
pub record RunTrace (accepted : List Placed) (workers : ℕ)
    (plan : List Piece) (texts : List (List ℕ)) (clock : ℕ → Option Ticks) : Type 0 where
  pub all_spans : All (λ (i : Placed). IsSpanOfSome workers i.words) accepted
  pub rising : (w : ℕ) → w < workers → IsRising (pieces_by w accepted)
  pub each_once : IsPermutation
      (flat_map (λ w. pieces_by w accepted) (numbers_below workers)) (numbers_below (length plan))
  pub spans : (w : ℕ) → w < workers
      → HasSpans plan texts (clock w) w (pieces_by w accepted) accepted
