-- The document of a trace is data that reads back.
use Rattle.std.proofs.Common.{◌≡◌, ℕ, suc, ◌≤◌, true, List, [], ◌∷◌, ◌++◌, length, map, flat_map, fold, codes, decimal, Ordering, Less, Equal, Greater, refl, arith}
use Rattle.std.specs.Prelude.{All}
use Rattle.std.specs.BTreeSet.{insert_key}
use Rattle.std.specs.List.{AllByRecursion}
use Rattle.std.specs.Ordering.{nat_cmp, match_ordering}
use Rattle.std.specs.Str.{IsUtf8}
use Rattle.std.proofs.lemmas.Fmt.{IsAscii-decimal}
use Rattle.std.proofs.lemmas.Str.{IsUtf8-append, IsUtf8-from_ascii}
use Rattle.json.proofs.Printed.Utf8.{IsUtf8-are_ascii, are_ascii}
use Rattle.serde_json.specs.Data.{Data, string, object, member, no_members, depth, items_depth}
use Rattle.serde_json.specs.View.{items_of}
use Rattle.serde_json.specs.Read.{max_depth}
use Rattle.span_words.specs.declared.span.SpanKind.{SpanKind}
use Rattle.span_words.specs.declared.span.SpanKind.TheVariants.{Worker, Piece}
use Rattle.span_words.specs.declared.span.SpanEvent.{SpanEvent}
use Rattle.span_words.specs.Workers.{tids_of}
use Rattle.trace_json.specs.Trace.{event_of_kind, event_data, thread_data, end_of, counter_data, piece_args, worker_args, entries_of_kind, span_entries, trace_data}
use Rattle.trace_read.specs.Listed.{IsWord, IsListed}
use Rattle.trace_read.proofs.Written.{IsWritten, ItemsAreWritten}

lit : (s : List ℕ) → are_ascii s ≡ true → IsUtf8 s
lit s e = IsUtf8-are_ascii s e

-- an entry reads back, and is no deeper than two
abbrev IsEntry : Data → Type 0
IsEntry d = IsWritten d × (depth d ≤ 2)

abbrev AreEntries : List Data → Type 0
AreEntries ds = ItemsAreWritten (items_of ds) × (items_depth (items_of ds) ≤ 2)

entries-cons : (d : Data) (ds : List Data) → IsEntry d → AreEntries ds → AreEntries (d ∷ ds)
entries-cons d ds h k = ((h.0, k.0), omega arith)

numbered : (front : List ℕ) (n : ℕ) → IsUtf8 front → IsWord n → IsUtf8 (front ++ decimal n)
numbered front n utf8 fits = IsUtf8-append front (decimal n) utf8 (IsUtf8-from_ascii (decimal n) (IsAscii-decimal n fits))

one_fits : IsWord 1
one_fits = omega arith

thread_entry : (tid : ℕ) → IsWord tid → IsEntry (thread_data tid)
thread_entry tid fits =
    let args : IsWritten (object (member (codes "name") (string (codes "worker " ++ decimal tid)) no_members)) = ((lit _ refl, numbered (codes "worker ") tid (lit _ refl) fits, tt), refl) in
    (((lit _ refl, args, (lit _ refl, lit _ refl, (lit _ refl, lit _ refl, (lit _ refl, one_fits, (lit _ refl, fits, tt))))), refl), omega arith)

module _ (files : ℕ) (e : SpanEvent) (h : IsListed files e) where
  tid_fits : IsWord e.tid
  tid_fits = omega (arith, h.tid.1)

  end_fits : IsWord (end_of e)
  end_fits = omega arith

  counter_entry : IsEntry (counter_data e)
  counter_entry = (
    (
      (
        lit _ refl,
        ((lit _ refl, h.total, tt), refl),
        (
          lit _ refl,
          numbered (codes "words ") e.tid (lit _ refl) tid_fits,
          (lit _ refl, lit _ refl, (lit _ refl, one_fits, (lit _ refl, tid_fits, (lit _ refl, end_fits, tt)))),
        ),
      ),
      refl,
    ),
    omega arith,
  )

  piece_args_written : IsWritten (object (piece_args e))
  piece_args_written = ((lit _ refl, h.depth, (lit _ refl, h.file, (lit _ refl, h.piece, (lit _ refl, h.total, (lit _ refl, h.words, tt))))), refl)

  worker_args_written : IsWritten (object (worker_args e))
  worker_args_written = ((lit _ refl, h.depth, (lit _ refl, h.piece, (lit _ refl, h.total, (lit _ refl, h.words, tt)))), refl)

event_entry : (k : SpanKind) (names : List (List ℕ)) (e : SpanEvent) → All IsUtf8 names → IsListed (length names) e → e.kind ≡ k → IsEntry (event_of_kind k names e)
event_entry Piece names e utf8 h is = (
  (
    (
      lit _ refl,
      piece_args_written (length names) e h,
      (
        lit _ refl,
        lit _ refl,
        (
          lit _ refl,
          h.dur,
          (
            lit _ refl,
            utf8 e.file [] (h.of_piece is),
            (lit _ refl, lit _ refl, (lit _ refl, one_fits, (lit _ refl, tid_fits (length names) e h, (lit _ refl, h.ts, tt)))),
          ),
        ),
      ),
    ),
    refl,
  ),
  omega arith,
)
event_entry Worker names e utf8 h is = (
  (
    (
      lit _ refl,
      worker_args_written (length names) e h,
      (
        lit _ refl,
        lit _ refl,
        (
          lit _ refl,
          h.dur,
          (
            lit _ refl,
            lit _ refl,
            (lit _ refl, lit _ refl, (lit _ refl, one_fits, (lit _ refl, tid_fits (length names) e h, (lit _ refl, h.ts, tt)))),
          ),
        ),
      ),
    ),
    refl,
  ),
  omega arith,
)

threads_then : (tids : List ℕ) (rest : List Data) → AllByRecursion IsWord tids → AreEntries rest → AreEntries (map thread_data tids ++ rest)
threads_then [] rest fit h = h
threads_then (t ∷ ts) rest fit h = entries-cons (thread_data t) (map thread_data ts ++ rest) (thread_entry t fit.0) (threads_then ts rest fit.1 h)

span_then : (k : SpanKind) (names : List (List ℕ)) (e : SpanEvent) (rest : List Data) → All IsUtf8 names → IsListed (length names) e → AreEntries rest → AreEntries (entries_of_kind k names e ++ rest)
span_then Piece names e rest utf8 h more =
    entries-cons (event_data names e) (counter_data e ∷ rest) (event_entry e.kind names e utf8 h refl) (entries-cons (counter_data e) rest (counter_entry (length names) e h) more)
span_then Worker names e rest utf8 h more = entries-cons (event_data names e) rest (event_entry e.kind names e utf8 h refl) more

spans_are_entries : (names : List (List ℕ)) (events : List SpanEvent) → All IsUtf8 names → All (IsListed (length names)) events → AreEntries (flat_map (span_entries names) events)
spans_are_entries names [] utf8 h = (tt, omega arith)
spans_are_entries names (e ∷ es) utf8 h =
    span_then e.kind names e (flat_map (span_entries names) es) utf8 (h 0 e (omega arith)) (spans_are_entries names es utf8 (λ k d lt. h (suc k) d (omega arith)))

-- ---- the workers' numbers

either_fits : (o : Ordering) (k x : ℕ) (xs more : List ℕ) → IsWord k → AllByRecursion IsWord (x ∷ xs) → AllByRecursion IsWord more → AllByRecursion IsWord (match_ordering o (k ∷ x ∷ xs) (x ∷ xs) (x ∷ more))
either_fits Less k x xs more fits h later = (fits, h)
either_fits Equal k x xs more fits h later = h
either_fits Greater k x xs more fits h later = (h.0, later)

inserted_fit : (ks : List ℕ) (k : ℕ) → AllByRecursion IsWord ks → IsWord k → AllByRecursion IsWord (insert_key nat_cmp ks k)
inserted_fit [] k h fits = (fits, tt)
inserted_fit (x ∷ xs) k h fits = either_fits (nat_cmp k x) k x xs (insert_key nat_cmp xs k) fits h (inserted_fit xs k h.1 fits)

tids_fit : (files : ℕ) (events : List SpanEvent) (found : List ℕ) → All (IsListed files) events → AllByRecursion IsWord found
    → AllByRecursion IsWord (fold (insert_key nat_cmp) found (map (λ (e : SpanEvent). e.tid) events))
tids_fit files [] found h fit = fit
tids_fit files (e ∷ es) found h fit =
    tids_fit files es (insert_key nat_cmp found e.tid) (λ k d lt. h (suc k) d (omega arith)) (inserted_fit found e.tid fit (tid_fits files e (h 0 e (omega arith))))

-- ---- the document

pub trace_data-written : (names : List (List ℕ)) (accepted : ℕ) (events : List SpanEvent) → All IsUtf8 names → IsWord accepted → IsWord (length events) → All (IsListed (length names)) events
    → IsWritten (trace_data names accepted events) × (depth (trace_data names accepted events) ≤ max_depth)
trace_data-written names accepted events utf8 accepted_fits kept_fits h =
    let entries = threads_then (tids_of events) (flat_map (span_entries names) events) (tids_fit (length names) events [] h tt) (spans_are_entries names events utf8 h) in
    (((lit _ refl, lit _ refl, (lit _ refl, ((lit _ refl, accepted_fits, (lit _ refl, kept_fits, tt)), refl), (lit _ refl, entries.0, tt))), refl), omega (arith, entries.1))
