-- What each worker's spans add up to, and how they may disagree with the worker's own span.
use Rattle.std.specs.Prelude.{ℕ, ◌==◌, not, if◌then◌else◌, List, [], ◌∷◌, length, sum_by, Result, Ok, Err}
use Rattle.span_words.specs.declared.span.SpanKind.TheVariants.{Worker, Piece}
use Rattle.span_words.specs.declared.span.SpanEvent.{SpanEvent}
use Rattle.span_words.specs.Workers.{spans_of, tids_of}
use Rattle.trace_read.specs.declared.total.Total.{Total}
use Rattle.trace_read.specs.declared.checking.CheckError.{CheckError}
use Rattle.trace_read.specs.declared.checking.CheckError.TheVariants.{Workers, Pieces, Words}

infixl 10 ◌>>=◌
-- what comes next, where nothing is refused before
abbrev pub ◌>>=◌ : {A B : Type 0} → Result A CheckError → (A → Result B CheckError)
    → Result B CheckError
Ok x >>= next = next x
Err refusal >>= next = Err refusal

-- how many words they have
abbrev pub words_of : List SpanEvent → ℕ
words_of spans = sum_by (λ (s : SpanEvent). s.words) spans

-- the total of a worker by its one span and its pieces
abbrev pub agreed : ℕ → SpanEvent → List SpanEvent → Result Total CheckError
agreed tid worker pieces =
    let number = length pieces in
    let words = words_of pieces in
    if not (worker.piece == number) then Err (Pieces tid worker.piece number)
    else (if not (worker.words == words) then Err (Words tid worker.words words)
    else Ok (record { tid = tid; pieces = number; words = words; dur = worker.dur }))

abbrev pub by_workers : ℕ → List SpanEvent → List SpanEvent → Result Total CheckError
by_workers tid (worker ∷ []) pieces = agreed tid worker pieces
by_workers tid workers pieces = Err (Workers tid (length workers))

-- the total of a worker of this number
unfoldable pub total_of : ℕ → List SpanEvent → Result Total CheckError
total_of tid spans = by_workers tid (spans_of Worker tid spans) (spans_of Piece tid spans)

-- the totals of workers of these numbers, up to the first that disagree
abbrev pub totals_of : List ℕ → List SpanEvent → Result (List Total) CheckError
totals_of [] spans = Ok []
totals_of (tid ∷ tids) spans = do
  total ← total_of tid spans
  totals ← totals_of tids spans
  Ok (total ∷ totals)

-- the totals of all workers in rising order of their numbers
abbrev pub totals_by_worker : List SpanEvent → Result (List Total) CheckError
totals_by_worker spans = totals_of (tids_of spans) spans
