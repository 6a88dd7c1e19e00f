-- A worker whose readings don't fall has its pieces in its span, one after another.
use Rattle.std.proofs.Common.{◌≡◌, ℕ, ◌+◌, ◌-◌, ◌*◌, ◌<◌, ◌≤◌, ◌==◌, ◌&&◌, Bool, true, false, cond, List, [], ◌∷◌, ◌++◌, length, map, slice_index, append-nil, refl, sym, ap, ◌∙◌, subst, inl, arith}
use Rattle.std.specs.Prelude.{All}
use Rattle.std.specs.List.{AllPairs, enumerate_from, filter}
use Rattle.std.specs.List.Sorted.{IsNonDecreasing}
use Rattle.std.proofs.lemmas.List.Elements.{All-nil, All-cons, filter-append}
use Rattle.std.proofs.lemmas.List.Kept.{AllPairs-cons}
use Rattle.span_words.specs.declared.span.SpanKind.{SpanKind}
use Rattle.span_words.specs.declared.span.SpanKind.TheVariants.{Worker, Piece as PieceKind}
use Rattle.span_words.specs.declared.span.SpanEvent.{SpanEvent}
use Rattle.span_words.specs.Workers as workers
use Rattle.span_fold.specs.Folded.{folded}
use Rattle.span_fold.specs.Nested.{IsNested, IsWithin, AreApart, time_of}
use Rattle.span_fold.proofs.Lines.{adds_up}
use Rattle.word_text.specs.declared.plan.Piece.{Piece}
use Rattle.word_workers.specs.Spans.{span_at, spans_of, worker_span}

-- ---- the spans of a kind among those of a worker

abbrev kind_only : SpanKind → List SpanEvent → List SpanEvent
kind_only kind spans = filter (λ (s : SpanEvent). workers.is_kind kind s.kind) spans

both_first : (a b : Bool) (p : SpanEvent → Bool) (s : SpanEvent) (rest : List SpanEvent) → p s ≡ a → cond (a && b) (s ∷ filter p rest) (filter p rest) ≡ filter p (cond b (s ∷ rest) rest)
both_first true true p s rest e = ap (λ c. cond c (s ∷ filter p rest) (filter p rest)) (sym e)
both_first true false p s rest e = refl
both_first false true p s rest e = ap (λ c. cond c (s ∷ filter p rest) (filter p rest)) (sym e)
both_first false false p s rest e = refl

of_worker : (kind : SpanKind) (tid : ℕ) (spans : List SpanEvent) → workers.spans_of kind tid spans ≡ kind_only kind (filter (λ (s : SpanEvent). s.tid == tid) spans)
of_worker kind tid [] = refl
of_worker kind tid (s ∷ ss) =
    (λ i. cond (workers.is_kind kind s.kind && s.tid == tid) (s ∷ of_worker kind tid ss i) (of_worker kind tid ss i))
    ∙ both_first (workers.is_kind kind s.kind) (s.tid == tid) (λ (x : SpanEvent). workers.is_kind kind x.kind) s (filter (λ (x : SpanEvent). x.tid == tid) ss) refl

module _ (plan : List Piece) (texts : List (List ℕ)) (worker : ℕ) (drawn readings : List ℕ) where
  abbrev pieces : ℕ → List ℕ → List SpanEvent
  pieces n ps = map (span_at plan texts worker drawn readings) (enumerate_from n ps)

  abbrev own : SpanEvent
  own = worker_span plan texts worker drawn (slice_index readings 0) (slice_index readings (2 * length drawn + 1))

  no_own : (n : ℕ) (ps : List ℕ) → kind_only Worker (pieces n ps) ≡ []
  no_own n [] = refl
  no_own n (p ∷ ps) = no_own (n + 1) ps

  all_pieces : (n : ℕ) (ps : List ℕ) → kind_only PieceKind (pieces n ps) ≡ pieces n ps
  all_pieces n [] = refl
  all_pieces n (p ∷ ps) = ap (λ l. span_at plan texts worker drawn readings (n, p) ∷ l) (all_pieces (n + 1) ps)

  own_only : kind_only Worker (spans_of plan texts worker drawn readings) ≡ own ∷ []
  own_only = filter-append (λ (s : SpanEvent). workers.is_kind Worker s.kind) (pieces 0 drawn) (own ∷ []) ∙ ap (λ l. l ++ own ∷ []) (no_own 0 drawn)

  pieces_only : kind_only PieceKind (spans_of plan texts worker drawn readings) ≡ pieces 0 drawn
  pieces_only = filter-append (λ (s : SpanEvent). workers.is_kind PieceKind s.kind) (pieces 0 drawn) (own ∷ []) ∙ append-nil _ ∙ all_pieces 0 drawn

  -- ---- by the readings
  module _ (number : length readings ≡ 2 * length drawn + 2) (rising : IsNonDecreasing readings) where
    rises : (i j : ℕ) → i ≤ j → j < 2 * length drawn + 2 → slice_index readings i ≤ slice_index readings j
    rises i j le lt = rising i j 0 le (omega (arith, number))

    all_within : (n : ℕ) (ps : List ℕ) → n + length ps ≤ length drawn → All (IsWithin own) (pieces n ps)
    all_within n [] le = All-nil (IsWithin own)
    all_within n (p ∷ ps) le =
        let begins = rises 0 (2 * n + 1) (omega arith) (omega arith) in
        let takes = rises (2 * n + 1) (2 * n + 2) (omega arith) (omega arith) in
        let ends = rises (2 * n + 2) (2 * length drawn + 1) (omega arith) (omega arith) in
        let whole = rises 0 (2 * length drawn + 1) (omega arith) (omega arith) in
        All-cons (IsWithin own) (span_at plan texts worker drawn readings (n, p)) (pieces (n + 1) ps) (begins, omega (arith, begins, takes, ends, whole)) (all_within (n + 1) ps (omega arith))

    all_later : (s : SpanEvent) (n : ℕ) (ps : List ℕ) → n + length ps ≤ length drawn → s.ts + s.dur ≤ slice_index readings (2 * n) → All (AreApart s) (pieces n ps)
    all_later s n [] le before = All-nil (AreApart s)
    all_later s n (p ∷ ps) le before =
        let first = rises (2 * n) (2 * n + 1) (omega arith) (omega arith) in
        let next = rises (2 * n) (2 * (n + 1)) (omega arith) (omega arith) in
        All-cons (AreApart s) (span_at plan texts worker drawn readings (n, p)) (pieces (n + 1) ps) (inl (omega (arith, before, first))) (all_later s (n + 1) ps (omega arith) (omega (arith, before, next)))

    all_apart : (n : ℕ) (ps : List ℕ) → n + length ps ≤ length drawn → AllPairs AreApart (pieces n ps)
    all_apart n [] le = λ i j d lt lt'. let none : ⊥ = omega (arith, lt, lt') in absurd none
    all_apart n (p ∷ ps) le =
        let takes = rises (2 * n + 1) (2 * n + 2) (omega arith) (omega arith) in
        let until : slice_index readings (2 * n + 1) + (slice_index readings (2 * n + 2) - slice_index readings (2 * n + 1)) ≤ slice_index readings (2 * (n + 1)) = omega (arith, takes, rises (2 * n + 2) (2 * (n + 1)) (omega arith) (omega arith)) in
        AllPairs-cons AreApart (span_at plan texts worker drawn readings (n, p)) (pieces (n + 1) ps) (all_later (span_at plan texts worker drawn readings (n, p)) (n + 1) ps (omega arith) until) (all_apart (n + 1) ps (omega arith))

pub is_nested : (plan : List Piece) (texts : List (List ℕ)) (worker : ℕ) (drawn readings : List ℕ) (spans : List SpanEvent) → length readings ≡ 2 * length drawn + 2 → IsNonDecreasing readings
    → filter (λ (s : SpanEvent). s.tid == worker + 1) spans ≡ spans_of plan texts worker drawn readings
    → IsNested (worker + 1) (worker_span plan texts worker drawn (slice_index readings 0) (slice_index readings (2 * length drawn + 1))) spans
is_nested plan texts worker drawn readings spans number rising are =
    let its : workers.spans_of PieceKind (worker + 1) spans ≡ pieces plan texts worker drawn readings 0 drawn = of_worker PieceKind (worker + 1) spans ∙ ap (kind_only PieceKind) are ∙ pieces_only plan texts worker drawn readings in
    record {
      one = of_worker Worker (worker + 1) spans ∙ ap (kind_only Worker) are ∙ own_only plan texts worker drawn readings;
      within = subst (All (IsWithin (own plan texts worker drawn readings))) (sym its) (all_within plan texts worker drawn readings number rising 0 drawn (omega arith));
      apart = subst (AllPairs AreApart) (sym its) (all_apart plan texts worker drawn readings number rising 0 drawn (omega arith));
    }

pub lines_add_up : (plan : List Piece) (texts : List (List ℕ)) (worker : ℕ) (drawn readings : List ℕ) (spans : List SpanEvent) → length readings ≡ 2 * length drawn + 2 → IsNonDecreasing readings
    → filter (λ (s : SpanEvent). s.tid == worker + 1) spans ≡ spans_of plan texts worker drawn readings
    → time_of (worker + 1) (folded spans) ≡ slice_index readings (2 * length drawn + 1) - slice_index readings 0
lines_add_up plan texts worker drawn readings spans number rising are =
    adds_up spans (worker + 1) (worker_span plan texts worker drawn (slice_index readings 0) (slice_index readings (2 * length drawn + 1))) (is_nested plan texts worker drawn readings spans number rising are)
