-- Whose entries are whose.
use Rattle.std.proofs.Common.{◌≡◌, ℕ, ◌+◌, ◌*◌, List, [], ◌∷◌, ◌++◌, length, get_or, map, refl, ap, ◌∙◌, ◌<◌, sym, subst}
use Rattle.std.specs.Prelude.{Bool, true, false, cond, filter, ◌==◌}
use Rattle.std.specs.List.{AllByRecursion, enumerate_from, All}
use Rattle.std.proofs.lemmas.List.Elements.{recursion_from_All}
use Rattle.rail.specs.declared.entry.Placed.{Placed}
use Rattle.span_words.specs.declared.span.SpanKind.TheVariants.{Piece as PieceKind}
use Rattle.span_words.specs.declared.span.SpanEvent.{SpanEvent}
use Rattle.span_words.specs.Span.{event_of, spelling}
use Rattle.span_words.proofs.Spellings.{event_of-spelling}
use Rattle.word_text.specs.declared.plan.Piece.{Piece}
use Rattle.word_workers.specs.Spans.{AllLieIn, piece_at, span_at, spans_of, worker_span}
use Rattle.word_workers.specs.Trace.{NamesText, is_of, pieces_in}

pub filter_none : {X : Type 0} (p : X → Bool) (xs : List X) → AllByRecursion (λ x. p x ≡ false) xs → filter p xs ≡ []
filter_none p [] a = refl
filter_none p (x ∷ xs) a = ap (λ b. cond b (x ∷ filter p xs) (filter p xs)) a.0 ∙ filter_none p xs a.1

pub filter_whole : {X : Type 0} (p : X → Bool) (xs : List X) → AllByRecursion (λ x. p x ≡ true) xs → filter p xs ≡ xs
filter_whole p [] a = refl
filter_whole p (x ∷ xs) a = ap (λ b. cond b (x ∷ filter p xs) (filter p xs)) a.0 ∙ ap (λ t. x ∷ t) (filter_whole p xs a.1)

pub is_of_event : (w : ℕ) (i : Placed) (e : SpanEvent) → i.words ≡ spelling e → is_of w i ≡ (e.tid == w + 1)
is_of_event w i e s = ap (λ (ws : List ℕ). (event_of ws).tid == w + 1) s ∙ ap (λ (x : SpanEvent). x.tid == w + 1) (event_of-spelling e)

-- what holds of events, of the entries that spell them
pub owned : (P : Placed → Type 0) (E : SpanEvent → Type 0) (items : List Placed) (es : List SpanEvent) → ((i : Placed) (e : SpanEvent) → i.words ≡ spelling e → E e → P i) → map (λ (i : Placed). i.words) items ≡ map spelling es → AllByRecursion E es
    → AllByRecursion P items
owned P E [] es f s a = tt
owned P E (x ∷ xs) [] f s a = cc
owned P E (x ∷ xs) (y ∷ ys) f s a =
    let h : x.words ≡ spelling y = cc in let t : map (λ (i : Placed). i.words) xs ≡ map spelling ys = cc in
    (f x y h a.0, owned P E xs ys f t a.1)

-- the span of a piece names one of so many texts
abbrev pub HasText : ℕ → SpanEvent → Type 0
HasText texts e = e.kind ≡ PieceKind → e.file < texts

pub names_text : (texts : ℕ) (i : Placed) (s : SpanEvent) → i.words ≡ spelling s → HasText texts s → NamesText texts i.words
names_text texts i s is h e other =
    let same : s ≡ e = sym (event_of-spelling s) ∙ ap event_of (sym is ∙ other) ∙ event_of-spelling e in
    subst (HasText texts) same h

file_known : (plan : List Piece) (texts : List (List ℕ)) (n : ℕ) → AllLieIn texts plan → n < length plan → (piece_at plan n).file < length texts
file_known plan texts n inside lt = (inside n (record { file = 0; start = 0; end = 0 }) lt).file

module _ (plan : List Piece) (texts : List (List ℕ)) (worker : ℕ) (readings drawn : List ℕ) where
  abbrev last_span : SpanEvent
  last_span = worker_span plan texts worker drawn (get_or readings 0 0) (get_or readings (2 * length drawn + 1) 0)

  own_tids : (n : ℕ) (ps : List ℕ) → AllByRecursion (λ (e : SpanEvent). e.tid ≡ worker + 1) (map (span_at plan texts worker drawn readings) (enumerate_from n ps) ++ last_span ∷ [])
  own_tids n [] = (refl, tt)
  own_tids n (p ∷ ps) = (refl, own_tids (n + 1) ps)

  -- all spans of a worker have its number
  pub spans_own : AllByRecursion (λ (e : SpanEvent). e.tid ≡ worker + 1) (spans_of plan texts worker drawn readings)
  spans_own = own_tids 0 drawn

  pieces_at : (n : ℕ) (ps : List ℕ) → pieces_in (map (span_at plan texts worker drawn readings) (enumerate_from n ps) ++ last_span ∷ []) ≡ ps
  pieces_at n [] = refl
  pieces_at n (p ∷ ps) = ap (λ (t : List ℕ). p ∷ t) (pieces_at (n + 1) ps)

  -- the pieces of a worker's spans are those that it counted
  pub spans_pieces : pieces_in (spans_of plan texts worker drawn readings) ≡ drawn
  spans_pieces = pieces_at 0 drawn

  files_at : (n : ℕ) (ps : List ℕ) → AllLieIn texts plan → AllByRecursion (λ (p : ℕ). p < length plan) ps
      → AllByRecursion (HasText (length texts)) (map (span_at plan texts worker drawn readings) (enumerate_from n ps) ++ last_span ∷ [])
  files_at n [] inside a = ((λ k. cc), tt)
  files_at n (p ∷ ps) inside a = ((λ _. file_known plan texts p inside a.0), files_at (n + 1) ps inside a.1)

  -- the spans of pieces of the plan name texts that there are
  pub spans_files : AllLieIn texts plan → All (λ (p : ℕ). p < length plan) drawn → AllByRecursion (HasText (length texts)) (spans_of plan texts worker drawn readings)
  spans_files inside a = files_at 0 drawn inside (recursion_from_All (λ (p : ℕ). p < length plan) drawn a)
