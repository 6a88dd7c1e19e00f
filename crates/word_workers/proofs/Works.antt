-- A worker notes its spans one by one.
use Rattle.std.proofs.Common.{◌≡◌, ℕ, ◌+◌, ◌*◌, ◌≤◌, List, [], ◌∷◌, ◌++◌, length, get_or, map, refl, sym, ap, subst, ◌∙◌, arith}
use Rattle.std.specs.Prelude.{Option, take}
use Rattle.std.specs.List.{enumerate_from}
use Rattle.std.proofs.lemmas.List.{append-nil, append_assoc, length-append, map-append, get_or_append_left, take-append-le, take_all}
use Rattle.std.proofs.Math.Seq.{get_or-append_seam}
use Rattle.flow_io.specs.Clock.{Ticks, Reads, last_reading}
use Rattle.rail.specs.declared.entry.Placed.{Placed}
use Rattle.span_words.specs.declared.span.SpanEvent.{SpanEvent}
use Rattle.span_words.specs.declared.span.SpanKind.TheVariants.{Worker}
use Rattle.span_words.specs.Span.{duration, spelling}
use Rattle.span_recorder.specs.Gain.{GainsEntry, Notes}
use Rattle.span_recorder.proofs.Gains.{notes_more, notes_none}
use Rattle.word_text.specs.declared.plan.Piece.{Piece}
use Rattle.word_workers.specs.Spans.{piece_span, span_at, spans_of, word_total, worker_span}
use Rattle.word_workers.specs.Worked.{NotesPiece, Worked}
use Rattle.word_workers.proofs.Readings.{HasRead, has_read_none, has_read_more}

pub enumerate_more : (n : ℕ) (xs : List ℕ) (x : ℕ) → enumerate_from n (xs ++ x ∷ []) ≡ enumerate_from n xs ++ (n + length xs, x) ∷ []
enumerate_more n [] x = let e : n + 0 ≡ n = omega arith in ap (λ (k : ℕ). (k, x) ∷ []) (sym e)
enumerate_more n (y ∷ ys) x =
    let e : (n + 1) + length ys ≡ n + length (y ∷ ys) = omega arith in
    ap (λ (t : List (ℕ × ℕ)). (n, y) ∷ t) (enumerate_more (n + 1) ys x ∙ ap (λ (k : ℕ). enumerate_from (n + 1) ys ++ (k, x) ∷ []) e)

module _ (plan : List Piece) (texts : List (List ℕ)) (worker : ℕ) where
  -- neither later pieces nor later readings change an earlier span
  same_spans : (whole extra rs more : List ℕ) (n : ℕ) (ps : List ℕ) → n + length ps ≤ length whole → 2 * (n + length ps) + 1 ≤ length rs
      → map (span_at plan texts worker (whole ++ extra) (rs ++ more)) (enumerate_from n ps) ≡ map (span_at plan texts worker whole rs) (enumerate_from n ps)
  same_spans whole extra rs more n [] w h = refl
  same_spans whole extra rs more n (p ∷ ps) w h =
      let drawn : take (n + 1) (whole ++ extra) ≡ take (n + 1) whole = take-append-le (n + 1) whole extra (omega arith) in
      let one : get_or (rs ++ more) (2 * n + 1) 0 ≡ get_or rs (2 * n + 1) 0 = get_or_append_left rs more 0 (2 * n + 1) (omega arith) in
      let two : get_or (rs ++ more) (2 * n + 2) 0 ≡ get_or rs (2 * n + 2) 0 = get_or_append_left rs more 0 (2 * n + 2) (omega arith) in
      let head : span_at plan texts worker (whole ++ extra) (rs ++ more) (n, p) ≡ span_at plan texts worker whole rs (n, p) =
      ap (λ (t : List ℕ). piece_span plan texts worker p (word_total plan texts t) (get_or (rs ++ more) (2 * n + 1) 0) (get_or (rs ++ more) (2 * n + 2) 0)) drawn
      ∙ ap (λ (b : ℕ). piece_span plan texts worker p (word_total plan texts (take (n + 1) whole)) b (get_or (rs ++ more) (2 * n + 2) 0)) one
      ∙ ap (λ (a : ℕ). piece_span plan texts worker p (word_total plan texts (take (n + 1) whole)) (get_or rs (2 * n + 1) 0) a) two in
      let rest : map (span_at plan texts worker (whole ++ extra) (rs ++ more)) (enumerate_from (n + 1) ps) ≡ map (span_at plan texts worker whole rs) (enumerate_from (n + 1) ps) =
      same_spans whole extra rs more (n + 1) ps (omega arith) (omega arith) in
      ap (λ (e : SpanEvent). e ∷ map (span_at plan texts worker (whole ++ extra) (rs ++ more)) (enumerate_from (n + 1) ps)) head ∙ ap (λ (t : List SpanEvent). span_at plan texts worker whole rs (n, p) ∷ t) rest

  spans_more : (rs : List ℕ) (ps : List ℕ) (p total a b : ℕ) → length rs ≡ 2 * length ps + 1 → total ≡ word_total plan texts (ps ++ p ∷ [])
      → map (span_at plan texts worker (ps ++ p ∷ []) ((rs ++ a ∷ []) ++ b ∷ [])) (enumerate_from 0 (ps ++ p ∷ [])) ≡ map (span_at plan texts worker ps rs) (enumerate_from 0 ps) ++ piece_span plan texts worker p total a b ∷ []
  spans_more rs ps p total a b len is =
      let all : List ℕ = (rs ++ a ∷ []) ++ b ∷ [] in
      let whole : List ℕ = ps ++ p ∷ [] in
      let assoc : all ≡ rs ++ (a ∷ b ∷ []) = append_assoc rs (a ∷ []) (b ∷ []) in
      let n = length ps in
      let drawn : take ((0 + n) + 1) whole ≡ whole = take_all ((0 + n) + 1) whole (let l = length-append ps (p ∷ []) in omega arith) in
      let words : word_total plan texts (take ((0 + n) + 1) whole) ≡ total = ap (word_total plan texts) drawn ∙ sym is in
      let one : get_or all (2 * (0 + n) + 1) 0 ≡ a =
      let i : 2 * (0 + n) + 1 ≡ length rs = omega arith in
      ap (λ (k : ℕ). get_or all k 0) i ∙ ap (λ (t : List ℕ). get_or t (length rs) 0) assoc ∙ get_or-append_seam rs a (b ∷ []) 0 in
      let two : get_or all (2 * (0 + n) + 2) 0 ≡ b =
      let i : 2 * (0 + n) + 2 ≡ length (rs ++ a ∷ []) = let l = length-append rs (a ∷ []) in omega arith in
      ap (λ (k : ℕ). get_or all k 0) i ∙ get_or-append_seam (rs ++ a ∷ []) b [] 0 in
      let last : span_at plan texts worker whole all (0 + n, p) ≡ piece_span plan texts worker p total a b =
      ap (λ (t : ℕ). piece_span plan texts worker p t (get_or all (2 * (0 + n) + 1) 0) (get_or all (2 * (0 + n) + 2) 0)) words
      ∙ ap (λ (x : ℕ). piece_span plan texts worker p total x (get_or all (2 * (0 + n) + 2) 0)) one ∙ ap (λ (x : ℕ). piece_span plan texts worker p total a x) two in
      let early : map (span_at plan texts worker whole all) (enumerate_from 0 ps) ≡ map (span_at plan texts worker ps rs) (enumerate_from 0 ps) =
      ap (λ (t : List ℕ). map (span_at plan texts worker whole t) (enumerate_from 0 ps)) assoc ∙ same_spans ps (p ∷ []) rs (a ∷ b ∷ []) 0 ps (omega arith) (omega arith) in
      ap (λ (t : List (ℕ × ℕ)). map (span_at plan texts worker whole all) t) (enumerate_more 0 ps p)
      ∙ map-append (span_at plan texts worker whole all) (enumerate_from 0 ps) ((0 + n, p) ∷ [])
      ∙ ap (λ (t : List SpanEvent). t ++ span_at plan texts worker whole all (0 + n, p) ∷ []) early
      ∙ ap (λ (e : SpanEvent). map (span_at plan texts worker ps rs) (enumerate_from 0 ps) ++ e ∷ []) last

  -- a worker read its clock first, then counted these pieces, and noted the span of each
  pub record IsCounting (first now : Option Ticks) (before : ℕ) (drawn : List ℕ) (old new : List Placed) : Type 0 where
    pub readings : List ℕ
    pub has_read : HasRead first now readings (2 * length drawn + 1)
    pub head : get_or readings 0 0 ≡ before
    pub notes : Notes old new (map (span_at plan texts worker drawn readings) (enumerate_from 0 drawn))

  pub counting_none : (first now : Option Ticks) (before : ℕ) (drawn : List ℕ) (old : List Placed) → drawn ≡ [] → Reads first now before → before ≤ last_reading → IsCounting first now before drawn old old
  counting_none first now before drawn old none d most =
      let one : IsCounting first now before [] old old = record {
        readings = before ∷ [];
        has_read = has_read_more first first now [] 0 before (has_read_none first) d most;
        head = refl;
        notes = notes_none old;
      } in
      subst (λ (t : List ℕ). IsCounting first now before t old old) (sym none) one

  pub counting_more : (first now new_ticks : Option Ticks) (before : ℕ) (drawn more : List ℕ) (p total : ℕ) (old mid new : List Placed) → IsCounting first now before drawn old mid
      → NotesPiece plan texts worker p total now new_ticks mid new → total ≡ word_total plan texts more → more ≡ drawn ++ p ∷ [] → IsCounting first new_ticks before more old new
  counting_more first now new_ticks before drawn more p total old mid new c n is e =
      let rs : List ℕ = c.readings in
      let once : HasRead first n.between (rs ++ n.before ∷ []) ((2 * length drawn + 1) + 1) = has_read_more first now n.between rs (2 * length drawn + 1) n.before c.has_read n.reads_before n.before_most in
      let twice = has_read_more first n.between new_ticks (rs ++ n.before ∷ []) ((2 * length drawn + 1) + 1) n.after once n.reads_after n.after_most in
      let all : List ℕ = (rs ++ n.before ∷ []) ++ n.after ∷ [] in
      let len : ((2 * length drawn + 1) + 1) + 1 ≡ 2 * length (drawn ++ p ∷ []) + 1 = let l = length-append drawn (p ∷ []) in omega arith in
      let one_more : IsCounting first new_ticks before (drawn ++ p ∷ []) old new = record {
        readings = all;
        has_read = subst (HasRead first new_ticks all) len twice;
        head = get_or_append_left (rs ++ n.before ∷ []) (n.after ∷ []) 0 0 (let l = length-append rs (n.before ∷ []) in omega arith)
            ∙ get_or_append_left rs (n.before ∷ []) 0 0 (let l = c.has_read.are_readings.number in omega arith) ∙ c.head;
        notes = subst (Notes old new) (sym (spans_more rs drawn p total n.before n.after c.has_read.are_readings.number (is ∙ ap (word_total plan texts) e))) (notes_more old mid new (map (span_at plan texts worker drawn rs) (enumerate_from 0 drawn)) (piece_span plan texts worker p total n.before n.after) c.notes n.gains);
      } in
      subst (λ (t : List ℕ). IsCounting first new_ticks before t old new) (sym e) one_more

  -- the worker's span with these numbers
  abbrev pub own_span : ℕ → ℕ → ℕ → ℕ → SpanEvent
  own_span before dur piece words = record { kind = Worker; tid = worker + 1; ts = before; dur = dur; file = 0; piece = piece; words = words; depth = 0; total = words }

  own_span_is : (drawn : List ℕ) (before after dur piece words : ℕ) → dur ≡ duration before after → piece ≡ length drawn → words ≡ word_total plan texts drawn
      → own_span before dur piece words ≡ worker_span plan texts worker drawn before after
  own_span_is drawn before after dur piece words d p w = λ k. record { kind = Worker; tid = worker + 1; ts = before; dur = d k; file = 0; piece = p k; words = w k; depth = 0; total = w k }

  pub counting_done : (first now new_ticks : Option Ticks) (before after dur piece words : ℕ) (drawn : List ℕ) (old mid new : List Placed) → IsCounting first now before drawn old mid
      → Reads now new_ticks after → after ≤ last_reading → dur ≡ duration before after → piece ≡ length drawn → words ≡ word_total plan texts drawn
      → GainsEntry mid new (spelling (own_span before dur piece words)) → Worked plan texts first worker drawn old new
  counting_done first now new_ticks before after dur piece words drawn old mid new c d most dur_is piece_is words_are noted =
      let gains : GainsEntry mid new (spelling (worker_span plan texts worker drawn before after)) =
      subst (λ (e : SpanEvent). GainsEntry mid new (spelling e)) (own_span_is drawn before after dur piece words dur_is piece_is words_are) noted in
      let rs : List ℕ = c.readings in
      let all : List ℕ = rs ++ after ∷ [] in
      let read = has_read_more first now new_ticks rs (2 * length drawn + 1) after c.has_read d most in
      let len : (2 * length drawn + 1) + 1 ≡ 2 * length drawn + 2 = omega arith in
      let count : length rs ≡ 2 * length drawn + 1 = c.has_read.are_readings.number in
      let early : List SpanEvent = map (span_at plan texts worker drawn rs) (enumerate_from 0 drawn) in
      let same : map (span_at plan texts worker drawn all) (enumerate_from 0 drawn) ≡ early =
      ap (λ (t : List ℕ). map (span_at plan texts worker t all) (enumerate_from 0 drawn)) (sym (append-nil drawn)) ∙ same_spans drawn [] rs (after ∷ []) 0 drawn (omega arith) (omega arith) in
      let head : get_or all 0 0 ≡ before = get_or_append_left rs (after ∷ []) 0 0 (omega arith) ∙ c.head in
      let last : get_or all (2 * length drawn + 1) 0 ≡ after = ap (λ (k : ℕ). get_or all k 0) (sym count) ∙ get_or-append_seam rs after [] 0 in
      let own : worker_span plan texts worker drawn (get_or all 0 0) (get_or all (2 * length drawn + 1) 0) ≡ worker_span plan texts worker drawn before after =
      ap (λ (x : ℕ). worker_span plan texts worker drawn x (get_or all (2 * length drawn + 1) 0)) head ∙ ap (λ (x : ℕ). worker_span plan texts worker drawn before x) last in
      let spans : spans_of plan texts worker drawn all ≡ early ++ worker_span plan texts worker drawn before after ∷ [] =
      ap (λ (t : List SpanEvent). t ++ worker_span plan texts worker drawn (get_or all 0 0) (get_or all (2 * length drawn + 1) 0) ∷ []) same ∙ ap (λ (e : SpanEvent). early ++ e ∷ []) own in
      record {
        readings = all;
        are_readings = (let h : HasRead first new_ticks all (2 * length drawn + 2) = subst (HasRead first new_ticks all) len read in h.are_readings);
        notes = subst (Notes old new) (sym spans) (notes_more old mid new early (worker_span plan texts worker drawn before after) c.notes gains);
      }
