-- What the workers of a run did so far, one worker after another.
use Rattle.std.proofs.Common.{◌≡◌, ℕ, ◌+◌, ◌*◌, ◌<◌, List, [], ◌∷◌, ◌++◌, length, get_or, drop, map, refl, sym, ap, subst, ◌∙◌, arith, below_more}
use Rattle.std.specs.Prelude.{true, false, filter, flat_map, ◌==◌, Option, Some, None, IfSome, IsPermutation}
use Rattle.std.specs.List.{All, enumerate_from}
use Rattle.std.proofs.lemmas.Bool.Decides.{nat_tests}
use Rattle.std.proofs.lemmas.Grind.{flat_map-append}
use Rattle.std.proofs.lemmas.List.{append-nil, length-append, length-map, get_or_append_left}
use Rattle.std.proofs.lemmas.List.FromFn.{length-enumerate_from}
use Rattle.std.proofs.lemmas.List.Elements.{All-append, All-from_recursion, All-nil, filter-append, recursion_from_All}
use Rattle.std.proofs.Math.Seq.{drop-append_seam, get_or-append_seam}
use Rattle.flow_io.specs.Clock.{Ticks, reading_at}
use Rattle.rail.specs.declared.entry.Placed.{Placed}
use Rattle.rail.specs.Items.{IsRising, places}
use Rattle.rail.specs.Outcome.{numbers_below}
use Rattle.rail.proofs.Rising.{rising_drop}
use Rattle.span_words.specs.declared.span.SpanEvent.{SpanEvent}
use Rattle.span_words.specs.Span.{spelling}
use Rattle.span_recorder.specs.Events.{events_of}
use Rattle.span_recorder.specs.Gain.{GainAlike}
use Rattle.span_recorder.proofs.Gains.{events_spelled}
use Rattle.word_text.specs.declared.plan.Piece.{Piece}
use Rattle.word_workers.specs.Spans.{AllLieIn, AreReadings, span_at, spans_of, worker_span}
use Rattle.word_workers.specs.Trace.{HasSpans, IsSpanOfSome, NamesText, RunMakes, is_of}
use Rattle.word_workers.specs.Worked.{Worked}
use Rattle.word_workers.specs.Parts.{HasRun}
use Rattle.word_workers.proofs.Owners.{HasText, filter_none, filter_whole, is_of_event, names_text, owned, spans_files, spans_own}

if_told : (o told : Option Ticks) (P : Ticks → Type 0) → IfSome o (λ t. told ≡ Some t) → IfSome told P → IfSome o P
if_told None told P h p = tt
if_told (Some t) told P h p = subst (λ (x : Option Ticks). IfSome x P) h p

-- a worker notes one span more than it counted pieces
pub length-worked : (plan : List Piece) (texts : List (List ℕ)) (told : Option Ticks) (w : ℕ) (mine : List ℕ) (made new : List Placed) → Worked plan texts told w mine made new → length new ≡ length made + length mine + 1
length-worked plan texts told w mine made new k =
    let spans : length (spans_of plan texts w mine k.readings) ≡ length mine + 1 =
    length-append (map (span_at plan texts w mine k.readings) (enumerate_from 0 mine)) (worker_span plan texts w mine (get_or k.readings 0 0) (get_or k.readings (2 * length mine + 1) 0) ∷ [])
    ∙ ap (λ (n : ℕ). n + 1) (length-map (enumerate_from 0 mine) (span_at plan texts w mine k.readings) ∙ length-enumerate_from 0 mine) in
    let same : length k.notes.items ≡ length (spans_of plan texts w mine k.readings) =
    sym (length-map k.notes.items (λ (i : Placed). i.words)) ∙ ap (λ (t : List (List ℕ)). length t) k.notes.spelled ∙ length-map (spans_of plan texts w mine k.readings) spelling in
    let gained : length new ≡ length made + length k.notes.items = ap (λ (t : List Placed). length t) k.notes.gained ∙ length-append made k.notes.items in
    omega arith

module _ (plan : List Piece) (texts : List (List ℕ)) (clock : ℕ → Option Ticks) where
  pub run_none : (drawn : List (List ℕ)) (made : List Placed) → drawn ≡ [] → made ≡ [] → HasRun plan texts clock 0 drawn made
  run_none drawn made d m =
      let one : HasRun plan texts clock 0 [] [] = record {
        number = refl;
        rising = All-nil IsRising;
        all_spans = All-nil (λ (i : Placed). IsSpanOfSome 0 i.words);
        files = All-nil (λ (i : Placed). NamesText (length texts) i.words);
        in_order = λ v lt. absurd (omega arith);
        spans = λ v lt. absurd (omega arith);
      } in
      let two : HasRun plan texts clock 0 drawn [] = subst (λ (t : List (List ℕ)). HasRun plan texts clock 0 t []) (sym d) one in
      subst (λ (t : List Placed). HasRun plan texts clock 0 drawn t) (sym m) two

  readings_told : (w : ℕ) (told : Option Ticks) (readings : List ℕ) (count : ℕ) → IfSome (clock w) (λ t. told ≡ Some t) → AreReadings told readings count → AreReadings (clock w) readings count
  readings_told w told readings count h a = record { number = a.number; most = a.most; told = if_told (clock w) told (λ (t : Ticks). (j : ℕ) → j < count → get_or readings j 0 ≡ reading_at t j) h a.told }

  -- a worker whose hand is one of this clock
  pub worked_told : (w : ℕ) (told : Option Ticks) (mine : List ℕ) (old new : List Placed) → IfSome (clock w) (λ t. told ≡ Some t) → Worked plan texts told w mine old new → Worked plan texts (clock w) w mine old new
  worked_told w told mine old new h k = record { readings = k.readings; are_readings = readings_told w told k.readings (2 * length mine + 2) h k.are_readings; notes = k.notes }

  -- the entries of a worker's spans, behind those of others
  pub record Adds (w : ℕ) (mine : List ℕ) (made new : List Placed) : Type 0 where
    pub items : List Placed
    pub readings : List ℕ
    pub are_readings : AreReadings (clock w) readings (2 * length mine + 2)
    pub gained : new ≡ made ++ items
    pub spelled : map (λ (i : Placed). i.words) items ≡ map spelling (spans_of plan texts w mine readings)
    pub rising : IsRising (places items)

  -- through the one seat of all workers
  pub adds_behind : (w : ℕ) (mine : List ℕ) (made new : List Placed) → Worked plan texts (clock w) w mine made new → IsRising (places made) → Adds w mine made new
  adds_behind w mine made new k r = record {
    items = k.notes.items;
    readings = k.readings;
    are_readings = k.are_readings;
    gained = k.notes.gained;
    spelled = k.notes.spelled;
    rising = subst (λ (t : List Placed). IsRising (places t)) (ap (drop (length made)) k.notes.gained ∙ drop-append_seam made k.notes.items) (rising_drop (length made) new (k.notes.rising r));
  }

  -- through a seat of its own
  pub adds_alone : (w : ℕ) (mine : List ℕ) (made own all : List Placed) → Worked plan texts (clock w) w mine [] own → all ≡ made ++ own → Adds w mine made all
  adds_alone w mine made own all k e = record {
    items = k.notes.items;
    readings = k.readings;
    are_readings = k.are_readings;
    gained = e ∙ ap (λ (t : List Placed). made ++ t) k.notes.gained;
    spelled = k.notes.spelled;
    rising = subst (λ (t : List Placed). IsRising (places t)) k.notes.gained (k.notes.rising tt);
  }

  more_workers : (w : ℕ) (made : List Placed) → All (λ (i : Placed). IsSpanOfSome w i.words) made → All (λ (i : Placed). IsSpanOfSome (w + 1) i.words) made
  more_workers w made a k d lt = let s = a k d lt in record { event = s.event; tid_some = s.tid_some; tid_most = let m = s.tid_most in omega arith; spelled = s.spelled }

  -- no entry of the workers so far is the next worker's
  none_of_next : (w : ℕ) (made : List Placed) → All (λ (i : Placed). IsSpanOfSome w i.words) made → filter (is_of w) made ≡ []
  none_of_next w made a = filter_none (is_of w) made (recursion_from_All (λ (i : Placed). is_of w i ≡ false) made (λ k d lt.
      let s = a k d lt in
      let most = s.tid_most in
      let other : (s.event.tid == w + 1) ≡ false = grind (arith, nat_tests) in
      is_of_event w (get_or made k d) s.event s.spelled ∙ other))

  -- the next worker's spans are no others'
  kept_longer : (v w : ℕ) (mine : List ℕ) (made new : List Placed) → v < w → Adds w mine made new → filter (is_of v) new ≡ filter (is_of v) made
  kept_longer v w mine made new lt k =
      let none : filter (is_of v) k.items ≡ [] = filter_none (is_of v) k.items (owned (λ (i : Placed). is_of v i ≡ false) (λ (e : SpanEvent). e.tid ≡ w + 1) k.items (spans_of plan texts w mine k.readings) (λ i x is t.
      let other : (x.tid == v + 1) ≡ false = grind (arith, nat_tests) in is_of_event v i x is ∙ other) k.spelled (spans_own plan texts w k.readings mine)) in
      ap (filter (is_of v)) k.gained ∙ filter-append (is_of v) made k.items ∙ ap (λ (t : List Placed). filter (is_of v) made ++ t) none ∙ append-nil (filter (is_of v) made)

  kept_next : (w : ℕ) (mine : List ℕ) (made new : List Placed) → All (λ (i : Placed). IsSpanOfSome w i.words) made → (k : Adds w mine made new) → filter (is_of w) new ≡ k.items
  kept_next w mine made new a k =
      let whole : filter (is_of w) k.items ≡ k.items = filter_whole (is_of w) k.items (owned (λ (i : Placed). is_of w i ≡ true) (λ (e : SpanEvent). e.tid ≡ w + 1) k.items (spans_of plan texts w mine k.readings) (λ i x is t.
      let same : (x.tid == w + 1) ≡ true = grind (arith, nat_tests) in is_of_event w i x is ∙ same) k.spelled (spans_own plan texts w k.readings mine)) in
      ap (filter (is_of w)) k.gained ∙ filter-append (is_of w) made k.items ∙ ap (λ (t : List Placed). t ++ filter (is_of w) k.items) (none_of_next w made a) ∙ whole

  spans_longer : (v w : ℕ) (drawn mine : List ℕ) (made new : List Placed) → v < w → Adds w mine made new → HasSpans plan texts (clock v) v drawn made → HasSpans plan texts (clock v) v drawn new
  spans_longer v w drawn mine made new lt k h = record { readings = h.readings; are_readings = h.are_readings; spans = ap events_of (kept_longer v w mine made new lt k) ∙ h.spans }

  spans_next : (w : ℕ) (mine : List ℕ) (made new : List Placed) → All (λ (i : Placed). IsSpanOfSome w i.words) made → Adds w mine made new → HasSpans plan texts (clock w) w mine new
  spans_next w mine made new a k =
      record { readings = k.readings; are_readings = k.are_readings; spans = ap events_of (kept_next w mine made new a k) ∙ events_spelled k.items (spans_of plan texts w mine k.readings) k.spelled }

  -- one worker more ran
  pub run_more : (w : ℕ) (drawn more : List (List ℕ)) (mine : List ℕ) (made new : List Placed) → AllLieIn texts plan → HasRun plan texts clock w drawn made → Adds w mine made new
      → IsRising mine → All (λ (n : ℕ). n < length plan) mine → more ≡ drawn ++ mine ∷ [] → HasRun plan texts clock (w + 1) more new
  run_more w drawn more mine made new inside r k rises below e =
      let es = spans_of plan texts w mine k.readings in
      let own = spans_own plan texts w k.readings mine in
      let P : Placed → Type 0 = λ (i : Placed). IsSpanOfSome (w + 1) i.words in
      let here : All P k.items = All-from_recursion P k.items (owned P (λ (e : SpanEvent). e.tid ≡ w + 1) k.items es (λ i x s t. record { event = x; tid_some = omega arith; tid_most = omega arith; spelled = s }) k.spelled own) in
      let N : Placed → Type 0 = λ (i : Placed). NamesText (length texts) i.words in
      let named : All N k.items = All-from_recursion N k.items (owned N (HasText (length texts)) k.items es (names_text (length texts)) k.spelled (spans_files plan texts w k.readings mine inside below)) in
      let at : get_or (drawn ++ mine ∷ []) w [] ≡ mine = ap (λ (j : ℕ). get_or (drawn ++ mine ∷ []) j []) (sym r.number) ∙ get_or-append_seam drawn mine [] [] in
      let one : HasRun plan texts clock (w + 1) (drawn ++ mine ∷ []) new = record {
        number = length-append drawn (mine ∷ []) ∙ ap (λ (j : ℕ). j + 1) r.number;
        rising = All-append IsRising drawn (mine ∷ []) r.rising (All-from_recursion IsRising (mine ∷ []) (rises, tt));
        all_spans = subst (All P) (sym k.gained) (All-append P made k.items (more_workers w made r.all_spans) here);
        files = subst (All N) (sym k.gained) (All-append N made k.items r.files named);
        in_order = below_more (λ (v : ℕ). IsRising (places (filter (is_of v) new))) w
            (λ v lt. subst (λ (t : List Placed). IsRising (places t)) (sym (kept_longer v w mine made new lt k)) (r.in_order v lt))
            (subst (λ (t : List Placed). IsRising (places t)) (sym (kept_next w mine made new r.all_spans k)) k.rising);
        spans = below_more (λ (v : ℕ). HasSpans plan texts (clock v) v (get_or (drawn ++ mine ∷ []) v []) new) w
            (λ v lt. subst (λ (t : List ℕ). HasSpans plan texts (clock v) v t new) (sym (get_or_append_left drawn (mine ∷ []) [] v (let n = r.number in omega arith))) (spans_longer v w (get_or drawn v []) mine made new lt k (r.spans v lt)))
            (subst (λ (t : List ℕ). HasSpans plan texts (clock w) w t new) (sym at) (spans_next w mine made new r.all_spans k));
      } in
      subst (λ (t : List (List ℕ)). HasRun plan texts clock (w + 1) t new) (sym e) one

  -- all workers ran, and drew each number once
  pub run_all_made : (workers : ℕ) (drawn : List (List ℕ)) (made : List Placed) → HasRun plan texts clock workers drawn made → IsPermutation (flat_map (λ (ns : List ℕ). ns) drawn) (numbers_below (length plan)) → RunMakes made drawn workers plan texts clock
  run_all_made workers drawn made r once = record {
    number = r.number;
    rising = r.rising;
    each_once = once;
    all_spans = r.all_spans;
    in_order = r.in_order;
    spans = r.spans;
  }

-- what all batches so far have, and one more
pub batches_more : {X : Type 0} (items : X → List Placed) (batches more : List X) (batch : X) (old new : List Placed) → flat_map items batches ≡ old → GainAlike old new [] (items batch) → more ≡ batches ++ batch ∷ [] → flat_map items more ≡ new
batches_more items batches more batch old new so_far g e =
    ap (flat_map items) e ∙ flat_map-append items batches (batch ∷ []) ∙ ap (λ (t : List Placed). t ++ (items batch ++ [])) so_far
    ∙ ap (λ (t : List Placed). old ++ t) (append-nil (items batch) ∙ g.gained_other) ∙ sym g.gained
