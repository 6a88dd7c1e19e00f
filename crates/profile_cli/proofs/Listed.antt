-- What a closed queue lists, from what its seats did.
use Rattle.std.proofs.Common.{◌≡◌, ℕ, ◌+◌, ◌-◌, ◌*◌, ◌<◌, ◌≤◌, Bool, true, false, cond, List, [], ◌∷◌, ◌++◌, length, map, refl, ap, ◌∙◌, sym, subst, ⊎_elim, inl, inr, arith}
use Rattle.std.specs.Prelude.{filter, flat_map, if◌then◌else◌, min, nat_eq, nat_le, IsPermutation, ◌⊎◌}
use Rattle.std.specs.List.{All, AllByRecursion, IsDistinct, range_with_len}
use Rattle.std.proofs.Math.Bool.{and-true}
use Rattle.std.proofs.lemmas.Bool.{cases_lt}
use Rattle.std.proofs.lemmas.Bool.Decides.{nat_tests}
use Rattle.std.proofs.lemmas.List.{length-map, nil_from_length}
use Rattle.std.proofs.lemmas.List.FromFn.{length-range_with_len}
use Rattle.std.proofs.lemmas.List.Elements.{All-filter, All-from_recursion, filter_agree, recursion_from_All}
use Rattle.std.proofs.lemmas.List.Sorted.{All-permutation, IsPermutation-refl, IsPermutation-sym, IsPermutation-trans, length_permutation}
use Rattle.cursor_word.specs.Shape.{Grid, IsWithinLimits}
use Rattle.cursor_word.specs.Cursor.{low}
use Rattle.cursor_word.proofs.Places.{low_keeps}
use Rattle.rail.specs.declared.entry.Placed.{Placed}
use Rattle.rail.specs.Items.{IsRising, places}
use Rattle.rail.specs.Outcome.{DropOutcome, IsAccepted, RetryOutcome, is_left, numbers_below}
use Rattle.rail.proofs.Rising.{distinct_by_permutation, rising_accepted, rising_filter, same_by_permutation}
use Rattle.rail.proofs.Whole.{taken_and_left}
use Rattle.span_words.specs.declared.span.SpanEvent.{SpanEvent}
use Rattle.span_words.specs.declared.span.TheConstants.{MOST_WORKERS}
use Rattle.span_words.specs.Span.{event_of, spelling}
use Rattle.span_words.proofs.Spellings.{event_of-spelling}
use Rattle.span_recorder.specs.Events.{events_of}
use Rattle.trace_json.specs.Trace.{HasFile}
use Rattle.word_workers.specs.Trace.{IsSpanOfSome, NamesText}
use Rattle.command_words.specs.declared.options.Options.{Options}
use Rattle.command_words.specs.Usage as command
use Rattle.command_words.specs.Usage.{asked_of}
use Rattle.profile_cli.specs.Queue.{IsOutcome, listed_by, mode_by, seats_for, shape_for}
use Rattle.profile_cli.specs.Written.{Spell}

-- the items from a place on, of those that stand at all places below some number
number_from : (m a : ℕ) (items : List Placed) → places items ≡ range_with_len a (length items) → length (filter (λ (i : Placed). nat_le m i.place) items) ≡ length items - (m - a)
number_from m a [] dense = omega arith
number_from m a (x ∷ xs) dense =
    let first : x.place ≡ a = cc in
    let behind : places xs ≡ range_with_len (a + 1) (length xs) = cc in
    let more = number_from m (a + 1) xs behind in
    ⊎_elim
    (λ less. let no : nat_le m x.place ≡ false = grind (arith, nat_tests) in
    ap (λ (b : Bool). length (cond b (x ∷ filter (λ (i : Placed). nat_le m i.place) xs) (filter (λ (i : Placed). nat_le m i.place) xs))) no ∙ omega arith)
    (λ le. let yes : nat_le m x.place ≡ true = grind (arith, nat_tests) in
    ap (λ (b : Bool). length (cond b (x ∷ filter (λ (i : Placed). nat_le m i.place) xs) (filter (λ (i : Placed). nat_le m i.place) xs))) yes ∙ omega arith)
    (cases_lt a m)

none_all : {S : Type 0} (taken : S → List Placed) (seats : List S) → AllByRecursion (λ (s : S). taken s ≡ []) seats → flat_map taken seats ≡ []
none_all taken [] none = refl
none_all taken (s ∷ seats) none = ap (λ (l : List Placed). l ++ flat_map taken seats) none.0 ∙ none_all taken seats none.1

-- nothing was taken where no seat took anything
pub none_taken : {S : Type 0} (taken : S → List Placed) (seats : List S) → All (λ (s : S). taken s ≡ []) seats → flat_map taken seats ≡ []
none_taken {S} taken seats none = none_all taken seats (recursion_from_All (λ (s : S). taken s ≡ []) seats none)

none_by : (items others : List Placed) → IsPermutation items others → items ≡ [] → others ≡ []
none_by items others same none = nil_from_length others (length_permutation items others same ∙ ap length none)

module _ (g : Grid) (made taken batches accepted done_taken left shown : List Placed) (a : IsAccepted made accepted) (b : IsPermutation batches taken) (t : IsPermutation taken done_taken) (s : shown ≡ left) where
  abbrev lists : Bool → List Placed
  lists drops = listed_by (mode_by drops) accepted left

  module _ (drops : Bool) (retry : drops ≡ false → RetryOutcome accepted done_taken left) (drop : drops ≡ true → DropOutcome g accepted done_taken left) (none : drops ≡ true → taken ≡ []) where
    outcome_by : (d : Bool) → drops ≡ d → IsOutcome (mode_by d) g accepted done_taken left
    outcome_by false is = retry is
    outcome_by true is = (none_by taken done_taken t (none is), drop is)

    pub outcome : IsOutcome (mode_by drops) g accepted done_taken left
    outcome = outcome_by drops refl

    -- all that is gathered is all that is listed
    gathered_by : (d : Bool) → drops ≡ d → IsPermutation (batches ++ shown) (lists d)
    gathered_by false is =
        let whole : IsPermutation (batches ++ left) made = taken_and_left made batches accepted done_taken left a (IsPermutation-trans _ _ _ b t) (retry is) in
        subst (λ (l : List Placed). IsPermutation (batches ++ l) accepted) (sym s) (IsPermutation-trans (batches ++ left) made accepted whole a.all_made)
    gathered_by true is =
        let nothing : batches ≡ [] = none_by taken batches (IsPermutation-sym batches taken b) (none is) in
        subst (λ (l : List Placed). IsPermutation l left) (sym (ap (λ (l : List Placed). l ++ shown) nothing ∙ s)) (IsPermutation-refl left)

    rising_by : (d : Bool) → drops ≡ d → IsRising (places (lists d))
    rising_by false is = rising_accepted made accepted a
    rising_by true is = subst (λ (l : List Placed). IsRising (places l)) (sym (drop is).rest_left) (rising_filter (is_left g (length accepted) done_taken) accepted (rising_accepted made accepted a))

    rising : IsRising (places (lists drops))
    rising = rising_by drops refl

    gathered : IsPermutation (batches ++ shown) (lists drops)
    gathered = gathered_by drops refl

    pub gathered_apart : IsDistinct nat_eq (places (batches ++ shown))
    gathered_apart = distinct_by_permutation (batches ++ shown) (lists drops) rising gathered

    pub gathered_listed : (list : List Placed) → IsRising (places list) → IsPermutation (batches ++ shown) list → list ≡ lists drops
    gathered_listed list order all =
        same_by_permutation list (lists drops) order rising (IsPermutation-trans list (batches ++ shown) (lists drops) (IsPermutation-sym (batches ++ shown) list all) gathered)

    all_by : (P : Placed → Type 0) → All P accepted → (d : Bool) → drops ≡ d → All P (lists d)
    all_by P all false is = all
    all_by P all true is = subst (All P) (sym (drop is).rest_left) (All-filter (is_left g (length accepted) done_taken) P accepted all)

    -- what is so of all that was made is so of all that is listed
    pub all_listed : (P : Placed → Type 0) → All P made → All P (lists drops)
    all_listed P all = all_by P (All-permutation P made accepted a.all_made all) drops refl

    enough_by : IsWithinLimits g → (d : Bool) → drops ≡ d → min (length accepted) ((g.blocks - 1) * g.size) ≤ length (lists d)
    enough_by limits false is = omega arith
    enough_by limits true is =
        let n : ℕ = length accepted in
        let test : (i : Placed) → is_left g n done_taken i ≡ nat_le (low g n) i.place =
        λ i. ap (λ (l : List Placed). is_left g n l i) (none_by taken done_taken t (none is)) ∙ and-true (nat_le (low g n) i.place) in
        let count : length left ≡ n - (low g n - 0) = ap length ((drop is).rest_left ∙ filter_agree (is_left g n done_taken) (λ (i : Placed). nat_le (low g n) i.place) test accepted) ∙ number_from (low g n) 0 accepted a.no_gap in
        let keeps = low_keeps g n limits in omega arith

    -- never fewer are listed than all blocks but one hold
    pub enough : IsWithinLimits g → min (length accepted) ((g.blocks - 1) * g.size) ≤ length (lists drops)
    enough limits = enough_by limits drops refl

pub spans_below : (workers : ℕ) (list : List Placed) → workers ≤ MOST_WORKERS → All (λ (i : Placed). IsSpanOfSome workers i.words) list → All (λ (i : Placed). IsSpanOfSome MOST_WORKERS i.words) list
spans_below workers list most spans k d less = let s = spans k d less in record { event = s.event; tid_some = s.tid_some; tid_most = let m = s.tid_most in omega arith; spelled = s.spelled }

files_named : (texts : ℕ) (events : List SpanEvent) (items : List Placed) → Spell events items → AllByRecursion (λ (i : Placed). NamesText texts i.words) items → AllByRecursion (HasFile texts) events
files_named texts [] items s a = tt
files_named texts (e ∷ es) [] s a = cc
files_named texts (e ∷ es) (i ∷ is) s a =
    let h : spelling e ≡ i.words = cc in let t : map spelling es ≡ map (λ (x : Placed). x.words) is = cc in
    (a.0 e (sym h), files_named texts es is t a.1)

-- the events that entries spell name texts that there are
pub files_there : (texts : ℕ) (events : List SpanEvent) (list : List Placed) → All (λ (i : Placed). NamesText texts i.words) list → Spell events list → All (HasFile texts) events
files_there texts events list named s = All-from_recursion (HasFile texts) events (files_named texts events list s (recursion_from_All (λ (i : Placed). NamesText texts i.words) list named))

-- events that these entries spell are their spans
pub spelled : (events : List SpanEvent) (items : List Placed) → Spell events items → events ≡ events_of items
spelled [] [] s = refl
spelled [] (i ∷ is) s = cc
spelled (e ∷ es) [] s = cc
spelled (e ∷ es) (i ∷ is) s =
    let h : spelling e ≡ i.words = cc in let t : map spelling es ≡ map (λ (x : Placed). x.words) is = cc in
    let first : e ≡ event_of i.words = sym (event_of-spelling e) ∙ ap event_of h in
    let rest = spelled es is t in
    λ k. first k ∷ rest k

seats_within : (most workers : ℕ) (few : Bool) → 1 ≤ workers → workers ≤ 255 → (1 ≤ (if few then 1 else workers + 1)) × ((if few then 1 else workers + 1) ≤ 1024)
seats_within most workers true some most_workers = (omega arith, omega arith)
seats_within most workers false some most_workers = (omega arith, omega arith)

seats_one_or_all : (workers n : ℕ) (few : Bool) → n ≡ (if few then 1 else workers + 1) → (n ≡ 1) ⊎ (n ≡ workers + 1)
seats_one_or_all workers n true e = inl e
seats_one_or_all workers n false e = inr e

-- there is one seat, or one for each worker and one more
pub seats_asked : {S : Type 0} (number_of : S → ℕ) (seats : List S) (most workers n : ℕ) → map number_of seats ≡ numbers_below n → n ≡ seats_for most workers → (length seats ≡ 1) ⊎ (length seats ≡ workers + 1)
seats_asked number_of seats most workers n e is =
    let len : length seats ≡ n = sym (length-map seats number_of) ∙ ap (λ (t : List ℕ). length t) e ∙ length-range_with_len 0 n in
    seats_one_or_all workers (length seats) (nat_le most 1) (len ∙ is)

-- the shape that a run asks for is one
pub shape_within : (options : Options) (most : ℕ) → command.IsWithinLimits options → IsWithinLimits (shape_for (asked_of options) most)
shape_within options most limits = let seats = seats_within most options.workers (nat_le most 1) limits.some_workers limits.most_workers in record {
  blocks_from = limits.some_blocks;
  blocks_to = limits.few_blocks;
  size_from = limits.some_size;
  size_to = limits.small_size;
  width_from = omega arith;
  width_to = omega arith;
  seats_from = seats.0;
  seats_to = seats.1;
}
