-- What the seats of a run made is what its closed queue had accepted.
use Rattle.std.proofs.Common.{◌≡◌, ℕ, zero, suc, ◌+◌, ◌<◌, List, [], ◌∷◌, ◌++◌, length, get_or, refl, sym, ap, subst, ◌∙◌, arith, inl, inr}
use Rattle.std.specs.Prelude.{Bool, true, false, cond, filter, flat_map, Option, IsPermutation}
use Rattle.std.specs.List.{Contains, range_with_len}
use Rattle.std.proofs.lemmas.List.Elements.{All-contains, All-contains_itself, All-filter, filter_passes}
use Rattle.std.proofs.lemmas.List.Sorted.{All-permutation, Contains-permutation, IsPermutation-sym}
use mathlib.Core.Bool.{true≢false}
use mathlib.Core.Logic.{◌⊎◌}
use Rattle.flow_io.specs.Clock.{Ticks}
use Rattle.rail.specs.declared.entry.Placed.{Placed}
use Rattle.rail.specs.Items.{IsRising, places}
use Rattle.rail.specs.Outcome.{IsAccepted, numbers_below}
use Rattle.rail.proofs.Rising.{head_or_rest, here, later, rising_accepted, rising_filter, rising_same}
use Rattle.span_recorder.specs.Events.{events_of}
use Rattle.word_text.specs.declared.plan.Piece.{Piece}
use Rattle.word_workers.specs.Trace.{HasSpans, IsSpanOfSome, RunMakes, RunTrace, is_of, pieces_by, pieces_in}
use Rattle.word_workers.proofs.Owners.{spans_pieces}
use Rattle.word_workers.proofs.Ranges.{flat_map-get_or}

-- an element that passes the test is kept
kept_by : (p : Placed → Bool) (y : Placed) (zs : List Placed) (x : Placed) (b : Bool) → p x ≡ true → p y ≡ b → (y ≡ x) ⊎ Contains zs x → Contains (cond b (y ∷ zs) zs) x
kept_by p y zs x true t e (inl h) = subst (Contains (y ∷ zs)) h (here y zs)
kept_by p y zs x true t e (inr h) = later y x zs h
kept_by p y zs x false t e (inl h) = absurd (true≢false (sym t ∙ ap p (sym h) ∙ e))
kept_by p y zs x false t e (inr h) = h

or_in : {A B C : Type 0} → (B → C) → A ⊎ B → A ⊎ C
or_in f (inl a) = inl a
or_in f (inr b) = inr (f b)

kept : (p : Placed → Bool) (xs : List Placed) (x : Placed) → p x ≡ true → Contains xs x → Contains (filter p xs) x
kept p [] x t h = absurd (let l = h.1 in omega arith)
kept p (y ∷ ys) x t h = kept_by p y (filter p ys) x (p y) t refl (or_in (kept p ys x t) (head_or_rest x y ys h))

filter_in : (p : Placed → Bool) (xs ys : List Placed) (x : Placed) → IsPermutation xs ys → Contains (filter p xs) x → Contains (filter p ys) x
filter_in p xs ys x perm h =
    let passes : p x ≡ true = All-contains (λ (y : Placed). p y ≡ true) (filter p xs) x (filter_passes p xs) h in
    let stands : Contains xs x = All-contains (Contains xs) (filter p xs) x (All-filter p (Contains xs) xs (All-contains_itself xs)) h in
    kept p ys x passes (Contains-permutation xs ys x perm stands)

-- what a test leaves of all that was accepted, in order, is what it leaves of all that was made, where that is in order
filter_accepted : (p : Placed → Bool) (made accepted : List Placed) → IsAccepted made accepted → IsRising (places (filter p made)) → filter p accepted ≡ filter p made
filter_accepted p made accepted a r =
    rising_same (filter p accepted) (filter p made) (rising_filter p accepted (rising_accepted made accepted a)) r
    (λ x. filter_in p accepted made x (IsPermutation-sym made accepted a.all_made))
    (λ x. filter_in p made accepted x a.all_made)

flat_map-same_below : {X : Type 0} (f g : ℕ → List X) (a n : ℕ) → ((k : ℕ) → k < a + n → f k ≡ g k) → flat_map f (range_with_len a n) ≡ flat_map g (range_with_len a n)
flat_map-same_below f g a zero e = refl
flat_map-same_below f g a (suc n) e =
    ap (λ t. t ++ flat_map f (range_with_len (a + 1) n)) (e a (omega arith)) ∙ ap (λ t. g a ++ t) (flat_map-same_below f g (a + 1) n (λ k lt. e k (omega arith)))

module _ (made accepted : List Placed) (drawn : List (List ℕ)) (workers : ℕ) (plan : List Piece) (texts : List (List ℕ)) (clock : ℕ → Option Ticks) where
  -- the accepted entries of a worker name the pieces that it counted
  pieces_are : (w : ℕ) → HasSpans plan texts (clock w) w (get_or drawn w []) accepted → pieces_by w accepted ≡ get_or drawn w []
  pieces_are w h = ap pieces_in h.spans ∙ spans_pieces plan texts w h.readings (get_or drawn w [])

  spans_accepted : (w : ℕ) → w < workers → IsAccepted made accepted → RunMakes made drawn workers plan texts clock → HasSpans plan texts (clock w) w (get_or drawn w []) accepted
  spans_accepted w lt a r =
      let s = r.spans w lt in
      record { readings = s.readings; are_readings = s.are_readings; spans = ap events_of (filter_accepted (is_of w) made accepted a (r.in_order w lt)) ∙ s.spans }

  pub trace_of_run : RunMakes made drawn workers plan texts clock → IsAccepted made accepted → RunTrace accepted workers plan texts clock
  trace_of_run r a =
      let spans = λ (w : ℕ) (lt : w < workers). spans_accepted w lt a r in
      let named = λ (w : ℕ) (lt : w < workers). pieces_are w (spans w lt) in
      let all : flat_map (λ (w : ℕ). pieces_by w accepted) (numbers_below workers) ≡ flat_map (λ (ns : List ℕ). ns) drawn =
      flat_map-same_below (λ (w : ℕ). pieces_by w accepted) (λ (w : ℕ). get_or drawn w []) 0 workers (λ k lt. named k (omega arith))
      ∙ ap (λ (n : ℕ). flat_map (λ (w : ℕ). get_or drawn w []) (range_with_len 0 n)) (sym r.number) ∙ flat_map-get_or (λ (ns : List ℕ). ns) drawn [] in
      record {
        all_spans = All-permutation (λ (i : Placed). IsSpanOfSome workers i.words) made accepted a.all_made r.all_spans;
        rising = λ w lt. subst IsRising (sym (named w lt)) (r.rising w [] (let n = r.number in omega arith));
        each_once = subst (λ (t : List ℕ). IsPermutation t (numbers_below (length plan))) (sym all) r.each_once;
        spans = λ w lt. subst (λ (ns : List ℕ). HasSpans plan texts (clock w) w ns accepted) (sym (named w lt)) (spans w lt);
      }
