-- The words of a text are its ranges that are words, in order.
use Rattle.std.proofs.Common.{◌≡◌, ℕ, zero, suc, ◌+◌, ◌-◌, ◌<◌, ◌≤◌, Bool, true, false, not, List, [], ◌∷◌, map, length, get_or, take, drop, refl, sym, ap, ◌∙◌, subst, inl, inr, arith}
use Rattle.std.specs.List.{slice_split, onto_first, filter, AllByRecursion}
use Rattle.std.proofs.lemmas.Bool.{false≢true}
use Rattle.word_text.specs.Words.{is_separator, is_nonempty, words_of, IsWord, AreWords, HasRange, InOrder, cut}
use Rattle.word_text.proofs.Splits.{words_of-gap}

-- ---- one byte more in front
module _ (x : ℕ) (xs : List ℕ) where
  later : (i j : ℕ) → IsWord xs i j → (i ≡ 0 → is_separator x ≡ true) → IsWord (x ∷ xs) (suc i) (suc j)
  later i j w start = record {
    nonempty = omega (arith, w.nonempty);
    within = omega (arith, w.within);
    unbroken = unbroken;
    begins = begins;
    ends = λ h. w.ends (omega arith);
  }
    where
      unbroken : (k : ℕ) → suc i ≤ k → k < suc j → is_separator (get_or (x ∷ xs) k 0) ≡ false
      unbroken zero a b = absurd (omega arith)
      unbroken (suc k) a b = w.unbroken k (omega arith) (omega arith)

      begins : (k : ℕ) → k + 1 ≡ suc i → is_separator (get_or (x ∷ xs) k 0) ≡ true
      begins zero e = start (omega arith)
      begins (suc k) e = w.begins k (omega arith)

  earlier : (i j : ℕ) → IsWord (x ∷ xs) (suc i) (suc j) → IsWord xs i j
  earlier i j w = record {
    nonempty = omega (arith, w.nonempty);
    within = omega (arith, w.within);
    unbroken = λ k a b. w.unbroken (suc k) (omega arith) (omega arith);
    begins = λ k e. w.begins (suc k) (omega arith);
    ends = λ h. w.ends (omega arith);
  }

  longer : (j : ℕ) → is_separator x ≡ false → IsWord xs 0 j → IsWord (x ∷ xs) 0 (suc j)
  longer j solid w = record {
    nonempty = omega arith;
    within = omega (arith, w.within);
    unbroken = unbroken;
    begins = λ k e. absurd (omega arith);
    ends = λ h. w.ends (omega arith);
  }
    where
      unbroken : (k : ℕ) → 0 ≤ k → k < suc j → is_separator (get_or (x ∷ xs) k 0) ≡ false
      unbroken zero a b = solid
      unbroken (suc k) a b = w.unbroken k (omega arith) (omega arith)

  shorter : (j : ℕ) → 0 < j → IsWord (x ∷ xs) 0 (suc j) → IsWord xs 0 j
  shorter j some w = record {
    nonempty = some;
    within = omega (arith, w.within);
    unbroken = λ k a b. w.unbroken (suc k) (omega arith) (omega arith);
    begins = λ k e. absurd (omega arith);
    ends = λ h. w.ends (omega arith);
  }

  single : is_separator x ≡ false → (0 < length xs → is_separator (get_or xs 0 0) ≡ true) → IsWord (x ∷ xs) 0 1
  single solid stop = record {
    nonempty = omega arith;
    within = omega arith;
    unbroken = unbroken;
    begins = λ k e. absurd (omega arith);
    ends = λ h. stop (omega arith);
  }
    where
      unbroken : (k : ℕ) → 0 ≤ k → k < 1 → is_separator (get_or (x ∷ xs) k 0) ≡ false
      unbroken zero a b = solid
      unbroken (suc k) a b = absurd (omega arith)

-- ---- the ranges
abbrev shift : ℕ × ℕ → ℕ × ℕ
shift r = (suc r.0, suc r.1)

abbrev shifts : List (ℕ × ℕ) → List (ℕ × ℕ)
shifts [] = []
shifts (r ∷ rs) = shift r ∷ shifts rs

abbrev begins_word : List ℕ → Bool
begins_word [] = false
begins_word (y ∷ ys) = not (is_separator y)

has_shift : (i j : ℕ) (rs : List (ℕ × ℕ)) → HasRange (i, j) rs → HasRange (suc i, suc j) (shifts rs)
has_shift i j [] h = h
has_shift i j (r ∷ rs) (inl e) = inl (ap shift e)
has_shift i j (r ∷ rs) (inr h) = inr (has_shift i j rs h)

no_word_at_start : (xs : List ℕ) (j : ℕ) → begins_word xs ≡ false → IsWord xs 0 j → ⊥
no_word_at_start [] j b w = omega (arith, w.nonempty, w.within)
no_word_at_start (y ∷ ys) j b w = false≢true (sym b ∙ ap not (w.unbroken 0 (omega arith) w.nonempty))

-- no range begins at 0 but the first
abbrev AllLater : List (ℕ × ℕ) → Type 0
AllLater rs = AllByRecursion (λ r. 0 < r.0) rs

shifts_later : (rs : List (ℕ × ℕ)) → AllLater (shifts rs)
shifts_later [] = tt
shifts_later (r ∷ rs) = (omega arith, shifts_later rs)

all_shifted : (x : ℕ) (xs : List ℕ) (rs : List (ℕ × ℕ)) → AllByRecursion (λ r. IsWord xs r.0 r.1) rs → ((i j : ℕ) → HasRange (i, j) rs → i ≡ 0 → is_separator x ≡ true) → AllByRecursion (λ r. IsWord (x ∷ xs) r.0 r.1) (shifts rs)
all_shifted x xs [] all start = tt
all_shifted x xs (r ∷ rs) all start = (later x xs r.0 r.1 all.0 (start r.0 r.1 (inl refl)), all_shifted x xs rs all.1 (λ i j h. start i j (inr h)))

word_of : (xs : List ℕ) (rs : List (ℕ × ℕ)) (i j : ℕ) → AllByRecursion (λ r. IsWord xs r.0 r.1) rs → HasRange (i, j) rs → IsWord xs i j
word_of xs [] i j all h = absurd h
word_of xs (r ∷ rs) i j all (inl e) = subst (λ q. IsWord xs q.0 q.1) (sym e) all.0
word_of xs (r ∷ rs) i j all (inr h) = word_of xs rs i j all.1 h

later_than_0 : (rs : List (ℕ × ℕ)) (i j : ℕ) → AllLater rs → HasRange (i, j) rs → 0 < i
later_than_0 [] i j all h = absurd h
later_than_0 (r ∷ rs) i j all (inl e) = subst (λ q. 0 < q.0) (sym e) all.0
later_than_0 (r ∷ rs) i j all (inr h) = later_than_0 rs i j all.1 h

shifts_in_order : (n : ℕ) (rs : List (ℕ × ℕ)) → InOrder n rs → InOrder (suc n) (shifts rs)
shifts_in_order n [] h = tt
shifts_in_order n (r ∷ rs) h =
    let e : suc (r.1 + 1) ≡ suc r.1 + 1 = omega arith in
    (omega (arith, h.0), subst (λ k. InOrder k (shifts rs)) e (shifts_in_order (r.1 + 1) rs h.1))

sooner : (n m : ℕ) (rs : List (ℕ × ℕ)) → n ≤ m → InOrder m rs → InOrder n rs
sooner n m [] le h = tt
sooner n m (r ∷ rs) le h = (omega (arith, h.0), h.1)

not_at_0 : (rs : List (ℕ × ℕ)) → ((j : ℕ) → HasRange (0, j) rs → ⊥) → InOrder 0 rs → InOrder 1 rs
not_at_0 [] none h = tt
not_at_0 ((zero, j) ∷ rs) none h = absurd (none j (inl refl))
not_at_0 ((suc i, j) ∷ rs) none h = (omega arith, h.1)

-- ---- the bytes of the ranges
cut_shift : (x : ℕ) (xs : List ℕ) (r : ℕ × ℕ) → cut (x ∷ xs) (shift r) ≡ cut xs r
cut_shift x xs r = let e : suc r.1 - suc r.0 ≡ r.1 - r.0 = omega arith in ap (λ n. take n (drop r.0 xs)) e

cut_shifts : (x : ℕ) (xs : List ℕ) (rs : List (ℕ × ℕ)) → map (cut (x ∷ xs)) (shifts rs) ≡ map (cut xs) rs
cut_shifts x xs [] = refl
cut_shifts x xs (r ∷ rs) = ap (λ w. w ∷ map (cut (x ∷ xs)) (shifts rs)) (cut_shift x xs r) ∙ ap (λ ws. cut xs r ∷ ws) (cut_shifts x xs rs)

-- the words, where a word goes on or a new one begins
opened : (x : ℕ) (xs : List ℕ) → begins_word xs ≡ false → filter is_nonempty (onto_first x (slice_split is_separator xs)) ≡ (x ∷ []) ∷ words_of xs
opened x [] b = refl
opened x (y ∷ ys) b = by_cases (is_separator y) refl
  where
    by_cases : (s : Bool) → is_separator y ≡ s → filter is_nonempty (onto_first x (slice_split is_separator (y ∷ ys))) ≡ (x ∷ []) ∷ words_of (y ∷ ys)
    by_cases true e = rw e refl
    by_cases false e = absurd (false≢true (sym b ∙ ap not e))

onto_twice : (x y : ℕ) (parts : List (List ℕ)) (w : List ℕ) (ws : List (List ℕ)) → filter is_nonempty (onto_first y parts) ≡ w ∷ ws → filter is_nonempty (onto_first x (onto_first y parts)) ≡ (x ∷ w) ∷ ws
onto_twice x y [] w ws e = cc
onto_twice x y (p ∷ ps) w ws e = cc

extended : (x : ℕ) (xs : List ℕ) (w : List ℕ) (ws : List (List ℕ)) → begins_word xs ≡ true → words_of xs ≡ w ∷ ws → filter is_nonempty (onto_first x (slice_split is_separator xs)) ≡ (x ∷ w) ∷ ws
extended x [] w ws b e = absurd (false≢true b)
extended x (y ∷ ys) w ws b e = by_cases (is_separator y) refl
  where
    by_cases : (s : Bool) → is_separator y ≡ s → filter is_nonempty (onto_first x (slice_split is_separator (y ∷ ys))) ≡ (x ∷ w) ∷ ws
    by_cases true s = absurd (false≢true (sym (ap not s) ∙ b))
    by_cases false s = rw s (onto_twice x y (slice_split is_separator ys) w ws (rw s at e))

-- ---- all together
abbrev BeginsAt0 : List (ℕ × ℕ) → Type 0
BeginsAt0 [] = ⊥
BeginsAt0 (r ∷ rs) = (r.0 ≡ 0) × AllLater rs

record State (xs : List ℕ) (rs : List (ℕ × ℕ)) : Type 0 where
  words : AreWords xs rs
  first : begins_word xs ≡ true → BeginsAt0 rs
  texts : words_of xs ≡ map (cut xs) rs

after_gap : (x : ℕ) (xs : List ℕ) (rs : List (ℕ × ℕ)) → is_separator x ≡ true → State xs rs → State (x ∷ xs) (shifts rs)
after_gap x xs rs s st = record {
  words = record { sound = all_shifted x xs rs st.words.sound (λ i j h z. s); complete = complete; order = sooner 0 1 (shifts rs) (omega arith) (shifts_in_order 0 rs st.words.order) };
  first = λ b. absurd (false≢true (sym (ap not s) ∙ b));
  texts = words_of-gap x xs s ∙ st.texts ∙ sym (cut_shifts x xs rs);
}
  where
    complete : (i j : ℕ) → IsWord (x ∷ xs) i j → HasRange (i, j) (shifts rs)
    complete zero j w = absurd (false≢true (sym (w.unbroken 0 (omega arith) w.nonempty) ∙ s))
    complete (suc i) zero w = absurd (omega (arith, w.nonempty))
    complete (suc i) (suc j) w = has_shift i j rs (st.words.complete i j (earlier x xs i j w))

stops : (xs : List ℕ) → begins_word xs ≡ false → 0 < length xs → is_separator (get_or xs 0 0) ≡ true
stops [] b h = absurd (omega arith)
stops (y ∷ ys) b h = by_cases (is_separator y) refl
  where
    by_cases : (s : Bool) → is_separator y ≡ s → is_separator y ≡ true
    by_cases true e = e
    by_cases false e = absurd (false≢true (sym b ∙ ap not e))

goes_on : (xs : List ℕ) → begins_word xs ≡ true → (0 < length xs → is_separator (get_or xs 0 0) ≡ true) → ⊥
goes_on [] b h = false≢true b
goes_on (y ∷ ys) b h = false≢true (sym (ap not (h (omega arith))) ∙ b)

solid_split : (x : ℕ) (xs : List ℕ) → is_separator x ≡ false → words_of (x ∷ xs) ≡ filter is_nonempty (onto_first x (slice_split is_separator xs))
solid_split x xs s = rw s refl

one_byte : (x : ℕ) (xs : List ℕ) (rs : List (ℕ × ℕ)) → is_separator x ≡ false → begins_word xs ≡ false → State xs rs → State (x ∷ xs) ((0, 1) ∷ shifts rs)
one_byte x xs rs s b st = record {
  words = record {
    sound = (single x xs s (stops xs b), all_shifted x xs rs st.words.sound (λ i j h z. absurd (no_word_at_start xs j b (subst (λ k. IsWord xs k j) z (word_of xs rs i j st.words.sound h)))));
    complete = complete;
    order = (omega arith, shifts_in_order 1 rs (not_at_0 rs (λ j h. no_word_at_start xs j b (word_of xs rs 0 j st.words.sound h)) st.words.order));
  };
  first = λ _. (refl, shifts_later rs);
  texts = solid_split x xs s ∙ opened x xs b ∙ ap (λ ws. (x ∷ []) ∷ ws) (st.texts ∙ sym (cut_shifts x xs rs));
}
  where
    complete : (i j : ℕ) → IsWord (x ∷ xs) i j → HasRange (i, j) ((0, 1) ∷ shifts rs)
    complete zero zero w = absurd (omega (arith, w.nonempty))
    complete zero (suc zero) w = inl refl
    complete zero (suc (suc j)) w = absurd (no_word_at_start xs (suc j) b (shorter x xs (suc j) (omega arith) w))
    complete (suc i) zero w = absurd (omega (arith, w.nonempty))
    complete (suc i) (suc j) w = inr (has_shift i j rs (st.words.complete i j (earlier x xs i j w)))

one_more_byte : (x : ℕ) (xs : List ℕ) (r : ℕ × ℕ) (rs : List (ℕ × ℕ)) → is_separator x ≡ false → begins_word xs ≡ true → State xs (r ∷ rs) → State (x ∷ xs) ((0, suc r.1) ∷ shifts rs)
one_more_byte x xs r rs s b st = record {
  words = record {
    sound = (longer x xs r.1 s (subst (λ k. IsWord xs k r.1) at.0 st.words.sound.0), all_shifted x xs rs st.words.sound.1 (λ i j h z. let p : 0 < i = later_than_0 rs i j at.1 h in absurd (omega arith)));
    complete = complete;
    order = (omega arith, subst (λ k. InOrder k (shifts rs)) next (shifts_in_order (r.1 + 1) rs st.words.order.1));
  };
  first = λ _. (refl, shifts_later rs);
  texts = solid_split x xs s ∙ extended x xs (cut xs r) (map (cut xs) rs) b st.texts ∙ ap (λ w. (x ∷ w) ∷ map (cut xs) rs) whole ∙ ap (λ ws. (x ∷ take r.1 xs) ∷ ws) (sym (cut_shifts x xs rs)) ∙ ap (λ n. take n (x ∷ xs) ∷ map (cut (x ∷ xs)) (shifts rs)) last;
}
  where
    at : (r.0 ≡ 0) × AllLater rs
    at = st.first b

    next : suc (r.1 + 1) ≡ suc r.1 + 1
    next = omega arith

    last : suc r.1 ≡ suc r.1 - 0
    last = omega arith

    whole : cut xs r ≡ take r.1 xs
    whole = let e : r.1 - r.0 ≡ r.1 = omega (arith, at.0) in ap (λ k. take (r.1 - r.0) (drop k xs)) at.0 ∙ ap (λ n. take n xs) e

    in_rest : (i j : ℕ) → HasRange (suc i, j) (r ∷ rs) → HasRange (suc i, j) rs
    in_rest i j (inl e) = let z : suc i ≡ r.0 = ap (λ q. q.0) e in absurd (omega (arith, at.0))
    in_rest i j (inr h) = h

    from_0 : (j : ℕ) → HasRange (0, j) (r ∷ rs) → HasRange (0, suc j) ((0, suc r.1) ∷ shifts rs)
    from_0 j (inl e) = inl (ap (λ q. (0, suc q.1)) e)
    from_0 j (inr h) = let p : 0 < 0 = later_than_0 rs 0 j at.1 h in absurd (omega arith)

    complete : (i j : ℕ) → IsWord (x ∷ xs) i j → HasRange (i, j) ((0, suc r.1) ∷ shifts rs)
    complete zero zero w = absurd (omega (arith, w.nonempty))
    complete zero (suc zero) w = absurd (goes_on xs b (λ h. w.ends (omega arith)))
    complete zero (suc (suc j)) w = from_0 (suc j) (st.words.complete 0 (suc j) (shorter x xs (suc j) (omega arith) w))
    complete (suc zero) j w = absurd (false≢true (sym s ∙ w.begins 0 (omega arith)))
    complete (suc (suc i)) zero w = absurd (omega (arith, w.nonempty))
    complete (suc (suc i)) (suc j) w = inr (has_shift (suc i) j rs (in_rest i j (st.words.complete (suc i) j (earlier x xs (suc i) j w))))

step : (x : ℕ) (xs : List ℕ) (rs : List (ℕ × ℕ)) → State xs rs → (rs' : List (ℕ × ℕ)) × State (x ∷ xs) rs'
step x xs rs st = by_cases (is_separator x) (begins_word xs) rs refl refl st
  where
    by_cases : (s b : Bool) (qs : List (ℕ × ℕ)) → is_separator x ≡ s → begins_word xs ≡ b → State xs qs → (rs' : List (ℕ × ℕ)) × State (x ∷ xs) rs'
    by_cases true b qs e f t = (shifts qs, after_gap x xs qs e t)
    by_cases false false qs e f t = ((0, 1) ∷ shifts qs, one_byte x xs qs e f t)
    by_cases false true [] e f t = absurd (t.first f)
    by_cases false true (q ∷ qs) e f t = ((0, suc q.1) ∷ shifts qs, one_more_byte x xs q qs e f t)

state_of : (text : List ℕ) → (ranges : List (ℕ × ℕ)) × State text ranges
state_of [] = ([], record { words = record { sound = tt; complete = λ i j w. absurd (omega (arith, w.nonempty, w.within)); order = tt }; first = λ b. absurd (false≢true b); texts = refl })
state_of (x ∷ xs) = let before = state_of xs in step x xs before.0 before.1

pub words_are_ranges : (text : List ℕ) → (ranges : List (ℕ × ℕ)) × AreWords text ranges × (words_of text ≡ map (cut text) ranges)
words_are_ranges text = let st = state_of text in (st.0, st.1.words, st.1.texts)
