-- The pieces of a text: where they end, and that they have its bytes and its words.
use Rattle.std.proofs.Common.{◌≡◌, ℕ, zero, suc, ◌+◌, ◌-◌, ◌*◌, ◌<◌, ◌≤◌, min, Bool, true, false, cond, not, List, [], ◌∷◌, ◌++◌, length, get_or, take, drop, refl, sym, ap, ◌∙◌, subst, arith, take_all, drop_of_length-le, drop-cons, take-append-drop, length-drop, get_or-drop, append-nil, append_assoc, length-append, take_at, add-zero, slice_index_or, ⊎_elim}
use Rattle.std.specs.List.{slice_split, onto_first, filter, flat_map, position_or_len, All}
use Rattle.std.proofs.lemmas.Bool.{cases_lt}
use Rattle.std.proofs.lemmas.List.{drop-drop}
use Rattle.std.proofs.lemmas.List.Elements.{filter-append, All-append, All-nil, All-cons, All-head, All-tail, All-weaker}
use Rattle.std.proofs.lemmas.Grind.{flat_map-append}
use Rattle.std.proofs.lemmas.List.Sums.{prefix_len-le-length, fails_before_first, passes_at_first}
use Rattle.std.proofs.Math.Nat.{suc-mul}
use Rattle.word_text.specs.Words.{is_separator, is_nonempty, words_of}
use Rattle.word_text.specs.Pieces.{EndsAt, ArePieces, LiesIn, piece_len, pieces_from, pieces_of, piece_bytes, plan_bytes, plan_from, plan_of}
use Rattle.word_text.specs.declared.plan.Piece.{Piece}
use Rattle.word_text.proofs.Splits.{words_of-gap}

-- ---- a text that is cut before a separator
onto_first_split : (b : ℕ) (u : List ℕ) (qs : List (List ℕ)) → onto_first b (slice_split is_separator u ++ qs) ≡ onto_first b (slice_split is_separator u) ++ qs
onto_first_split b [] qs = refl
onto_first_split b (x ∷ xs) qs = by_cases (is_separator x) (slice_split is_separator xs)
  where
    by_cases : (s : Bool) (ps : List (List ℕ)) → onto_first b (cond s ([] ∷ ps) (onto_first x ps) ++ qs) ≡ onto_first b (cond s ([] ∷ ps) (onto_first x ps)) ++ qs
    by_cases true ps = refl
    by_cases false [] = refl
    by_cases false (p ∷ ps) = refl

slice_split-append : (u : List ℕ) (s : ℕ) (rest : List ℕ) → is_separator s ≡ true → slice_split is_separator (u ++ s ∷ rest) ≡ slice_split is_separator u ++ slice_split is_separator rest
slice_split-append [] s rest e = rw e refl
slice_split-append (b ∷ bs) s rest e =
    let again : slice_split is_separator (bs ++ s ∷ rest) ≡ slice_split is_separator bs ++ slice_split is_separator rest = slice_split-append bs s rest e in
    elim (is_separator b) as (λ t. cond t ([] ∷ slice_split is_separator (bs ++ s ∷ rest)) (onto_first b (slice_split is_separator (bs ++ s ∷ rest)))
    ≡ cond t ([] ∷ slice_split is_separator bs) (onto_first b (slice_split is_separator bs)) ++ slice_split is_separator rest) [
      | true ↦ ap (λ ps. [] ∷ ps) again
      | false ↦ ap (onto_first b) again ∙ onto_first_split b bs (slice_split is_separator rest)
    ]

words_of-append : (u : List ℕ) (s : ℕ) (rest : List ℕ) → is_separator s ≡ true → words_of (u ++ s ∷ rest) ≡ words_of u ++ words_of (s ∷ rest)
words_of-append u s rest e =
    ap (filter is_nonempty) (slice_split-append u s rest e) ∙ filter-append is_nonempty (slice_split is_separator u) (slice_split is_separator rest)
    ∙ ap (λ ws. words_of u ++ ws) (sym (words_of-gap s rest e))

-- the words of a text that is cut at its end or before a separator
pub words_of-cut : (text : List ℕ) (n : ℕ) → (n < length text → is_separator (get_or text n 0) ≡ true) → words_of text ≡ words_of (take n text) ++ words_of (drop n text)
words_of-cut text n stop = ⊎_elim inside past (cases_lt n (length text))
  where
    inside : n < length text → words_of text ≡ words_of (take n text) ++ words_of (drop n text)
    inside lt =
        let cut : drop n text ≡ get_or text n 0 ∷ drop (suc n) text = drop-cons text n 0 lt in
        let whole : take n text ++ (get_or text n 0 ∷ drop (suc n) text) ≡ text = ap (λ r. take n text ++ r) (sym cut) ∙ take-append-drop n text in
        ap words_of (sym whole) ∙ words_of-append (take n text) _ _ (stop lt) ∙ ap (λ r. words_of (take n text) ++ words_of r) (sym cut)

    past : length text ≤ n → words_of text ≡ words_of (take n text) ++ words_of (drop n text)
    past ge =
        let none : drop n text ≡ [] = drop_of_length-le text ge in
        let all : take n text ≡ text = take_all n text ge in
        ap words_of (sym all) ∙ sym (append-nil (words_of (take n text))) ∙ ap (λ r. words_of (take n text) ++ words_of r) (sym none)

-- ---- the first piece
abbrev stop_at : ℕ → List ℕ → ℕ
stop_at k rest = position_or_len is_separator (drop (min k (length rest)) rest)

pub piece_len-le : (k : ℕ) (rest : List ℕ) → piece_len k rest ≤ length rest
piece_len-le k rest = omega (arith, prefix_len-le-length (λ b. not (is_separator b)) (drop (min k (length rest)) rest), length-drop (min k (length rest)) rest)

pub piece_len-some : (k : ℕ) (rest : List ℕ) → 0 < k → 0 < length rest → 0 < piece_len k rest
piece_len-some k rest pos some = omega arith

stops_there : (k : ℕ) (rest : List ℕ) → piece_len k rest < length rest → is_separator (get_or rest (piece_len k rest) 0) ≡ true
stops_there k rest lt =
    let m = min k (length rest) in
    let h : stop_at k rest < length (drop m rest) = omega (arith, length-drop m rest) in
    ap is_separator (sym (get_or-drop m rest (stop_at k rest) 0)) ∙ passes_at_first is_separator (drop m rest) 0 h

goes_on_before : (k : ℕ) (rest : List ℕ) (i : ℕ) → min k (length rest) ≤ i → i < piece_len k rest → is_separator (get_or rest i 0) ≡ false
goes_on_before k rest i long lt =
    let m = min k (length rest) in
    let j = i - m in
    let h : j < stop_at k rest = omega arith in
    let e : i ≡ m + j = omega arith in
    ap (λ n. is_separator (get_or rest n 0)) e ∙ ap is_separator (sym (get_or-drop m rest j 0)) ∙ fails_before_first is_separator (drop m rest) j 0 h

ends_there : (text : List ℕ) (k a : ℕ) → a ≤ length text → EndsAt text k a (a + piece_len k (drop a text))
ends_there text k a le =
    let rest = drop a text in
    let l = piece_len k rest in
    let left : length rest ≡ length text - a = length-drop a text in
    record {
      long = omega arith;
      within = omega (arith, piece_len-le k rest);
      stops = λ h. ap is_separator (sym (get_or-drop a text l 0)) ∙ stops_there k rest (omega arith);
      least = λ i long lt.
          let j = i - a in
          let e : i ≡ a + j = omega arith in
          ap (λ n. is_separator (get_or text n 0)) e ∙ ap is_separator (sym (get_or-drop a text j 0)) ∙ goes_on_before k rest j (omega arith) (omega arith);
    }

-- ---- the bound on the number of pieces
pub pieces_from-nil : (n file k a : ℕ) → pieces_from n file k a [] ≡ []
pieces_from-nil zero file k a = refl
pieces_from-nil (suc n) file k a = refl

enough : (n m file k a : ℕ) (rest : List ℕ) → 0 < k → length rest ≤ n → length rest ≤ m → pieces_from n file k a rest ≡ pieces_from m file k a rest
enough n m file k a [] pos h h' = pieces_from-nil n file k a ∙ sym (pieces_from-nil m file k a)
enough zero m file k a (b ∷ bs) pos h h' = absurd (omega arith)
enough (suc n) zero file k a (b ∷ bs) pos h h' = absurd (omega arith)
enough (suc n) (suc m) file k a (b ∷ bs) pos h h' =
    let l = piece_len k (b ∷ bs) in
    let some : 0 < l = piece_len-some k (b ∷ bs) pos (omega arith) in
    let left : length (drop l (b ∷ bs)) ≡ length (b ∷ bs) - l = length-drop l (b ∷ bs) in
    ap (λ ps. record { file = file; start = a; end = a + l } ∷ ps) (enough n m file k (a + l) (drop l (b ∷ bs)) pos (omega arith) (omega arith))

-- the pieces from a on
abbrev pub left_pieces : List ℕ → ℕ → ℕ → ℕ → List Piece
left_pieces text file k a = pieces_from (length (drop a text)) file k a (drop a text)

step : (file k a : ℕ) (rest : List ℕ) → 0 < k → 0 < length rest
    → pieces_from (length rest) file k a rest ≡ record { file = file; start = a; end = a + piece_len k rest } ∷ pieces_from (length (drop (piece_len k rest) rest)) file k (a + piece_len k rest) (drop (piece_len k rest) rest)
step file k a [] pos some = absurd (omega arith)
step file k a (b ∷ bs) pos some =
    let l = piece_len k (b ∷ bs) in
    let more : 0 < l = piece_len-some k (b ∷ bs) pos some in
    let left : length (drop l (b ∷ bs)) ≡ length (b ∷ bs) - l = length-drop l (b ∷ bs) in
    ap (λ ps. record { file = file; start = a; end = a + l } ∷ ps) (enough (length bs) (length (drop l (b ∷ bs))) file k (a + l) (drop l (b ∷ bs)) pos (omega arith) (omega arith))

-- the piece at a, and those behind it
pub left_pieces-cons : (text : List ℕ) (file k a : ℕ) → 0 < k → a < length text
    → left_pieces text file k a ≡ record { file = file; start = a; end = a + piece_len k (drop a text) } ∷ left_pieces text file k (a + piece_len k (drop a text))
left_pieces-cons text file k a pos lt =
    let l = piece_len k (drop a text) in
    step file k a (drop a text) pos (omega (arith, length-drop a text))
    ∙ ap (λ rest. record { file = file; start = a; end = a + l } ∷ pieces_from (length rest) file k (a + l) rest) (drop-drop l a text)

pub left_pieces-nil : (text : List ℕ) (file k a : ℕ) → length text ≤ a → left_pieces text file k a ≡ []
left_pieces-nil text file k a ge = ap (λ rest. pieces_from (length rest) file k a rest) (drop_of_length-le text ge)

-- ---- what holds of all pieces, from the first on
-- the piece is of the text of this number
record IsOf (text : List ℕ) (number : ℕ) (p : Piece) : Type 0 where
  file : p.file ≡ number
  order : p.start ≤ p.end
  within : p.end ≤ length text

module _ (text : List ℕ) (file k : ℕ) (pos : 0 < k) where
  are_pieces_from : (n a : ℕ) (rest : List ℕ) → rest ≡ drop a text → a ≤ length text → length rest ≤ n → ArePieces text file k a (pieces_from n file k a rest)
  are_pieces_from n a [] e le h = let left : length text - a ≡ 0 = sym (length-drop a text) ∙ ap length (sym e) in rw (pieces_from-nil n file k a) (omega arith)
  are_pieces_from zero a (b ∷ bs) e le h = absurd (omega arith)
  are_pieces_from (suc n) a (b ∷ bs) e le h =
      let l = piece_len k (b ∷ bs) in
      let some : 0 < l = piece_len-some k (b ∷ bs) pos (omega arith) in
      let fits : l ≤ length (b ∷ bs) = piece_len-le k (b ∷ bs) in
      let all : length (b ∷ bs) ≡ length text - a = ap length e ∙ length-drop a text in
      let left : length (drop l (b ∷ bs)) ≡ length (b ∷ bs) - l = length-drop l (b ∷ bs) in (
        omega arith,
        refl,
        refl,
        subst (λ r. EndsAt text k a (a + piece_len k r)) (sym e) (ends_there text k a le),
        are_pieces_from n (a + l) (drop l (b ∷ bs)) (ap (drop l) e ∙ drop-drop l a text) (omega arith) (omega arith),
      )

  pub are_pieces : ArePieces text file k 0 (pieces_of text file k)
  are_pieces = are_pieces_from (length text) 0 text refl (omega arith) (omega arith)

  cut_bytes : (a : ℕ) (rest : List ℕ) (l : ℕ) → rest ≡ drop a text → take ((a + l) - a) (drop a text) ≡ take l rest
  cut_bytes a rest l e = let n : (a + l) - a ≡ l = omega arith in ap (λ i. take i (drop a text)) n ∙ ap (take l) (sym e)

  bytes_from : (n a : ℕ) (rest : List ℕ) → rest ≡ drop a text → length rest ≤ n → flat_map (piece_bytes text) (pieces_from n file k a rest) ≡ rest
  bytes_from n a [] e h = ap (flat_map (piece_bytes text)) (pieces_from-nil n file k a)
  bytes_from zero a (b ∷ bs) e h = absurd (omega arith)
  bytes_from (suc n) a (b ∷ bs) e h =
      let l = piece_len k (b ∷ bs) in
      let some : 0 < l = piece_len-some k (b ∷ bs) pos (omega arith) in
      let left : length (drop l (b ∷ bs)) ≡ length (b ∷ bs) - l = length-drop l (b ∷ bs) in
      ap (λ bytes. bytes ++ flat_map (piece_bytes text) (pieces_from n file k (a + l) (drop l (b ∷ bs)))) (cut_bytes a (b ∷ bs) l e)
      ∙ ap (λ bytes. take l (b ∷ bs) ++ bytes) (bytes_from n (a + l) (drop l (b ∷ bs)) (ap (drop l) e ∙ drop-drop l a text) (omega arith))
      ∙ take-append-drop l (b ∷ bs)

  pub bytes_of_pieces : flat_map (piece_bytes text) (pieces_of text file k) ≡ text
  bytes_of_pieces = bytes_from (length text) 0 text refl (omega arith)

  words_from : (n a : ℕ) (rest : List ℕ) → rest ≡ drop a text → length rest ≤ n → flat_map (λ p. words_of (piece_bytes text p)) (pieces_from n file k a rest) ≡ words_of rest
  words_from n a [] e h = ap (flat_map (λ p. words_of (piece_bytes text p))) (pieces_from-nil n file k a)
  words_from zero a (b ∷ bs) e h = absurd (omega arith)
  words_from (suc n) a (b ∷ bs) e h =
      let l = piece_len k (b ∷ bs) in
      let some : 0 < l = piece_len-some k (b ∷ bs) pos (omega arith) in
      let left : length (drop l (b ∷ bs)) ≡ length (b ∷ bs) - l = length-drop l (b ∷ bs) in
      ap (λ bytes. words_of bytes ++ flat_map (λ p. words_of (piece_bytes text p)) (pieces_from n file k (a + l) (drop l (b ∷ bs)))) (cut_bytes a (b ∷ bs) l e)
      ∙ ap (λ ws. words_of (take l (b ∷ bs)) ++ ws) (words_from n (a + l) (drop l (b ∷ bs)) (ap (drop l) e ∙ drop-drop l a text) (omega arith))
      ∙ sym (words_of-cut (b ∷ bs) l (stops_there k (b ∷ bs)))

  pub words_of_pieces : flat_map (λ p. words_of (piece_bytes text p)) (pieces_of text file k) ≡ words_of text
  words_of_pieces = words_from (length text) 0 text refl (omega arith)

  number_from : (n a : ℕ) (rest : List ℕ) → length rest ≤ n → length (pieces_from n file k a rest) * k < length rest + k
  number_from n a [] h = rw (pieces_from-nil n file k a) (omega arith)
  number_from zero a (b ∷ bs) h = absurd (omega arith)
  number_from (suc n) a (b ∷ bs) h =
      let l = piece_len k (b ∷ bs) in
      let some : 0 < l = piece_len-some k (b ∷ bs) pos (omega arith) in
      let fits : l ≤ length (b ∷ bs) = piece_len-le k (b ∷ bs) in
      let left : length (drop l (b ∷ bs)) ≡ length (b ∷ bs) - l = length-drop l (b ∷ bs) in
      let ih : length (pieces_from n file k (a + l) (drop l (b ∷ bs))) * k < length (drop l (b ∷ bs)) + k = number_from n (a + l) (drop l (b ∷ bs)) (omega arith) in
      let last : length (b ∷ bs) < k → suc (length (pieces_from n file k (a + l) (drop l (b ∷ bs)))) * k < length (b ∷ bs) + k = λ lt.
      let none : drop l (b ∷ bs) ≡ [] = drop_of_length-le (b ∷ bs) (omega arith) in
      let gone : pieces_from n file k (a + l) (drop l (b ∷ bs)) ≡ [] = ap (pieces_from n file k (a + l)) none ∙ pieces_from-nil n file k (a + l) in
      omega (arith, ap (λ ps. suc (length ps) * k) gone) in
      let more : k ≤ length (b ∷ bs) → suc (length (pieces_from n file k (a + l) (drop l (b ∷ bs)))) * k < length (b ∷ bs) + k = λ le. omega (arith, suc-mul (length (pieces_from n file k (a + l) (drop l (b ∷ bs)))) k) in
      ⊎_elim last more (cases_lt (length (b ∷ bs)) k)

  pub number_of_pieces : length (pieces_of text file k) * k < length text + k
  number_of_pieces = number_from (length text) 0 text (omega arith)

  inside_from : (n a : ℕ) (rest : List ℕ) → rest ≡ drop a text → length rest ≤ n → All (IsOf text file) (pieces_from n file k a rest)
  inside_from n a [] e h = rw (pieces_from-nil n file k a) (All-nil (IsOf text file))
  inside_from zero a (b ∷ bs) e h = absurd (omega arith)
  inside_from (suc n) a (b ∷ bs) e h =
      let l = piece_len k (b ∷ bs) in
      let some : 0 < l = piece_len-some k (b ∷ bs) pos (omega arith) in
      let fits : l ≤ length (b ∷ bs) = piece_len-le k (b ∷ bs) in
      let all : length (b ∷ bs) ≡ length text - a = ap length e ∙ length-drop a text in
      let left : length (drop l (b ∷ bs)) ≡ length (b ∷ bs) - l = length-drop l (b ∷ bs) in
      All-cons (IsOf text file) _ _ (record { file = refl; order = omega arith; within = omega arith })
      (inside_from n (a + l) (drop l (b ∷ bs)) (ap (drop l) e ∙ drop-drop l a text) (omega arith))

  pieces_inside : All (IsOf text file) (pieces_of text file k)
  pieces_inside = inside_from (length text) 0 text refl (omega arith)

-- ---- the pieces of several texts
flat_map-same : {A : Type 0} (f g : Piece → List A) (ps : List Piece) → All (λ p. f p ≡ g p) ps → flat_map f ps ≡ flat_map g ps
flat_map-same f g [] all = refl
flat_map-same f g (p ∷ ps) all = ap (λ xs. xs ++ flat_map f ps) (All-head (λ p. f p ≡ g p) p ps all) ∙ ap (λ xs. g p ++ xs) (flat_map-same f g ps (All-tail (λ p. f p ≡ g p) p ps all))

words_of_plan_from : (all : List (List ℕ)) (file k : ℕ) (texts : List (List ℕ)) → 0 < k → drop file all ≡ texts → flat_map (λ p. words_of (plan_bytes all p)) (plan_from file k texts) ≡ flat_map words_of texts
words_of_plan_from all file k [] pos e = refl
words_of_plan_from all file k (text ∷ texts) pos e =
    let here : slice_index_or all file [] ≡ text = sym (ap (λ i. slice_index_or all i []) (add-zero file)) ∙ sym (get_or-drop file all 0 []) ∙ ap (λ ts. slice_index_or ts 0 []) e in
    let behind : drop (file + 1) all ≡ texts = sym (drop-drop 1 file all) ∙ ap (drop 1) e in
    let same : All (λ p. words_of (plan_bytes all p) ≡ words_of (piece_bytes text p)) (pieces_of text file k) =
    All-weaker (IsOf text file) _ (λ p h. ap (λ t. words_of (piece_bytes t p)) (ap (λ i. slice_index_or all i []) h.file ∙ here)) _ (pieces_inside text file k pos) in
    flat_map-append (λ p. words_of (plan_bytes all p)) (pieces_of text file k) (plan_from (file + 1) k texts)
    ∙ ap (λ ws. ws ++ flat_map (λ p. words_of (plan_bytes all p)) (plan_from (file + 1) k texts)) (flat_map-same _ _ (pieces_of text file k) same ∙ words_of_pieces text file k pos)
    ∙ ap (λ ws. words_of text ++ ws) (words_of_plan_from all (file + 1) k texts pos behind)

inside_plan : (all : List (List ℕ)) (file k : ℕ) (texts : List (List ℕ)) → 0 < k → drop file all ≡ texts → All (LiesIn all) (plan_from file k texts)
inside_plan all file k [] pos e = All-nil (LiesIn all)
inside_plan all file k (text ∷ texts) pos e =
    let here : slice_index_or all file [] ≡ text = sym (ap (λ i. slice_index_or all i []) (add-zero file)) ∙ sym (get_or-drop file all 0 []) ∙ ap (λ ts. slice_index_or ts 0 []) e in
    let there : file < length all = omega (arith, ap length e, length-drop file all) in
    let behind : drop (file + 1) all ≡ texts = sym (drop-drop 1 file all) ∙ ap (drop 1) e in
    let mine : All (LiesIn all) (pieces_of text file k) = All-weaker (IsOf text file) (LiesIn all) (λ p h. record {
      file = subst (λ n. n < length all) (sym h.file) there;
      order = h.order;
      within = subst (λ t. p.end ≤ length t) (sym (ap (λ i. slice_index_or all i []) h.file ∙ here)) h.within;
    }) _ (pieces_inside text file k pos) in
    All-append (LiesIn all) (pieces_of text file k) (plan_from (file + 1) k texts) mine (inside_plan all (file + 1) k texts pos behind)

pub plan_inside : (texts : List (List ℕ)) (k : ℕ) → 0 < k → All (LiesIn texts) (plan_of texts k)
plan_inside texts k pos = inside_plan texts 0 k texts pos refl

pub words_of_plan : (texts : List (List ℕ)) (k : ℕ) → 0 < k → flat_map (λ p. words_of (plan_bytes texts p)) (plan_of texts k) ≡ flat_map words_of texts
words_of_plan texts k pos = words_of_plan_from texts 0 k texts pos refl

-- ---- a list that has gained some of these pieces, where those left are still to come
abbrev pub Gains : List Piece → List Piece → List Piece → List Piece → Type 0
Gains old new left all = (done : List Piece) × (new ≡ old ++ done) × (done ++ left ≡ all)

pub gains_next : (old new left all rest : List Piece) (p : Piece) → Gains old new left all → left ≡ p ∷ rest → Gains old (new ++ p ∷ []) rest all
gains_next old new left all rest p g e =
    (g.0 ++ p ∷ [], ap (λ ps. ps ++ p ∷ []) g.1 ∙ append_assoc old g.0 (p ∷ []), append_assoc g.0 (p ∷ []) rest ∙ ap (λ ps. g.0 ++ ps) (sym e) ∙ g.2)

pub gains_length : (old new left all : List Piece) → Gains old new left all → length new + length left ≡ length old + length all
gains_length old new left all g = omega (arith, ap length g.1, length-append old g.0, ap length g.2, length-append g.0 left)

pub gains_take : (old new left all : List Piece) (n : ℕ) → Gains old new left all → length new ≡ n → new ≡ take n (old ++ all)
gains_take old new left all n g e =
    let whole : old ++ all ≡ new ++ left = ap (λ ps. old ++ ps) (sym g.2) ∙ sym (append_assoc old g.0 left) ∙ ap (λ ps. ps ++ left) (sym g.1) in
    sym (ap (take n) whole ∙ take_at new left n e)
