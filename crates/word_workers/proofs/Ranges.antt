-- Numbers of pieces, and the words of the pieces.
use Rattle.std.proofs.Common.{◌≡◌, ℕ, zero, suc, ◌+◌, ◌<◌, ◌≤◌, List, [], ◌∷◌, ◌++◌, length, get_or, refl, sym, ap, subst, ◌∙◌, add-one, zero-add, arith}
use Rattle.std.specs.Prelude.{flat_map, sum_by}
use Rattle.std.specs.List.{All, range_with_len}
use Rattle.std.proofs.lemmas.List.{append-nil}
use Rattle.std.proofs.lemmas.Grind.{flat_map-append}
use Rattle.std.proofs.lemmas.List.Sums.{sum_by-append}
use Rattle.std.proofs.lemmas.List.Concat.{length-flat_map}
use Rattle.std.specs.FinMap as map_of
use Rattle.word_text.specs.Counts.{Numbers, add_all, add_one, total}
use Rattle.word_text.proofs.Totals.{total-add_all, total-empty}
use Rattle.word_text.specs.declared.plan.Piece.{Piece}
use Rattle.word_text.specs.Words.{words_of}
use Rattle.word_text.specs.Pieces.{plan_bytes}
use Rattle.rail.specs.Items.{IsRising}
use Rattle.rail.proofs.Rising.{rising_push}
use Rattle.word_workers.specs.Spans.{plan_words, word_total, words_at}
use Rattle.word_workers.proofs.Numbers.{below_more, sum_by-drawn}

flat_map-range_more : {X : Type 0} (f : ℕ → List X) (a n : ℕ) → flat_map f (range_with_len (a + 1) n) ≡ flat_map (λ k. f (suc k)) (range_with_len a n)
flat_map-range_more f a zero = refl
flat_map-range_more f a (suc n) = ap (λ t. f (a + 1) ++ t) (flat_map-range_more f (a + 1) n) ∙ ap (λ (j : ℕ). f j ++ flat_map (λ k. f (suc k)) (range_with_len (a + 1) n)) (add-one a)

pub flat_map-get_or : {X Y : Type 0} (f : X → List Y) (xs : List X) (d : X) → flat_map (λ k. f (get_or xs k d)) (range_with_len 0 (length xs)) ≡ flat_map f xs
flat_map-get_or f [] d = refl
flat_map-get_or f (x ∷ xs) d = ap (λ t. f x ++ t) (flat_map-range_more (λ k. f (get_or (x ∷ xs) k d)) 0 (length xs) ∙ flat_map-get_or f xs d)

-- the words of all numbers are those of the plan
pub words_of_all : (plan : List Piece) (texts : List (List ℕ)) → flat_map (words_at plan texts) (range_with_len 0 (length plan)) ≡ plan_words plan texts
words_of_all plan texts = flat_map-get_or (λ (p : Piece). words_of (plan_bytes texts p)) plan (record { file = 0; start = 0; end = 0 })

pub add_all-append : (m : Numbers) (xs ys : List (List ℕ)) → add_all m (xs ++ ys) ≡ add_all (add_all m xs) ys
add_all-append m [] ys = refl
add_all-append m (x ∷ xs) ys = add_all-append (add_one m x) xs ys

-- these pieces were counted, and have so many words
pub record IsCountOf (plan : List Piece) (texts : List (List ℕ)) (drawn : List ℕ) (counts : Numbers) (words : ℕ) : Type 0 where
  pub counts_are : counts ≡ add_all map_of.empty (flat_map (words_at plan texts) drawn)
  pub words_are : words ≡ word_total plan texts drawn

pub count_none : (plan : List Piece) (texts : List (List ℕ)) (drawn : List ℕ) (counts : Numbers) → drawn ≡ [] → counts ≡ map_of.empty → IsCountOf plan texts drawn counts 0
count_none plan texts drawn counts none empty =
    let one : IsCountOf plan texts [] counts 0 = record { counts_are = empty; words_are = refl } in
    subst (λ (t : List ℕ). IsCountOf plan texts t counts 0) (sym none) one

pub count_more : (plan : List Piece) (texts : List (List ℕ)) (drawn more : List ℕ) (n : ℕ) (counts new : Numbers) (words total : ℕ) → IsCountOf plan texts drawn counts words
    → new ≡ add_all counts (words_at plan texts n) → total ≡ words + length (words_at plan texts n) → more ≡ drawn ++ n ∷ [] → IsCountOf plan texts more new total
count_more plan texts drawn more n counts new words total c is len e =
    let f : ℕ → ℕ = λ k. length (words_at plan texts k) in
    let split : flat_map (words_at plan texts) (drawn ++ n ∷ []) ≡ flat_map (words_at plan texts) drawn ++ words_at plan texts n =
    flat_map-append (words_at plan texts) drawn (n ∷ []) ∙ ap (λ (t : List (List ℕ)). flat_map (words_at plan texts) drawn ++ t) (append-nil (words_at plan texts n)) in
    let sums : sum_by f (drawn ++ n ∷ []) ≡ sum_by f drawn + f n = sum_by-append f drawn (n ∷ []) ∙ ap (λ (k : ℕ). sum_by f drawn + k) (let one : sum_by f (n ∷ []) ≡ f n = omega arith in one) in
    let all : IsCountOf plan texts (drawn ++ n ∷ []) new total = record {
      counts_are = is ∙ ap (λ (m : Numbers). add_all m (words_at plan texts n)) c.counts_are ∙ sym (add_all-append map_of.empty (flat_map (words_at plan texts) drawn) (words_at plan texts n)) ∙ ap (λ (t : List (List ℕ)). add_all map_of.empty t) (sym split);
      words_are = len ∙ ap (λ (k : ℕ). k + f n) c.words_are ∙ sym sums;
    } in
    subst (λ (t : List ℕ). IsCountOf plan texts t new total) (sym e) all

pub total_count : (plan : List Piece) (texts : List (List ℕ)) (drawn : List ℕ) (counts : Numbers) (words : ℕ) → IsCountOf plan texts drawn counts words → total counts ≡ words
total_count plan texts drawn counts words c =
    ap total c.counts_are ∙ total-add_all map_of.empty (flat_map (words_at plan texts) drawn) ∙ ap (λ (k : ℕ). k + length (flat_map (words_at plan texts) drawn)) total-empty
    ∙ zero-add (length (flat_map (words_at plan texts) drawn)) ∙ length-flat_map (words_at plan texts) drawn ∙ sym c.words_are

-- the words of rising numbers and of one above them are no more than those of the plan
pub words_within : (plan : List Piece) (texts : List (List ℕ)) (drawn : List ℕ) (counts : Numbers) (words n : ℕ) → IsCountOf plan texts drawn counts words → IsRising drawn → All (λ j. j < length plan) drawn → All (λ j. j < n) drawn → n < length plan
    → words + length (words_at plan texts n) ≤ length (plan_words plan texts)
words_within plan texts drawn counts words n c rises below above lt =
    let f : ℕ → ℕ = λ j. length (words_at plan texts j) in
    let more : sum_by f (drawn ++ n ∷ []) ≡ sum_by f drawn + f n = sum_by-append f drawn (n ∷ []) ∙ ap (λ (x : ℕ). sum_by f drawn + x) (let one : sum_by f (n ∷ []) ≡ f n = omega arith in one) in
    let part : sum_by f (drawn ++ n ∷ []) ≤ sum_by f (range_with_len 0 (length plan)) =
    sum_by-drawn (length plan) (drawn ++ n ∷ []) (rising_push drawn n rises above) (below_more drawn (drawn ++ n ∷ []) n (length plan) below lt refl) f in
    let whole : sum_by f (range_with_len 0 (length plan)) ≡ length (plan_words plan texts) = sym (length-flat_map (words_at plan texts) (range_with_len 0 (length plan))) ∙ ap (λ (t : List (List ℕ)). length t) (words_of_all plan texts) in
    let mine : words ≡ sum_by f drawn = c.words_are in
    omega arith
