-- The plan of several texts, text by text.
use Rattle.std.proofs.Common.{◌≡◌, ℕ, ◌+◌, ◌<◌, List, [], ◌∷◌, ◌++◌, length, get_or, drop, take, refl, sym, ap, ◌∙◌, arith}
use Rattle.std.proofs.lemmas.List.{append-nil, append_assoc, length-append, length-take-le, take-append-drop, take_more}
use Rattle.word_text.specs.declared.plan.Piece.{Piece}
use Rattle.std.specs.FinMap as map_of
use Rattle.word_text.specs.Counts.{Numbers, add_all, counts_of_all}
use Rattle.word_text.specs.Pieces.{pieces_of, plan_from, plan_of}
use Rattle.word_text.proofs.Cuts.{words_of_plan}
use Rattle.word_workers.specs.Spans.{plan_words}

pub plan_from-append : (file k : ℕ) (xs ys : List (List ℕ)) → plan_from file k (xs ++ ys) ≡ plan_from file k xs ++ plan_from (file + length xs) k ys
plan_from-append file k [] ys = let e : file ≡ file + 0 = omega arith in ap (λ (f : ℕ). plan_from f k ys) e
plan_from-append file k (x ∷ xs) ys =
    let e : (file + 1) + length xs ≡ file + length (x ∷ xs) = omega arith in
    ap (λ (t : List Piece). pieces_of x file k ++ t) (plan_from-append (file + 1) k xs ys ∙ ap (λ (f : ℕ). plan_from (file + 1) k xs ++ plan_from f k ys) e)
    ∙ sym (append_assoc (pieces_of x file k) (plan_from (file + 1) k xs) (plan_from (file + length (x ∷ xs)) k ys))

-- the plan of one text more
plan_more : (k : ℕ) (texts : List (List ℕ)) (i : ℕ) (d : List ℕ) → i < length texts → plan_from 0 k (take (i + 1) texts) ≡ plan_from 0 k (take i texts) ++ pieces_of (get_or texts i d) i k
plan_more k texts i d lt =
    let n : 0 + length (take i texts) ≡ i = let l = length-take-le i texts (omega arith) in omega arith in
    ap (plan_from 0 k) (take_more texts i d lt) ∙ plan_from-append 0 k (take i texts) (get_or texts i d ∷ [])
    ∙ ap (λ (t : List Piece). plan_from 0 k (take i texts) ++ t) (append-nil (pieces_of (get_or texts i d) (0 + length (take i texts)) k) ∙ ap (λ (f : ℕ). pieces_of (get_or texts i d) f k) n)

pub plan_step : (k : ℕ) (texts : List (List ℕ)) (i : ℕ) (text : List ℕ) (plan more : List Piece) → i < length texts → text ≡ get_or texts i text → plan ≡ plan_from 0 k (take i texts) → more ≡ plan ++ pieces_of text i k → more ≡ plan_from 0 k (take (i + 1) texts)
plan_step k texts i text plan more lt at p m =
    m ∙ ap (λ (t : List Piece). t ++ pieces_of text i k) p ∙ ap (λ (t : List ℕ). plan_from 0 k (take i texts) ++ pieces_of t i k) at ∙ sym (plan_more k texts i text lt)

pub plan_passes : (k : ℕ) (texts : List (List ℕ)) (i : ℕ) (text : List ℕ) (plan : List Piece) (most : ℕ) → i < length texts → text ≡ get_or texts i text → plan ≡ plan_from 0 k (take i texts) → most < length plan + length (pieces_of text i k) → most < length (plan_of texts k)
plan_passes k texts i text plan most lt at p passed =
    let next : plan ++ pieces_of text i k ≡ plan_from 0 k (take (i + 1) texts) = plan_step k texts i text plan (plan ++ pieces_of text i k) lt at p refl in
    let whole : plan_of texts k ≡ plan_from 0 k (take (i + 1) texts) ++ plan_from (0 + length (take (i + 1) texts)) k (drop (i + 1) texts) =
    ap (plan_from 0 k) (sym (take-append-drop (i + 1) texts)) ∙ plan_from-append 0 k (take (i + 1) texts) (drop (i + 1) texts) in
    let a = ap (λ (t : List Piece). length t) whole ∙ length-append (plan_from 0 k (take (i + 1) texts)) (plan_from (0 + length (take (i + 1) texts)) k (drop (i + 1) texts)) in
    let b = sym (length-append plan (pieces_of text i k)) ∙ ap (λ (t : List Piece). length t) next in
    omega arith

-- the counts of all pieces of a plan are those of its texts
pub counts_of_plan : (plan : List Piece) (texts : List (List ℕ)) (k : ℕ) (counts : Numbers) → 0 < k → plan ≡ plan_of texts k → counts ≡ add_all map_of.empty (plan_words plan texts) → counts ≡ counts_of_all texts
counts_of_plan plan texts k counts pos p e = e ∙ ap (λ (ps : List Piece). add_all map_of.empty (plan_words ps texts)) p ∙ ap (add_all map_of.empty) (words_of_plan texts k pos)
