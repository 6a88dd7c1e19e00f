-- The counts of several parts, merged.
use Rattle.std.proofs.Common.{◌≡◌, ℕ, ◌+◌, List, [], ◌∷◌, ◌++◌, get_or, length, map, take, drop, refl, sym, ap, ◌∙◌, arith}
use Rattle.std.specs.Prelude.{flat_map, sum_by, IsPermutation}
use Rattle.std.specs.List.{range_with_len}
use Rattle.std.specs.FinMap as map_of
use Rattle.std.proofs.lemmas.Grind.{flat_map-append}
use Rattle.std.proofs.lemmas.Simd.{map-map}
use Rattle.std.proofs.lemmas.List.{append-nil, drop-map, length-append, take-append-drop, take-map}
use Rattle.std.proofs.Math.Seq.{drop-append_seam, take-append_seam}
use Rattle.std.proofs.lemmas.List.Sorted.{IsPermutation-append_comm, sum_by-IsPermutation}
use Rattle.std.proofs.lemmas.List.Sums.{sum_by-append, sum_by-cons}
use Rattle.std.proofs.lemmas.List.Concat.{length-flat_map}
use Rattle.word_text.specs.Counts.{Numbers, add_all, merged, total}
use Rattle.word_text.proofs.Merging.{counted-parts, counted-permutation, merged-counted, total-add_numbers}
use Rattle.word_text.proofs.Totals.{total-add_all, total-empty}
use Rattle.word_text.specs.declared.plan.Piece.{Piece}
use Rattle.word_workers.specs.Merged.{AreTogether}
use Rattle.word_workers.specs.Spans.{counts_at, plan_words, words_at}
use Rattle.word_workers.proofs.Ranges.{words_of_all}

pub total-merged : (m n : Numbers) → total (merged m n) ≡ total m + total n
total-merged m n = total-add_numbers m (map_of.entries n)

abbrev counted : List (List ℕ) → Numbers
counted words = add_all map_of.empty words

abbrev together : List (List (List ℕ)) → List (List ℕ)
together parts = flat_map (λ (part : List (List ℕ)). part) parts

-- the order of two texts makes no difference
pub merged_either : (first second : Numbers) (words more : List (List ℕ)) → first ≡ counted words → second ≡ counted more
    → (merged first second ≡ counted (words ++ more)) × (merged second first ≡ counted (words ++ more))
merged_either first second words more e f = (
  ap (λ (m : Numbers). merged m second) e ∙ ap (merged (counted words)) f ∙ merged-counted words more,
  ap (λ (m : Numbers). merged m first) f ∙ ap (merged (counted more)) e ∙ merged-counted more words
      ∙ counted-permutation (more ++ words) (words ++ more) (IsPermutation-append_comm more words),
)

-- ---- counts of which each is that of a part
pub one_together : (counts : List Numbers) (only : Numbers) → counts ≡ only ∷ [] → AreTogether counts only
one_together counts only e = record {
  counted = λ parts f. of_one parts (sym e ∙ f);
  totals = omega (arith, ap (sum_by total) e, sum_by-cons total only []);
}
  where
    of_one : (parts : List (List (List ℕ))) → only ∷ [] ≡ map counted parts → only ≡ counted (together parts)
    of_one [] f = absurd (let n = ap (λ (t : List Numbers). length t) f in omega arith)
    of_one (part ∷ []) f = ap (λ (t : List Numbers). get_or t 0 only) f ∙ ap counted (sym (append-nil part))
    of_one (part ∷ next ∷ parts) f = absurd (let n = ap (λ (t : List Numbers). length t) f in omega arith)

-- of two halves
pub both_together : (half rest counts : List Numbers) (first second both : Numbers) → half ++ rest ≡ counts → AreTogether half first → AreTogether rest second
    → ((words more : List (List ℕ)) → first ≡ counted words → second ≡ counted more → both ≡ counted (words ++ more)) → total both ≡ total first + total second → AreTogether counts both
both_together half rest counts first second both e f g is sums = record {
  counted = λ parts h.
      let n : ℕ = length half in
      let front : half ≡ map counted (take n parts) = sym (take-append_seam half rest) ∙ ap (take n) (e ∙ h) ∙ take-map counted n parts in
      let back : rest ≡ map counted (drop n parts) = sym (drop-append_seam half rest) ∙ ap (drop n) (e ∙ h) ∙ drop-map counted n parts in
      is (together (take n parts)) (together (drop n parts)) (f.counted (take n parts) front) (g.counted (drop n parts) back)
      ∙ ap counted (sym (flat_map-append (λ (part : List (List ℕ)). part) (take n parts) (drop n parts)) ∙ ap together (take-append-drop n parts));
  totals = omega (arith, sums, f.totals, g.totals, sum_by-append total half rest, ap (sum_by total) e);
}

-- ---- the parts are the words of the numbers that the workers drew
module _ (plan : List Piece) (texts : List (List ℕ)) where
  words_of_drawn : (drawn : List (List ℕ)) → flat_map (words_at plan texts) (flat_map (λ (ns : List ℕ). ns) drawn) ≡ together (map (flat_map (words_at plan texts)) drawn)
  words_of_drawn [] = refl
  words_of_drawn (ns ∷ drawn) =
      flat_map-append (words_at plan texts) ns (flat_map (λ (ns : List ℕ). ns) drawn) ∙ ap (λ (t : List (List ℕ)). flat_map (words_at plan texts) ns ++ t) (words_of_drawn drawn)

  module _ (drawn : List (List ℕ)) (once : IsPermutation (flat_map (λ (ns : List ℕ). ns) drawn) (range_with_len 0 (length plan))) where
    pub counts_together : (counts : List Numbers) (all : Numbers) → counts ≡ map (counts_at plan texts) drawn
        → ((parts : List (List (List ℕ))) → counts ≡ map counted parts → all ≡ counted (together parts)) → all ≡ counted (plan_words plan texts)
    counts_together counts all e merges =
        merges (map (flat_map (words_at plan texts)) drawn) (e ∙ sym (map-map counted (flat_map (words_at plan texts)) drawn))
        ∙ ap counted (sym (words_of_drawn drawn)) ∙ counted-parts (words_at plan texts) (flat_map (λ (ns : List ℕ). ns) drawn) (range_with_len 0 (length plan)) once ∙ ap counted (words_of_all plan texts)

    pub few_together : (counts : List Numbers) → counts ≡ map (counts_at plan texts) drawn → sum_by total counts ≡ length (plan_words plan texts)
    few_together counts e =
        let f : ℕ → ℕ = λ n. length (words_at plan texts n) in
        ap (sum_by total) e ∙ sums drawn ∙ ap (λ (t : List (List ℕ)). length t) (sym (words_of_drawn drawn))
        ∙ length-flat_map (words_at plan texts) (flat_map (λ (ns : List ℕ). ns) drawn) ∙ sym (sum_by-IsPermutation f (flat_map (λ (ns : List ℕ). ns) drawn) (range_with_len 0 (length plan)) once)
        ∙ sym (length-flat_map (words_at plan texts) (range_with_len 0 (length plan))) ∙ ap (λ (t : List (List ℕ)). length t) (words_of_all plan texts)
      where
        sums : (ds : List (List ℕ)) → sum_by total (map (counts_at plan texts) ds) ≡ length (together (map (flat_map (words_at plan texts)) ds))
        sums [] = refl
        sums (d ∷ ds) =
            let words : List (List ℕ) = flat_map (words_at plan texts) d in
            omega (arith, sum_by-cons total (counts_at plan texts d) (map (counts_at plan texts) ds), sums ds, total-add_all map_of.empty words, total-empty, length-append words (together (map (flat_map (words_at plan texts)) ds)))
