-- How many words the plan of several texts has.
use Rattle.std.proofs.Common.{ℕ, ◌<◌, ◌≤◌, List, [], ◌∷◌, length, ap, arith}
use Rattle.std.specs.Prelude.{flat_map, sum_by}
use Rattle.std.proofs.lemmas.List.{length-append}
use Rattle.std.proofs.lemmas.List.Sums.{sum_by-cons}
use Rattle.word_text.specs.Words.{words_of}
use Rattle.word_text.specs.Pieces.{plan_of}
use Rattle.word_text.proofs.Cuts.{words_of_plan}
use Rattle.word_text.proofs.Splits.{words_within_bytes}
use Rattle.word_workers.specs.Spans.{plan_words}

few_words : (texts : List (List ℕ)) → length (flat_map words_of texts) ≤ sum_by length texts
few_words [] = omega arith
few_words (t ∷ ts) = omega (arith, sum_by-cons length t ts, length-append (words_of t) (flat_map words_of ts), words_within_bytes t, few_words ts)

-- the pieces of texts have no more words than the texts have bytes
pub plan_words-le : (texts : List (List ℕ)) (k : ℕ) → 0 < k → length (plan_words (plan_of texts k) texts) ≤ sum_by length texts
plan_words-le texts k pos = let same = ap (λ (t : List (List ℕ)). length t) (words_of_plan texts k pos) in let few = few_words texts in omega arith
