-- Several counts together.
use Rattle.std.specs.Prelude.{◌≡◌, ℕ, List, map, flat_map, sum_by}
use Rattle.std.specs.FinMap as map_of
use Rattle.word_text.specs.Counts.{Numbers, add_all, total}

-- where each of some counts is that of the words of a part, these are the counts of the words of all
-- parts, and their total is that of all
pub record AreTogether (counts : List Numbers) (all : Numbers) : Type 0 where
  pub counted : (parts : List (List (List ℕ))) → counts ≡ map (add_all map_of.empty) parts
      → all ≡ add_all map_of.empty (flat_map (λ part. part) parts)
  pub totals : total all ≡ sum_by total counts
