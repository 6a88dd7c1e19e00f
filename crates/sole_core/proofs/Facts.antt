-- What the words and counts tell of the consumer's cursor.
use Rattle.std.proofs.Common.{◌≡◌, ℕ, ◌+◌, ◌<◌, ◌≤◌, List, [], ◌∷◌, length, refl, sym, ap, ◌∙◌, ⊎_elim, arith}
use Rattle.std.specs.List.{sum_by}
use Rattle.std.proofs.lemmas.Bool.{cases_lt}
use Rattle.cursor_word.specs.Shape.{Grid, IsWithinLimits}
use Rattle.cursor_word.specs.Cursor.{cursor, cursor_of, place_at}
use Rattle.cursor_word.specs.declared.cursor.Cursor.{Cursor}
use Rattle.cursor_word.proofs.Places.{block_of_place_from, cursor_of_place, first_after, first_to, offset_of_place, place_in_block, place_of_cursor}
use Rattle.put_side.specs.Cursors.{Front, place}
use Rattle.put_side.specs.Counts.{makes, one_at, sum_below, times}
use Rattle.put_side.proofs.Sums.{none_from, one_to, times-cons, upto_bump, upto_from, upto_none, upto_same}
use Rattle.put_side.proofs.Gathers.{times_all}
use Rattle.put_side.specs.Gathered.{all_made}
use Rattle.machine.specs.Invariant.{made_total}
use Rattle.rail.specs.Items.{places}
use Rattle.rail.specs.declared.entry.Placed.{Placed}
use Rattle.std.proofs.lemmas.List.{length-map}
use Rattle.std.proofs.lemmas.List.Concat.{length-flat_map}
use Rattle.put_side.proofs.Facts.{allocated_to}
use Rattle.put_side.proofs.Moments.{made_within}
use Rattle.sole_core.specs.Types.{View}
use Rattle.sole_core.specs.Stage.{stage}
use Rattle.sole_core.specs.Sound.{IsSoundAt}

-- numbers below n stand in a list as often as it is long at most
count_below : (n : ℕ) (xs : List ℕ) → sum_below n (λ p. times p xs) ≤ length xs
count_below n [] = let z = upto_none n (λ p. times p []) (λ o. refl) in omega arith
count_below n (x ∷ xs) =
    let e = upto_same n (λ p. times p (x ∷ xs)) (λ p. times p xs + one_at x p) (λ o l. let t = times-cons o x xs in omega arith) in
    let b = upto_bump n x (λ p. times p xs) in
    let o = one_to x n in
    let m = count_below n xs in omega arith

-- where each place below n is made, at least n entries are
pub few_made : (vs : List View) (n : ℕ) → ((p : ℕ) → p < n → 1 ≤ sum_by (makes p) vs) → n ≤ made_total vs
few_made vs n all =
    let xs : List ℕ = places (all_made vs) in
    let least = upto_from n n (λ p. times p xs) (omega arith) (λ p l. let h = all p l in let t = times_all (λ (v : View). v.made) p vs in omega arith) in
    let c = count_below n xs in
    let long : length xs ≡ made_total vs = length-map (all_made vs) (λ (i : Placed). i.place) ∙ length-flat_map (λ (v : View). v.made) vs in omega arith

-- the cursor of the next place: one further in the block, or the first of the next block
pub record IsOneOn (g : Grid) (r r' : Cursor) : Type 0 where
  pub within : r.offset + 1 < g.size → (r'.block ≡ r.block) × (r'.offset ≡ r.offset + 1)
  pub last : g.size ≤ r.offset + 1 → (r'.block ≡ r.block + 1) × (r'.offset ≡ 0) × (r.offset + 1 ≡ g.size)

module _ (g : Grid) (limits : IsWithinLimits g) where
  pub one_on : (n : ℕ) → IsOneOn g (cursor_of g n) (cursor_of g (n + 1))
  one_on n =
      let r : Cursor = cursor_of g n in
      let is = place_of_cursor g n in
      let from = block_of_place_from g n in
      let within = offset_of_place g n limits in
      record {
        within = λ l. let e : place_at g (cursor r.block (r.offset + 1)) ≡ n + 1 = omega arith in
            let c : cursor_of g (n + 1) ≡ cursor r.block (r.offset + 1) = ap (cursor_of g) (sym e) ∙ cursor_of_place g (cursor r.block (r.offset + 1)) from l in
            (ap (λ (x : Cursor). x.block) c, ap (λ (x : Cursor). x.offset) c);
        last = λ l. let z : r.offset + 1 ≡ g.size = omega arith in
            let f = first_after g r.block from in
            let e : place_at g (cursor (r.block + 1) 0) ≡ n + 1 = omega arith in
            let c : cursor_of g (n + 1) ≡ cursor (r.block + 1) 0 = ap (cursor_of g) (sym e) ∙ cursor_of_place g (cursor (r.block + 1) 0) (omega arith) (omega (arith, limits.size_from)) in
            (ap (λ (x : Cursor). x.block) c, ap (λ (x : Cursor). x.offset) c, z);
      }

  -- the places of a block behind the next place are below it
  pub behind_next : (n k o : ℕ) → g.blocks ≤ k → k < (cursor_of g n).block → o < g.size → place g k o < n
  behind_next n k o from less l =
      let is = place_of_cursor g n in
      let f = first_after g k from in
      let t = first_to g (k + 1) (cursor_of g n).block (omega arith) in
      let p = place_in_block g (cursor_of g n) in
      omega arith

module _ (g : Grid) (limits : IsWithinLimits g) (front : Front) (next : ℕ) (ws : List ℕ) (vs : List View) (s : IsSoundAt g front next ws vs) where
  -- what is taken is allocated
  pub taken_within : next ≤ front.next
  taken_within = ⊎_elim (λ l. let m = made_within stage g front ws vs s.puts front.next in let r = s.made front.next l in let z = none_from front.next front.next (omega arith) in absurd (omega arith)) (λ l. l) (cases_lt front.next next)

  -- the next place lies in a block that is opened, or in the first that isn't
  pub opened_or_next : (cursor_of g next).block ≤ front.last + 1
  opened_or_next =
      let to = allocated_to s.puts.places.words in
      let le = taken_within in
      let from = s.puts.places.words.from in
      let is = place_of_cursor g next in
      let p = place_in_block g (cursor_of g next) in
      let f = first_after g (front.last + 1) (omega arith) in
      ⊎_elim (λ l. let t = first_to g (front.last + 1 + 1) (cursor_of g next).block (omega arith) in absurd (omega (arith, limits.size_from))) (λ l. l) (cases_lt (front.last + 1) (cursor_of g next).block)
