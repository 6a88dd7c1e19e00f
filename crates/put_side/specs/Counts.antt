-- How often places are held, made and taken, as sums over the views of all seats:
-- the order of seats is of no matter.
use Rattle.std.specs.Prelude.{◌≡◌, ℕ, zero, suc, ◌+◌, ◌%◌, ◌<◌, ◌≤◌, List, ◌++◌, ◌==◌, if◌then◌else◌, nat_lt, length}
use Rattle.std.specs.List.{count_by, sum_by}
use Rattle.cursor_word.specs.Shape.{Grid}
use Rattle.cursor_word.specs.Cursor.{offset_span}
use Rattle.rail.specs.Items.{places}
use Rattle.machine.specs.declared.view.View.{View}
use Rattle.put_side.specs.Cursors.{Front, PutCursors, place}
use Rattle.put_side.specs.Stages.{PutStage, held}
use Rattle.put_side.specs.declared.put_phase.PutPhase.TheVariants.{AddA}
use Rattle.put_side.specs.Stages.{At}

-- the sum of f over the numbers below n
abbrev pub sum_below : ℕ → (ℕ → ℕ) → ℕ
sum_below zero f = 0
sum_below (suc n) f = sum_below n f + f n

-- how often p stands in a list
abbrev pub times : ℕ → List ℕ → ℕ
times p xs = count_by (λ q. q == p) xs

-- 1 where the two are one, else 0
abbrev pub one_at : ℕ → ℕ → ℕ
one_at q p = if q == p then 1 else 0

-- 1 for a number below a, else 0
abbrev pub one_below : ℕ → ℕ → ℕ
one_below p a = if nat_lt p a then 1 else 0

-- how often a seat has made place p
abbrev pub makes : {P : Type 0} → ℕ → View P → ℕ
makes p view = times p (places view.made)

-- how often a seat has taken place p
abbrev pub takes : {P : Type 0} → ℕ → View P → ℕ
takes p view = times p (places view.taken)

-- how many entries a seat has taken, and how many all have
abbrev pub taken_count : {P : Type 0} → View P → ℕ
taken_count view = length view.taken

abbrev pub taken_total : {P : Type 0} → List (View P) → ℕ
taken_total views = sum_by taken_count views

-- 1 for a seat that is about to add to the allocated cursor of this physical block, else 0
abbrev pub adds_in : Grid → ℕ → PutStage → ℕ
adds_in shape physical (At (AddA turn first head)) = one_at (head % shape.blocks) physical
adds_in shape physical stage = 0

-- stage tells where the put of a seat with this view stands
module _ {P : Type 0} (stage : View P → PutStage) (shape : Grid) where
  -- the places that a seat has made or holds: their list, how often p is among them,
  -- and how many they are
  abbrev pub claimed : View P → List ℕ
  claimed view = places view.made ++ held shape (stage view)

  abbrev pub claims : ℕ → View P → ℕ
  claims p view = times p (claimed view)

  abbrev pub claim_count : View P → ℕ
  claim_count view = length (claimed view)

  -- 1 for a seat that is about to add to the allocated cursor of a block's physical block
  abbrev pub adds : ℕ → View P → ℕ
  adds block view = adds_in shape (block % shape.blocks) (stage view)

  -- each allocated place is made or held once; an allocated offset leaves room for each seat that
  -- is about to add to it; and a committed offset counts what is made of its block
  pub record PutCounts (front : Front) (cursors : PutCursors) (views : List (View P)) : Type 0 where
    pub once : (p : ℕ) → sum_by (claims p) views ≡ one_below p front.next
    pub number : sum_by claim_count views ≡ front.next
    pub adds : (block : ℕ) → block ≤ front.last → front.last < block + shape.blocks
        → cursors.allocated block % offset_span + sum_by (adds block) views
        ≤ shape.size + shape.seats
    pub made : (block : ℕ) → block ≤ front.last → front.last < block + shape.blocks
        → shape.blocks ≤ block
        → cursors.committed block % offset_span
        ≡ sum_below shape.size (λ offset. sum_by (makes (place shape block offset)) views)
