-- Steps that load a word, or move one that takes move, leave the side of puts.
use Rattle.std.proofs.Common.{◌≡◌, ℕ, ◌+◌, ◌*◌, ◌%◌, ◌<◌, ◌≤◌, ◌≢◌, List, [], ◌∷◌, ◌++◌, length, refl, sym, ap, ◌∙◌, inl, arith}
use Rattle.std.specs.Prelude.{Some, slice_get, slice_set, slice_index}
use Rattle.std.proofs.lemmas.List.{get_or-set_other, get_or-set_same, length-set}
use Rattle.std.proofs.lemmas.Nat.{mod_below}
use Rattle.cursor_word.specs.Shape.{Grid, IsWithinLimits}
use Rattle.rail.specs.Items.{places}
use Rattle.machine.specs.declared.op.After.{After}
use Rattle.machine.specs.declared.view.View.{View}
use Rattle.machine.specs.Steps.{answer_after, made_after, phase_after, taken_after}
use Rattle.machine.proofs.Lists.{one_le_sum}
use Rattle.put_side.specs.Counts.{claims, times}
use Rattle.put_side.specs.Cursors.{Front, PutCursors, put_cursors}
use Rattle.put_side.specs.Manned.{IsManned}
use Rattle.put_side.specs.Places.{PutPlaces}
use Rattle.put_side.specs.PutSide.{PutSide}
use Rattle.put_side.specs.Stages.{PutStage, Away}
use Rattle.put_side.proofs.Frames.{Leaves, makes_le}
use Rattle.put_side.proofs.Owns.{KeepsPutWords, keeps_own, manned_own}
use Rattle.put_side.proofs.Sums.{none_from}

-- the view after a step, by what follows it, the words read and what is noted
abbrev pub seen_by : {P : Type 0} → View P → After P → List ℕ → ℕ → View P
seen_by v b read x =
    record {
      phase = phase_after b;
      entry = v.entry;
      made = made_after v.made v.entry b;
      taken = taken_after v.taken v.read b;
      read = read;
      answer = answer_after v.answer b;
      trail = v.trail ++ x ∷ [];
    }

pub same_words : (g : Grid) (ws : List ℕ) → KeepsPutWords g ws ws
same_words g ws = record { all = refl; producer = refl; allocated = λ k. refl; committed = λ k. refl; entries = λ i h. refl }

-- a word that takes move
pub record IsTakeWord (g : Grid) (i : ℕ) : Type 0 where
  pub before : i < 2 + 4 * g.blocks
  pub producer : i ≢ 0
  pub allocated : (k : ℕ) → i ≢ 2 + 4 * (k % g.blocks)
  pub committed : (k : ℕ) → i ≢ 3 + 4 * (k % g.blocks)

pub head_at : (g : Grid) → IsWithinLimits g → IsTakeWord g 1
head_at g limits = record { before = omega arith; producer = λ e. omega arith; allocated = λ k e. omega arith; committed = λ k e. omega arith }

pub reserved_at : (g : Grid) (b : ℕ) → IsWithinLimits g → IsTakeWord g (4 + 4 * (b % g.blocks))
reserved_at g b limits = let m = mod_below b g.blocks (omega (arith, limits.blocks_from)) in record { before = omega arith; producer = λ e. omega arith; allocated = λ k e. omega arith; committed = λ k e. omega arith }

pub consumed_at : (g : Grid) (b : ℕ) → IsWithinLimits g → IsTakeWord g (5 + 4 * (b % g.blocks))
consumed_at g b limits = let m = mod_below b g.blocks (omega (arith, limits.blocks_from)) in record { before = omega arith; producer = λ e. omega arith; allocated = λ k e. omega arith; committed = λ k e. omega arith }

-- the cursors of one kind where one word of them is set
pub record IsSetAt (g : Grid) (c : ℕ) (ws ws' : List ℕ) (b x : ℕ) : Type 0 where
  pub there : (k : ℕ) → k % g.blocks ≡ b % g.blocks → slice_index ws' (c + 4 * (k % g.blocks)) ≡ x
  pub elsewhere : (k : ℕ) → k % g.blocks ≢ b % g.blocks → slice_index ws' (c + 4 * (k % g.blocks)) ≡ slice_index ws (c + 4 * (k % g.blocks))

pub set_at : (g : Grid) (c : ℕ) (ws : List ℕ) (b x : ℕ) → c + 4 * (b % g.blocks) < length ws → IsSetAt g c ws (slice_set ws (c + 4 * (b % g.blocks)) x) b x
set_at g c ws b x long = record {
  there = λ k e. ap (λ (r : ℕ). slice_index (slice_set ws (c + 4 * (b % g.blocks)) x) (c + 4 * r)) e ∙ get_or-set_same ws (c + 4 * (b % g.blocks)) x 0 long;
  elsewhere = λ k n. get_or-set_other ws (c + 4 * (b % g.blocks)) _ x 0 (λ e. n (omega arith));
}

module _ (g : Grid) (ws : List ℕ) (i x : ℕ) (word : IsTakeWord g i) where
  pub keeps_put_words : KeepsPutWords g ws (slice_set ws i x)
  keeps_put_words = record {
    all = length-set ws i x;
    producer = get_or-set_other ws i 0 x 0 (λ e. word.producer (sym e));
    allocated = λ k. get_or-set_other ws i _ x 0 (λ e. word.allocated k (sym e));
    committed = λ k. get_or-set_other ws i _ x 0 (λ e. word.committed k (sym e));
    entries = λ j h. get_or-set_other ws i j x 0 (λ e. let b = word.before in omega arith);
  }

  module _ {P : Type 0} (stage : View P → PutStage) (front : Front) (vs : List (View P)) (id : ℕ) (v v' : View P) (at : slice_get vs id ≡ Some v) (e : stage v ≡ Away) where
    pub long_enough : PutSide stage g front ws vs → i < length ws
    long_enough side = let b = word.before in omega (arith, side.all)

    -- the side of puts stays, and who is at work
    pub puts_stay : PutSide stage g front ws vs → Leaves stage v v' Away → PutSide stage g front (slice_set ws i x) (slice_set vs id v')
    puts_stay side to = keeps_own stage g front ws (slice_set ws i x) vs id v v' Away Away at e keeps_put_words refl to record { holds = refl; knows = tt; adds = λ k. inl refl } side

    pub manned_stays : IsManned stage g front (put_cursors g ws) vs → IsManned stage g front (put_cursors g (slice_set ws i x)) (slice_set vs id v')
    manned_stays manned = manned_own stage g front ws (slice_set ws i x) vs id v v' Away Away at e keeps_put_words record { allocated = refl; producer = refl; entered = refl } manned

-- none of what a seat has made is beyond what is allocated
pub made_none : {P : Type 0} (stage : View P → PutStage) (g : Grid) (front : Front) (cs : PutCursors) (vs : List (View P)) (p : PutPlaces stage g front cs vs) (id : ℕ) (v : View P) → slice_get vs id ≡ Some v → (q : ℕ) → front.next ≤ q → times q (places v.made) ≡ 0
made_none stage g front cs vs p id v at q le = let l = makes_le stage g q v in let m = one_le_sum (claims stage g q) vs id v at in let o = p.counts.once q in let z = none_from q front.next le in omega arith
