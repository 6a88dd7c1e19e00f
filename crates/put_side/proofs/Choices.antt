-- What holds of both branches of a choice holds of the choice, where each branch knows what the test told.
use Rattle.std.proofs.Common.{◌≡◌, ℕ, ◌/◌, ◌%◌, ◌<◌, ◌≤◌, ◌≢◌, Bool, true, false, sym, ap, subst, ⊎_elim, arith}
use Rattle.std.specs.Prelude.{if◌then◌else◌, nat_lt, ◌==◌, ◌&&◌}
use Rattle.std.proofs.lemmas.Bool.Decides.{eqb_tells}
use Rattle.cursor_word.specs.Cursor.{offset_span, packed, unpacked}
use Rattle.cursor_word.specs.declared.cursor.Cursor.{Cursor}
use Rattle.put_side.specs.PutSteps.{by_turn, is_same}
use Rattle.put_side.proofs.Sums.{by_test}
use Rattle.put_side.proofs.Facts.{repacked}

-- by what a test for equal numbers tells
pub by_equal : (a b : ℕ) (K : Bool → Type 0) → (a ≡ b → K true) → (a ≢ b → K false) → K (a == b)
by_equal a b K hit miss = ⊎_elim (λ t. subst K (sym t.0) (hit t.1)) (λ t. subst K (sym t.0) (miss t.1)) (eqb_tells a b)

module _ {A : Type 0} (K : A → Type 0) where
  pub pick_any : (c : Bool) (x y : A) → K x → K y → K (if c then x else y)
  pick_any true x y hit miss = hit
  pick_any false x y hit miss = miss

  pub pick_less : (a b : ℕ) (x y : A) → (a < b → K x) → (b ≤ a → K y) → K (if nat_lt a b then x else y)
  pick_less a b x y hit miss = by_test a b (λ c. K (if c then x else y)) hit miss

  pub pick_equal : (a b : ℕ) (x y : A) → (a ≡ b → K x) → (a ≢ b → K y) → K (if a == b then x else y)
  pick_equal a b x y hit miss = by_equal a b (λ c. K (if c then x else y)) hit miss

  -- by whether a found word is a cursor
  pub pick_same : (w : ℕ) (m : Cursor) (x y : A) → (w ≡ packed m → K x) → (m ≢ unpacked w → K y) → K (if is_same (unpacked w) m then x else y)
  pick_same w m x y hit miss =
      by_equal (w / offset_span) m.block (λ b. K (if b && ((w % offset_span) == m.offset) then x else y))
      (λ k. by_equal (w % offset_span) m.offset (λ b. K (if b then x else y)) (λ o. hit (let r = repacked w in omega arith)) (λ n. miss (λ e. n (ap (λ (c : Cursor). c.offset) (sym e)))))
      (λ n. miss (λ e. n (ap (λ (c : Cursor). c.block) (sym e))))

-- a number by turns
pub turn_falls : (turn a b a' b' : ℕ) → a' < a → b' < b → by_turn turn a' b' < by_turn turn a b
turn_falls turn a b a' b' h l = by_equal turn 1 (λ c. (if c then a' else b') < (if c then a else b)) (λ e. h) (λ n. l)

pub turn_above : (turn a b x : ℕ) → x < a → x < b → x < by_turn turn a b
turn_above turn a b x h l = by_equal turn 1 (λ c. x < (if c then a else b)) (λ e. h) (λ n. l)

pub turn_within : (turn a b most : ℕ) → a ≤ most → b ≤ most → by_turn turn a b ≤ most
turn_within turn a b most h l = by_equal turn 1 (λ c. (if c then a else b) ≤ most) (λ e. h) (λ n. l)

pub turn_one : (turn a b : ℕ) → turn ≡ 1 → by_turn turn a b ≡ a
turn_one turn a b e = ap (λ (t : ℕ). by_turn t a b) e
