-- What is left of a queue from which nothing was taken.
use Rattle.std.proofs.Common.{◌≡◌, ℕ, zero, suc, ◌+◌, ◌-◌, ◌*◌, ◌≤◌, List, [], ◌∷◌, length, drop, min, refl, sym, ap, ◌∙◌, ⊎_elim, arith}
use Rattle.std.specs.Prelude.{Bool, cond, filter, nat_le, true, false, ◌&&◌}
use Rattle.std.specs.List.{range_with_len}
use Rattle.std.proofs.lemmas.List.{length-drop}
use Rattle.std.proofs.lemmas.Bool.{cases_lt}
use Rattle.std.proofs.lemmas.Bool.Decides.{nat_tests}
use Rattle.cursor_word.specs.Shape.{Grid, IsWithinLimits}
use Rattle.cursor_word.specs.Cursor.{low}
use Rattle.cursor_word.proofs.Places.{low_keeps}
use Rattle.rail.specs.declared.entry.Placed.{Placed}
use Rattle.rail.specs.Items.{places}
use Rattle.rail.specs.Outcome.{DropOutcome, IsAccepted, is_left}
use Rattle.rail.proofs.Dense.{range_head, range_tail}

drop_nil : (n : ℕ) → drop {A = Placed} n [] ≡ []
drop_nil zero = refl
drop_nil (suc n) = refl

-- of a list whose places count up, what is from a place on is what is behind the items before it
keep_from : (a m : ℕ) (p : Placed → Bool) (xs : List Placed) → ((i : Placed) → p i ≡ nat_le m i.place) → places xs ≡ range_with_len a (length xs) → filter p xs ≡ drop (m - a) xs
keep_from a m p [] says e = sym (drop_nil (m - a))
keep_from a m p (x ∷ xs) says e =
    let h = range_head a (length xs) x xs e in
    let rest = keep_from (a + 1) m p xs says (range_tail a (length xs) x xs e) in
    ⊎_elim
    (λ lt.
    let f : p x ≡ false = says x ∙ (let b : nat_le m x.place ≡ false = grind (arith, nat_tests) in b) in
    let k : m - a ≡ suc (m - (a + 1)) = omega arith in
    ap (λ (b : Bool). cond b (x ∷ filter p xs) (filter p xs)) f ∙ rest ∙ sym (ap (λ (n : ℕ). drop n (x ∷ xs)) k))
    (λ le.
    let t : p x ≡ true = says x ∙ (let b : nat_le m x.place ≡ true = grind (arith, nat_tests) in b) in
    let k : m - a ≡ 0 = omega arith in
    let l : m - (a + 1) ≡ 0 = omega arith in
    ap (λ (b : Bool). cond b (x ∷ filter p xs) (filter p xs)) t ∙ ap (λ (ys : List Placed). x ∷ ys) (rest ∙ ap (λ (n : ℕ). drop n xs) l) ∙ sym (ap (λ (n : ℕ). drop n (x ∷ xs)) k))
    (cases_lt a m)

and_true : (b : Bool) → (b && true) ≡ b
and_true true = refl
and_true false = refl

-- where nothing was taken of a queue that drops, the accepted items from the first live place on are left
pub left_untaken : (g : Grid) (made accepted left : List Placed) → IsAccepted made accepted → DropOutcome g accepted [] left → left ≡ drop (low g (length accepted)) accepted
left_untaken g made accepted left a o =
    let m : ℕ = low g (length accepted) in
    let none : m - 0 ≡ m = omega arith in
    o.rest_left ∙ keep_from 0 m (is_left g (length accepted) []) accepted (λ i. and_true (nat_le m i.place)) a.no_gap ∙ ap (λ (n : ℕ). drop n accepted) none

-- and these are all, or as many as all blocks but one hold
pub left_enough : (g : Grid) (made accepted left : List Placed) → IsWithinLimits g → IsAccepted made accepted → DropOutcome g accepted [] left → min (length accepted) ((g.blocks - 1) * g.size) ≤ length left
left_enough g made accepted left l a o =
    let n : length left ≡ length accepted - low g (length accepted) = ap (λ (xs : List Placed). length xs) (left_untaken g made accepted left a o) ∙ length-drop (low g (length accepted)) accepted in
    let k = low_keeps g (length accepted) l in omega arith
