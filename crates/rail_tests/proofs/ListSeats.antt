-- The seat of a queue that keeps its entries in a list.
use Rattle.std.proofs.Common.{◌≡◌, ℕ, ◌+◌, ◌-◌, ◌/◌, ◌%◌, ◌<◌, ◌≤◌, ◌≢◌, List, [], ◌∷◌, ◌++◌, length, take, drop, map, sym, ap, subst, ◌∙◌, inr, inl, ⊎_elim, arith}
use Rattle.std.specs.Prelude.{Some, flat_map, slice_get, IsPermutation}
use Rattle.std.specs.List.{All, Contains}
use Rattle.std.proofs.Math.Nat.{div-lt_iff_lt-mul}
use Rattle.std.proofs.lemmas.List.{append-nil, length-map, length_push, take_more}
use Rattle.std.proofs.lemmas.Bool.{cases_eq}
use Rattle.std.proofs.lemmas.List.FromFn.{length-range_with_len}
use Rattle.std.proofs.lemmas.List.Elements.{All-contains, All-push, All-weaker}
use Rattle.std.proofs.lemmas.List.Sorted.{IsPermutation-refl, length_permutation}
use Rattle.std.proofs.lemmas.Option.{get_or_from_slice_get, slice_get_within}
use Rattle.cursor_word.specs.Shape.{Grid}
use Rattle.cursor_word.specs.Cursor.{IsBefore, cursor}
use Rattle.rail.specs.declared.entry.Placed.{Placed}
use Rattle.rail_tests.specs.declared.list_rail.ListSeat.{ListSeat}
use Rattle.rail.specs.Items.{IsRising, placed, places}
use Rattle.rail_tests.specs.ListRail.{IsSeatOf, taken_of}
use Rattle.rail.specs.Outcome.{IsAccepted, RetryOutcome, numbers_below}
use Rattle.rail.specs.Rail.{Gains}
use Rattle.rail.specs.declared.answer.Take.TheVariants as answer
use Rattle.rail.specs.Sequential.{IsFull, retry_take}
use Rattle.std.proofs.lemmas.Bool.Decides.{nat_tests}
use Rattle.rail.specs.Batch.{Gathered}
use Rattle.rail.proofs.Dense.{dense_below, dense_only, dense_place, dense_push, dense_take}
use Rattle.rail.proofs.Rising.{rising_range}

pub full_tells : (g : Grid) (n t : ℕ) → 1 ≤ g.size → 1 ≤ n → n % g.size ≡ 0 → t / g.size < n / g.size + 1 - g.blocks → IsFull g n t
full_tells g n t s some filled lt = record { some = some; filled = filled; untaken = (div-lt_iff_lt-mul s).0 lt }

pub full_needs : (g : Grid) (n t : ℕ) → 1 ≤ g.size → IsFull g n t → t / g.size < n / g.size + 1 - g.blocks
full_needs g n t s f = (div-lt_iff_lt-mul s).1 f.untaken

pub gains_next : (xs ys : List Placed) (n : ℕ) (words : List ℕ) → places xs ≡ numbers_below (length xs) → n ≡ length xs → ys ≡ xs ++ placed n words ∷ [] → Gains xs ys (placed n words)
gains_next xs ys n words e at new = record { at_end = new; beyond = subst (λ (m : ℕ). All (λ p. p < m) (places xs)) (sym at) (dense_below xs (length xs) e) }

pub all_below : (xs : List Placed) (m : ℕ) → places xs ≡ numbers_below (length xs) → length xs ≤ m → All (λ p. p < m) (places xs)
all_below xs m e le = All-weaker (λ (p : ℕ). p < length xs) (λ (p : ℕ). p < m) (λ p lt. omega arith) (places xs) (dense_below xs (length xs) e)

-- the next item is taken
pub gains_taken : (xs : List Placed) (t : ℕ) (x : Placed) → places xs ≡ numbers_below (length xs) → slice_get xs t ≡ Some x → Gains (take t xs) (take (t + 1) xs) x
gains_taken xs t x e s =
    let lt = slice_get_within xs t x s in
    let at : x.place ≡ t = dense_place t x xs e s in
    record {
      at_end = take_more xs t x lt ∙ ap (λ (y : Placed). take t xs ++ y ∷ []) (get_or_from_slice_get xs t x x s);
      beyond = subst (λ (m : ℕ). All (λ p. p < m) (places (take t xs))) (sym at) (dense_below (take t xs) t (dense_take t xs e (omega arith)));
    }

pub only_words : (xs : List Placed) (t : ℕ) (x : Placed) (words : List ℕ) → places xs ≡ numbers_below (length xs) → slice_get xs t ≡ Some x → Contains xs (placed x.place words) → words ≡ x.words
only_words xs t x words e s c = ap (λ (y : Placed). y.words) (dense_only t x (placed x.place words) xs e s c (dense_place t x xs e s))

pub not_made : (xs : List Placed) (p : ℕ) → places xs ≡ numbers_below (length xs) → Contains (places xs) p → p ≢ length xs
not_made xs p e c = λ same. let lt = All-contains (λ (q : ℕ). q < length xs) (places xs) p (dense_below xs (length xs) e) c in omega arith

pub taken_below : (xs : List Placed) (t : ℕ) → places xs ≡ numbers_below (length xs) → t ≤ length xs → All (λ p. p < t) (places (take t xs))
taken_below xs t e le = dense_below (take t xs) t (dense_take t xs e le)

one_of_all : (g : Grid) (xs : List ListSeat) → All (IsSeatOf g) xs → 1 ≤ g.seats → length xs ≡ g.seats → length xs ≡ 1
one_of_all g [] a some e = absurd (omega arith)
one_of_all g (x ∷ xs) a some e = e ∙ (a 0 x (omega arith)).one_seat

pub all_is_one : (g : Grid) (xs : List ListSeat) → All (IsSeatOf g) xs → 1 ≤ g.seats → IsPermutation (map (λ (s : ListSeat). 0) xs) (numbers_below g.seats) → length xs ≡ 1
all_is_one g xs a some p =
    one_of_all g xs a some (sym (length-map xs (λ (s : ListSeat). 0)) ∙ sym (length_permutation (map (λ (s : ListSeat). 0) xs) (numbers_below g.seats) p) ∙ length-range_with_len 0 g.seats)

pub of_only : (P : ListSeat → Type 0) (xs : List ListSeat) (x : ListSeat) → All P xs → xs ≡ x ∷ [] → P x
of_only P xs x a e = let b : All P (x ∷ []) = subst (All P) e a in b 0 x (omega arith)

pub accepted_of_only : (g : Grid) (xs : List ListSeat) (x : ListSeat) → IsSeatOf g x → xs ≡ x ∷ [] → IsAccepted (flat_map (λ (s : ListSeat). s.made.items) xs) x.made.items
accepted_of_only g xs x s e =
    let m : flat_map (λ (t : ListSeat). t.made.items) xs ≡ x.made.items = ap (flat_map (λ (t : ListSeat). t.made.items)) e ∙ append-nil x.made.items in
    record { all_made = subst (λ (ys : List Placed). IsPermutation ys x.made.items) (sym m) (IsPermutation-refl x.made.items); no_gap = s.in_place }

pub taken_of_only : (xs : List ListSeat) (x : ListSeat) → xs ≡ x ∷ [] → IsPermutation (flat_map taken_of xs) (taken_of x)
taken_of_only xs x e =
    let m : flat_map taken_of xs ≡ taken_of x = ap (flat_map taken_of) e ∙ append-nil (taken_of x) in
    subst (λ (ys : List Placed). IsPermutation ys (taken_of x)) (sym m) (IsPermutation-refl (taken_of x))

pub outcome_of : (xs left : List Placed) (t : ℕ) → t ≤ length xs → left ≡ drop t xs → RetryOutcome xs (take t xs) left
outcome_of xs left t le e = record { count = t; within = le; first_taken = IsPermutation-refl (take t xs); rest_left = e }

pub seat_pushed : (g : Grid) (s : ListSeat) (made : Gathered) (words : List ℕ) → IsSeatOf g s → made.items ≡ s.made.items ++ placed (length s.made.items) words ∷ [] → made.spare ≡ s.made.spare - 1 → 1 ≤ s.made.spare → length s.made.items < s.most
    → length words ≡ g.width → IsSeatOf g (record s { made = made })
seat_pushed g s made words h items spare some less wide =
    let n : length made.items ≡ length s.made.items + 1 = ap (λ (xs : List Placed). length xs) items ∙ length_push s.made.items (placed (length s.made.items) words) in
    let r = h.room in let f = h.made_first in
    record {
      same = h.same;
      one_seat = h.one_seat;
      in_place = subst (λ (xs : List Placed). places xs ≡ numbers_below (length xs)) (sym items) (dense_push s.made.items words h.in_place);
      made_first = omega arith;
      wide = subst (All (λ (i : Placed). length i.words ≡ g.width)) (sym items) (All-push (λ (i : Placed). length i.words ≡ g.width) s.made.items (placed (length s.made.items) words) h.wide wide);
      room = omega arith;
      within = omega arith;
      few = h.few;
    }

pub least_before : (k s : ℕ) → 0 < s → IsBefore (cursor 0 0) (cursor k s)
least_before k s h = ⊎_elim (λ e. inr (sym e, h)) (λ n. inl (omega arith)) (cases_eq k 0)

pub rising_taken : (xs : List Placed) (t : ℕ) → places xs ≡ numbers_below (length xs) → t ≤ length xs → IsRising (places (take t xs))
rising_taken xs t e le = subst IsRising (sym (dense_take t xs e le)) (rising_range 0 t)

pub taken_next : (xs : List Placed) (t : ℕ) → t < length xs → answer.Ok t ≡ retry_take (length xs) t
taken_next xs t lt = grind (arith, nat_tests)
