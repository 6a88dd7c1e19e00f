-- Dealing and gathering seats keep the rule.
use Rattle.std.proofs.Common.{◌≡◌, ◌⊎◌, ℕ, zero, suc, ◌<◌, List, [], ◌∷◌, ◌++◌, set, drop, take, length, length-append, IsPermutation, append-nil, append_assoc, refl, inl, inr, sym, ap, ◌∙◌, subst, ⊎_elim, arith}
use Rattle.std.specs.Prelude.{Some, slice_get}
use Rattle.std.proofs.lemmas.List.{take-append-drop}
use Rattle.std.proofs.lemmas.Grind.{flat_map-append}
use Rattle.std.proofs.lemmas.List.Sorted.{IsPermutation-trans, IsPermutation-sym, IsPermutation-append, IsPermutation-append_comm, IsPermutation-refl}
use mathlib.Core.Option.{some}
use lib.ListN.{get_elem?}
use Rattle.cursor_word.specs.Shape.{Grid}
use Rattle.step_log.proofs.Lists.{at_set, at_snoc}
use Rattle.step_log.specs.Log.{Parts, Merges}
use Rattle.machine.specs.Table.{Table}
use Rattle.machine.specs.Invariant.{Fact}
use Rattle.shared_seats.specs.declared.holding.Holding.{Holding}
use Rattle.shared_seats.specs.declared.holding.Numbered.{Numbered}
use Rattle.shared_seats.specs.Memory.{Knowledge}
use Rattle.shared_seats.specs.Holding.{IsHeld, IsRemembered, first_seat, joint_seats, no_seats, numbered_from, other_seats, seats_of}
use Rattle.shared_seats.proofs.Parted.{replaced, replaced_two}

abbrev pub seats : {P M : Type 0} → Holding P M → List (Numbered P)
seats h = h.seats

module _ {A : Type 0} where
  get_drop : (xs : List A) (i : ℕ) (x : A) → slice_get (drop 1 xs) i ≡ Some x → slice_get xs (suc i) ≡ Some x
  get_drop [] i x e = cc
  get_drop (y ∷ ys) i x e = e

  get_take : (xs : List A) (i : ℕ) (x : A) → slice_get (take 1 xs) i ≡ Some x → slice_get xs i ≡ Some x
  get_take [] i x e = cc
  get_take (y ∷ ys) zero x e = e
  get_take (y ∷ ys) (suc i) x e = cc

  -- what stands in two lists put together stands in one of them
  get_joint : (xs ys : List A) (i : ℕ) (x : A) → slice_get (xs ++ ys) i ≡ Some x → ((j : ℕ) × (slice_get xs j ≡ Some x)) ⊎ ((j : ℕ) × (slice_get ys j ≡ Some x))
  get_joint [] ys i x e = inr (i, e)
  get_joint (z ∷ zs) ys zero x e = inl (zero, e)
  get_joint (z ∷ zs) ys (suc i) x e = ⊎_elim (λ l. inl (suc l.0, l.1)) (λ r. inr r) (get_joint zs ys i x e)

module _ {P M : Type 0} (t : Table P) (Holds : Fact P) (Knows : Knowledge P M) (g : Grid) where
  -- the rule holds of other holdings of the same seats
  pub held_permuted : (words : List ℕ) (old new : List (Holding P M)) → IsHeld t Holds Knows g words old → IsPermutation (seats_of old) (seats_of new) → ((at : ℕ) (h : Holding P M) → get_elem? new at ≡ some h → 0 < length h.seats → h.shape ≡ g)
      → ((m : M) → IsRemembered new m → IsRemembered old m) → IsHeld t Holds Knows g words new
  held_permuted words old new held p shapes kept = record {
    limits = held.limits;
    shapes = shapes;
    views = held.views;
    in_order = IsPermutation-trans (seats_of new) (seats_of old) (numbered_from 0 held.views) (IsPermutation-sym (seats_of old) (seats_of new) p) held.in_order;
    holds = held.holds;
    all = held.all;
    few = held.few;
    memories = λ m is. held.memories m (kept m is);
  }

  here : (hs : List (Holding P M)) (at : ℕ) (h k : Holding P M) (m : M) → get_elem? hs at ≡ some h → k ≡ h → (i : ℕ) → slice_get k.memories i ≡ Some m → IsRemembered hs m
  here hs at h k m get e i there = record { at = at; seat = h; stands = get; number = i; there = ap (λ (x : Holding P M). slice_get x.memories i) (sym e) ∙ there }

  -- what the seats of a split remember, its seat did before
  deals_keep : (hs : List (Holding P M)) (at : ℕ) (h : Holding P M) → get_elem? hs at ≡ some h → (m : M) → IsRemembered (set hs at (other_seats h) ++ first_seat h ∷ []) m → IsRemembered hs m
  deals_keep hs at h get m is =
      ⊎_elim
      (λ old. ⊎_elim
      (λ u. here hs at h h m get refl (suc is.number) (get_drop h.memories is.number m (ap (λ (x : Holding P M). slice_get x.memories is.number) u.1 ∙ is.there)))
      (λ u. record { at = is.at; seat = is.seat; stands = u.1; number = is.number; there = is.there })
      (at_set hs at is.at (other_seats h) is.seat old))
      (λ last. here hs at h h m get refl is.number (get_take h.memories is.number m (ap (λ (x : Holding P M). slice_get x.memories is.number) last ∙ is.there)))
      (at_snoc (set hs at (other_seats h)) (first_seat h) is.seat is.at is.stands)

  -- what a seat that took in another remembers, one of the two did before
  gathers_keep : (hs : List (Holding P M)) (at other : ℕ) (h k : Holding P M) → get_elem? hs at ≡ some h → get_elem? hs other ≡ some k → (m : M) → IsRemembered (set (set hs at (joint_seats h k)) other (no_seats P M)) m → IsRemembered hs m
  gathers_keep hs at other h k get get' m is =
      ⊎_elim
      (λ u. let none : slice_get (no_seats P M).memories is.number ≡ Some m = ap (λ (x : Holding P M). slice_get x.memories is.number) u.1 ∙ is.there in cc)
      (λ u. ⊎_elim
      (λ s. ⊎_elim (λ l. here hs at h h m get refl l.0 l.1) (λ r. here hs other k k m get' refl r.0 r.1)
      (get_joint h.memories k.memories is.number m (ap (λ (x : Holding P M). slice_get x.memories is.number) s.1 ∙ is.there)))
      (λ s. record { at = is.at; seat = is.seat; stands = s.1; number = is.number; there = is.there })
      (at_set hs at is.at (joint_seats h k) is.seat u.1))
      (at_set (set hs at (joint_seats h k)) other is.at (no_seats P M) is.seat is.stands)

  pub deals : (h : Holding P M) → Parts (IsHeld t Holds Knows g) h (other_seats h) (first_seat h)
  deals h words hs at held get =
      let l = other_seats h in let r = first_seat h in
      let q = replaced seats hs at h get in
      let is : seats_of (set hs at l ++ r ∷ []) ≡ seats_of (set hs at l) ++ r.seats = flat_map-append seats (set hs at l) (r ∷ []) ∙ ap (λ (vs : List (Numbered P)). seats_of (set hs at l) ++ vs) (append-nil r.seats) in
      let turned : IsPermutation (seats_of (set hs at l) ++ r.seats) (r.seats ++ seats_of (set hs at l)) = IsPermutation-append_comm (seats_of (set hs at l)) r.seats in
      let parted : IsPermutation (r.seats ++ seats_of (set hs at l)) (r.seats ++ (l.seats ++ q.rest)) = IsPermutation-append r.seats r.seats (seats_of (set hs at l)) (l.seats ++ q.rest) (IsPermutation-refl r.seats) (q.after l) in
      let whole : r.seats ++ (l.seats ++ q.rest) ≡ h.seats ++ q.rest = sym (append_assoc r.seats l.seats q.rest) ∙ ap (λ (vs : List (Numbered P)). vs ++ q.rest) (take-append-drop 1 h.seats) in
      let new : IsPermutation (seats_of (set hs at l ++ r ∷ [])) (h.seats ++ q.rest) = subst (λ (vs : List (Numbered P)). IsPermutation vs (h.seats ++ q.rest)) (sym is)
      (IsPermutation-trans _ (r.seats ++ seats_of (set hs at l)) (h.seats ++ q.rest) turned (subst (IsPermutation (r.seats ++ seats_of (set hs at l))) whole parted)) in
      let mine = held.shapes at h get in
      held_permuted words hs (set hs at l ++ r ∷ []) held (IsPermutation-trans (seats_of hs) (h.seats ++ q.rest) _ q.before (IsPermutation-sym _ (h.seats ++ q.rest) new))
      (λ j k e some. ⊎_elim
      (λ old. ⊎_elim (λ u. subst (λ (x : Holding P M). 0 < length x.seats → x.shape ≡ g) u.1 (λ lt. mine (omega (arith, length-append r.seats l.seats, ap length (take-append-drop 1 h.seats)))) some)
      (λ u. held.shapes j k u.1 some) (at_set hs at j l k old))
      (λ last. subst (λ (x : Holding P M). 0 < length x.seats → x.shape ≡ g) last (λ lt. mine (omega (arith, length-append r.seats l.seats, ap length (take-append-drop 1 h.seats)))) some)
      (at_snoc (set hs at l) r k j e))
      (deals_keep hs at h get)

  pub gathers : (h k : Holding P M) → 0 < length h.seats → Merges (IsHeld t Holds Knows g) h k (joint_seats h k) (no_seats P M)
  gathers h k some_seats words hs at other held get get' ne =
      let b = joint_seats h k in
      let q = replaced_two seats hs at other h k get get' ne in
      let is : b.seats ++ ([] ++ q.rest) ≡ h.seats ++ (k.seats ++ q.rest) = append_assoc h.seats k.seats q.rest in
      held_permuted words hs (set (set hs at b) other (no_seats P M)) held
      (IsPermutation-trans (seats_of hs) (h.seats ++ (k.seats ++ q.rest)) _ q.before (IsPermutation-sym _ (h.seats ++ (k.seats ++ q.rest)) (subst (IsPermutation (seats_of (set (set hs at b) other (no_seats P M)))) is (q.after b (no_seats P M)))))
      (λ j x e some. ⊎_elim
      (λ u. subst (λ (y : Holding P M). 0 < length y.seats → y.shape ≡ g) u.1 (λ lt. absurd (omega arith)) some)
      (λ u. ⊎_elim (λ s. subst (λ (y : Holding P M). y.shape ≡ g) s.1 (held.shapes at h get some_seats)) (λ s. held.shapes j x s.1 some) (at_set hs at j b x u.1))
      (at_set (set hs at b) other j (no_seats P M) x e))
      (gathers_keep hs at other h k get get')
