-- How seats are dealt from one and gathered into one.
use Rattle.std.proofs.Common.{◌≡◌, ℕ, zero, suc, ◌+◌, ◌-◌, ◌<◌, List, [], ◌∷◌, ◌++◌, All, IsPermutation, drop, length, length-append, map, replicate, take, append_assoc, refl, sym, ap, ◌∙◌, subst, ◌⊎◌, inl, inr, ⊎_elim, arith}
use Rattle.std.proofs.Math.ListN.{get_or-append}
use Rattle.std.proofs.Math.Seq.{get_or-append_seam}
use Rattle.std.proofs.lemmas.List.{map-append}
use Rattle.std.proofs.lemmas.List.Sorted.{IsPermutation-trans, IsPermutation-append_comm, IsPermutation-append_right}
use Rattle.std.specs.Prelude.{None, Some, slice_get}
use Rattle.std.specs.List.{range_with_len}
use Rattle.cursor_word.specs.Shape.{Grid}
use Rattle.step_log.specs.Log.{Sitting}
use Rattle.machine.specs.declared.view.View.{View}
use Rattle.shared_seats.specs.declared.holding.Holding.{Holding}
use Rattle.rail.specs.Outcome.{numbers_below}
use Rattle.machine.specs.Steps.{resting}
use Rattle.shared_seats.specs.declared.holding.Numbered.{Numbered}
use Rattle.shared_seats.specs.Holding.{first_seat, fresh_seats, holding, joint_seats, numbered, numbered_from, other_seats}
use Rattle.call_steps.specs.Queue.{Queue, SeatedWith}
use Rattle.shared_seats.specs.Seats.{Gathering, memories_of_all, numbered_of_all}

module _ {A : Type 0} where
  pub take_replicate : (n : ℕ) (x : A) → 0 < n → take 1 (replicate n x) ≡ x ∷ []
  take_replicate zero x lt = absurd (omega arith)
  take_replicate (suc n) x lt = refl

  pub drop_replicate : (n : ℕ) (x : A) → 0 < n → drop 1 (replicate n x) ≡ replicate (n - 1) x
  drop_replicate zero x lt = absurd (omega arith)
  drop_replicate (suc n) x lt = let e : n ≡ suc n - 1 = omega arith in ap (λ (k : ℕ). replicate k x) e

  module _ (P : A → Type 0) (xs : List A) (x : A) (all : All P (xs ++ x ∷ [])) where
    all_init : All P xs
    all_init k d h = subst P (get_or-append xs (x ∷ []) d k h) (all k d (omega (arith, length-append xs (x ∷ []))))

    all_last : P x
    all_last = subst P (get_or-append_seam xs x [] x) (all (length xs) x (omega (arith, length-append xs (x ∷ []))))

module _ {P : Type 0} where
  take_numbered : (first n : ℕ) (v : View P) → 0 < n → take 1 (numbered_from first (replicate n v)) ≡ numbered first v ∷ []
  take_numbered first zero v lt = absurd (omega arith)
  take_numbered first (suc n) v lt = refl

  drop_numbered : (first n : ℕ) (v : View P) → 0 < n → drop 1 (numbered_from first (replicate n v)) ≡ numbered_from (first + 1) (replicate (n - 1) v)
  drop_numbered first zero v lt = absurd (omega arith)
  drop_numbered first (suc n) v lt = let e : n ≡ suc n - 1 = omega arith in ap (λ (k : ℕ). numbered_from (first + 1) (replicate k v)) e

module _ {P M : Type 0} (none : M) (g : Grid) (first n : ℕ) (v : Holding P M) (is : v ≡ fresh_seats P none g first n) (more : 0 < n) where
  pub dealt : first_seat v ≡ holding g (numbered first (resting P g) ∷ []) (none ∷ [])
  dealt = ap first_seat is ∙ ap (λ (xs : List (Numbered P)). holding g xs (take 1 (replicate n none))) (take_numbered first n (resting P g) more) ∙ ap (holding g (numbered first (resting P g) ∷ [])) (take_replicate n none more)

  pub kept : other_seats v ≡ fresh_seats P none g (first + 1) (n - 1)
  kept = ap other_seats is ∙ ap (λ (xs : List (Numbered P)). holding g xs (drop 1 (replicate n none))) (drop_numbered first n (resting P g) more) ∙ ap (holding g (numbered_from (first + 1) (replicate (n - 1) (resting P g)))) (drop_replicate n none more)

range-snoc : (a n : ℕ) → range_with_len a (n + 1) ≡ range_with_len a n ++ (a + n) ∷ []
range-snoc a zero = let e : a ≡ a + 0 = omega arith in ap (λ (k : ℕ). k ∷ []) e
range-snoc a (suc n) = let e : a + 1 + n ≡ a + suc n = omega arith in let f : suc n + 1 ≡ suc (n + 1) = omega arith in
    ap (range_with_len a) f ∙ ap (λ (xs : List ℕ). a ∷ xs) (range-snoc (a + 1) n ∙ ap (λ (k : ℕ). range_with_len (a + 1) n ++ k ∷ []) e)

-- the next number goes to the next seat
pub next_number : {P M : Type 0} (xs : List (SeatedWith P M)) (x : SeatedWith P M) (n : ℕ) → map (λ (s : SeatedWith P M). s.number) xs ≡ numbers_below n → x.number ≡ n → map (λ (s : SeatedWith P M). s.number) (xs ++ x ∷ []) ≡ numbers_below (n + 1)
next_number {P} {M} xs x n e is = let z : n ≡ 0 + n = omega arith in map-append (λ (s : SeatedWith P M). s.number) xs (x ∷ []) ∙ ap (λ (ns : List ℕ). ns ++ x.number ∷ []) e ∙ ap (λ (k : ℕ). numbers_below n ++ k ∷ []) (is ∙ z) ∙ sym (range-snoc 0 n)

get_push : {A : Type 0} (xs : List A) (x : A) (i : ℕ) (y : A) → slice_get (xs ++ x ∷ []) i ≡ Some y → (slice_get xs i ≡ Some y) ⊎ (x ≡ y)
get_push [] x zero y e = inr cc
get_push [] x (suc i) y e = cc
get_push (z ∷ xs) x zero y e = inl e
get_push (z ∷ xs) x (suc i) y e = get_push xs x i y e

abbrev own_number : {P M : Type 0} → SeatedWith P M → Numbered P
own_number x = numbered x.number x.view

abbrev IsOf : {P M : Type 0} → Queue → SeatedWith P M → Type 0
IsOf q s = (s.of.id ≡ q.id) × (s.of.shape ≡ q.shape)

mapped-snoc : {P M A : Type 0} (f : SeatedWith P M → A) (xs : List (SeatedWith P M)) (x : SeatedWith P M) → map f (xs ++ x ∷ []) ≡ map f xs ++ f x ∷ []
mapped-snoc f xs x = map-append f xs (x ∷ [])

-- what one more seat has goes behind what was gathered before
joins : {P M A : Type 0} (f : SeatedWith P M → A) (seats rest left : List (SeatedWith P M)) (x : SeatedWith P M) (have now : List A) → rest ≡ left ++ x ∷ [] → now ≡ have ++ f x ∷ [] → IsPermutation (map f seats) (have ++ map f rest) → IsPermutation (map f seats) (now ++ map f left)
joins {P} {M} {A} f seats rest left x have now cut is old =
    let ls = map f left in
    let before : IsPermutation (map f seats) (have ++ (ls ++ f x ∷ [])) = subst (λ (us : List A). IsPermutation (map f seats) (have ++ us)) (ap (map f) cut ∙ mapped-snoc f left x) old in
    let turned : IsPermutation (have ++ (ls ++ f x ∷ [])) (have ++ (f x ∷ [] ++ ls)) = IsPermutation-append_right have (ls ++ f x ∷ []) (f x ∷ [] ++ ls) (IsPermutation-append_comm ls (f x ∷ [])) in
    let after = IsPermutation-trans (map f seats) (have ++ (ls ++ f x ∷ [])) (have ++ (f x ∷ [] ++ ls)) before turned in
    subst (IsPermutation (map f seats)) (sym (append_assoc have (f x ∷ []) ls) ∙ ap (λ (us : List A). us ++ ls) (sym is)) after

module _ {P M : Type 0} (q : Queue) (left : List (SeatedWith P M)) (x : SeatedWith P M) (seat : Sitting (Holding P M)) (id : seat.id ≡ x.of.id) (is : seat.view ≡ holding x.of.shape (numbered x.number x.view ∷ []) (x.memory ∷ [])) (rests : x.view.phase ≡ None) where
  its : seat.view.seats ≡ own_number x ∷ []
  its = ap (λ (h : Holding P M). h.seats) is

  memory_its : seat.view.memories ≡ x.memory ∷ []
  memory_its = ap (λ (h : Holding P M). h.memories) is

  only_rests : (j : ℕ) (u : Numbered P) → slice_get (own_number x ∷ []) j ≡ Some u → u.view.phase ≡ None
  only_rests zero u e = let q : own_number x ≡ u = cc in subst (λ (y : Numbered P). y.view.phase ≡ None) q rests
  only_rests (suc j) u e = cc

  pub begins : (seats : List (SeatedWith P M)) → seats ≡ left ++ x ∷ [] → All (IsOf q) seats → Gathering q seat left seats
  begins seats cut own = let own' = subst (All (IsOf q)) cut own in let mine = all_last (IsOf q) left x own' in
      record {
        same = id ∙ mine.0;
        shape = ap (λ (h : Holding P M). h.shape) is ∙ mine.1;
        gathered = rw (cut, mapped-snoc own_number left x, its) (IsPermutation-append_comm (numbered_of_all left) (own_number x ∷ []));
        memories = rw (cut, mapped-snoc (λ (s : SeatedWith P M). s.memory) left x, memory_its) (IsPermutation-append_comm (memories_of_all left) (x.memory ∷ []));
        rest = λ j u e. only_rests j u (ap (λ (us : List (Numbered P)). slice_get us j) (sym its) ∙ e);
        some_seats = (let n = ap length its in omega arith);
        own = all_init (IsOf q) left x own';
      }

  pub goes_on : (all next : Sitting (Holding P M)) (rest seats : List (SeatedWith P M)) → Gathering q all rest seats → rest ≡ left ++ x ∷ [] → next.id ≡ all.id → next.view ≡ joint_seats all.view seat.view → Gathering q next left seats
  goes_on all next rest seats g cut same to = let own' = subst (All (IsOf q)) cut g.own in
      let xs = all.view.seats in let ms = all.view.memories in
      let now : next.view.seats ≡ xs ++ own_number x ∷ [] = ap (λ (h : Holding P M). h.seats) to ∙ ap (λ (us : List (Numbered P)). xs ++ us) its in
      let memory_now : next.view.memories ≡ ms ++ x.memory ∷ [] = ap (λ (h : Holding P M). h.memories) to ∙ ap (λ (us : List M). ms ++ us) memory_its in
      record {
        same = same ∙ g.same;
        shape = ap (λ (h : Holding P M). h.shape) to ∙ g.shape;
        gathered = joins own_number seats rest left x xs next.view.seats cut now g.gathered;
        memories = joins (λ (s : SeatedWith P M). s.memory) seats rest left x ms next.view.memories cut memory_now g.memories;
        rest = λ j u e. ⊎_elim (λ old. g.rest j u old) (λ new. subst (λ (y : Numbered P). y.view.phase ≡ None) new rests) (get_push xs (own_number x) j u (ap (λ (us : List (Numbered P)). slice_get us j) (sym now) ∙ e));
        some_seats = (let n = ap length now in let s = g.some_seats in omega (arith, length-append xs (own_number x ∷ [])));
        own = all_init (IsOf q) left x own';
      }
