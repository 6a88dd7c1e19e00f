-- Times of spans as sums over all spans, and sums over stacks.
use Rattle.std.proofs.Common.{◌≡◌, ℕ, ◌+◌, ◌≤◌, ◌==◌, ◌&&◌, ◌||◌, Bool, true, false, cond, List, [], ◌∷◌, map, sum_by, Some, None, Option, unwrap_or, Ordering, Less, Equal, Greater, refl, sym, ap, ◌∙◌, subst, arith}
use Rattle.std.specs.BTreeMap.{BTreeMap, get, Updates}
use Rattle.std.specs.Cmp.{IsTotalOrder}
use Rattle.std.specs.List.{AllByRecursion, filter, list_any}
use Rattle.std.specs.List.Sorted.{IsStrictlySortedBy}
use Rattle.std.specs.Map.{lookup}
use Rattle.std.specs.Ordering.{is_eq, nat_cmp}
use Rattle.std.proofs.lemmas.List.Sums.{sum_by-cons}
use Rattle.span_words.specs.declared.span.SpanKind.TheVariants.{Worker, Piece}
use Rattle.span_words.specs.declared.span.SpanEvent.{SpanEvent}
use Rattle.span_words.specs.Workers.{is_kind, spans_of}
use Rattle.span_fold.specs.Folded.{Stack, stack_of, stack_cmp, dur_of, whole_time}
use Rattle.span_fold.proofs.Stacks.{is_eq-nat_cmp, is_own, is_in_file, stack_exact}

-- ---- sums

filtered_first : {X : Type 0} (f : X → ℕ) (p : X → Bool) (x : X) (xs : List X) (b : Bool) → sum_by f (cond b (x ∷ filter p xs) (filter p xs)) ≡ cond b (f x) 0 + sum_by f (filter p xs)
filtered_first f p x xs true = sum_by-cons f x (filter p xs)
filtered_first f p x xs false = omega arith

pub filtered_sum : {X : Type 0} (f : X → ℕ) (p : X → Bool) (xs : List X) → sum_by f (filter p xs) ≡ sum_by (λ x. cond (p x) (f x) 0) xs
filtered_sum f p [] = refl
filtered_sum f p (x ∷ xs) = filtered_first f p x xs (p x) ∙ ap (λ n. cond (p x) (f x) 0 + n) (filtered_sum f p xs) ∙ sym (sum_by-cons (λ y. cond (p y) (f y) 0) x xs)

pub sum_of_none : {X : Type 0} (xs : List X) → sum_by (λ x. 0) xs ≡ 0
sum_of_none [] = refl
sum_of_none {X} (x ∷ xs) =
    let whole : sum_by {X = X} (λ y. 0) (x ∷ xs) ≡ 0 + sum_by {X = X} (λ y. 0) xs = sum_by-cons (λ y. 0) x xs in
    let rest : sum_by {X = X} (λ y. 0) xs ≡ 0 = sum_of_none xs in
    omega (arith, whole, rest)

pub sum_of_sums : {X : Type 0} (f g : X → ℕ) (xs : List X) → sum_by (λ x. f x + g x) xs ≡ sum_by f xs + sum_by g xs
sum_of_sums f g [] = refl
sum_of_sums f g (x ∷ xs) =
    let whole = sum_by-cons (λ y. f y + g y) x xs in
    let first = sum_by-cons f x xs in
    let second = sum_by-cons g x xs in
    omega (arith, whole, first, second, sum_of_sums f g xs)

-- ---- the time of a stack

cond_and : (a b : Bool) (n : ℕ) → cond a (cond b n 0) 0 ≡ cond (a && b) n 0
cond_and true b n = refl
cond_and false b n = refl

in_file : (tid file : ℕ) (s : SpanEvent) → cond (is_kind Piece s.kind && s.tid == tid) (cond (s.file == file) s.dur 0) 0 ≡ cond (is_eq (stack_cmp (stack_of s) (tid, Some file))) s.dur 0
in_file tid file s = cond_and (is_kind Piece s.kind && s.tid == tid) (s.file == file) s.dur ∙ ap (λ b. cond b s.dur 0) (sym (is_in_file s.kind s tid file))

abbrev pub time_in : Stack → SpanEvent → ℕ
time_in stack s = cond (is_eq (stack_cmp (stack_of s) stack)) s.dur 0

pub cond_most : (b : Bool) (n : ℕ) → cond b n 0 ≤ n
cond_most true n = omega arith
cond_most false n = omega arith

pub time_most : (stack : Stack) (s : SpanEvent) → time_in stack s ≤ s.dur
time_most stack s = cond_most (is_eq (stack_cmp (stack_of s) stack)) s.dur

pub whole_sum : (spans : List SpanEvent) (tid : ℕ) (file : Option ℕ) → whole_time spans tid file ≡ sum_by (time_in (tid, file)) spans
whole_sum spans tid None = filtered_sum (λ (s : SpanEvent). s.dur) (λ s. is_kind Worker s.kind && s.tid == tid) spans ∙ sym (λ i. sum_by (λ (s : SpanEvent). cond (is_own s.kind s tid i) s.dur 0) spans)
whole_sum spans tid (Some file) =
    filtered_sum (λ (s : SpanEvent). s.dur) (λ s. s.file == file) (spans_of Piece tid spans)
    ∙ filtered_sum (λ (s : SpanEvent). cond (s.file == file) s.dur 0) (λ s. is_kind Piece s.kind && s.tid == tid) spans
    ∙ (λ i. sum_by (λ (s : SpanEvent). in_file tid file s i) spans)

-- ---- each span has one of the stacks

pub is_equal : (o : Ordering) → is_eq o ≡ true → o ≡ Equal
is_equal Less e = cc
is_equal Equal e = refl
is_equal Greater e = cc

none_first : (n : ℕ) (b : Bool) (rest : Bool) (sum : ℕ) → (b || rest) ≡ false → (rest ≡ false → sum ≡ 0) → cond b n 0 + sum ≡ 0
none_first n true rest sum h more = cc
none_first n false rest sum h more = omega (arith, more h)

none_of : (p : Stack → Bool) (n : ℕ) (ks : List Stack) → list_any p ks ≡ false → sum_by (λ k. cond (p k) n 0) ks ≡ 0
none_of p n [] h = refl
none_of p n (k ∷ ks) h = sum_by-cons (λ x. cond (p x) n 0) k ks ∙ none_first n (p k) (list_any p ks) _ h (none_of p n ks)

none_after : (q : Stack) (ks : List Stack) → AllByRecursion (λ y. stack_cmp q y ≡ Less) ks → list_any (λ k. is_eq (stack_cmp q k)) ks ≡ false
none_after q [] h = refl
none_after q (k ∷ ks) h = ap (λ o. is_eq o || list_any (λ y. is_eq (stack_cmp q y)) ks) h.0 ∙ none_after q ks h.1

one_first : (q k : Stack) (n : ℕ) (ks : List Stack) (b : Bool) → is_eq (stack_cmp q k) ≡ b → AllByRecursion (λ y. stack_cmp k y ≡ Less) ks → (b || list_any (λ y. is_eq (stack_cmp q y)) ks) ≡ true
    → (list_any (λ y. is_eq (stack_cmp q y)) ks ≡ true → sum_by (λ y. cond (is_eq (stack_cmp q y)) n 0) ks ≡ n)
    → cond b n 0 + sum_by (λ y. cond (is_eq (stack_cmp q y)) n 0) ks ≡ n
one_first q k n ks true e later h more =
    let same : k ≡ q = sym (stack_exact q k (is_equal (stack_cmp q k) e)) in
    let none = none_of (λ y. is_eq (stack_cmp q y)) n ks (none_after q ks (subst (λ x. AllByRecursion (λ y. stack_cmp x y ≡ Less) ks) same later)) in
    omega (arith, none)
one_first q k n ks false e later h more = omega (arith, more h)

pub one_of : (q : Stack) (n : ℕ) (ks : List Stack) → IsStrictlySortedBy stack_cmp ks → list_any (λ y. is_eq (stack_cmp q y)) ks ≡ true → sum_by (λ y. cond (is_eq (stack_cmp q y)) n 0) ks ≡ n
unfolding IsStrictlySortedBy
one_of q n [] sorted h = cc
one_of q n (k ∷ ks) sorted h = sum_by-cons (λ y. cond (is_eq (stack_cmp q y)) n 0) k ks ∙ one_first q k n ks (is_eq (stack_cmp q k)) refl sorted.0 h (one_of q n ks sorted.1)

-- what spans have together is what the stacks have
pub all_stacks : (w : SpanEvent → ℕ) (ks : List Stack) (spans : List SpanEvent) → IsStrictlySortedBy stack_cmp ks → AllByRecursion (λ q. list_any (λ y. is_eq (stack_cmp q y)) ks ≡ true) (map stack_of spans)
    → sum_by (λ k. sum_by (λ s. cond (is_eq (stack_cmp (stack_of s) k)) (w s) 0) spans) ks ≡ sum_by w spans
all_stacks w ks [] sorted h = sum_of_none ks
all_stacks w ks (s ∷ ss) sorted h =
    (λ i. sum_by (λ k. sum_by-cons (λ x. cond (is_eq (stack_cmp (stack_of x) k)) (w x) 0) s ss i) ks)
    ∙ sum_of_sums (λ k. cond (is_eq (stack_cmp (stack_of s) k)) (w s) 0) (λ k. sum_by (λ x. cond (is_eq (stack_cmp (stack_of x) k)) (w x) 0) ss) ks
    ∙ (λ i. one_of (stack_of s) (w s) ks sorted h.0 i + all_stacks w ks ss sorted h.1 i)
    ∙ sym (sum_by-cons w s ss)

-- ---- times that are added up by keys

pub added : {K : Type 0} (R : K → K → Ordering) → IsTotalOrder R → (m n : BTreeMap K ℕ) (k q : K) (v : ℕ) → Updates R m n k (Some (unwrap_or (get R m k) 0 + v)) → unwrap_or (get R n q) 0 ≡ unwrap_or (get R m q) 0 + cond (is_eq (R k q)) v 0
added R total m n k q v updates = by (R k q) refl
  where
    same : R k q ≡ Equal → get R m k ≡ get R m q
    same e = λ i. lookup (λ z. is_eq (total.congr k q z e i)) m.entries

    by : (r : Ordering) → R k q ≡ r → unwrap_or (get R n q) 0 ≡ unwrap_or (get R m q) 0 + cond (is_eq (R k q)) v 0
    by Less e = ap (λ o. unwrap_or o 0) (updates.0 q) ∙ (λ i. unwrap_or (cond (is_eq (e i)) (Some (unwrap_or (get R m k) 0 + v)) (get R m q)) 0) ∙ omega arith ∙ sym (λ i. unwrap_or (get R m q) 0 + cond (is_eq (e i)) v 0)
    by Equal e = ap (λ o. unwrap_or o 0) (updates.0 q) ∙ (λ i. unwrap_or (cond (is_eq (e i)) (Some (unwrap_or (same e i) 0 + v)) (get R m q)) 0) ∙ sym (λ i. unwrap_or (get R m q) 0 + cond (is_eq (e i)) v 0)
    by Greater e = ap (λ o. unwrap_or o 0) (updates.0 q) ∙ (λ i. unwrap_or (cond (is_eq (e i)) (Some (unwrap_or (get R m k) 0 + v)) (get R m q)) 0) ∙ omega arith ∙ sym (λ i. unwrap_or (get R m q) 0 + cond (is_eq (e i)) v 0)

abbrev pub time_of_piece : ℕ → SpanEvent → ℕ
time_of_piece tid s = cond (is_kind Piece s.kind && s.tid == tid) s.dur 0

piece_first : (b c : Bool) (n : ℕ) → cond b (cond c n 0) 0 ≡ cond (c && b) n 0
piece_first true true n = refl
piece_first true false n = refl
piece_first false true n = refl
piece_first false false n = refl

pub piece_added : (tid : ℕ) (s : SpanEvent) → cond (is_eq (nat_cmp s.tid tid)) (cond (is_kind Piece s.kind) s.dur 0) 0 ≡ time_of_piece tid s
piece_added tid s = (λ i. cond (is_eq-nat_cmp s.tid tid i) (cond (is_kind Piece s.kind) s.dur 0) 0) ∙ piece_first (s.tid == tid) (is_kind Piece s.kind) s.dur

pub pieces_sum : (tid : ℕ) (spans : List SpanEvent) → dur_of (spans_of Piece tid spans) ≡ sum_by (time_of_piece tid) spans
pieces_sum tid spans = filtered_sum (λ (s : SpanEvent). s.dur) (λ s. is_kind Piece s.kind && s.tid == tid) spans
