-- Stacks by their order, each once.
use Rattle.std.proofs.Common.{◌≡◌, ℕ, ◌+◌, ◌<◌, ◌==◌, ◌&&◌, ◌||◌, Bool, true, false, List, [], ◌∷◌, length, get_or, take, map, Some, None, Option, Ordering, Less, Equal, Greater, refl, sym, ap, ◌∙◌, arith}
use Rattle.std.specs.Prelude.{fold}
use Rattle.std.specs.BTreeMap.{insert_entry}
use Rattle.std.specs.BTreeSet.{insert_key}
use Rattle.std.specs.Map.{keys_of}
use Rattle.std.proofs.lemmas.List.{map-append, take_more}
use Rattle.std.proofs.lemmas.List.Sums.{fold-append}
use Rattle.std.specs.Cmp.{IsTotalOrder}
use Rattle.std.specs.Cmp.Lexicographic.{options_total}
use Rattle.std.specs.List.{AllByRecursion, list_any}
use Rattle.std.specs.Option.{option_cmp}
use Rattle.std.specs.List.Sorted.{IsStrictlySortedBy}
use Rattle.std.specs.Ordering.{nat_cmp, is_eq, match_ordering, ordering_reverse, ordering_then}
use Rattle.std.proofs.lemmas.Bool.{false≢true}
use Rattle.std.proofs.lemmas.Cmp.{nat_cmp_total, then_total, on_total}
use Rattle.std.proofs.lemmas.Map.Lookups.{CmpEqualImpliesEq, exact_unsigned, exact_pairs}
use Rattle.span_words.specs.declared.span.SpanKind.{SpanKind}
use Rattle.span_words.specs.declared.span.SpanKind.TheVariants.{Worker, Piece}
use Rattle.span_words.specs.declared.span.SpanEvent.{SpanEvent}
use Rattle.span_words.specs.Workers.{is_kind}
use Rattle.span_fold.specs.Folded.{Stack, stack_of_kind, stack_of, stack_cmp, stacks_of}

pub stack_total : IsTotalOrder stack_cmp
stack_total = then_total (on_total (λ (s : Stack). s.0) nat_cmp_total) (on_total (λ (s : Stack). s.1) (options_total nat_cmp_total))

exact_files : CmpEqualImpliesEq (option_cmp nat_cmp)
exact_files None None e = refl
exact_files None (Some y) e = cc
exact_files (Some x) None e = cc
exact_files (Some x) (Some y) e = ap Some (exact_unsigned x y e)

pub stack_exact : CmpEqualImpliesEq stack_cmp
stack_exact = exact_pairs nat_cmp (option_cmp nat_cmp) exact_unsigned exact_files

-- ---- which stack a span has

pub is_eq-nat_cmp : (a b : ℕ) → is_eq (nat_cmp a b) ≡ (a == b)
is_eq-nat_cmp a b = grind arith

is_eq-then : (o p : Ordering) → is_eq (ordering_then o p) ≡ (is_eq o && is_eq p)
is_eq-then Less p = refl
is_eq-then Equal p = refl
is_eq-then Greater p = refl

eq_flip : (a b : ℕ) → (a == b) ≡ (b == a)
eq_flip a b = grind arith

and_true : (b : Bool) → (b && true) ≡ b
and_true true = refl
and_true false = refl

and_false : (b : Bool) → (b && false) ≡ false
and_false true = refl
and_false false = refl

pub is_own : (k : SpanKind) (s : SpanEvent) (tid : ℕ) → is_eq (stack_cmp (stack_of_kind k s) (tid, None)) ≡ (is_kind Worker k && s.tid == tid)
is_own Worker s tid = is_eq-then (nat_cmp s.tid tid) Equal ∙ and_true (is_eq (nat_cmp s.tid tid)) ∙ is_eq-nat_cmp s.tid tid
is_own Piece s tid = is_eq-then (nat_cmp s.tid tid) Greater ∙ and_false (is_eq (nat_cmp s.tid tid))

pub is_in_file : (k : SpanKind) (s : SpanEvent) (tid file : ℕ) → is_eq (stack_cmp (stack_of_kind k s) (tid, Some file)) ≡ ((is_kind Piece k && s.tid == tid) && s.file == file)
is_in_file Worker s tid file = is_eq-then (nat_cmp s.tid tid) Less ∙ and_false (is_eq (nat_cmp s.tid tid))
is_in_file Piece s tid file = is_eq-then (nat_cmp s.tid tid) (nat_cmp s.file file) ∙ (λ i. is_eq-nat_cmp s.tid tid i && is_eq-nat_cmp s.file file i)

pub own_is_equal : (tid other : ℕ) → is_eq (stack_cmp (tid, None) (other, None)) ≡ (other == tid)
own_is_equal tid other = is_eq-then (nat_cmp tid other) Equal ∙ and_true (is_eq (nat_cmp tid other)) ∙ is_eq-nat_cmp tid other ∙ eq_flip tid other

pub own_is_first : (tid other file : ℕ) → is_eq (stack_cmp (tid, None) (other, Some file)) ≡ false
own_is_first tid other file = is_eq-then (nat_cmp tid other) Less ∙ and_false (is_eq (nat_cmp tid other))

-- ---- keys that are put in one after another

or_right : (a b : Bool) → b ≡ true → (a || b) ≡ true
or_right true b h = refl
or_right false b h = h

or_left : (a b : Bool) → a ≡ true → (a || b) ≡ true
or_left true b h = refl
or_left false b h = absurd (false≢true h)

or_more : (a b c : Bool) → (b ≡ true → c ≡ true) → (a || b) ≡ true → (a || c) ≡ true
or_more true b c more h = refl
or_more false b c more h = more h

module _ {K : Type 0} (R : K → K → Ordering) (total : IsTotalOrder R) where
  equal_itself : (r : Ordering) → r ≡ ordering_reverse r → is_eq r ≡ true
  equal_itself Less e = cc
  equal_itself Equal e = refl
  equal_itself Greater e = cc

  kept_by : (r : Ordering) (p : K → Bool) (x : K) (xs : List K) (k : K) → (list_any p xs ≡ true → list_any p (insert_key R xs k) ≡ true) → list_any p (x ∷ xs) ≡ true
      → list_any p (match_ordering r (k ∷ x ∷ xs) (x ∷ xs) (x ∷ insert_key R xs k)) ≡ true
  kept_by Less p x xs k more h = or_right (p k) _ h
  kept_by Equal p x xs k more h = h
  kept_by Greater p x xs k more h = or_more (p x) _ _ more h

  kept_key : (p : K → Bool) (ks : List K) (k : K) → list_any p ks ≡ true → list_any p (insert_key R ks k) ≡ true
  kept_key p [] k h = absurd (false≢true h)
  kept_key p (x ∷ xs) k h = kept_by (R k x) p x xs k (kept_key p xs k) h

  put_by : (r : Ordering) (x : K) (xs : List K) (k : K) → R k x ≡ r → list_any (λ y. is_eq (R k y)) (insert_key R xs k) ≡ true
      → list_any (λ y. is_eq (R k y)) (match_ordering r (k ∷ x ∷ xs) (x ∷ xs) (x ∷ insert_key R xs k)) ≡ true
  put_by Less x xs k e h = or_left (is_eq (R k k)) _ (equal_itself (R k k) (total.antisymm k k))
  put_by Equal x xs k e h = or_left (is_eq (R k x)) _ (ap is_eq e)
  put_by Greater x xs k e h = or_right (is_eq (R k x)) _ h

  put_key : (ks : List K) (k : K) → list_any (λ y. is_eq (R k y)) (insert_key R ks k) ≡ true
  put_key [] k = or_left (is_eq (R k k)) _ (equal_itself (R k k) (total.antisymm k k))
  put_key (x ∷ xs) k = put_by (R k x) x xs k refl (put_key xs k)

  kept_keys : (p : K → Bool) (xs ks : List K) → list_any p ks ≡ true → list_any p (fold (insert_key R) ks xs) ≡ true
  kept_keys p [] ks h = h
  kept_keys p (x ∷ xs) ks h = kept_keys p xs (insert_key R ks x) (kept_key p ks x h)

  -- each key stands in the list
  pub put_keys : (xs ks : List K) → AllByRecursion (λ x. list_any (λ y. is_eq (R x y)) (fold (insert_key R) ks xs) ≡ true) xs
  put_keys [] ks = tt
  put_keys (x ∷ xs) ks = (kept_keys (λ y. is_eq (R x y)) xs (insert_key R ks x) (put_key ks x), put_keys xs (insert_key R ks x))

  below_later : (k x : K) (xs : List K) → R k x ≡ Less → AllByRecursion (λ y. R x y ≡ Less) xs → AllByRecursion (λ y. R k y ≡ Less) xs
  below_later k x [] e h = tt
  below_later k x (y ∷ ys) e h = (total.trans k x y e h.0, below_later k x ys e h.1)

  among_by : (r : Ordering) (P : K → Type 0) (x : K) (xs : List K) (k : K) → P k → AllByRecursion P (x ∷ xs) → AllByRecursion P (insert_key R xs k)
      → AllByRecursion P (match_ordering r (k ∷ x ∷ xs) (x ∷ xs) (x ∷ insert_key R xs k))
  among_by Less P x xs k one all more = (one, all)
  among_by Equal P x xs k one all more = all
  among_by Greater P x xs k one all more = (all.0, more)

  among_keys : (P : K → Type 0) (ks : List K) (k : K) → P k → AllByRecursion P ks → AllByRecursion P (insert_key R ks k)
  among_keys P [] k one all = (one, tt)
  among_keys P (x ∷ xs) k one all = among_by (R k x) P x xs k one all (among_keys P xs k one all.1)

  sorted_by : (r : Ordering) (x : K) (xs : List K) (k : K) → R k x ≡ r → IsStrictlySortedBy R (x ∷ xs) → IsStrictlySortedBy R (insert_key R xs k)
      → IsStrictlySortedBy R (match_ordering r (k ∷ x ∷ xs) (x ∷ xs) (x ∷ insert_key R xs k))
  unfolding IsStrictlySortedBy
  sorted_by Less x xs k e h more = ((e, below_later k x xs e h.0), h)
  sorted_by Equal x xs k e h more = h
  sorted_by Greater x xs k e h more = (among_keys (λ y. R x y ≡ Less) xs k (total.antisymm x k ∙ ap ordering_reverse e) h.0, more)

  sorted_key : (ks : List K) (k : K) → IsStrictlySortedBy R ks → IsStrictlySortedBy R (insert_key R ks k)
  unfolding IsStrictlySortedBy
  sorted_key [] k h = (tt, tt)
  sorted_key (x ∷ xs) k h = sorted_by (R k x) x xs k refl h (sorted_key xs k h.1)

  -- the list is in order
  pub sorted_keys : (xs ks : List K) → IsStrictlySortedBy R ks → IsStrictlySortedBy R (fold (insert_key R) ks xs)
  sorted_keys [] ks h = h
  sorted_keys (x ∷ xs) ks h = sorted_keys xs (insert_key R ks x) (sorted_key ks x h)

-- the keys of entries that are put in
inserted_by : {K X : Type 0} (R : K → K → Ordering) (r : Ordering) (e : K × X) (es : List (K × X)) (k : K) (v : X) → keys_of (insert_entry R es k v) ≡ insert_key R (keys_of es) k
    → keys_of (match_ordering r ((k, v) ∷ e ∷ es) ((e.0, v) ∷ es) (e ∷ insert_entry R es k v)) ≡ match_ordering r (k ∷ e.0 ∷ keys_of es) (e.0 ∷ keys_of es) (e.0 ∷ insert_key R (keys_of es) k)
inserted_by R Less e es k v more = refl
inserted_by R Equal e es k v more = refl
inserted_by R Greater e es k v more = ap (λ l. e.0 ∷ l) more

pub inserted_keys : {K X : Type 0} (R : K → K → Ordering) (es : List (K × X)) (k : K) (v : X) → keys_of (insert_entry R es k v) ≡ insert_key R (keys_of es) k
inserted_keys R [] k v = refl
inserted_keys R (e ∷ es) k v = inserted_by R (R k e.0) e es k v (inserted_keys R es k v)

pub stacks_more : (spans : List SpanEvent) (i : ℕ) (d : SpanEvent) → i < length spans → stacks_of (take (i + 1) spans) ≡ insert_key stack_cmp (stacks_of (take i spans)) (stack_of (get_or spans i d))
stacks_more spans i d lt =
    ap stacks_of (take_more spans i d lt) ∙ ap (fold (insert_key stack_cmp) []) (map-append stack_of (take i spans) (get_or spans i d ∷ []))
    ∙ fold-append (insert_key stack_cmp) [] (map stack_of (take i spans)) (stack_of (get_or spans i d) ∷ [])
