-- The lines of a worker add up to its span.
use Rattle.std.proofs.Common.{◌≡◌, ℕ, ◌+◌, ◌-◌, ◌≤◌, ◌==◌, ◌&&◌, ◌||◌, Bool, true, false, cond, List, [], ◌∷◌, map, sum_by, Some, None, Option, Equal, refl, sym, ap, ◌∙◌, subst, arith}
use Rattle.std.specs.List.{AllByRecursion, filter, list_any}
use Rattle.std.specs.List.Sorted.{IsStrictlySortedBy}
use Rattle.std.specs.Ordering.{is_eq}
use Rattle.std.proofs.lemmas.List.Sums.{sum_by-cons}
use Rattle.span_words.specs.declared.span.SpanKind.{SpanKind}
use Rattle.span_words.specs.declared.span.SpanKind.TheVariants.{Worker, Piece}
use Rattle.span_words.specs.declared.span.SpanEvent.{SpanEvent}
use Rattle.span_words.specs.Workers.{is_kind, spans_of}
use Rattle.span_fold.specs.declared.folded.Line.{Line}
use Rattle.span_fold.specs.Folded.{Stack, stack_of, stack_of_kind, stack_cmp, stacks_of, dur_of, whole_time, self_time, line_of, folded}
use Rattle.span_fold.specs.Nested.{IsNested, time_of}
use Rattle.span_fold.proofs.Nested.{within_time}
use Rattle.span_fold.proofs.Stacks.{is_own, own_is_equal, own_is_first, stack_exact, stack_total, put_keys, sorted_keys}
use Rattle.span_fold.proofs.Times.{filtered_sum, sum_of_none, sum_of_sums, time_in, whole_sum, is_equal, one_of, all_stacks}

pub stacks_sorted : (spans : List SpanEvent) → IsStrictlySortedBy stack_cmp (stacks_of spans)
unfolding IsStrictlySortedBy
stacks_sorted spans = sorted_keys stack_cmp stack_total (map stack_of spans) [] tt

stacks_stand : (spans : List SpanEvent) → AllByRecursion (λ q. list_any (λ y. is_eq (stack_cmp q y)) (stacks_of spans) ≡ true) (map stack_of spans)
stacks_stand spans = put_keys stack_cmp stack_total (map stack_of spans) []

-- ---- the spans of a worker

abbrev time_by : ℕ → SpanEvent → ℕ
time_by tid s = cond (s.tid == tid) s.dur 0

of_a_kind : (k : SpanKind) (b : Bool) (n : ℕ) → cond b n 0 ≡ cond (is_kind Worker k && b) n 0 + cond (is_kind Piece k && b) n 0
of_a_kind Worker b n = omega arith
of_a_kind Piece b n = omega arith

by_kinds : (tid : ℕ) (spans : List SpanEvent) → sum_by (time_by tid) spans ≡ dur_of (spans_of Worker tid spans) + dur_of (spans_of Piece tid spans)
by_kinds tid spans =
    (λ i. sum_by (λ (s : SpanEvent). of_a_kind s.kind (s.tid == tid) s.dur i) spans)
    ∙ sum_of_sums (λ (s : SpanEvent). cond (is_kind Worker s.kind && s.tid == tid) s.dur 0) (λ (s : SpanEvent). cond (is_kind Piece s.kind && s.tid == tid) s.dur 0) spans
    ∙ (λ i. sym (filtered_sum (λ (s : SpanEvent). s.dur) (λ s. is_kind Worker s.kind && s.tid == tid) spans) i + sym (filtered_sum (λ (s : SpanEvent). s.dur) (λ s. is_kind Piece s.kind && s.tid == tid) spans) i)

-- ---- its stacks

worker_of : (k : SpanKind) (s : SpanEvent) → (stack_of_kind k s).0 ≡ s.tid
worker_of Worker s = refl
worker_of Piece s = refl

cond_none : (b : Bool) → ◌≡◌ {A = ℕ} (cond b 0 0) 0
cond_none true = refl
cond_none false = refl

at_stack : (tid : ℕ) (q : Stack) (s : SpanEvent) (b : Bool) → is_eq (stack_cmp (stack_of s) q) ≡ b → cond (q.0 == tid) (cond b s.dur 0) 0 ≡ cond b (time_by tid s) 0
at_stack tid q s true e = ap (λ n. cond (n == tid) s.dur 0) (ap (λ (x : Stack). x.0) (sym (stack_exact (stack_of s) q (is_equal _ e))) ∙ worker_of s.kind s)
at_stack tid q s false e = cond_none (q.0 == tid)

cond_sum : {X : Type 0} (b : Bool) (f : X → ℕ) (xs : List X) → cond b (sum_by f xs) 0 ≡ sum_by (λ x. cond b (f x) 0) xs
cond_sum true f xs = refl
cond_sum false f xs = sym (sum_of_none xs)

whole_of_worker : (tid : ℕ) (spans : List SpanEvent) → sum_by (λ (q : Stack). cond (q.0 == tid) (whole_time spans q.0 q.1) 0) (stacks_of spans) ≡ sum_by (time_by tid) spans
whole_of_worker tid spans =
    (λ i. sum_by (λ (q : Stack). cond (q.0 == tid) (whole_sum spans q.0 q.1 i) 0) (stacks_of spans))
    ∙ (λ i. sum_by (λ (q : Stack). cond_sum (q.0 == tid) (time_in q) spans i) (stacks_of spans))
    ∙ (λ i. sum_by (λ (q : Stack). sum_by (λ s. at_stack tid q s (is_eq (stack_cmp (stack_of s) q)) refl i) spans) (stacks_of spans))
    ∙ all_stacks (time_by tid) (stacks_of spans) spans (stacks_sorted spans) (stacks_stand spans)

-- ---- what is taken off

off_own : (spans : List SpanEvent) (tid other pieces : ℕ) (b : Bool) → (other == tid) ≡ b → pieces ≡ dur_of (spans_of Piece tid spans) → pieces ≤ dur_of (spans_of Worker tid spans)
    → cond b (self_time spans other None) 0 + cond b pieces 0 ≡ cond b (whole_time spans other None) 0
off_own spans tid other pieces true e is most =
    let same : other ≡ tid = grind arith in
    subst (λ n. (dur_of (spans_of Worker n spans) - dur_of (spans_of Piece n spans)) + pieces ≡ dur_of (spans_of Worker n spans)) (sym same) (omega arith)
off_own spans tid other pieces false e is most = refl

off_none : (b : Bool) (n : ℕ) → cond b (n - 0) 0 + 0 ≡ cond b n 0
off_none true n = omega arith
off_none false n = omega arith

taken_off : (spans : List SpanEvent) (tid other : ℕ) (file : Option ℕ) (pieces : ℕ) → pieces ≡ dur_of (spans_of Piece tid spans) → pieces ≤ dur_of (spans_of Worker tid spans)
    → cond (other == tid) (self_time spans other file) 0 + cond (is_eq (stack_cmp (tid, None) (other, file))) pieces 0 ≡ cond (other == tid) (whole_time spans other file) 0
taken_off spans tid other None pieces is most =
    ap (λ b. cond (other == tid) (self_time spans other None) 0 + cond b pieces 0) (own_is_equal tid other) ∙ off_own spans tid other pieces (other == tid) refl is most
taken_off spans tid other (Some file) pieces is most =
    ap (λ b. cond (other == tid) (self_time spans other (Some file)) 0 + cond b pieces 0) (own_is_first tid other file) ∙ off_none (other == tid) (whole_time spans other (Some file))

-- ---- the worker's own line

own_first : (s : SpanEvent) (tid : ℕ) (p : Stack → Bool) (b : Bool) (w : SpanEvent) (ws rest : List SpanEvent) → is_eq (stack_cmp (stack_of s) (tid, None)) ≡ b → p (stack_of s) ≡ true → cond b (s ∷ rest) rest ≡ w ∷ ws → (rest ≡ w ∷ ws → p (tid, None) ≡ true) → p (tid, None) ≡ true
own_first s tid p true w ws rest e stands is more = subst (λ q. p q ≡ true) (stack_exact (stack_of s) (tid, None) (is_equal _ e)) stands
own_first s tid p false w ws rest e stands is more = more is

own_stands : (tid : ℕ) (p : Stack → Bool) (spans : List SpanEvent) → AllByRecursion (λ q. p q ≡ true) (map stack_of spans) → (w : SpanEvent) (ws : List SpanEvent) → spans_of Worker tid spans ≡ w ∷ ws → p (tid, None) ≡ true
own_stands tid p [] h w ws is = cc
own_stands tid p (s ∷ ss) h w ws is = own_first s tid p (is_kind Worker s.kind && s.tid == tid) w ws (spans_of Worker tid ss) (is_own s.kind s tid) h.0 is (own_stands tid p ss h.1 w ws)

-- ---- the sum

sum_mapped : {X Y : Type 0} (f : Y → ℕ) (g : X → Y) (xs : List X) → sum_by f (map g xs) ≡ sum_by (λ x. f (g x)) xs
sum_mapped f g [] = refl
sum_mapped f g (x ∷ xs) = sum_by-cons f (g x) (map g xs) ∙ ap (λ n. f (g x) + n) (sum_mapped f g xs) ∙ sym (sum_by-cons (λ y. f (g y)) x xs)

self_sum : (tid : ℕ) (spans : List SpanEvent) → time_of tid (folded spans) ≡ sum_by (λ (q : Stack). cond (q.0 == tid) (self_time spans q.0 q.1) 0) (stacks_of spans)
self_sum tid spans =
    filtered_sum (λ (l : Line). l.time) (λ (l : Line). l.tid == tid) (folded spans)
    ∙ sum_mapped (λ (l : Line). cond (l.tid == tid) l.time 0) (line_of spans) (stacks_of spans)

pub adds_up : (spans : List SpanEvent) (tid : ℕ) (worker : SpanEvent) → IsNested tid worker spans → time_of tid (folded spans) ≡ worker.dur
adds_up spans tid worker nested =
    let pieces = dur_of (spans_of Piece tid spans) in
    let one : dur_of (spans_of Worker tid spans) ≡ 0 + worker.dur = ap dur_of nested.one in
    let own : dur_of (spans_of Worker tid spans) ≡ worker.dur = omega (arith, one) in
    let few : pieces ≤ dur_of (spans_of Worker tid spans) = omega (arith, own, within_time worker (spans_of Piece tid spans) nested.within nested.apart) in
    let in_list = own_stands tid (λ q. list_any (λ y. is_eq (stack_cmp q y)) (stacks_of spans)) spans (stacks_stand spans) worker [] nested.one in
    let off : sum_by (λ (q : Stack). cond (is_eq (stack_cmp (tid, None) q)) pieces 0) (stacks_of spans) ≡ pieces = one_of (tid, None) pieces (stacks_of spans) (stacks_sorted spans) in_list in
    let both : sum_by (λ (q : Stack). cond (q.0 == tid) (self_time spans q.0 q.1) 0) (stacks_of spans) + sum_by (λ (q : Stack). cond (is_eq (stack_cmp (tid, None) q)) pieces 0) (stacks_of spans) ≡ sum_by (time_by tid) spans =
    sym (sum_of_sums (λ (q : Stack). cond (q.0 == tid) (self_time spans q.0 q.1) 0) (λ (q : Stack). cond (is_eq (stack_cmp (tid, None) q)) pieces 0) (stacks_of spans))
    ∙ (λ i. sum_by (λ (q : Stack). taken_off spans tid q.0 q.1 pieces refl few i) (stacks_of spans)) ∙ whole_of_worker tid spans in
    omega (arith, self_sum tid spans, off, both, by_kinds tid spans, own)
