-- Spans that lie within a time, one after another, take no longer than it.
use Rattle.std.proofs.Common.{◌≡◌, ℕ, zero, suc, ◌+◌, ◌-◌, ◌<◌, ◌≤◌, ◌⊎◌, ◌&&◌, Bool, true, false, cond, min, nat_le, nat_lt, List, [], ◌∷◌, length, get_or, sum_by, refl, sym, ap, ◌∙◌, arith}
use Rattle.std.specs.Prelude.{All}
use Rattle.std.specs.List.{AllPairs}
use Rattle.std.proofs.lemmas.List.Elements.{All-head, All-tail}
use Rattle.std.proofs.lemmas.List.Sums.{sum_by-cons}
use Rattle.span_words.specs.declared.span.SpanEvent.{SpanEvent}
use Rattle.span_fold.specs.Nested.{IsWithin, AreApart}
use Rattle.span_fold.proofs.Times.{sum_of_sums}

-- how much of a span lies before a time
abbrev before : ℕ → SpanEvent → ℕ
before t s = min t (s.ts + s.dur) - min t s.ts

-- whether a span covers the microsecond from a time on
abbrev covers : ℕ → SpanEvent → Bool
covers t s = nat_le s.ts t && nat_lt t (s.ts + s.dur)

abbrev covered : ℕ → SpanEvent → ℕ
covered t s = cond (covers t s) 1 0

one_later : (t : ℕ) (s : SpanEvent) → before (t + 1) s ≡ before t s + covered t s
one_later t s = grind arith

nothing_before : (t : ℕ) (s : SpanEvent) → t ≤ s.ts → before t s ≡ 0
nothing_before t s h = omega arith

all_before : (t : ℕ) (s : SpanEvent) → s.ts + s.dur ≤ t → before t s ≡ s.dur
all_before t s h = omega arith

not_both : (t : ℕ) (a b : SpanEvent) → AreApart a b → covers t a ≡ true → covers t b ≡ false
not_both t a b apart h = grind arith

-- ---- at most one of them covers a microsecond

none_covers : (t : ℕ) (a : SpanEvent) (ss : List SpanEvent) → covers t a ≡ true → All (AreApart a) ss → sum_by (covered t) ss ≡ 0
none_covers t a [] h apart = refl
none_covers t a (s ∷ ss) h apart =
    sum_by-cons (covered t) s ss
    ∙ (λ i. cond (not_both t a s (All-head (AreApart a) s ss apart) h i) 1 0 + none_covers t a ss h (All-tail (AreApart a) s ss apart) i)

pairs_head : (s : SpanEvent) (ss : List SpanEvent) → AllPairs AreApart (s ∷ ss) → All (AreApart s) ss
pairs_head s ss apart = λ k d lt. apart 0 (suc k) d (omega arith) (omega arith)

pairs_tail : (s : SpanEvent) (ss : List SpanEvent) → AllPairs AreApart (s ∷ ss) → AllPairs AreApart ss
pairs_tail s ss apart = λ i j d lt lt'. apart (suc i) (suc j) d (omega arith) (omega arith)

one_first : (t : ℕ) (s : SpanEvent) (ss : List SpanEvent) (b : Bool) → covers t s ≡ b → All (AreApart s) ss → sum_by (covered t) ss ≤ 1 → cond b 1 0 + sum_by (covered t) ss ≤ 1
one_first t s ss true e apart more = omega (arith, none_covers t s ss e apart)
one_first t s ss false e apart more = omega (arith, more)

one_covers : (t : ℕ) (ss : List SpanEvent) → AllPairs AreApart ss → sum_by (covered t) ss ≤ 1
one_covers t [] apart = omega arith
one_covers t (s ∷ ss) apart =
    let first = one_first t s ss (covers t s) refl (pairs_head s ss apart) (one_covers t ss (pairs_tail s ss apart)) in
    omega (arith, sum_by-cons (covered t) s ss, first)

-- ---- so they grow no faster than the time

all_later : (t : ℕ) (ss : List SpanEvent) → All (λ (s : SpanEvent). t ≤ s.ts) ss → sum_by (before t) ss ≡ 0
all_later t [] h = refl
all_later t (s ∷ ss) h =
    sum_by-cons (before t) s ss
    ∙ (λ i. nothing_before t s (All-head (λ (x : SpanEvent). t ≤ x.ts) s ss h) i + all_later t ss (All-tail (λ (x : SpanEvent). t ≤ x.ts) s ss h) i)

all_earlier : (t : ℕ) (ss : List SpanEvent) → All (λ (s : SpanEvent). s.ts + s.dur ≤ t) ss → sum_by (before t) ss ≡ sum_by (λ (s : SpanEvent). s.dur) ss
all_earlier t [] h = refl
all_earlier t (s ∷ ss) h =
    sum_by-cons (before t) s ss
    ∙ (λ i. all_before t s (All-head (λ (x : SpanEvent). x.ts + x.dur ≤ t) s ss h) i + all_earlier t ss (All-tail (λ (x : SpanEvent). x.ts + x.dur ≤ t) s ss h) i)
    ∙ sym (sum_by-cons (λ (x : SpanEvent). x.dur) s ss)

grown : (t n : ℕ) (ss : List SpanEvent) → AllPairs AreApart ss → All (λ (s : SpanEvent). t ≤ s.ts) ss → sum_by (before (t + n)) ss ≤ n
grown t zero ss apart later =
    let same : t + zero ≡ t = omega arith in
    omega (arith, ap (λ n. sum_by (before n) ss) same, all_later t ss later)
grown t (suc n) ss apart later =
    let step : sum_by (before (t + n + 1)) ss ≡ sum_by (before (t + n)) ss + sum_by (covered (t + n)) ss =
    (λ i. sum_by (λ s. one_later (t + n) s i) ss) ∙ sum_of_sums (before (t + n)) (covered (t + n)) ss in
    let same : t + suc n ≡ t + n + 1 = omega arith in
    omega (arith, ap (λ m. sum_by (before m) ss) same, step, grown t n ss apart later, one_covers (t + n) ss apart)

pub within_time : (worker : SpanEvent) (pieces : List SpanEvent) → All (IsWithin worker) pieces → AllPairs AreApart pieces → sum_by (λ (s : SpanEvent). s.dur) pieces ≤ worker.dur
within_time worker pieces within apart =
    let later : All (λ (s : SpanEvent). worker.ts ≤ s.ts) pieces = λ k d lt. (within k d lt).0 in
    let earlier : All (λ (s : SpanEvent). s.ts + s.dur ≤ worker.ts + worker.dur) pieces = λ k d lt. (within k d lt).1 in
    omega (arith, all_earlier (worker.ts + worker.dur) pieces earlier, grown worker.ts worker.dur pieces apart later)
