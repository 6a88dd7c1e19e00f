-- A worker whose pieces lie in its one span, one after another.
use Rattle.std.specs.Prelude.{◌≡◌, ℕ, ◌+◌, ◌≤◌, ◌==◌, ◌⊎◌, All, List, [], ◌∷◌, sum_by}
use Rattle.std.specs.List.{AllPairs, filter}
use Rattle.span_words.specs.declared.span.SpanKind.TheVariants.{Worker, Piece}
use Rattle.span_words.specs.declared.span.SpanEvent.{SpanEvent}
use Rattle.span_words.specs.Workers.{spans_of}
use Rattle.span_fold.specs.declared.folded.Line.{Line}

-- a span lies within another
abbrev pub IsWithin : SpanEvent → SpanEvent → Type 0
IsWithin outer inner = (outer.ts ≤ inner.ts) × (inner.ts + inner.dur ≤ outer.ts + outer.dur)

-- two spans overlap in no more than an end
abbrev pub AreApart : SpanEvent → SpanEvent → Type 0
AreApart a b = (a.ts + a.dur ≤ b.ts) ⊎ (b.ts + b.dur ≤ a.ts)

-- among the spans the worker of this number has one of its own, its pieces lie within it, and no
-- two of them overlap but in an end
pub record IsNested (tid : ℕ) (worker : SpanEvent) (spans : List SpanEvent) : Type 0 where
  pub one : spans_of Worker tid spans ≡ worker ∷ []
  pub within : All (IsWithin worker) (spans_of Piece tid spans)
  pub apart : AllPairs AreApart (spans_of Piece tid spans)

-- how long all lines of a worker took
abbrev pub time_of : ℕ → List Line → ℕ
time_of tid lines = sum_by (λ (l : Line). l.time) (filter (λ (l : Line). l.tid == tid) lines)
