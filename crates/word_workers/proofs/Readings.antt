-- One reading of a hand after another.
use Rattle.std.proofs.Common.{◌≡◌, ℕ, ◌+◌, ◌*◌, ◌<◌, ◌≤◌, List, [], ◌∷◌, ◌++◌, length, get_or, min, refl, sym, ap, subst, ◌∙◌, arith, below_more}
use Rattle.std.specs.Prelude.{Option, Some, None, IfSome}
use Rattle.std.specs.List.{All}
use Rattle.std.proofs.lemmas.List.{length-append, get_or_append_left}
use Rattle.std.proofs.lemmas.List.Elements.{All-append, All-from_recursion, All-nil}
use Rattle.std.proofs.Math.Seq.{get_or-append_seam}
use Rattle.flow_io.specs.Clock.{Ticks, Reads, last_reading, reading_at, ticked}
use Rattle.word_workers.specs.Spans.{AreReadings}

-- after so many readings, a hand that told these ticks at first is so far
pub record IsAfter (now : Option Ticks) (count : ℕ) (t : Ticks) : Type 0 where
  pub ticks : Ticks
  pub told : now ≡ Some ticks
  pub next : min ticks.next last_reading ≡ reading_at t count
  pub step : ticks.step ≡ t.step

-- a hand that told this at first gave these readings, and tells that now
pub record HasRead (first now : Option Ticks) (readings : List ℕ) (count : ℕ) : Type 0 where
  pub are_readings : AreReadings first readings count
  pub so_far : IfSome first (IsAfter now count)

pub has_read_none : (t : Option Ticks) → HasRead t t [] 0
has_read_none None = record { are_readings = record { number = refl; most = All-nil (λ r. r ≤ last_reading); told = tt }; so_far = tt }
has_read_none (Some t) = record {
  are_readings = record { number = refl; most = All-nil (λ r. r ≤ last_reading); told = λ j h. absurd (omega arith) };
  so_far = record { ticks = t; told = refl; next = let e : t.next + 0 * t.step ≡ t.next = omega arith in ap (λ n. min n last_reading) (sym e); step = refl };
}

most_more : (rs : List ℕ) (r : ℕ) → All (λ x. x ≤ last_reading) rs → r ≤ last_reading → All (λ x. x ≤ last_reading) (rs ++ r ∷ [])
most_more rs r a h = let P : ℕ → Type 0 = λ x. x ≤ last_reading in All-append P rs (r ∷ []) a (All-from_recursion P (r ∷ []) (h, tt))

next_step : (a s n m : ℕ) → m ≡ min (a + n * s) last_reading → min (min (m + s) last_reading) last_reading ≡ min (a + (n + 1) * s) last_reading
next_step a s n m e = omega arith

told_more : (t : Ticks) (rs : List ℕ) (n r : ℕ) → length rs ≡ n → ((j : ℕ) → j < n → get_or rs j 0 ≡ reading_at t j) → r ≡ reading_at t n → (j : ℕ) → j < n + 1 → get_or (rs ++ r ∷ []) j 0 ≡ reading_at t j
told_more t rs n r len a e =
    below_more (λ j. get_or (rs ++ r ∷ []) j 0 ≡ reading_at t j) n
    (λ j h. get_or_append_left rs (r ∷ []) 0 j (omega arith) ∙ a j h)
    (subst (λ k. get_or (rs ++ r ∷ []) k 0 ≡ reading_at t n) len (get_or-append_seam rs r [] 0 ∙ e))

pub has_read_more : (first now new : Option Ticks) (rs : List ℕ) (n r : ℕ) → HasRead first now rs n → Reads now new r → r ≤ last_reading → HasRead first new (rs ++ r ∷ []) (n + 1)
has_read_more None now new rs n r h d most =
    let a = h.are_readings in record {
      are_readings = record { number = length-append rs (r ∷ []) ∙ ap (λ k. k + 1) a.number; most = most_more rs r a.most most; told = tt };
      so_far = tt;
    }
has_read_more (Some t) now new rs n r h d most =
    let a = h.are_readings in let f = h.so_far in
    let read : Reads (Some f.ticks) new r = subst (λ o. Reads o new r) f.told d in
    let is : r ≡ f.ticks.next = read.0 in
    let at : f.ticks.next ≡ min (t.next + n * t.step) last_reading = let x = f.next in omega arith in
    record {
      are_readings = record {
        number = length-append rs (r ∷ []) ∙ ap (λ k. k + 1) a.number;
        most = most_more rs r a.most most;
        told = told_more t rs n r a.number a.told (is ∙ at);
      };
      so_far = record {
        ticks = ticked f.ticks;
        told = read.1;
        next = ap (λ s. min (min (f.ticks.next + s) last_reading) last_reading) f.step ∙ next_step t.next t.step n f.ticks.next at;
        step = f.step;
      };
    }
