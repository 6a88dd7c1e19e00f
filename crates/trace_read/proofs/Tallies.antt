-- A worker's own span, and totals that are made one after another.
use Rattle.std.proofs.Common.{◌≡◌, ◌≢◌, ℕ, ◌+◌, ◌<◌, Bool, true, cond, List, [], ◌∷◌, ◌++◌, length, get_or, take, drop, slice_get, unwrap_or, Some, None, Result, Ok, Err, refl, sym, ap, ◌∙◌, append_assoc, append-nil, arith}
use Rattle.std.specs.List.{filter}
use Rattle.std.proofs.lemmas.List.{drop_more, take-append-drop}
use Rattle.std.proofs.lemmas.List.Elements.{filter-append}
use Rattle.span_words.specs.declared.span.SpanEvent.{SpanEvent}
use Rattle.trace_read.specs.declared.total.Total.{Total}
use Rattle.trace_read.specs.declared.checking.CheckError.{CheckError}
use Rattle.trace_read.specs.declared.checking.CheckError.TheVariants.{Workers}
use Rattle.trace_read.specs.Totals.{◌>>=◌, agreed, by_workers, total_of, totals_of}

-- ---- a worker's own span

pub first_passing : {X : Type 0} (p : X → Bool) (xs : List X) (i : ℕ) (d : X) → i < length xs → filter p (take i xs) ≡ [] → p (get_or xs i d) ≡ true → slice_get (filter p xs) 0 ≡ Some (get_or xs i d)
first_passing p xs i d lt none passes =
    let x = get_or xs i d in
    ap (λ l. slice_get (filter p l) 0) (sym (take-append-drop i xs)) ∙ ap (λ l. slice_get l 0) (filter-append p (take i xs) (drop i xs))
    ∙ ap (λ l. slice_get (l ++ filter p (drop i xs)) 0) none ∙ ap (λ l. slice_get (filter p l) 0) (drop_more xs i d lt)
    ∙ ap (λ b. slice_get (cond b (x ∷ filter p (drop (i + 1) xs)) (filter p (drop (i + 1) xs))) 0) passes

pub one_own : (tid : ℕ) (own pieces : List SpanEvent) (worker : SpanEvent) → length own ≡ 1 → slice_get own 0 ≡ Some worker → by_workers tid own pieces ≡ agreed tid worker pieces
one_own tid [] pieces worker one first = cc
one_own tid (w ∷ []) pieces worker one first = ap (λ o. agreed tid (unwrap_or o w) pieces) first
one_own tid (w ∷ v ∷ ws) pieces worker one first = absurd (omega (arith, one))

pub not_one : (tid : ℕ) (own pieces : List SpanEvent) → length own ≢ 1 → by_workers tid own pieces ≡ Err (Workers tid (length own))
not_one tid [] pieces other = refl
not_one tid (w ∷ []) pieces other = absurd (other refl)
not_one tid (w ∷ v ∷ ws) pieces other = refl

pub none_own : (tid : ℕ) (own pieces : List SpanEvent) → slice_get own 0 ≡ None → by_workers tid own pieces ≡ Err (Workers tid (length own))
none_own tid [] pieces none = refl
none_own tid (w ∷ ws) pieces none = cc

-- ---- totals one after another

-- the totals that were made, and those that are still to be made
abbrev pub with_later : List Total → Result (List Total) CheckError → Result (List Total) CheckError
with_later done (Ok later) = Ok (done ++ later)
with_later done (Err refusal) = Err refusal

with_one : (done : List Total) (total : Total) (later : Result (List Total) CheckError) → with_later done (later >>= λ totals. Ok (total ∷ totals)) ≡ with_later (done ++ total ∷ []) later
with_one done total (Ok later) = ap Ok (sym (append_assoc done (total ∷ []) later))
with_one done total (Err refusal) = refl

pub total_made : (tid : ℕ) (tids left : List ℕ) (spans : List SpanEvent) (done : List Total) (total : Total) (whole : Result (List Total) CheckError)
    → left ≡ tid ∷ tids → total_of tid spans ≡ Ok total → whole ≡ with_later done (totals_of left spans) → whole ≡ with_later (done ++ total ∷ []) (totals_of tids spans)
total_made tid tids left spans done total whole is made so_far =
    so_far ∙ ap (λ l. with_later done (totals_of l spans)) is
    ∙ ap (λ r. with_later done (r >>= λ first. totals_of tids spans >>= λ totals. Ok (first ∷ totals))) made
    ∙ with_one done total (totals_of tids spans)

pub total_refused : (tid : ℕ) (tids left : List ℕ) (spans : List SpanEvent) (done : List Total) (refusal : CheckError) (whole : Result (List Total) CheckError)
    → left ≡ tid ∷ tids → total_of tid spans ≡ Err refusal → whole ≡ with_later done (totals_of left spans) → whole ≡ Err refusal
total_refused tid tids left spans done refusal whole is made so_far =
    so_far ∙ ap (λ l. with_later done (totals_of l spans)) is
    ∙ ap (λ r. with_later done (r >>= λ first. totals_of tids spans >>= λ totals. Ok (first ∷ totals))) made

pub none_made : (whole : Result (List Total) CheckError) → whole ≡ with_later [] whole
none_made (Ok totals) = refl
none_made (Err refusal) = refl

pub all_made : (left : List ℕ) (spans : List SpanEvent) (done : List Total) (whole : Result (List Total) CheckError) → left ≡ [] → whole ≡ with_later done (totals_of left spans) → whole ≡ Ok done
all_made left spans done whole none so_far = so_far ∙ ap (λ l. with_later done (totals_of l spans)) none ∙ ap Ok (append-nil done)
