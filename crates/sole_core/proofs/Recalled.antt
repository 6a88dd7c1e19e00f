-- What the steps of a call so far show, by the phase that they led to.
use Rattle.std.proofs.Common.{◌≡◌, ℕ, suc, ◌+◌, ◌/◌, ◌%◌, ◌<◌, ◌⊎◌, List, [], ◌∷◌, ◌++◌, length, refl, ap, inl, inr}
use Rattle.std.specs.Prelude.{if◌then◌else◌}
use Rattle.std.proofs.lemmas.Option.{slice_get_within}
use Rattle.cursor_word.specs.Shape.{Grid}
use Rattle.cursor_word.specs.Cursor.{offset_span, packed, place_at, unpacked}
use Rattle.cursor_word.specs.declared.cursor.Cursor.{Cursor}
use Rattle.rail.specs.declared.answer.Put.TheVariants as put
use Rattle.rail.specs.declared.answer.Take.TheVariants as take
use Rattle.rail.specs.declared.answer.Why.{Why}
use Rattle.rail.specs.declared.answer.Why.TheVariants as why
use Rattle.sole_core.specs.declared.phase.SolePhase.{SolePhase}
use Rattle.sole_core.specs.declared.phase.SolePhase.TheVariants.{Put, SeeX, Take}
use Rattle.sole_core.specs.declared.take_phase.SoleTake.TheVariants.{Com, All, Word, Consume}
use Rattle.sole_core.specs.Types.{After, CallStep}
use Rattle.machine.specs.declared.op.After.TheVariants.{Next, Done}
use Rattle.rail.specs.declared.answer.Answer.TheVariants as answer
use Rattle.sole_core.specs.PutSteps.{after}
use Rattle.sole_core.specs.TakeSteps.{empty}
use Rattle.machine.specs.Moments.{taken_step}
use Rattle.sole_core.specs.Causes.{FindsAllocated, FoundBy, PutPair, TakePair, shown}
use Rattle.sole_core.specs.Stage.{stage}
use Rattle.sole_core.specs.Table.{table}
use Rattle.sole_core.proofs.Shares.{shares}
use Rattle.put_side.specs.declared.put_phase.PutPhase.TheVariants.{OpenM}
use Rattle.put_side.specs.PutSteps.{older_full}
use Rattle.put_side.proofs.Recalled as recalled
use Rattle.put_side.proofs.Sums.{by_test_le}
use Rattle.put_side.proofs.Choices.{pick_equal, pick_less, pick_same}

-- the last step, this one, loaded the consumed cursor of the block after a filled one
pub record FullFound (head : ℕ) (x : Cursor) (steps : List CallStep) (this : CallStep) : Type 0 where
  pub full : Cursor
  pub block : full.block ≡ head
  pub filled : FoundBy (FindsAllocated 1) full steps
  pub last : FoundBy (λ p. p ≡ SeeX full) x steps
  pub in_order : filled.number < last.number
  pub is_last : suc last.number ≡ length steps
  pub is_this : last.step ≡ this

-- the only step, this one, found a committed cursor that shows that there is no entry
pub record EmptyFound (g : Grid) (place : ℕ) (steps : List CallStep) (this : CallStep) : Type 0 where
  pub next : Cursor
  pub is_place : place ≡ place_at g next
  pub only : FoundBy (λ p. p ≡ Take (Com next)) (unpacked this.found) steps
  pub none : (this.found ≡ packed next) ⊎ ((unpacked this.found).block < next.block)
  pub is_only : length steps ≡ 1
  pub is_this : only.step ≡ this

abbrev pub Recalls : List CallStep → SolePhase → Type 0
Recalls steps (Put q) = recalled.PutRecalls stage shown steps q
Recalls steps (SeeX full) = FoundBy (FindsAllocated 1) full steps
Recalls steps (Take (Com r)) = steps ≡ []
Recalls steps (Take (All r m)) = FoundBy (λ p. p ≡ Take (Com r)) m steps
Recalls steps (Take (Word r next)) = Unit {0}
Recalls steps (Take (Consume r)) = Unit {0}

-- what they show with one more step, by what follows it
abbrev pub ShowsNext : Grid → List CallStep → CallStep → After → Type 0
ShowsNext g steps this (Next p) = Recalls (steps ++ this ∷ []) p
ShowsNext g steps this (Done (answer.Put (put.Ok p))) = Unit {0}
ShowsNext g steps this (Done (answer.Put (put.Full head x))) = FullFound head x (steps ++ this ∷ []) this
ShowsNext g steps this (Done (answer.Put (put.Busy reason))) = recalled.BusyFound shown (PutPair reason) (steps ++ this ∷ []) reason this
ShowsNext g steps this (Done (answer.Take (take.Ok p))) = Unit {0}
ShowsNext g steps this (Done (answer.Take (take.Empty p))) = EmptyFound g p (steps ++ this ∷ []) this
ShowsNext g steps this (Done (answer.Take (take.Busy reason))) = recalled.BusyFound shown (TakePair reason) (steps ++ this ∷ []) reason this
ShowsNext g steps this (Done (answer.Take (take.Overrun p now))) = Unit {0}

module _ (g : Grid) (entry : List ℕ) (n : ℕ) (steps : List CallStep) where
  -- the only step found that there is no entry at the next place
  empty_shows : (r : Cursor) (old : ℕ) → steps ≡ [] → (old ≡ packed r) ⊎ ((unpacked old).block < r.block) → (let this : CallStep = taken_step table g entry n (Take (Com r)) old in ShowsNext g steps this (empty g r))
  empty_shows r old none by =
      let this : CallStep = taken_step table g entry n (Take (Com r)) old in
      record {
        next = r;
        is_place = refl;
        only = record { number = length steps; step = this; at = recalled.get_end steps this; kind = refl; found = refl };
        none = by;
        is_only = ap (λ (l : List CallStep). length (l ++ this ∷ [])) none;
        is_this = refl;
      }

  -- each step keeps what the steps show
  pub step_shows : (p : SolePhase) (old : ℕ) → Recalls steps p → ShowsNext g steps (taken_step table g entry n p old) (after g p old)
  step_shows (Put q) old f = recalled.put_shows table stage Put SeeX shares shown (λ r word. refl) g entry n steps q old (ShowsNext g steps (taken_step table g entry n (Put q) old))
      (record { next = λ r h. h; fills = λ full h. h; ok = λ place. tt; moved = λ earlier later h. h }) f
  step_shows (SeeX full) old f =
      let this : CallStep = taken_step table g entry n (SeeX full) old in
      by_test_le (older_full g full.block) old (λ c. ShowsNext g steps this (if c then Next (Put (OpenM full)) else Done (answer.Put (put.Full full.block (unpacked old)))))
      (λ l. recalled.kept shown steps this (FindsAllocated 1) full f)
      (λ l. record {
        full = full;
        block = refl;
        filled = recalled.kept shown steps this (FindsAllocated 1) full f;
        last = recalled.fresh shown steps this (λ p. p ≡ SeeX full) (unpacked old) refl refl;
        in_order = slice_get_within steps f.number f.step f.at;
        is_last = recalled.one_longer steps this;
        is_this = refl;
      })
  step_shows (Take (Com r)) old f =
      let this : CallStep = taken_step table g entry n (Take (Com r)) old in
      pick_equal (ShowsNext g steps this) old (packed r) _ _
      (λ e. empty_shows r old f (inl e))
      (λ ne. pick_less (ShowsNext g steps this) (old / offset_span) r.block _ _
      (λ l. empty_shows r old f (inr l))
      (λ l. pick_equal (ShowsNext g steps this) (old % offset_span) g.size _ _ (λ e. tt) (λ e. recalled.fresh shown steps this (λ p. p ≡ Take (Com r)) (unpacked old) refl refl)))
  step_shows (Take (All r m)) old f =
      let this : CallStep = taken_step table g entry n (Take (All r m)) old in
      let unfinished : Why = why.Unfinished r.block m (unpacked old) in
      pick_same (ShowsNext g steps this) old m _ _ (λ e. tt) (λ ne. recalled.busy shown steps this (TakePair unfinished) (λ p. p ≡ Take (Com r)) unfinished f (λ q is. (is, refl)) refl)
  step_shows (Take (Word r next)) old f = pick_less (ShowsNext g steps (taken_step table g entry n (Take (Word r next)) old)) (next + 1) g.width _ _ (λ l. tt) (λ l. tt)
  step_shows (Take (Consume r)) old f = tt
