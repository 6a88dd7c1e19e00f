-- What the trail of one seat shows, where no schedule is at hand: of a Busy answer that its two cursors were found, in this order.
use Rattle.std.proofs.Common.{◌≡◌, ◌≢◌, ℕ, ◌<◌, List, [], ◌∷◌, ◌++◌, refl, sym, ap, ◌∙◌, subst, inl, arith}
use Rattle.std.proofs.lemmas.List.{map-append}
use Rattle.cursor_word.specs.Shape.{Grid}
use Rattle.cursor_word.specs.Cursor.{packed, unpacked}
use Rattle.cursor_word.specs.declared.cursor.Cursor.{Cursor}
use Rattle.rail.specs.declared.entry.Placed.{Placed}
use Rattle.rail.specs.declared.answer.Answer.TheVariants as answer
use Rattle.rail.specs.declared.answer.Put.TheVariants as put
use Rattle.rail.specs.declared.answer.Take.TheVariants as take
use Rattle.rail.specs.declared.answer.Why.{Why}
use Rattle.rail.specs.declared.answer.Why.TheVariants as why
use Rattle.rail.specs.Told.{FoundInOrder, Shows, Spells}
use Rattle.machine.specs.declared.op.After.{After}
use Rattle.machine.specs.declared.op.After.TheVariants.{Next, Done}
use Rattle.machine.specs.Moments.{CallStep, found_by, taken_step}
use Rattle.machine.specs.Ops.{noted}
use Rattle.machine.specs.Table.{Table}
use Rattle.call_laws.proofs.Trails.{ShowsTrail, in_order}
use Rattle.put_side.specs.Causes.{first_found, second_found}
use Rattle.put_side.proofs.Facts.{repacked}
use Rattle.put_side.proofs.Recalled.{BusyFound}

-- the trail has the two cursors of this reason
abbrev pub HasPair : List ℕ → Why → Type 0
HasPair trail reason = FoundInOrder trail (first_found reason) (second_found reason)

pub pair_found : {P : Type 0} (shown : P → ℕ → Cursor) → ((p : P) (word : ℕ) (c : Cursor) → shown p word ≡ c → Spells word c)
    → (Pair : P → P → Type 0) (steps : List (CallStep P)) (reason : Why) (this : CallStep P) → BusyFound shown Pair steps reason this → HasPair (found_by steps) reason
pair_found {P} shown spells Pair steps reason this f =
    let x : CallStep P = f.earlier.step in
    let y : CallStep P = f.later.step in
    in_order steps f.earlier.number f.later.number x y (first_found reason) (second_found reason) f.in_order f.earlier.at f.later.at (spells x.phase x.found (first_found reason) f.earlier.found) (spells y.phase y.found (second_found reason) f.later.found)

-- a word that shows a cursor spells it
pub word_spells : (word : ℕ) (c : Cursor) → unpacked word ≡ c → Spells word c
word_spells word c is = inl (sym (repacked word) ∙ ap packed is)

-- what a queue promises of a Busy answer
pub busy_told : (trail : List ℕ) (reason : Why) → HasPair trail reason → first_found reason ≢ second_found reason → Shows trail reason
busy_told trail (why.Unfinished block before later) f apart = (f, apart)
busy_told trail (why.Moved earlier later) f apart = (f, apart)

-- cursors of two blocks are apart
pub blocks_apart : (a b : Cursor) → a.block < b.block → a ≢ b
blocks_apart a b less e = let z = ap (λ (c : Cursor). c.block) e in omega arith

module _ {P : Type 0} (table : Table P) (Recalls : List (CallStep P) → P → Type 0) where
  -- some steps with this trail led to the phase
  pub record TrailRecalls (trail : List ℕ) (p : P) : Type 0 where
    pub steps : List (CallStep P)
    pub told : found_by steps ≡ trail
    pub recalls : Recalls steps p

  abbrev pub TrailShows : List ℕ → After P → Type 0
  TrailShows trail (Next p) = TrailRecalls trail p
  TrailShows trail (Done (answer.Put (put.Busy reason))) = HasPair trail reason
  TrailShows trail (Done (answer.Take (take.Busy reason))) = HasPair trail reason
  TrailShows trail (Done a) = Unit {0}

  module _ (ShowsNext : Grid → List (CallStep P) → CallStep P → After P → Type 0) where
    -- what a queue knows of the steps of its calls
    pub record StepsShow : Type 0 where
      pub begins_put : Recalls [] table.first_put
      pub begins_take : (g : Grid) (taken : List Placed) → Recalls [] (table.first_take g taken)
      pub step : (g : Grid) (entry : List ℕ) (steps : List (CallStep P)) (p : P) (found : ℕ) → Recalls steps p → ShowsNext g steps (taken_step table g entry 0 p found) (table.after g p found)
      pub next : (g : Grid) (steps : List (CallStep P)) (this : CallStep P) (p : P) → ShowsNext g steps this (Next p) → Recalls (steps ++ this ∷ []) p
      pub put_busy : (g : Grid) (steps : List (CallStep P)) (this : CallStep P) (reason : Why) → ShowsNext g steps this (Done (answer.Put (put.Busy reason))) → HasPair (found_by (steps ++ this ∷ [])) reason
      pub take_busy : (g : Grid) (steps : List (CallStep P)) (this : CallStep P) (reason : Why) → ShowsNext g steps this (Done (answer.Take (take.Busy reason))) → HasPair (found_by (steps ++ this ∷ [])) reason

    module _ (show : StepsShow) where
      next_shows : (g : Grid) (steps : List (CallStep P)) (this : CallStep P) (b : After P) → ShowsNext g steps this b → TrailShows (found_by (steps ++ this ∷ [])) b
      next_shows g steps this (Next p) s = record { steps = steps ++ this ∷ []; told = refl; recalls = show.next g steps this p s }
      next_shows g steps this (Done (answer.Put (put.Busy reason))) s = show.put_busy g steps this reason s
      next_shows g steps this (Done (answer.Take (take.Busy reason))) s = show.take_busy g steps this reason s
      next_shows g steps this (Done a) s = tt

      -- a step that found a word adds what it noted to the trail
      step_adds : (g : Grid) (entry trail : List ℕ) (p : P) (found : ℕ) → TrailRecalls trail p → TrailShows (trail ++ noted (table.want g p entry) found ∷ []) (table.after g p found)
      step_adds g entry trail p found t =
          let this : CallStep P = taken_step table g entry 0 p found in
          subst (λ (l : List ℕ). TrailShows l (table.after g p found)) (map-append (λ (s : CallStep P). s.found) t.steps (this ∷ []) ∙ ap (λ (l : List ℕ). l ++ this.found ∷ []) t.told)
          (next_shows g t.steps this (table.after g p found) (show.step g entry t.steps p found t.recalls))

      pub trail_shows : ShowsTrail table TrailShows
      trail_shows = record {
        put = record { steps = []; told = refl; recalls = show.begins_put };
        take = λ g taken. record { steps = []; told = refl; recalls = show.begins_take g taken };
        step = step_adds;
      }
