-- Each number below the lesser of `pieces` and the first word is drawn once, and the second word
-- counts the seats that are marked ended.
use Rattle.std.specs.Prelude.{◌≡◌, ℕ, ◌+◌, ◌-◌, ◌^◌, ◌<◌, ◌≤◌, Bool, true, false, ◌||◌, List, [], ◌∷◌, ◌++◌, Option, Some, None, if◌then◌else◌, All, min, sum_by, length, IsPermutation, flat_map}
use Rattle.std.specs.List.{list_any, range_with_len}
use Rattle.std.specs.List.Sorted.{IsStrictlyIncreasing}
use mathlib.Core.Option.{some}
use lib.ListN.{get_elem?}
use Rattle.step_log.specs.Log.{TableId, Sitting, added, loaded}
use Rattle.step_log.specs.declared.log.Step.{Step}
use Rattle.claim_table.specs.declared.share.Share.{Share}
use Rattle.claim_table.specs.declared.share.ClaimShape.{ClaimShape}

-- where the next number stands, and the count of seats that ended
abbrev pub next_index : ℕ
next_index = 0

abbrev pub ended_index : ℕ
ended_index = 1

abbrev pub stopped_parts : Share → ℕ
stopped_parts view = if view.stopped then view.parts else 0

-- what a seat knows where `next` is the next number
pub record IsShare (shape : ClaimShape) (next : ℕ) (view : Share) : Type 0 where
  pub knows : 0 < view.parts → view.shape ≡ shape
  pub rising : view.parts ≡ 1 → IsStrictlyIncreasing view.drawn
  pub stopped : view.stopped ≡ true → shape.pieces ≤ next
  pub spent : view.parts ≡ 0 → view.drawn ≡ []
  pub ended : view.ended ≤ view.parts

pub record Claimed (shape : ClaimShape) (words : List ℕ) (views : List Share) : Type 0 where
  pub next : ℕ
  pub ended : ℕ
  pub are : words ≡ next ∷ ended ∷ []
  pub drawn : IsPermutation (flat_map (λ view. view.drawn) views)
      (range_with_len 0 (min next shape.pieces))
  pub shares : (at : ℕ) (view : Share) → get_elem? views at ≡ some view → IsShare shape next view
  pub parts : sum_by (λ view. view.parts) views ≡ shape.seats
  pub marks : ended ≡ sum_by (λ view. view.ended) views
  pub bound : next ≤ shape.pieces + sum_by stopped_parts views
  pub small : shape.pieces + shape.seats < 2 ^ 64

abbrev pub share : ℕ → ClaimShape → List ℕ → Bool → ℕ → Share
share parts shape drawn stopped ended =
    record { parts = parts; shape = shape; drawn = drawn; stopped = stopped; ended = ended }

-- what a seat keeps that deals another, what it hands out, and what becomes of two that are
-- gathered
abbrev pub kept_share : Share → Share
kept_share view = share (view.parts - 1) view.shape view.drawn view.stopped view.ended

abbrev pub given_share : Share → Share
given_share view = share 1 view.shape [] false 0

abbrev pub joint_share : Share → Share → Share
joint_share view other = share (view.parts + other.parts) view.shape (view.drawn ++ other.drawn)
    (view.stopped || other.stopped) (view.ended + other.ended)

abbrev pub no_shape : ClaimShape
no_shape = record { pieces = 0; seats = 0 }

abbrev pub spent_share : Share
spent_share = share 0 no_shape [] false 0

abbrev pub found_or : Option ℕ → ℕ
found_or None = 0
found_or (Some found) = found

-- a claim draws what it found, beyond all that the seat drew before, or stops
abbrev pub Draws : Share → Step → Share → Type 0
Draws view step next = (found_or step.found < view.shape.pieces
    → (next ≡ share view.parts view.shape (view.drawn ++ found_or step.found ∷ []) view.stopped
    view.ended)
    × All (λ number. number < found_or step.found) view.drawn)
    × (view.shape.pieces ≤ found_or step.found
    → next ≡ share view.parts view.shape view.drawn true view.ended)

abbrev pub Marks : Share → Step → Share → Type 0
Marks view step next =
    next ≡ share view.parts view.shape view.drawn view.stopped (view.ended + 1)

abbrev pub Looks : Share → Step → Share → Type 0
Looks view step next = (next ≡ view) × (view.ended ≤ found_or step.found)
    × (found_or step.found ≤ view.shape.seats)

-- what a clause sees of a claim
pub record Claimant : Type 0 where
  pub id : TableId
  pub shape : ClaimShape

-- what a clause sees of a seat
pub record Drawing : Type 0 where
  pub of : Claimant
  pub drawn : List ℕ
  pub stopped : Bool
  pub ended : Bool
  pub log : List Step

abbrev pub one_if : Bool → ℕ
one_if is = if is then 1 else 0

abbrev pub IsFresh : Claimant → Drawing → Type 0
IsFresh claim seat = (seat.of ≡ claim) × (seat.drawn ≡ []) × (seat.stopped ≡ false)
    × (seat.ended ≡ false)

-- a seat after a claim that drew a number, after one that found a number at the end, after it was
-- counted as ended where so many were, and after it found that so many ended
abbrev pub drew : Drawing → ℕ → Drawing
drew seat number = record {
  of = seat.of;
  drawn = seat.drawn ++ number ∷ [];
  stopped = seat.stopped;
  ended = seat.ended;
  log = seat.log ++ added next_index number ∷ [];
}

abbrev pub found_end : Drawing → ℕ → Drawing
found_end seat number = record {
  of = seat.of;
  drawn = seat.drawn;
  stopped = true;
  ended = seat.ended;
  log = seat.log ++ added next_index number ∷ [];
}

abbrev pub marked : Drawing → ℕ → Drawing
marked seat count = record {
  of = seat.of;
  drawn = seat.drawn;
  stopped = seat.stopped;
  ended = true;
  log = seat.log ++ added ended_index count ∷ [];
}

abbrev pub looked : Drawing → ℕ → Drawing
looked seat count = record {
  of = seat.of;
  drawn = seat.drawn;
  stopped = seat.stopped;
  ended = seat.ended;
  log = seat.log ++ loaded ended_index count ∷ [];
}

-- one seat has taken in those of the list that no longer stand in `left`
pub record Gathering (id : TableId) (all : Sitting Share) (left seats : List Drawing) : Type 0 where
  pub same : all.id ≡ id
  pub some_parts : 0 < all.view.parts
  pub count : all.view.parts + length left ≡ length seats
  pub drawn : IsPermutation (flat_map (λ seat. seat.drawn) seats)
      (all.view.drawn ++ flat_map (λ seat. seat.drawn) left)
  pub stopped : (list_any (λ seat. seat.stopped) left || all.view.stopped)
      ≡ list_any (λ seat. seat.stopped) seats
  pub own : All (λ seat. seat.of.id ≡ id) left

abbrev pub IsSeatOf : Drawing → Sitting Share → Type 0
IsSeatOf seat sitting = (sitting.id ≡ seat.of.id)
    × (sitting.view ≡ share 1 seat.of.shape seat.drawn seat.stopped (one_if seat.ended))
