-- The workers of a run, with their seats of the queue.
use Rattle.std.specs.Prelude.{◌≡◌, ℕ, ◌+◌, Bool, true, List, [], length, map, flat_map, Option}
use Rattle.std.specs.List.{All}
use Rattle.claim_table.specs.Claimed.{Claimant, Drawing}
use Rattle.flow_io.specs.Clock.{Ticks}
use Rattle.rail.specs.declared.entry.Placed.{Placed}
use Rattle.rail.specs.Batch.{Gathered}
use Rattle.word_text.specs.Counts.{Numbers}
use Rattle.word_text.specs.declared.plan.Piece.{Piece}
use Rattle.word_workers.specs.Parts.{AllClaims, Counted, EachOwn, HasRun}
use Rattle.word_workers.specs.Spans.{counts_at}
use Rattle.word_workers.specs.declared.parts.Run.{Run}

module _ {Q S : Type 0} (made taken : S → List Placed) (number_of : S → ℕ)
    (PutsInto TakesFrom : Q → S → Type 0) (drops : Bool) (plan : List Piece)
    (texts : List (List ℕ)) (clock : ℕ → Option Ticks) (claim : Claimant) where
  -- so many workers gave back the seats that they were given, in this order, each with its spans
  pub record Finished (workers : ℕ) (before : List S) (counts : List Numbers)
      (batches : List Gathered) (drawn : List (List ℕ)) (claims : List Drawing) (seats : List S)
      : Type 0 where
    pub run : HasRun plan texts clock workers drawn (flat_map made seats)
    pub parts : Counted plan texts claim counts drawn claims
    pub own : EachOwn made plan texts clock workers drawn seats
    pub count : length seats ≡ workers
    pub taken_is : flat_map (λ (b : Gathered). b.items) batches ≡ flat_map taken seats
    pub drops_none : drops ≡ true → All (λ (seat : S). taken seat ≡ []) seats
    pub numbers : map number_of seats ≡ map number_of before
    pub puts : (q : Q) → All (PutsInto q) before → All (PutsInto q) seats
    pub takes : (q : Q) → All (TakesFrom q) before → All (TakesFrom q) seats

  -- all workers ran, through these seats of the queue and all seats of the claim
  pub record IsRun (workers : ℕ) (before : List S) (run : Run S) : Type 0 where
    pub runs : HasRun plan texts clock workers run.parts.drawn.items (flat_map made run.seats.items)
    pub counted : run.parts.counts.items ≡ map (counts_at plan texts) run.parts.drawn.items
    pub claims : AllClaims claim (workers + 1) run.parts.drawn.items run.parts.claim_seats.items
    pub taken_is : flat_map (λ (b : Gathered). b.items) run.parts.batches.items
        ≡ flat_map taken run.seats.items
    pub drops_none : drops ≡ true → All (λ (seat : S). taken seat ≡ []) run.seats.items
    pub numbers : map number_of run.seats.items ≡ map number_of before
    pub puts : (q : Q) → All (PutsInto q) before → All (PutsInto q) run.seats.items
    pub takes : (q : Q) → All (TakesFrom q) before → All (TakesFrom q) run.seats.items
