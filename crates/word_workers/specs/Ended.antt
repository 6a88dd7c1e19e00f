-- What a worker gives back with its seats.
use Rattle.std.specs.Prelude.{◌≡◌, ℕ, ◌<◌, Bool, true, List, [], length, Option}
use Rattle.std.specs.List.{All}
use Rattle.claim_table.specs.Claimed.{Claimant}
use Rattle.flow_io.specs.Clock.{Ticks}
use Rattle.rail.specs.declared.entry.Placed.{Placed}
use Rattle.rail.specs.Items.{IsRising}
use Rattle.span_recorder.specs.Gain.{GainAlike}
use Rattle.word_text.specs.declared.plan.Piece.{Piece}
use Rattle.word_workers.specs.Spans.{counts_at}
use Rattle.word_workers.specs.Worked.{Worked}
use Rattle.word_workers.specs.declared.ended.Ended.{Ended}

-- a worker was given a seat of a queue, and gives it back with its spans, and with a seat of this
-- claim that drew the numbers of its pieces and found the end
pub record Served {Q S : Type 0} (made taken : S → List Placed) (number_of : S → ℕ)
    (PutsInto TakesFrom : Q → S → Type 0) (drops : Bool) (plan : List Piece)
    (texts : List (List ℕ)) (ticks : Option Ticks) (worker : ℕ) (claim : Claimant) (before : S)
    (ended : Ended S) : Type 0 where
  pub spans : Worked plan texts ticks worker ended.drawn (made before) (made ended.seat)
  pub counts : ended.counts ≡ counts_at plan texts ended.drawn
  pub rising : IsRising ended.drawn
  pub within : All (λ n. n < length plan) ended.drawn
  pub batch : GainAlike (taken before) (taken ended.seat) [] ended.batch.items
  pub drops_none : drops ≡ true → taken ended.seat ≡ taken before
  pub puts : (q : Q) → PutsInto q before → PutsInto q ended.seat
  pub takes : (q : Q) → TakesFrom q before → TakesFrom q ended.seat
  pub number : number_of ended.seat ≡ number_of before
  pub claims : ended.claim_seat.of ≡ claim
  pub claimed : ended.claim_seat.drawn ≡ ended.drawn
  pub stopped : ended.claim_seat.stopped ≡ true
