-- What several workers gave back.
use Rattle.std.specs.Prelude.{◌≡◌, ℕ, ◌<◌, true, List, [], length, map, filter, flat_map, slice_index_or, Option}
use Rattle.std.specs.List.{All, Any}
use Rattle.claim_table.specs.Claimed.{Claimant, Drawing, looked}
use Rattle.flow_io.specs.Clock.{Ticks}
use Rattle.rail.specs.declared.entry.Placed.{Placed}
use Rattle.rail.specs.Items.{IsRising, places}
use Rattle.word_text.specs.Counts.{Numbers}
use Rattle.word_text.specs.declared.plan.Piece.{Piece}
use Rattle.word_workers.specs.Spans.{counts_at}
use Rattle.word_workers.specs.Trace.{HasSpans, IsSpanOfSome, NamesText, is_of}
use Rattle.word_workers.specs.Worked.{Worked}

-- so many workers counted the pieces of these numbers, each by its hand of the clock, and these are
-- the entries that their spans made
pub record HasRun (plan : List Piece) (texts : List (List ℕ)) (clock : ℕ → Option Ticks)
    (workers : ℕ) (drawn : List (List ℕ)) (made : List Placed) : Type 0 where
  pub number : length drawn ≡ workers
  pub rising : All IsRising drawn
  pub all_spans : All (λ (i : Placed). IsSpanOfSome workers i.words) made
  pub files : All (λ (i : Placed). NamesText (length texts) i.words) made
  pub in_order : (w : ℕ) → w < workers → IsRising (places (filter (is_of w) made))
  pub spans : (w : ℕ) → w < workers
      → HasSpans plan texts (clock w) w (slice_index_or drawn w []) made

-- the counts of the workers, and their seats of the claim, which found the end
pub record Counted (plan : List Piece) (texts : List (List ℕ)) (claim : Claimant)
    (counts : List Numbers) (drawn : List (List ℕ)) (claims : List Drawing) : Type 0 where
  pub counted : counts ≡ map (counts_at plan texts) drawn
  pub claimed : map (λ (s : Drawing). s.drawn) claims ≡ drawn
  pub own : All (λ (s : Drawing). s.of ≡ claim) claims
  pub stopped : All (λ (s : Drawing). s.stopped ≡ true) claims

-- all seats of a claim, as its closing needs them, of which these numbers were drawn
pub record AllClaims (claim : Claimant) (count : ℕ) (drawn : List (List ℕ)) (claims : List Drawing)
    : Type 0 where
  pub number : length claims ≡ count
  pub own : All (λ (s : Drawing). s.of ≡ claim) claims
  pub stopped : Any (λ (s : Drawing). s.stopped ≡ true) claims
  pub same : flat_map (λ (s : Drawing). s.drawn) claims ≡ flat_map (λ (ns : List ℕ). ns) drawn

-- the seat at each worker's index made the spans of that worker, and no other
abbrev pub EachOwn : {S : Type 0} → (S → List Placed) → List Piece → List (List ℕ)
    → (ℕ → Option Ticks) → ℕ → List (List ℕ) → List S → Type 0
EachOwn {S} made plan texts clock workers drawn seats = (w : ℕ) (seat : S) → w < workers
    → Worked plan texts (clock w) w (slice_index_or drawn w []) []
    (made (slice_index_or seats w seat))

-- the last step of a seat of a claim found that so many workers had ended
abbrev pub FoundEnded : ℕ → Drawing → Type 0
FoundEnded workers seat = (before : Drawing) × (seat ≡ looked before workers)
