-- What the lists of a seat gain.
use Rattle.std.specs.Prelude.{◌≡◌, ℕ, ◌+◌, ◌≤◌, List, ◌++◌, length, map}
use Rattle.rail.specs.declared.answer.Put.{Put}
use Rattle.rail.specs.declared.answer.Put.TheVariants as put
use Rattle.rail.specs.declared.entry.Placed.{Placed}
use Rattle.rail.specs.Items.{IsRising, placed, places}
use Rattle.rail.specs.Rail.{Gains}
use Rattle.span_words.specs.declared.span.SpanEvent.{SpanEvent}
use Rattle.span_words.specs.Span.{spelling}

-- one entry with these words at the end, at a place beyond all earlier ones
pub record GainsEntry (old new : List Placed) (words : List ℕ) : Type 0 where
  pub place : ℕ
  pub gains : Gains old new (placed place words)

-- two lists gained the same items in the same order
pub record GainAlike (old new old_other new_other : List Placed) : Type 0 where
  pub items : List Placed
  pub gained : new ≡ old ++ items
  pub gained_other : new_other ≡ old_other ++ items

-- one entry more for each event, in order, each at a place beyond all earlier ones
pub record Notes (old new : List Placed) (events : List SpanEvent) : Type 0 where
  pub items : List Placed
  pub gained : new ≡ old ++ items
  pub spelled : map (λ (i : Placed). i.words) items ≡ map spelling events
  pub rising : IsRising (places old) → IsRising (places new)

-- what was taken after a put answered so: nothing, or at most one entry where the queue was full
abbrev pub TakesIfFull : Put → List Placed → List Placed → Type 0
TakesIfFull (put.Ok place) old new = new ≡ old
TakesIfFull (put.Busy why) old new = new ≡ old
TakesIfFull (put.Full head consumed) old new = length new ≤ length old + 1
