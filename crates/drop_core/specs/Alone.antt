-- A call that is done alone, step by step: all other seats are at rest.
use Rattle.std.specs.Prelude.{◌≡◌, ℕ, ◌+◌, ◌*◌, ◌<◌, ◌≤◌, ◌⊎◌, max, List}
use Rattle.std.specs.List.{sum_by}
use Rattle.cursor_word.specs.Shape.{Grid}
use Rattle.cursor_word.specs.Cursor.{offset_span, packed, place_at}
use Rattle.rail.specs.declared.answer.Answer.{Answer}
use Rattle.rail.specs.Sequential.{beyond, drop_next, drop_put, drop_take}
use Rattle.machine.specs.declared.op.After.TheVariants.{Next, Done}
use Rattle.machine.specs.Invariant.{made_total}
use Rattle.machine.specs.Steps.{AllRest}
use Rattle.put_side.specs.Alone.{OthersRest, PutAlone}
use Rattle.put_side.specs.Cursors.{place}
use Rattle.put_side.specs.Stages.{At, Fills}
use Rattle.drop_core.specs.declared.phase.DropPhase.{DropPhase}
use Rattle.drop_core.specs.declared.phase.DropPhase.TheVariants.{Put, SeeM, Take}
use Rattle.drop_core.specs.declared.take_phase.DropTake.{DropTake}
use Rattle.drop_core.specs.declared.take_phase.DropTake.TheVariants.{HeadC, SeeRes, SeeCom, SeeAll, Reserve, Read, Verify, NextCom, Jump, OpenR, RaiseC}
use Rattle.drop_core.specs.Types.{After, View}
use Rattle.drop_core.specs.Words.{Cursors, IsGone, cursors}
use Rattle.put_side.specs.Counts.{takes}
use Rattle.put_side.specs.AsOne.{AnswersBy, accepts}
use Rattle.drop_core.specs.Sound.{IsSound}
use Rattle.drop_core.specs.Rest.{place_answered}

-- place p was reserved, in a block up to the consumer head
pub record IsBehind (shape : Grid) (c : Cursors) (p : ℕ) : Type 0 where
  pub block : ℕ
  pub offset : ℕ
  pub from : shape.blocks ≤ block
  pub within : offset < shape.size
  pub is_place : p ≡ place shape block offset
  pub gone : IsGone c block offset
  pub to : block ≤ c.consumer

-- each taken place is below `next`, and the place before `next`, if there is one, was reserved
pub record IsNext (shape : Grid) (c : Cursors) (views : List View) (next : ℕ) : Type 0 where
  pub taken : (p : ℕ) → next ≤ p → sum_by (takes p) views ≡ 0
  pub behind : (next ≡ 0) ⊎ ((p : ℕ) × (next ≡ p + 1) × IsBehind shape c p)

-- one more than the greatest answered place, with an answer more
abbrev pub next_after : ℕ → Answer → ℕ
next_after next a = max next (beyond (place_answered a))

-- a block is not reused, while the producer head is at the last opened one
abbrev pub IsLive : Grid → Cursors → ℕ → Type 0
IsLive shape c block = c.puts.producer < block + shape.blocks

-- and so was the consumer head's, which is not reused
abbrev pub TakeOpened : Grid → Cursors → ℕ → Type 0
TakeOpened shape c turn =
    (turn ≡ 1)
    ⊎ ((c.reserved c.consumer ≡ c.consumer * offset_span) × IsLive shape c c.consumer)

-- what a seat alone knows of the cursors in a take
abbrev pub TakeAlone : Grid → ℕ → ℕ → Cursors → DropTake → Type 0
TakeAlone shape accepted next c (HeadC turn first) = TakeOpened shape c turn
TakeAlone shape accepted next c (SeeRes turn first head) =
    (head ≡ c.consumer) × TakeOpened shape c turn
TakeAlone shape accepted next c (SeeCom turn r) =
    (r.block ≡ c.consumer) × (packed r ≡ c.reserved c.consumer)
    × ((turn ≡ 1) ⊎ IsLive shape c c.consumer)
TakeAlone shape accepted next c (SeeAll r m) =
    (r.block ≡ c.consumer) × (packed r ≡ c.reserved c.consumer)
    × (packed m ≡ c.puts.committed c.consumer)
TakeAlone shape accepted next c (Reserve r) =
    (r.block ≡ c.consumer) × (packed r ≡ c.reserved c.consumer) × IsLive shape c c.consumer
TakeAlone shape accepted next c (Read at n) =
    (place_at shape at ≡ drop_next shape accepted next) × IsLive shape c at.block
TakeAlone shape accepted next c (Verify at) =
    (place_at shape at ≡ drop_next shape accepted next) × IsLive shape c at.block
TakeAlone shape accepted next c (NextCom sp) = sp.block ≡ c.consumer
TakeAlone shape accepted next c (Jump from) = from.block ≡ c.consumer
TakeAlone shape accepted next c (OpenR from to) =
    (from.block ≡ c.consumer) × IsLive shape c to
TakeAlone shape accepted next c (RaiseC from to) =
    (from.block ≡ c.consumer) × IsLive shape c to × (c.reserved to ≡ to * offset_span)

-- and in a put
abbrev pub KnowsAlone : Grid → ℕ → ℕ → List ℕ → DropPhase → Type 0
KnowsAlone shape accepted next words (Put q) = PutAlone shape accepted words (At q)
KnowsAlone shape accepted next words (SeeM full) = PutAlone shape accepted words (Fills full)
KnowsAlone shape accepted next words (Take q) =
    TakeAlone shape accepted next (cursors shape words) q

-- seat id is alone in phase p of a call that began where so many entries were accepted, and the
-- takes had been answered places below `next`
pub record IsAlone (shape : Grid) (accepted next : ℕ) (words : List ℕ) (views : List View) (id : ℕ)
    (p : DropPhase) : Type 0 where
  pub sound : IsSound shape words views
  pub others : OthersRest views id
  pub made : made_total views ≡ accepted
  pub answered : IsNext shape (cursors shape words) views next
  pub knows : KnowsAlone shape accepted next words p

-- all seats are at rest, where so many entries are accepted, and the takes were answered places
-- below `next`
pub record IsStill (shape : Grid) (accepted next : ℕ) (words : List ℕ)
    (views : List View) : Type 0 where
  pub sound : IsSound shape words views
  pub rest : AllRest views
  pub made : made_total views ≡ accepted
  pub answered : IsNext shape (cursors shape words) views next

-- what one thread is answered
abbrev pub AnswersAlone : Grid → ℕ → ℕ → Answer → Type 0
AnswersAlone shape accepted next a =
    AnswersBy (λ p. p ≡ drop_put accepted) (λ q. q ≡ drop_take shape accepted next) a

-- after a step of a seat alone: it goes on alone, or all seats are at rest and the answer is what
-- one thread is answered
abbrev pub GoesOnAlone : Grid → ℕ → ℕ → List ℕ → List View → ℕ → After → Type 0
GoesOnAlone shape accepted next words views id (Next p) =
    IsAlone shape accepted next words views id p
GoesOnAlone shape accepted next words views id (Done a) =
    AnswersAlone shape accepted next a
    × IsStill shape (accepted + accepts a) (next_after next a) words views
