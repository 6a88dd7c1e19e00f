-- Calls that are done alone, and what they are answered.
use Rattle.std.specs.Prelude.{◌≡◌, ℕ, List, [], ◌∷◌, Option, flat_map}
use Rattle.cursor_word.specs.Shape.{Grid}
use Rattle.rail.specs.declared.answer.Answer.{Answer}
use Rattle.rail.specs.declared.answer.Answer.TheVariants as answer
use Rattle.rail.specs.declared.answer.Take.TheVariants as take
use Rattle.rail.specs.Sequential.{beyond, drop_put, drop_take}
use Rattle.machine.specs.declared.event.Event.{Event}
use Rattle.machine.specs.declared.event.Start.{Start}
use Rattle.machine.specs.Invariant.{made_total}
use Rattle.machine.specs.Moments.{Ended, answer_of, ended, moment}
use Rattle.put_side.specs.AsOne.{CallAnswersBy}
use Rattle.drop_core.specs.Steps.{table}

-- the place that a take answered Ok or Overrun
abbrev pub place_answered : Answer → List ℕ
place_answered (answer.Take (take.Ok place)) = place ∷ []
place_answered (answer.Take (take.Overrun place now)) = place ∷ []
place_answered a = []

abbrev pub places_answered : List Ended → List ℕ
places_answered calls = flat_map (λ (call : Ended). place_answered call.answer) calls

-- one more than the greatest place that the takes which ended before moment n answered so
abbrev pub next_place : Grid → List Event → ℕ → ℕ
next_place shape events n = beyond (places_answered (ended table shape events n))

-- A call that is begun so is answered as one thread is, where so many entries are accepted, and the
-- takes so far were answered places below `next`.
abbrev pub AnswersAsOne : Grid → ℕ → ℕ → Start → Option Answer → Type 0
AnswersAsOne shape accepted next begun a =
    CallAnswersBy (λ p. p ≡ drop_put accepted) (λ q. q ≡ drop_take shape accepted next) begun a

-- the call of a seat from moment n to moment m is answered as one thread is, by what was made and
-- answered before moment n
abbrev pub AnsweredAsOne : Grid → List Event → ℕ → ℕ → ℕ → Start → Type 0
AnsweredAsOne shape events seat n m begun =
    AnswersAsOne shape (made_total (moment table shape events n).views)
    (next_place shape events n) begun
    (answer_of table shape events m seat)
