-- How a call is answered as one thread is.
use Rattle.std.specs.Prelude.{◌≡◌, ℕ, List, Option, Some}
use Rattle.cursor_word.specs.Shape.{Grid}
use Rattle.rail.specs.Sequential.{RetryPut, retry_take}
use Rattle.rail.specs.declared.answer.Answer.{Answer}
use Rattle.rail.specs.declared.answer.Answer.TheVariants as answer
use Rattle.rail.specs.declared.answer.Put.{Put}
use Rattle.rail.specs.declared.answer.Put.TheVariants as put
use Rattle.rail.specs.declared.answer.Take.{Take}
use Rattle.rail.specs.declared.answer.Take.TheVariants as take
use Rattle.machine.specs.declared.event.Event.{Event}
use Rattle.machine.specs.declared.event.Start.{Start}
use Rattle.machine.specs.declared.event.Start.TheVariants as start
use Rattle.machine.specs.Invariant.{made_total}
use Rattle.machine.specs.Moments.{answer_of, moment}
use Rattle.machine.specs.Table.{Table}
use Rattle.put_side.specs.Counts.{taken_total}

-- An answer of which this holds where it is a put's, and that where it is a take's; and the answer
-- of a call that is begun so.
module _ (PutsSo : Put → Type 0) (TakesSo : Take → Type 0) where
  abbrev pub AnswersBy : Answer → Type 0
  AnswersBy (answer.Put p) = PutsSo p
  AnswersBy (answer.Take q) = TakesSo q

  abbrev pub CallAnswersBy : Start → Option Answer → Type 0
  CallAnswersBy (start.Put entry) (Some (answer.Put p)) = PutsSo p
  CallAnswersBy start.Take (Some (answer.Take q)) = TakesSo q
  CallAnswersBy begun a = ⊥

-- what one thread is answered by a queue that refuses when full, where n entries are accepted and t
-- taken; and so a call that is begun so
abbrev pub AnswersAlone : Grid → ℕ → ℕ → Answer → Type 0
AnswersAlone shape n t a = AnswersBy (RetryPut shape n t) (λ q. q ≡ retry_take n t) a

abbrev pub AnswersAsOne : Grid → ℕ → ℕ → Start → Option Answer → Type 0
AnswersAsOne shape n t begun a =
    CallAnswersBy (RetryPut shape n t) (λ q. q ≡ retry_take n t) begun a

-- the call of a seat from moment n to moment m is answered so, by what is made and taken at moment n
abbrev pub AnsweredAsOne : {P : Type 0} → Table P → Grid → List Event → ℕ → ℕ → ℕ → Start → Type 0
AnsweredAsOne table shape events seat n m begun =
    AnswersAsOne shape (made_total (moment table shape events n).views)
    (taken_total (moment table shape events n).views) begun (answer_of table shape events m seat)

-- how many entries an answer accepts, and how many it gives out
abbrev pub accepts : Answer → ℕ
accepts (answer.Put (put.Ok place)) = 1
accepts a = 0

abbrev pub gives_out : Answer → ℕ
gives_out (answer.Take (take.Ok place)) = 1
gives_out a = 0
