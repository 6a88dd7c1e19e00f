-- A call is answered as one thread is where its answer is one thread's; and one thread is never answered Busy.
use Rattle.std.proofs.Common.{◌≡◌, ℕ}
use Rattle.std.specs.Prelude.{Some, if◌then◌else◌}
use Rattle.cursor_word.specs.Shape.{Grid}
use Rattle.rail.specs.Sequential.{RetryPut, retry_take}
use Rattle.rail.specs.declared.answer.Answer.{Answer}
use Rattle.rail.specs.declared.answer.Answer.TheVariants as answer
use Rattle.rail.specs.declared.answer.Put.{Put}
use Rattle.rail.specs.declared.answer.Put.TheVariants as put
use Rattle.rail.specs.declared.answer.Take.{Take}
use Rattle.rail.specs.declared.answer.Take.TheVariants as take
use Rattle.rail.specs.declared.answer.Why.{Why}
use Rattle.machine.specs.declared.event.Start.{Start}
use Rattle.machine.specs.declared.event.Start.TheVariants as start
use Rattle.machine.specs.declared.op.After.TheVariants.{Done}
use Rattle.machine.specs.Table.{Table}
use Rattle.put_side.specs.AsOne.{AnswersAlone, AnswersAsOne, AnswersBy, CallAnswersBy}
use Rattle.put_side.proofs.CallKinds.{IsOfCall}
use Rattle.put_side.proofs.Choices.{by_equal}

module _ (PutsSo : Put → Type 0) (TakesSo : Take → Type 0) where
  -- a call's answer is of its kind
  pub kind_by : {P : Type 0} (table : Table P) (begins : Start) (a : Answer) → IsOfCall table begins (Done a) → AnswersBy PutsSo TakesSo a → CallAnswersBy PutsSo TakesSo begins (Some a)
  kind_by table (start.Put entry) (answer.Put p) kind h = h
  kind_by table (start.Put entry) (answer.Take q) kind h = cc
  kind_by table start.Take (answer.Put p) kind h = cc
  kind_by table start.Take (answer.Take q) kind h = h
  kind_by table start.Go a kind h = absurd kind

  -- what an answer of each kind says
  pub put_by : (begins : Start) (p : Put) → CallAnswersBy PutsSo TakesSo begins (Some (answer.Put p)) → PutsSo p
  put_by (start.Put entry) p h = h
  put_by start.Take p h = absurd h
  put_by start.Go p h = absurd h

  pub take_by : (begins : Start) (q : Take) → CallAnswersBy PutsSo TakesSo begins (Some (answer.Take q)) → TakesSo q
  take_by (start.Put entry) q h = absurd h
  take_by start.Take q h = h
  take_by start.Go q h = absurd h

module _ (g : Grid) (n t : ℕ) (begins : Start) where
  pub answers_kind : {P : Type 0} (table : Table P) (a : Answer) → IsOfCall table begins (Done a) → AnswersAlone g n t a → AnswersAsOne g n t begins (Some a)
  answers_kind table a kind h = kind_by (RetryPut g n t) (λ q. q ≡ retry_take n t) table begins a kind h

  pub put_busy_never : (reason : Why) → AnswersAsOne g n t begins (Some (answer.Put (put.Busy reason))) → ⊥
  put_busy_never reason h = put_by (RetryPut g n t) (λ q. q ≡ retry_take n t) begins (put.Busy reason) h

  pub take_busy_never : (reason : Why) → AnswersAsOne g n t begins (Some (answer.Take (take.Busy reason))) → ⊥
  take_busy_never reason h =
      by_equal t n (λ b. take.Busy reason ≡ (if b then take.Empty n else take.Ok t) → ⊥) (λ e q. cc) (λ e q. cc)
      (take_by (RetryPut g n t) (λ q. q ≡ retry_take n t) begins (take.Busy reason) h)
