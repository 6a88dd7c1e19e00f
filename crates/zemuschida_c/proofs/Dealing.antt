-- Fresh seats of one queue, and the handles that have them.
use Rattle.std.proofs.Common.{◌≡◌, ◌∙◌, ℕ, ◌<◌, ◌++◌, ◌∷◌, [], All, List, ap, drop, get_or, length, map, subst, sym, take, arith}
use Rattle.std.specs.List.{AllByRecursion}
use Rattle.std.proofs.lemmas.List.{length-map}
use Rattle.std.proofs.lemmas.List.Elements.{recursion_from_All}
use Rattle.std.proofs.lemmas.List.FromFn.{get_or-range_with_len, length-range_with_len}
use Rattle.cursor_word.specs.Shape.{Grid}
use Rattle.rail.specs.Outcome.{numbers_below}
use Rattle.call_steps.specs.Queue.{IsFresh, Queue, Seated}
use Rattle.sole_core.specs.declared.phase.SolePhase.{SolePhase}
use Rattle.sole_rail.specs.Consumer.{IsConsumerOf}
use Rattle.zemuschida_c.specs.Made.{Hold, HoldLog}
use Rattle.zemuschida_c.specs.Owned.{owned}
use Rattle.zemuschida_c.specs.Seats.{HasConsumer, in_log_seat, log_kind}
use Rattle.zemuschida_c.specs.declared.kinds.ZemLogConsumer.{ZemLogConsumer}
use Rattle.zemuschida_c.specs.declared.kinds.ZemLogSeat.{ZemLogSeat}

-- as many seats as numbers, and as many handles as seats
pub seats_counted : {Seat : Type 0} (number : Seat → ℕ) (seats : List Seat) (n : ℕ) → map number seats ≡ numbers_below n → length seats ≡ n
seats_counted number seats n numbers = sym (length-map seats number) ∙ ap length numbers ∙ length-range_with_len 0 n

pub handles_counted : {Handle Seat Value : Type 0} (value : Handle → Value) (own : Seat → Value) (handles : List Handle) (seats : List Seat) → map value handles ≡ map own seats → length handles ≡ length seats
handles_counted value own handles seats same = sym (length-map handles value) ∙ ap length same ∙ length-map seats own

-- a list is its first and the rest
pub parted : {X : Type 0} (all : List X) (first : X) (others : List X) → 0 < length all → first ≡ get_or all 0 first → others ≡ take 0 all ++ drop 1 all → all ≡ first ∷ others
parted [] first others some is rest = absurd (omega (arith, some))
parted (x ∷ xs) first others some is rest = ap (λ y. y ∷ xs) (sym is) ∙ ap (λ ys. first ∷ ys) (sym rest)

-- the first of a new queue's seats takes
pub first_takes : (queue : Queue) (n : ℕ) (all others : List (Seated SolePhase)) (first : Seated SolePhase) → 0 < n → all ≡ first ∷ others → All (IsFresh queue) all → map (λ (s : Seated SolePhase). s.number) all ≡ numbers_below n → IsConsumerOf queue first
first_takes queue n all others first some parts fresh numbers =
    let each : AllByRecursion (IsFresh queue) (first ∷ others) = recursion_from_All (IsFresh queue) (first ∷ others) (subst (All (IsFresh queue)) parts fresh) in
    let named : map (λ (s : Seated SolePhase). s.number) (first ∷ others) ≡ numbers_below n = ap (map (λ (s : Seated SolePhase). s.number)) (sym parts) ∙ numbers in
    (each.0.0, ap (λ ns. get_or ns 0 1) named ∙ get_or-range_with_len 0 n 0 1 some)

pub log_made : (shape : Grid) (queue first_queue others_queue : Queue) (all others : List (Seated SolePhase)) (first : Seated SolePhase) (taker : ZemLogConsumer) (handles : List ZemLogSeat)
    → queue.shape ≡ shape → All (IsFresh queue) all → map (λ (s : Seated SolePhase). s.number) all ≡ numbers_below shape.seats → all ≡ first ∷ others
    → first_queue ≡ queue → others_queue ≡ queue → HasConsumer taker (owned first_queue first) → Hold log_kind in_log_seat others_queue handles others
    → HoldLog shape taker handles
log_made shape queue first_queue others_queue all others first taker handles of_shape fresh numbers parts first_is others_is takes hold = record {
  queue = queue;
  of_shape = of_shape;
  first = first;
  others = others;
  fresh = record {
    fresh = subst (All (IsFresh queue)) parts fresh;
    numbers = ap (map (λ (s : Seated SolePhase). s.number)) (sym parts) ∙ numbers ∙ ap (λ (g : Grid). numbers_below g.seats) (sym of_shape);
  };
  takes = subst (λ (q : Queue). HasConsumer taker (owned q first)) first_is takes;
  hold = subst (λ (q : Queue). Hold log_kind in_log_seat q handles others) others_is hold;
}
