-- Places are accepted and given out in order of time.
use Rattle.std.proofs.Common.{◌≡◌, ℕ, ◌<◌, ◌≤◌, ◌≢◌, List, length, refl, arith}
use Rattle.std.specs.List.{AllByRecursion, sum_by}
use Rattle.cursor_word.specs.Shape.{Grid, IsWithinLimits}
use Rattle.cursor_word.specs.Cursor.{most_puts}
use Rattle.rail.specs.declared.answer.Answer.TheVariants as answer
use Rattle.rail.specs.declared.answer.Put.TheVariants as put
use Rattle.rail.specs.declared.answer.Take.TheVariants as take
use Rattle.machine.specs.declared.event.Event.{Event}
use Rattle.machine.specs.Steps.{Suits}
use Rattle.machine.specs.Moments.{EndsAt, IsInOrder, IsLaterCall, moment}
use Rattle.machine.proofs.InTime.{in_order}
use Rattle.put_side.specs.Counts.{one_below, takes}
use Rattle.put_side.proofs.Sums.{one_to}
use Rattle.put_side.proofs.InTime.{not_made_later, once_dense, puts_in_order, take_takes, takes_last}
use Rattle.sole_core.specs.Stage.{stage}
use Rattle.sole_core.specs.Table.{table}
use Rattle.sole_core.specs.Sound.{IsSound}
use Rattle.sole_core.proofs.Shares.{puts}
use Rattle.sole_core.proofs.Reached.{dense, moment_sound}
use Rattle.sole_core.proofs.Shown.{empty_there}
use Rattle.sole_core.proofs.Takings.{taken_once}

module _ (g : Grid) where
  module _ (events : List Event) where
    module _ (limits : IsWithinLimits g) (suits : AllByRecursion (Suits table g) events) (few : length events < most_puts g) where
      pub puts_ordered : IsInOrder table g events (λ p. answer.Put (put.Ok p))
      puts_ordered = puts_in_order stage table puts g events (λ n. let d = dense g (moment table g events n) (moment_sound g events limits suits few n) in (d.count, d.once))

      sound_at : (n : ℕ) → (let w = moment table g events n in IsSound g w.words w.views)
      sound_at n = moment_sound g events limits suits few n

      once : (n p : ℕ) → sum_by (takes p) (moment table g events n).views ≡ one_below p (sound_at n).next
      once n p = let s = sound_at n in taken_once g s.front s.next (moment table g events n).words (moment table g events n).views s.sound p

      pub takes_ordered : IsInOrder table g events (λ p. answer.Take (take.Ok p))
      takes_ordered =
          in_order table g events takes takes (λ p. answer.Take (take.Ok p))
          record {
            once = λ n p. let e = once n p in let o = one_to p (sound_at n).next in omega arith;
            dense = λ n. once_dense (λ p. sum_by (takes p) (moment table g events n).views) (sound_at n).next (once n);
            claims_last = takes_last table g;
            had_lasts = takes_last table g;
            at_rest = λ p v e. refl;
            gains = take_takes table g events;
          }

      -- a take that finds the queue empty after a put has ended
      pub empty_after : (i seat p j other place : ℕ) → EndsAt table g events i seat (answer.Put (put.Ok p)) → IsLaterCall table g events i j other (answer.Take (take.Empty place))
          → (place ≢ p) × (p < place → 1 ≤ sum_by (takes p) (moment table g events j).views)
      empty_after i seat p j other place ends later =
          let at = empty_there g events limits suits few j other place later.ends in
          (not_made_later stage table puts g events i seat p j other place _ ends later at.not_made, λ less. at.taken p less)
