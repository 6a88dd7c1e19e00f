-- Where the order of the seats is of no matter, what holds of them in order of their numbers holds of them as they are listed.
use Rattle.std.proofs.Common.{ℕ, List, All, IsPermutation, map, get_or, ◌∙◌, subst}
use mathlib.Core.List.{map-map}
use Rattle.std.proofs.lemmas.List.Sorted.{IsPermutation-sym, length_permutation}
use Rattle.cursor_word.specs.Shape.{Grid}
use Rattle.machine.specs.Table.{Table}
use Rattle.machine.specs.Invariant.{Fact}
use Rattle.call_laws.specs.Seats.{IsOrderless}
use Rattle.call_steps.specs.Queue.{SeatedWith}
use Rattle.shared_seats.specs.declared.holding.Numbered.{Numbered}
use Rattle.shared_seats.specs.Holding.{numbered}
use Rattle.shared_seats.specs.Memory.{IsLasting, Knowledge}
use Rattle.shared_seats.specs.Seats.{HasStopped, StandStill, numbered_of_all, views_of_all}
use Rattle.shared_seats.proofs.Numbered.{stands, views_in_order}

module _ {P M : Type 0} (t : Table P) (Holds : Fact P) (Knows : Knowledge P M) (g : Grid) (words : List ℕ) (seats : List (SeatedWith P M)) (still : StandStill t Holds Knows g words seats) where
  -- the views in order of the seats' numbers are those of all seats
  pub views_moved : IsPermutation still.views (views_of_all seats)
  views_moved = subst (IsPermutation still.views) (map-map (λ (x : Numbered P). x.view) (λ (s : SeatedWith P M). numbered s.number s.view) seats)
      (IsPermutation-sym (map (λ (x : Numbered P). x.view) (numbered_of_all seats)) still.views (views_in_order (numbered_of_all seats) still.views still.in_order))

  pub stopped_alike : IsOrderless Holds → HasStopped t Holds g words (views_of_all seats)
  stopped_alike order = record {
    limits = still.stopped.limits;
    holds = order g words still.views (views_of_all seats) views_moved still.stopped.holds;
    all = length_permutation still.views (views_of_all seats) views_moved ∙ still.stopped.all;
    rest = λ j u e. let i = stands still.views (views_of_all seats) j u views_moved e in still.stopped.rest i.0 u i.1;
    few = λ j u e. let i = stands still.views (views_of_all seats) j u views_moved e in still.stopped.few i.0 u i.1;
  }

  pub memories_alike : (none : M) → IsLasting t Holds Knows none → All (λ (s : SeatedWith P M). Knows g words (views_of_all seats) s.memory) seats
  memories_alike none lasting k d within = lasting.orderless g words still.views (views_of_all seats) (get_or seats k d).memory views_moved (still.memories k d within)
