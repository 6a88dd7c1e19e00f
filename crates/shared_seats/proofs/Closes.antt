-- What the seats of a queue that has stopped made and took, in the words of the machine.
use Rattle.std.proofs.Common.{◌≡◌, ℕ, ◌≤◌, List, flat_map, length, sym, ap, ◌∙◌, subst, arith}
use Rattle.std.proofs.lemmas.List.Concat.{length-flat_map}
use Rattle.std.proofs.lemmas.List.Folds.{flat_map-map}
use Rattle.cursor_word.specs.Shape.{Grid}
use Rattle.cursor_word.specs.Cursor.{place_span}
use Rattle.rail.specs.Outcome.{IsAccepted}
use Rattle.rail.specs.declared.entry.Placed.{Placed}
use Rattle.machine.specs.declared.view.View.{View}
use Rattle.machine.specs.Table.{Table}
use Rattle.machine.specs.Invariant.{Fact, made_total}
use Rattle.call_steps.specs.Queue.{SeatedWith}
use Rattle.shared_seats.specs.Seats.{HasStopped, in_order, made_by_all, taken_by_all, views_of_all}
use Rattle.shared_seats.proofs.Ordered.{ordered}
use Rattle.shared_seats.proofs.Stepped.{few_places}

module _ {P M : Type 0} (seats : List (SeatedWith P M)) where
  pub made_is : flat_map (λ (v : View P). v.made) (views_of_all seats) ≡ made_by_all seats
  made_is = flat_map-map (λ (v : View P). v.made) (λ (x : SeatedWith P M). x.view) seats

  pub taken_is : flat_map (λ (v : View P). v.taken) (views_of_all seats) ≡ taken_by_all seats
  taken_is = flat_map-map (λ (v : View P). v.taken) (λ (x : SeatedWith P M). x.view) seats

  pub made_sum : made_total (views_of_all seats) ≡ length (made_by_all seats)
  made_sum = sym (length-flat_map (λ (v : View P). v.made) (views_of_all seats)) ∙ ap length made_is

  module _ (accepted : List Placed) (is : IsAccepted (flat_map (λ (v : View P). v.made) (views_of_all seats)) accepted) where
    pub accepted_by_all : IsAccepted (made_by_all seats) accepted
    accepted_by_all = subst (λ (items : List Placed). IsAccepted items accepted) made_is is

    pub in_order_is : in_order (made_by_all seats) ≡ accepted
    in_order_is = ordered (made_by_all seats) accepted accepted_by_all

    pub accepted_in_order : IsAccepted (made_by_all seats) (in_order (made_by_all seats))
    accepted_in_order = subst (IsAccepted (made_by_all seats)) (sym in_order_is) accepted_by_all

  pub few_made : (t : Table P) (Holds : Fact P) (g : Grid) (words : List ℕ) → HasStopped t Holds g words (views_of_all seats) → length (made_by_all seats) ≤ place_span g
  few_made t Holds g words stopped = let few = few_places t g (views_of_all seats) stopped.all stopped.few in let e = made_sum in omega arith
