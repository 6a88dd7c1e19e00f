use Rattle.std.proofs.Common.{◌≡◌, ◌∙◌, ◌-◌, ◌^◌, ◌++◌, List, IsPermutation, Some, ap, arith, flat_map, le_of_eq, length, map, min, subst, sym}
use Rattle.std.specs.Arc.{arc_value}
use Rattle.std.specs.List.{All}
use Rattle.std.proofs.lemmas.List.{length-map}
use Rattle.rail.specs.Outcome.{numbers_below}
use Rattle.zemuschida_c.specs.Closed.{HasEnded}
use Rattle.zemuschida_c.proofs.Counting.{all_here, of_some}
use Rattle.zemuschida_c.proofs.Dealing.{handles_counted}
use Rattle.zemuschida_c.proofs.closing.close_all.Goals as goal

pub returns-in_default-take_room-clause-missing : goal.returns-in_default-take_room-clause-missing
returns-in_default-take_room-clause-missing g c = λ full rail seats hold apart.
    let value = g.H.SeatHandle.value in let first = c.args.handles.now in
    let n = handles_counted value (λ (s : g.row.H-Queue-Seat.Denot). Some (g.H.Seating.own rail s)) first seats hold in let m = handles_counted value value c.count_all.new.handles first c.count_all.ensures.same in
    let count = c.if-handles-seats.false in let told = c.seats.ensures.value in let some = c.seats.ensures.limits.seats_from in
    let shape_is : c.in-Some.shape ≡ g.H.Queue.Rail.shape_of rail = of_some _ _ (sym c.in-Some.is ∙ c.count_all.ensures.shape c.if-not-count_all.false rail seats hold (omega (arith, n, m, count, told, some))) in
    let seats_are = ap (λ s. s.seats) shape_is in
    absurd (apart (omega (arith, n, m, count, told, seats_are)))

pub returns-clause-missing : goal.returns-clause-missing
returns-clause-missing g c = λ full rail seats hold apart.
    let value = g.H.SeatHandle.value in let first = c.args.handles.now in
    let n = handles_counted value (λ (s : g.row.H-Queue-Seat.Denot). Some (g.H.Seating.own rail s)) first seats hold in let m = handles_counted value value c.count_all.new.handles first c.count_all.ensures.same in
    let count = c.if-handles-seats.false in let told = c.seats.ensures.value in let some = c.seats.ensures.limits.seats_from in
    let shape_is : c.in-Some.shape ≡ g.H.Queue.Rail.shape_of rail = of_some _ _ (sym c.in-Some.is ∙ c.count_all.ensures.shape c.if-not-count_all.false rail seats hold (omega (arith, n, m, count, told, some))) in
    let seats_are = ap (λ s. s.seats) shape_is in
    absurd (apart (omega (arith, n, m, count, told, seats_are)))

pub finish-requires-clause-seats : goal.finish-requires-clause-seats
finish-requires-clause-seats g c κs within =
    let value = g.H.SeatHandle.value in let first = c.args.handles.now in let same = c.count_all.ensures.same in
    let items = c.gather.new.all.items in
    let h = c.requires (c.count_all.ensures.full c.if-not-count_all.false) in
    let own = λ (s : g.row.H-Queue-Seat.Denot). Some (g.H.Seating.own h.queue s) in
    let rail_is = c.in-Some-gather.ensures.rail h.queue h.seats (same ∙ h.hold) in
    let items_are : items ≡ h.seats = c.gather.ensures.seats h.queue h.seats (same ∙ h.hold) ∙ ap (λ xs. xs ++ h.seats) c.in-Ok.ensures.seats.0 in
    subst (λ q. All (g.H.Queue.Rail.PutsInto q) items) (sym rail_is) (subst (All (g.H.Queue.Rail.PutsInto h.queue)) (sym items_are) h.sit)

pub finish-requires-clause-all : goal.finish-requires-clause-all
finish-requires-clause-all g c κs within =
    let value = g.H.SeatHandle.value in let first = c.args.handles.now in let same = c.count_all.ensures.same in
    let items = c.gather.new.all.items in
    let h = c.requires (c.count_all.ensures.full c.if-not-count_all.false) in
    let own = λ (s : g.row.H-Queue-Seat.Denot). Some (g.H.Seating.own h.queue s) in
    let rail_is = c.in-Some-gather.ensures.rail h.queue h.seats (same ∙ h.hold) in
    let items_are : items ≡ h.seats = c.gather.ensures.seats h.queue h.seats (same ∙ h.hold) ∙ ap (λ xs. xs ++ h.seats) c.in-Ok.ensures.seats.0 in
    let n = handles_counted value own first h.seats h.hold in let m = handles_counted value value c.count_all.new.handles first same in
    let count = c.if-handles-seats.false in let told = c.seats.ensures.value in let some = c.seats.ensures.limits.seats_from in
    let shape_is : c.in-Some.shape ≡ g.H.Queue.Rail.shape_of h.queue = of_some _ _ (sym c.in-Some.is ∙ c.count_all.ensures.shape c.if-not-count_all.false h.queue h.seats h.hold (omega (arith, n, m, count, told, some))) in
    let number = g.H.Queue.Rail.number_of in let all = (g.H.Queue.Rail.shape_of h.queue).seats in
    let seats_are = ap (λ s. s.seats) shape_is in let numbers = length-map h.seats number in
    subst (λ q. IsPermutation (map number items) (numbers_below (g.H.Queue.Rail.shape_of q).seats)) (sym rail_is)
    (subst (λ xs. IsPermutation (map number xs) (numbers_below all)) (sym items_are) (all_here (map number h.seats) h.elsewhere all (omega (arith, n, m, count, told, seats_are, numbers)) h.apart))

pub finish-requires-clause-room : goal.finish-requires-clause-room
finish-requires-clause-room g c κs within =
    let value = g.H.SeatHandle.value in let first = c.args.handles.now in let same = c.count_all.ensures.same in
    let items = c.gather.new.all.items in
    let h = c.requires (c.count_all.ensures.full c.if-not-count_all.false) in
    let own = λ (s : g.row.H-Queue-Seat.Denot). Some (g.H.Seating.own h.queue s) in
    let rail_is = c.in-Some-gather.ensures.rail h.queue h.seats (same ∙ h.hold) in
    let items_are : items ≡ h.seats = c.gather.ensures.seats h.queue h.seats (same ∙ h.hold) ∙ ap (λ xs. xs ++ h.seats) c.in-Ok.ensures.seats.0 in
    let n = handles_counted value own first h.seats h.hold in let m = handles_counted value value c.count_all.new.handles first same in
    let count = c.if-handles-seats.false in let told = c.seats.ensures.value in let some = c.seats.ensures.limits.seats_from in
    let shape_is : c.in-Some.shape ≡ g.H.Queue.Rail.shape_of h.queue = of_some _ _ (sym c.in-Some.is ∙ c.count_all.ensures.shape c.if-not-count_all.false h.queue h.seats h.hold (omega (arith, n, m, count, told, some))) in
    let made = g.H.Queue.Rail.made in let taken = g.H.Queue.Rail.taken in let left = g.H.Closing.number_left in let shape = g.H.Queue.Rail.shape_of in
    let totals = c.count_all.new.totals in let none = c.none-totals.ensures in
    let few = λ (xs : List g.row.H-Queue-Seat.Denot). min (length (flat_map made xs)) (2 ^ 64 - 1) in let few_taken = λ (xs : List g.row.H-Queue-Seat.Denot). min (length (flat_map taken xs)) (2 ^ 64 - 1) in
    let puts_are : few h.seats ≡ totals.puts = let p = c.count_all.ensures.puts c.if-not-count_all.false h.queue h.seats h.hold in omega (arith, p, none.1) in
    let takes_are : few_taken h.seats ≡ totals.takes = let p = c.count_all.ensures.takes c.if-not-count_all.false h.queue h.seats h.hold in omega (arith, p, none.2) in
    le_of_eq (ap (λ q. left (shape q) (few items) (few_taken items)) rail_is ∙ ap (λ xs. left (shape h.queue) (few xs) (few_taken xs)) items_are
    ∙ ap (λ s. left s (few h.seats) (few_taken h.seats)) (sym shape_is) ∙ ap (λ p. left c.in-Some.shape p (few_taken h.seats)) puts_are
    ∙ ap (λ t. left c.in-Some.shape totals.puts t) takes_are ∙ sym c.number_left-left.ensures ∙ sym (ap (λ b. b.spare) c.in-Ok.ensures.left))

pub returns-clause-closed : goal.returns-clause-closed
returns-clause-closed g c = λ is. (
  c.gather.ensures.empty,
  λ rail seats hold.
      let made = g.H.Queue.Rail.made in let taken = g.H.Queue.Rail.taken in let shape = g.H.Queue.Rail.shape_of in let drops = g.H.Queue.Rail.DROPS in
      let again = c.count_all.ensures.same ∙ hold in let own = c.in-Some-gather.rail in
      let rail_is : arc_value own ≡ rail = c.in-Some-gather.ensures.rail rail seats again in
      let items_are : c.gather.new.all.items ≡ seats = c.gather.ensures.seats rail seats again ∙ ap (λ xs. xs ++ seats) c.in-Ok.ensures.seats.0 in
      let ended = c.finish.ensures.closed is in (
        ended.0,
        ended.1,
        subst (λ q. HasEnded (shape q) drops (flat_map made seats) (flat_map taken seats) ended.0) rail_is
            (subst (λ xs. HasEnded (shape (arc_value own)) drops (flat_map made xs) (flat_map taken xs) ended.0) items_are ended.2),
      ),
)
