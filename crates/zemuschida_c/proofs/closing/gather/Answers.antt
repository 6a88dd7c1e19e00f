use Rattle.std.proofs.Common.{◌≡◌, ◌∙◌, ◌≤◌, ◌++◌, ◌∷◌, [], List, None, Some, ap, arith, eq-or-lt_of_le, get_or, map, rules, subst, sym, take, ⊎_elim}
use Rattle.std.proofs.Math.ListN.{set}
use Rattle.std.proofs.lemmas.List.{append_assoc, get_or-map, get_or-set_other, get_or-set_same, length-map, map-set, take_all}
use Rattle.zemuschida_c.specs.Owned.{Owned}
use Rattle.zemuschida_c.proofs.Counting.{next_seat}
use Rattle.zemuschida_c.proofs.Dealing.{handles_counted}
use Rattle.zemuschida_c.proofs.closing.gather.Goals as goal

pub take_seat-requires-after_bounds : goal.take_seat-requires-after_bounds
take_seat-requires-after_bounds g c = λ κs bounds none.
    let value = g.H.SeatHandle.value in let i = c.loop-index.index in let h = c.index-handles-index.result in
    let long = c.loop-index.auto.handles in let test = c.loop-index-test.true in
    c.requires.full i None (let n = length-map c.args.handles.now value in omega (arith, n)) (sym (c.loop-index.invariant.others i None (omega arith)) ∙ get_or-map value c.loop-index.handles i h None (omega arith) ∙ none)

pub loop-index-preserved : goal.loop-index-preserved
loop-index-preserved g c =
    let v = c.loop-index.invariant in let i = c.loop-index.index in let now = c.loop-index.handles in let first = c.args.handles.now in let h = c.index-handles-index.result in
    let value = g.H.SeatHandle.value in
    let long = c.loop-index.auto.handles in let test = c.loop-index-test.true in
    let new = c.take_seat.new.handle in
    let values = map-set value now i new in
    let here : value (get_or now i h) ≡ value (get_or first i h) = sym (get_or-map value now i h (value h) (omega arith)) ∙ v.others i (value h) (omega arith) ∙ get_or-map value first i h (value h) test in
    let next = λ (rail : g.row.H-Queue.Denot) (seats : List g.row.H-Queue-Seat.Denot) (hold : map value first ≡ map (λ (s : g.row.H-Queue-Seat.Denot). Some (g.H.Seating.own rail s)) seats). next_seat value (λ (s : g.row.H-Queue-Seat.Denot). Some (g.H.Seating.own rail s)) first seats i h test hold in
    record {
      others = λ k d from. ap (λ vs. get_or vs k d) values ∙ get_or-set_other (map value now) i k (value new) d (λ e. omega arith) ∙ v.others k d (omega arith);
      empty = λ k d below. ap (λ vs. get_or vs k d) values ∙ (let near : k ≤ i = omega arith in ⊎_elim
          (λ e. subst (λ j. get_or (set (map value now) i (value new)) j d ≡ None) (sym e) (get_or-set_same (map value now) i (value new) d (let n = length-map now value in omega (arith, n)) ∙ c.take_seat.ensures.empty))
          (λ l. get_or-set_other (map value now) i k (value new) d (λ e. omega arith) ∙ v.empty k d l)
          (eq-or-lt_of_le near));
      room = search rules;
      some_rail = search rules;
      seats = λ rail seats hold. let n = next rail seats hold in
          let own = c.take_seat.ensures.own rail n.seat (here ∙ n.has) in
          let is : c.into_parts-rail.result.1 ≡ n.seat = c.into_parts-rail.ensures.seat ∙ ap (λ (o : Owned _ _). o.seat) own in
          c.in-Ok.ensures.items ∙ ap (λ xs. xs ++ c.into_parts-rail.result.1 ∷ []) (v.seats rail seats hold) ∙ ap (λ s. (c.args.all.now.items ++ take i seats) ++ s ∷ []) is
          ∙ append_assoc c.args.all.now.items (take i seats) (n.seat ∷ []) ∙ ap (λ xs. c.args.all.now.items ++ xs) (sym n.more);
      rail = λ rail seats hold. let n = next rail seats hold in c.into_parts-rail.ensures.rail ∙ ap (λ (o : Owned _ _). o.rail) (c.take_seat.ensures.own rail n.seat (here ∙ n.has));
    }

pub returns-clause-seats : goal.returns-clause-seats
returns-clause-seats g c = λ rail seats hold.
    let n = handles_counted g.H.SeatHandle.value (λ (s : g.row.H-Queue-Seat.Denot). Some (g.H.Seating.own rail s)) c.args.handles.now seats hold in let end = c.loop-index-test.false in
    c.loop-index.invariant.seats rail seats hold ∙ ap (λ xs. c.args.all.now.items ++ xs) (take_all c.loop-index.index seats (omega (arith, n, end)))
