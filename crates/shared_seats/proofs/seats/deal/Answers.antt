use Rattle.std.proofs.Common.{All, map, ◌≡◌, ◌+◌, ◌-◌, ◌∷◌, [], ◌∙◌, ap, sym, subst, arith}
use Rattle.std.proofs.lemmas.List.Elements.{All-push}
use Rattle.rail.specs.Outcome.{numbers_below}
use Rattle.machine.specs.Steps.{resting}
use Rattle.shared_seats.specs.Holding.{fresh_seats, holding, numbered}
use Rattle.call_steps.specs.Queue.{IsFresh}
use Rattle.shared_seats.proofs.Held.{deals}
use Rattle.shared_seats.proofs.Gathered.{dealt, kept, next_number}
use Rattle.shared_seats.proofs.seats.deal.Goals as goal

pub split-seat-requires-clause-rule : goal.split-seat-requires-clause-rule
split-seat-requires-clause-rule g c = deals g.P.Phase.table g.P.Phase.Holds g.M.Memory.Knows _ _

pub fresh-requires : goal.fresh-requires
fresh-requires g c = let i = c.loop-number.invariant in
    let v = ap (λ s. s.view) c.split-seat.ensures.given ∙ dealt g.M.Memory.none c.args.shape.now c.loop-number.number (c.args.shape.now.seats - c.loop-number.number) _ i.view (omega arith) in
    v ∙ sym (ap (λ h. holding h.shape (numbered c.loop-number.number (resting _ h.shape) ∷ []) (g.M.Memory.none ∷ [])) v)

pub loop-number-preserved : goal.loop-number-preserved
loop-number-preserved g c = let i = c.loop-number.invariant in let grid = c.args.shape.now in
    let v = ap (λ s. s.view) c.split-seat.ensures.kept ∙ kept g.M.Memory.none grid c.loop-number.number (grid.seats - c.loop-number.number) _ i.view (omega arith) in
    let e : grid.seats - c.loop-number.number - 1 ≡ grid.seats - (c.loop-number.number + 1) = omega arith in
    let own = ap (λ s. s.id) c.split-seat.ensures.given ∙ i.same in
    let shape = ap (λ s. s.view.shape) c.split-seat.ensures.given ∙ ap (λ h. h.shape) (dealt g.M.Memory.none grid c.loop-number.number (grid.seats - c.loop-number.number) _ i.view (omega arith)) in
    record {
      last = i.last;
      same = ap (λ s. s.id) c.split-seat.ensures.kept ∙ i.same;
      view = v ∙ ap (fresh_seats _ g.M.Memory.none grid (c.loop-number.number + 1)) e;
      numbers = ap (map (λ s. s.number)) c.in_ok-push.ensures.items ∙ next_number _ _ _ i.numbers (ap (λ s. s.number) c.fresh.ensures);
      fresh = subst (All (IsFresh (record { id = c.args.words.now.id; shape = grid }))) (sym c.in_ok-push.ensures.items) (All-push (IsFresh (record { id = c.args.words.now.id; shape = grid })) c.loop-number.seats.items c.fresh.result i.fresh (
        ap (λ s. s.of) c.fresh.ensures ∙ (λ k. record { id = own k; shape = shape k }),
        ap (λ s. s.view) c.fresh.ensures ∙ ap (resting _) shape,
      ));
      memories = subst (All (λ s. s.memory ≡ g.M.Memory.none)) (sym c.in_ok-push.ensures.items) (All-push (λ s. s.memory ≡ g.M.Memory.none) c.loop-number.seats.items c.fresh.result i.memories (ap (λ s. s.memory) c.fresh.ensures));
    }

pub returns-clause-numbers : goal.returns-clause-numbers
returns-clause-numbers g c = let i = c.loop-number.invariant in
    let e : c.loop-number.number + 1 ≡ c.args.shape.now.seats = let l = c.seats-last.ensures.value in omega arith in
    let l : c.seats-last.result - 1 ≡ c.loop-number.number = omega (arith, i.last, e) in
    ap (map (λ s. s.number)) c.in_ok-push-2.ensures.items ∙ next_number _ _ _ i.numbers (ap (λ s. s.number) c.fresh-2.ensures ∙ l) ∙ ap numbers_below e
