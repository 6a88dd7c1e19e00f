use Rattle.std.proofs.Common.{rules, ◌≡◌, ◌∷◌, ◌++◌, [], length, map, sym, ap, ◌∙◌, append-nil, arith}
use Rattle.std.specs.Vec.Iter.{into_iter_items}
use Rattle.std.proofs.lemmas.List.{length-append, length-map, map-append}
use Rattle.word_workers.specs.Child.{seat_of}
use Rattle.word_workers.proofs.Finishing.{all_next, are_none, are_pushed, nothing_left, one_moved}
use Rattle.word_workers.proofs.beside.begin_all.Goals as goal

pub loop-seat-init : goal.loop-seat-init
loop-seat-init g c =
    let into = c.into_iter-seat-iterator.ensures.into_iter_gives in
    let none : c.new-children.result.items ≡ [] = search rules in
    record {
      yields = into.0;
      len = search rules;
      are = are_none _ _ _ _ _ _ _ _ _ _ _ _ _ none;
      seats = ap (map seat_of) none;
      enough = let len = ap length into.0 in let all = c.requires.claims in omega arith;
      fresh = c.requires.fresh;
    }

pub loop-seat-preserved : goal.loop-seat-preserved
loop-seat-preserved g c =
    let i = c.loop-seat.invariant in
    let step : into_iter_items c.loop-seat.seat-iterator ≡ c.in-Some.seat ∷ into_iter_items c.next.new.self = c.in-Some.ensures.steps.0 in
    let short = ap length step in
    let gone = c.in-Some.ensures.steps.1 in
    let was = i.len in
    let enough = i.enough in
    let count = c.next_claim_seat-claim_seat.ensures.count in
    let begun = c.begin-child.ensures in
    let pushed : c.push.new.self.items ≡ c.loop-seat.children.items ++ c.begin-child.result ∷ [] = search rules in
    record {
      yields = one_moved _ _ _ _ _ i.yields step;
      len = omega arith;
      are = are_pushed _ _ _ _ _ _ _ _ _ _ _ 0 _ _ _ _ pushed (search rules) i.are (begun.child (g.C.Clock.ticks c.args.clock.now) c.hand-hand.ensures);
      seats = ap (map seat_of) pushed ∙ map-append seat_of c.loop-seat.children.items (c.begin-child.result ∷ []) ∙ ap (λ t. t ++ seat_of c.begin-child.result ∷ []) i.seats ∙ ap (λ t. c.loop-seat.yielded ++ t ∷ []) begun.seat;
      enough = omega arith;
      fresh = c.next_claim_seat-claim_seat.ensures.rest;
    }

pub returns-clause-seats : goal.returns-clause-seats
returns-clause-seats g c =
    let i = c.loop-seat.invariant in
    let none : into_iter_items c.loop-seat.seat-iterator ≡ [] = nothing_left _ (sym i.len ∙ c.in-None.ensures.steps.0) in
    i.seats ∙ sym (append-nil c.loop-seat.yielded) ∙ ap (λ t. c.loop-seat.yielded ++ t) (sym none) ∙ i.yields

pub next_claim_seat-claim_seat-requires-clause-some : goal.next_claim_seat-claim_seat-requires-clause-some
next_claim_seat-claim_seat-requires-clause-some g c =
    let short = ap length c.in-Some.ensures.steps.0 in
    let enough = c.loop-seat.invariant.enough in
    omega arith

pub begin-child-requires-clause-worker : goal.begin-child-requires-clause-worker
begin-child-requires-clause-worker g c κs within =
    let i = c.loop-seat.invariant in
    let short = ap length c.in-Some.ensures.steps.0 in
    let all = ap length i.yields in
    let split = length-append c.loop-seat.yielded (into_iter_items c.loop-seat.seat-iterator) in
    let done = ap length i.seats in
    let mapped = length-map c.loop-seat.children.items seat_of in
    let most = c.requires.workers in
    let at : c.len-worker.result ≡ length c.loop-seat.children.items = search rules in
    omega arith

pub begin-child-requires-clause-puts : goal.begin-child-requires-clause-puts
begin-child-requires-clause-puts g c κs within = all_next (g.R.Rail.PutsInto c.args.shared.now.rail.now) _ _ _ _ _ c.loop-seat.invariant.yields c.in-Some.ensures.steps.0 c.requires.puts

pub begin-child-requires-clause-takes : goal.begin-child-requires-clause-takes
begin-child-requires-clause-takes g c κs within = all_next (g.R.Rail.TakesFrom c.args.shared.now.rail.now) _ _ _ _ _ c.loop-seat.invariant.yields c.in-Some.ensures.steps.0 c.requires.takes

pub begin-child-requires-clause-unused : goal.begin-child-requires-clause-unused
begin-child-requires-clause-unused g c κs within = all_next (λ s. (g.R.Rail.made s ≡ []) × (g.R.Rail.taken s ≡ [])) _ _ _ _ _ c.loop-seat.invariant.yields c.in-Some.ensures.steps.0 c.requires.unused
