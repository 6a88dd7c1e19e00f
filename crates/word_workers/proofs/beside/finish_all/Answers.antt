use Rattle.std.proofs.Common.{rules, ◌≡◌, ◌∷◌, ◌++◌, [], length, sym, ap, ◌∙◌, arith}
use Rattle.std.specs.Vec.Iter.{into_iter_items}
use Rattle.word_workers.proofs.Finishing.{begun_next, finishing_done, finishing_more, finishing_none}
use Rattle.word_workers.proofs.beside.finish_all.Goals as goal

pub loop-child-init : goal.loop-child-init
loop-child-init g c =
    let into = c.into_iter-child-iterator.ensures.into_iter_gives in
    let none = c.new-parts.ensures in
    record {
      len = search rules;
      finishing = λ plan texts clock claim inside are. finishing_none _ _ _ _ _ _ _ _ _ _ _ _ _ _ _ _ _ _ into.0 are none.counts none.batches none.drawn none.claim_seats (search rules);
    }

pub loop-child-preserved : goal.loop-child-preserved
loop-child-preserved g c =
    let i = c.loop-child.invariant in
    let step : into_iter_items c.loop-child.child-iterator ≡ c.in-Some.child ∷ into_iter_items c.next.new.self = c.in-Some.ensures.steps.0 in
    let short = ap length step in
    let gone = c.in-Some.ensures.steps.1 in
    let was = i.len in
    let a = c.in_ok-seat.ensures in
    let pushed : c.push.new.self.items ≡ c.loop-child.seats.items ++ c.in_ok-ended.ended.seat ∷ [] = search rules in
    record {
      len = omega arith;
      finishing = λ plan texts clock claim inside are.
          let f = i.finishing plan texts clock claim inside are in
          finishing_more _ _ _ _ _ _ _ _ _ _ _ _ _ _ _ _ _ _ _ _ _ _ _ _ _ _ inside f step (c.in_ok-ended.ensures (begun_next _ _ _ _ _ _ _ _ _ _ _ _ _ _ _ _ _ _ _ _ f step)) a.counts a.batches a.drawn a.claim_seats pushed;
    }

pub returns : goal.returns
returns g c = λ plan texts clock claim inside are.
    let i = c.loop-child.invariant in
    finishing_done _ _ _ _ _ _ _ _ _ _ _ _ _ _ _ _ _ _ (i.finishing plan texts clock claim inside are) (sym i.len ∙ c.in-None.ensures.steps.0)
