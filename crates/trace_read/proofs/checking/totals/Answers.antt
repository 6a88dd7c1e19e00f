use Rattle.std.proofs.Common.{◌≡◌, ◌∷◌, ◌++◌, [], Ok, sym, ◌∙◌, subst, List, rules}
use Rattle.std.proofs.lemmas.Map.Iter.{rest_more}
use Rattle.trace_read.specs.declared.total.Total.{Total}
use Rattle.trace_read.specs.Totals.{total_of, totals_of, totals_by_worker}
use Rattle.trace_read.proofs.Tallies.{with_later, total_made}
use Rattle.trace_read.proofs.checking.totals.Goals as goal

pub loop-tid-preserved : goal.loop-tid-preserved
loop-tid-preserved c =
    let spans = c.as_slice-spans.result.now in
    let left : c.loop-tid.tid-iterator ≡ c.in-Some.tid.now ∷ c.next.new.self = search (rules, rest_more) in
    let made : total_of c.in-Some.tid.now spans ≡ Ok c.in_ok-total.total = sym c.total_of.ensures ∙ c.in_ok-total.was in
    let items : c.push.new.self.items ≡ c.loop-tid.totals.items ++ c.in_ok-total.total ∷ [] = search rules in
    subst (λ (l : List Total). totals_by_worker spans ≡ with_later l (totals_of c.next.new.self spans)) (sym items)
    (total_made c.in-Some.tid.now c.next.new.self c.loop-tid.tid-iterator spans c.loop-tid.totals.items c.in_ok-total.total (totals_by_worker spans) left made c.loop-tid.invariant)
