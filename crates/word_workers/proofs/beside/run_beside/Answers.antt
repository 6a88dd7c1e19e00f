use Rattle.std.proofs.Common.{rules, ◌≡◌, ◌∷◌, ◌++◌, [], length, refl, sym, ap, subst, ◌∙◌, arith}
use Rattle.std.specs.List.{All}
use Rattle.std.proofs.lemmas.List.{length-append, length-map}
use Rattle.word_workers.specs.Child.{seat_of}
use Rattle.word_workers.specs.Parts.{FoundEnded}
use Rattle.word_workers.proofs.Finishing.{all_early, all_last, at_last}
use Rattle.word_workers.proofs.Ways.{each_with, finished_all, with_collector}
use Rattle.word_workers.proofs.beside.run_beside.Goals as goal

pub begin_all-requires-clause-puts : goal.begin_all-requires-clause-puts
begin_all-requires-clause-puts g c κs within =
    let P = g.R.Rail.PutsInto c.args.shared.now.rail.now in all_early P _ _ (subst (All P) c.in-Some.ensures.items c.requires.puts)

pub begin_all-requires-clause-takes : goal.begin_all-requires-clause-takes
begin_all-requires-clause-takes g c κs within =
    let P = g.R.Rail.TakesFrom c.args.shared.now.rail.now in all_early P _ _ (subst (All P) c.in-Some.ensures.items c.requires.takes)

pub begin_all-requires-clause-unused : goal.begin_all-requires-clause-unused
begin_all-requires-clause-unused g c κs within = all_early (λ s. (g.R.Rail.made s ≡ []) × (g.R.Rail.taken s ≡ [])) _ _ (subst (All (λ s. (g.R.Rail.made s ≡ []) × (g.R.Rail.taken s ≡ []))) c.in-Some.ensures.items c.requires.unused)

pub collect-requires-clause-takes : goal.collect-requires-clause-takes
collect-requires-clause-takes g c κs within =
    let P = g.R.Rail.TakesFrom c.args.shared.now.rail.now in all_last P _ _ (subst (All P) c.in-Some.ensures.items c.requires.takes)

pub returns-clause-run : goal.returns-clause-run
returns-clause-run g c = λ workers e.
    let begun = c.in_ok-children.ensures in
    let last = c.in_ok-batch.ensures in
    let f = finished_all g.R.Rail.made g.R.Rail.taken g.R.Rail.number_of g.R.Rail.PutsInto g.R.Rail.TakesFrom g.R.Rail.DROPS c.args.shared.now.plan.now c.args.shared.now.texts.now (g.C.Clock.ticks c.args.clock.now) c.args.shared.now.claim.now seat_of c.in_ok-children.children.items _ _ _ workers _ _ _ _ _ begun.seats c.in-Some.ensures.items e (c.in_ok-run.ensures _ _ _ _ c.requires.shared.inside begun.children) in
    let unused : (g.R.Rail.made c.in-Some.last ≡ []) × (g.R.Rail.taken c.in-Some.last ≡ []) = all_last (λ s. (g.R.Rail.made s ≡ []) × (g.R.Rail.taken s ≡ [])) _ _ (subst (All (λ s. (g.R.Rail.made s ≡ []) × (g.R.Rail.taken s ≡ []))) c.in-Some.ensures.items c.requires.unused) in
    let some = c.requires.workers.0 in
    let pushed : c.push-3.new.self.items ≡ c.in_ok-run.run'.seats.items ++ c.in_ok-batch.field-0.seat ∷ [] = search rules in
    let batches : c.push.new.self.items ≡ c.in_ok-run.run'.parts.batches.items ++ c.in_ok-batch.field-0.batch ∷ [] = search rules in
    let claims : c.push-2.new.self.items ≡ c.in_ok-run.run'.parts.claim_seats.items ++ c.in_ok-batch.field-0.claim_seat ∷ [] = search rules in
    with_collector g.R.Rail.made g.R.Rail.taken g.R.Rail.number_of g.R.Rail.PutsInto g.R.Rail.TakesFrom g.R.Rail.DROPS c.args.shared.now.plan.now c.args.shared.now.texts.now (g.C.Clock.ticks c.args.clock.now) c.args.shared.now.claim.now workers _ _ _ _ _ _ _ _ c.in_ok-batch.field-0.seat c.in_ok-batch.field-0.batch c.in_ok-batch.field-0.claim_seat _ f (omega arith)
    (record { made_none = last.made ∙ unused.0; taken_none = unused.1; gains = last.taken; drops_none = last.drops; number = last.number; puts = last.puts; takes = last.takes })
    last.claim (last.drawn ∙ c.next_claim_seat-last_claim.ensures.fresh.1) c.in-Some.ensures.items refl refl batches claims pushed

pub returns-clause-each : goal.returns-clause-each
returns-clause-each g c = λ workers e.
    let begun = c.in_ok-children.ensures in
    let f = finished_all g.R.Rail.made g.R.Rail.taken g.R.Rail.number_of g.R.Rail.PutsInto g.R.Rail.TakesFrom g.R.Rail.DROPS c.args.shared.now.plan.now c.args.shared.now.texts.now (g.C.Clock.ticks c.args.clock.now) c.args.shared.now.claim.now seat_of c.in_ok-children.children.items _ _ _ workers _ _ _ _ _ begun.seats c.in-Some.ensures.items e (c.in_ok-run.ensures _ _ _ _ c.requires.shared.inside begun.children) in
    let pushed : c.push-3.new.self.items ≡ c.in_ok-run.run'.seats.items ++ c.in_ok-batch.field-0.seat ∷ [] = search rules in
    each_with g.R.Rail.made _ _ _ _ _ _ _ _ c.in_ok-batch.field-0.seat f.own f.count refl pushed

pub returns-clause-last : goal.returns-clause-last
returns-clause-last g c = λ workers e seat.
    let begun = c.in_ok-children.ensures in
    let f = finished_all g.R.Rail.made g.R.Rail.taken g.R.Rail.number_of g.R.Rail.PutsInto g.R.Rail.TakesFrom g.R.Rail.DROPS c.args.shared.now.plan.now c.args.shared.now.texts.now (g.C.Clock.ticks c.args.clock.now) c.args.shared.now.claim.now seat_of c.in_ok-children.children.items _ _ _ workers _ _ _ _ _ begun.seats c.in-Some.ensures.items e (c.in_ok-run.ensures _ _ _ _ c.requires.shared.inside begun.children) in
    let unused : (g.R.Rail.made c.in-Some.last ≡ []) × (g.R.Rail.taken c.in-Some.last ≡ []) = all_last (λ s. (g.R.Rail.made s ≡ []) × (g.R.Rail.taken s ≡ [])) _ _ (subst (All (λ s. (g.R.Rail.made s ≡ []) × (g.R.Rail.taken s ≡ []))) c.in-Some.ensures.items c.requires.unused) in
    let pushed : c.push-3.new.self.items ≡ c.in_ok-run.run'.seats.items ++ c.in_ok-batch.field-0.seat ∷ [] = search rules in
    ap g.R.Rail.made (at_last _ _ _ seat workers pushed f.count) ∙ c.in_ok-batch.ensures.made ∙ unused.0

pub returns-clause-waited : goal.returns-clause-waited
returns-clause-waited g c = λ keeps workers e seat.
    let begun = c.in_ok-children.ensures in
    let f = finished_all g.R.Rail.made g.R.Rail.taken g.R.Rail.number_of g.R.Rail.PutsInto g.R.Rail.TakesFrom g.R.Rail.DROPS c.args.shared.now.plan.now c.args.shared.now.texts.now (g.C.Clock.ticks c.args.clock.now) c.args.shared.now.claim.now seat_of c.in_ok-children.children.items _ _ _ workers _ _ _ _ _ begun.seats c.in-Some.ensures.items e (c.in_ok-run.ensures _ _ _ _ c.requires.shared.inside begun.children) in
    let claims : c.push-2.new.self.items ≡ c.in_ok-run.run'.parts.claim_seats.items ++ c.in_ok-batch.field-0.claim_seat ∷ [] = search rules in
    let count = sym (length-map c.in_ok-run.run'.parts.claim_seats.items (λ s. s.drawn)) ∙ ap length f.parts.claimed ∙ f.run.number in
    let early : c.len-workers.result ≡ workers = (let split = ap length c.in-Some.ensures.items ∙ length-append c.pop.new.self.items (c.in-Some.last ∷ []) in omega arith) in
    subst (FoundEnded workers) (sym (at_last _ _ _ seat workers claims count)) (subst (λ n. FoundEnded n c.in_ok-batch.field-0.claim_seat) early (c.in_ok-batch.ensures.waited keeps))
