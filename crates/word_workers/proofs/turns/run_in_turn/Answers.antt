use Rattle.std.proofs.Common.{[], ◌++◌, ◌+◌, ◌∙◌, ◌∷◌, ◌≡◌, List, ap, arith, length, map, refl, rules, sym, subst}
use Rattle.std.specs.Prelude.{flat_map}
use Rattle.cursor_word.specs.Cursor.{most_puts}
use Rattle.rail.specs.Items.{IsRising, places}
use Rattle.rail.specs.declared.entry.Placed.{Placed}
use Rattle.word_workers.specs.Parts.{HasRun}
use Rattle.word_workers.proofs.Joining.{claims_all, counted_more, counted_none}
use Rattle.word_workers.proofs.Numbers.{few_drawn}
use Rattle.word_workers.proofs.OneSeat.{all_one, flat_map-one, of_one}
use Rattle.word_workers.proofs.Runs.{adds_behind, batches_more, length-worked, run_more, run_none, worked_told}
use Rattle.word_workers.proofs.turns.run_in_turn.Goals as goal

pub loop-worker-init : goal.loop-worker-init
loop-worker-init g c =
    let none = c.new-parts.ensures in
    let len = ap (λ (t : List Placed). length t) c.requires.unused.0 in
    record {
      run = run_none _ _ _ _ _ none.drawn c.requires.unused.0;
      parts = counted_none _ _ _ _ _ _ none.counts none.drawn none.claim_seats;
      rising = subst (λ (t : List Placed). IsRising (places t)) (sym c.requires.unused.0) tt;
      made = omega arith;
      batches = ap (flat_map _) none.batches ∙ sym c.requires.unused.1;
      drops = λ _. refl;
      puts = λ q h. h;
      takes = λ q h. h;
      number = refl;
      left = search rules;
      fresh = c.requires.fresh;
    }

pub run_to_end-requires-clause-room : goal.run_to_end-requires-clause-room
run_to_end-requires-clause-room g c κs within =
    let most = ap most_puts c.shape.ensures.shape in
    omega (arith, c.loop-worker.invariant.made, c.most_puts-most.ensures.most, c.most_puts-most.ensures.least)

pub loop-worker-preserved : goal.loop-worker-preserved
loop-worker-preserved g c =
    let i = c.loop-worker.invariant in
    let s = c.in_ok-ended.ensures in
    let a = c.in_ok-seat.ensures in
    let worked = worked_told c.args.shared.now.plan.now c.args.shared.now.texts.now (g.C.Clock.ticks c.args.clock.now) c.loop-worker.worker (g.C.Hand.Hand.ticks c.hand-hand.result) c.in_ok-ended.ended.drawn (g.R.Rail.made c.loop-worker.seat) (g.R.Rail.made c.in_ok-ended.ended.seat) c.hand-hand.ensures s.spans in
    let adds = adds_behind c.args.shared.now.plan.now c.args.shared.now.texts.now (g.C.Clock.ticks c.args.clock.now) c.loop-worker.worker c.in_ok-ended.ended.drawn (g.R.Rail.made c.loop-worker.seat) (g.R.Rail.made c.in_ok-ended.ended.seat) worked i.rising in
    let back = a.seat in
    let made = i.made in
    let longer = length-worked _ _ _ _ _ _ _ worked in
    let few = few_drawn _ _ s.rising s.within in
    let long = ap (λ t. length (g.R.Rail.made t)) back in
    record {
      run = subst (λ t. HasRun c.args.shared.now.plan.now c.args.shared.now.texts.now (g.C.Clock.ticks c.args.clock.now) (c.loop-worker.worker + 1) c.add.new.self.drawn.items (g.R.Rail.made t)) (sym back) (run_more _ _ _ _ _ _ _ _ _ c.requires.shared.inside i.run adds s.rising s.within a.drawn);
      parts = counted_more _ _ _ _ _ _ _ _ _ _ _ _ i.parts s.counts s.claims s.claimed s.stopped a.counts a.drawn a.claim_seats;
      rising = subst (λ t. IsRising (places (g.R.Rail.made t))) (sym back) (worked.notes.rising i.rising);
      made = omega arith;
      batches = batches_more _ _ _ _ _ _ i.batches s.batch a.batches ∙ ap g.R.Rail.taken (sym back);
      drops = λ d. ap g.R.Rail.taken back ∙ s.drops_none d ∙ i.drops d;
      puts = λ q h. subst (g.R.Rail.PutsInto q) (sym back) (s.puts q (i.puts q h));
      takes = λ q h. subst (g.R.Rail.TakesFrom q) (sym back) (s.takes q (i.takes q h));
      number = ap g.R.Rail.number_of back ∙ s.number ∙ i.number;
      left = search rules;
      fresh = c.next_claim_seat-claim_seat.ensures.rest;
    }

pub returns : goal.returns
returns g c =
    let i = c.loop-worker.invariant in
    let last = c.next_claim_seat-last.ensures.fresh in
    let back : c.push-2.new.self.items ≡ c.loop-worker.seat ∷ [] = search rules in
    let claims : c.push.new.self.items ≡ c.loop-worker.parts.claim_seats.items ++ c.next_claim_seat-last.result ∷ [] = search rules in
    let done : c.loop-worker.worker ≡ c.args.workers = omega arith in
    let runs = subst (λ w. HasRun c.args.shared.now.plan.now c.args.shared.now.texts.now (g.C.Clock.ticks c.args.clock.now) w c.loop-worker.parts.drawn.items (g.R.Rail.made c.loop-worker.seat)) done i.run in
    record {
      runs = subst (HasRun c.args.shared.now.plan.now c.args.shared.now.texts.now (g.C.Clock.ticks c.args.clock.now) c.args.workers c.loop-worker.parts.drawn.items) (sym (flat_map-one g.R.Rail.made _ _ back)) runs;
      counted = i.parts.counted;
      claims = claims_all _ _ _ _ _ _ _ _ _ i.parts runs.number c.requires.workers.0 last.0 last.1 claims;
      taken_is = i.batches ∙ sym (flat_map-one g.R.Rail.taken _ _ back);
      drops_none = λ d. all_one (λ s. g.R.Rail.taken s ≡ []) _ _ back (i.drops d ∙ c.requires.unused.1);
      numbers = ap (map g.R.Rail.number_of) back ∙ ap (λ n. n ∷ []) i.number;
      puts = λ q a. all_one (g.R.Rail.PutsInto q) _ _ back (i.puts q (of_one (g.R.Rail.PutsInto q) _ _ refl a));
      takes = λ q a. all_one (g.R.Rail.TakesFrom q) _ _ back (i.takes q (of_one (g.R.Rail.TakesFrom q) _ _ refl a));
    }
