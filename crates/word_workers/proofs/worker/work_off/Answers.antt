use Rattle.std.proofs.Common.{rules, ◌≡◌, ◌<◌, ◌∷◌, [], List, ℕ, length, ap, refl, sym, subst, ◌∙◌, arith}
use Rattle.std.specs.List.{All}
use Rattle.std.proofs.lemmas.List.{length-append}
use Rattle.std.proofs.lemmas.List.Elements.{All-nil}
use Rattle.rail.specs.Batch.{Gathered}
use Rattle.rail.specs.Items.{IsRising}
use Rattle.rail.proofs.Rising.{rising_push}
use Rattle.span_recorder.proofs.Gains.{gain_none, gain_twice, longer_by_one}
use Rattle.word_workers.proofs.Numbers.{above_drawn, below_more, few_drawn}
use Rattle.word_workers.proofs.Ranges.{count_more, count_none, total_count, words_within}
use Rattle.word_workers.proofs.Works.{counting_done, counting_more, counting_none}
use Rattle.word_workers.proofs.worker.work_off.Goals as goal

pub loop-number-init : goal.loop-number-init
loop-number-init g c =
    let none : c.new-3.result ≡ [] = c.new-3.ensures in
    let len = ap (λ (t : List ℕ). length t) none in
    record {
      of = refl;
      running = c.requires.fresh.3;
      unstopped = c.requires.fresh.2;
      drawn = none ∙ sym c.requires.fresh.1;
      rising = subst IsRising (sym none) tt;
      below = subst (All (λ n. n < length c.args.shared.now.plan.now)) (sym none) (All-nil _);
      count = count_none _ _ _ _ none c.new.ensures.none;
      counting = counting_none _ _ _ _ _ _ _ _ none c.now-first.ensures.ticks c.now-first.ensures.most;
      made = omega arith;
      taken = gain_none _ _ _ (sym (ap (λ (b : Gathered). b.items) c.new-2.ensures));
      drops = λ _. refl;
      puts = λ q h. h;
      takes = λ q h. h;
      number = refl;
    }

pub loop-number-preserved : goal.loop-number-preserved
loop-number-preserved g c =
    let i = c.loop-number.invariant in
    let some = c.in-Some.ensures.drawn in
    let ok = c.in_ok-count_noted.ensures in
    let below : c.in-Some.number < length c.args.shared.now.plan.now = search rules in
    let above = above_drawn _ _ _ _ i.drawn (ap (λ s. s.drawn) some.1) c.in-Some.ensures.rising in
    let longer = longer_by_one _ _ _ ok.span.gains in
    let made = i.made in
    let len = ap (λ (t : List ℕ). length t) ok.drawn ∙ length-append c.loop-number.counting.done.drawn (c.in-Some.number ∷ []) in
    let counted = count_more _ _ _ _ _ _ _ _ _ i.count ok.counts ok.words ok.drawn in
    record {
      of = search rules;
      running = search rules;
      unstopped = search rules;
      drawn = search rules;
      rising = subst IsRising (sym ok.drawn) (rising_push _ _ i.rising above);
      below = below_more _ _ _ _ i.below below ok.drawn;
      count = counted;
      counting = counting_more _ _ _ _ _ _ _ _ _ _ _ _ _ _ i.counting ok.span counted.words_are ok.drawn;
      made = omega arith;
      taken = gain_twice _ _ _ _ _ _ i.taken c.count_noted.ensures.taken;
      drops = λ d. c.count_noted.ensures.drops d ∙ i.drops d;
      puts = λ q h. c.count_noted.ensures.puts q (i.puts q h);
      takes = λ q h. c.count_noted.ensures.takes q (i.takes q h);
      number = c.count_noted.ensures.seat_number ∙ i.number;
    }

pub loop-number-smaller : goal.loop-number-smaller
loop-number-smaller g c =
    let i = c.loop-number.invariant in
    let ok = c.in_ok-count_noted.ensures in
    let some = c.in-Some.ensures.drawn in
    let below : c.in-Some.number < length c.args.shared.now.plan.now = search rules in
    let above = above_drawn _ _ _ _ i.drawn (ap (λ s. s.drawn) some.1) c.in-Some.ensures.rising in
    let most = few_drawn _ _ (subst IsRising (sym ok.drawn) (rising_push _ _ i.rising above)) (below_more _ _ _ _ i.below below ok.drawn) in
    let len = ap (λ (t : List ℕ). length t) ok.drawn ∙ length-append c.loop-number.counting.done.drawn (c.in-Some.number ∷ []) in
    omega arith

pub count_noted-requires-clause-room : goal.count_noted-requires-clause-room
count_noted-requires-clause-room g c κs within =
    let i = c.loop-number.invariant in
    omega (arith, i.made, few_drawn _ _ i.rising i.below, c.requires.room)

pub count_noted-requires-clause-rising : goal.count_noted-requires-clause-rising
count_noted-requires-clause-rising g c κs within =
    above_drawn _ _ _ _ c.loop-number.invariant.drawn (ap (λ s. s.drawn) c.in-Some.ensures.drawn.1) c.in-Some.ensures.rising

pub count_noted-requires-clause-words : goal.count_noted-requires-clause-words
count_noted-requires-clause-words g c κs within =
    let i = c.loop-number.invariant in
    let below : c.in-Some.number < length c.args.shared.now.plan.now = search rules in
    let above = above_drawn _ _ _ _ i.drawn (ap (λ s. s.drawn) c.in-Some.ensures.drawn.1) c.in-Some.ensures.rising in
    omega (arith, c.requires.shared.words, words_within _ _ _ _ _ _ i.count i.rising i.below above below)

pub count_noted-requires-clause-before : goal.count_noted-requires-clause-before
count_noted-requires-clause-before g c κs within = total_count _ _ _ _ _ c.loop-number.invariant.count

pub note_span-requires-clause-room : goal.note_span-requires-clause-room
note_span-requires-clause-room g c κs within =
    let i = c.loop-number.invariant in
    omega (arith, i.made, few_drawn _ _ i.rising i.below, c.requires.room)

pub returns-clause-spans : goal.returns-clause-spans
returns-clause-spans g c =
    let i = c.loop-number.invariant in
    let piece = ap (λ (t : List ℕ). length t) c.numbers.ensures.numbers in
    counting_done _ _ _ _ _ _ _ _ _ _ _ _ _ _ _ i.counting c.now-last.ensures.ticks c.now-last.ensures.most c.elapsed.ensures piece i.count.words_are c.in_ok-note_span.ensures.made
