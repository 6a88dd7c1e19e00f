use Rattle.std.proofs.Common.{◌≡◌, ℕ, List, [], ◌∷◌, ◌++◌, map, length, sym, ap, ◌∙◌, append_assoc, length-append, arith, Bor}
use Rattle.std.proofs.lemmas.List.{map-append}
use Rattle.word_text.specs.Counts.{add_one, add_all, total}
use Rattle.word_text.proofs.Totals.{add_all-push, total-add_all}
use Rattle.word_text.proofs.counts.count_piece.Goals as goal

abbrev seen : List (Bor (List ℕ)) → List (List ℕ)
seen ws = map (λ w. w.now) ws

seen_push : (ws : List (Bor (List ℕ))) (w : Bor (List ℕ)) → seen (ws ++ w ∷ []) ≡ seen ws ++ w.now ∷ []
seen_push ws w = map-append (λ w. w.now) ws (w ∷ [])

pub add-requires : goal.add-requires
add-requires c =
    let inv = c.loop-word.invariant in
    let so_far = seen c.loop-word.yielded in
    omega (arith, c.requires, ap total inv.counted, total-add_all c.args.counts.now so_far, ap length inv.order, length-append so_far c.loop-word.word-iterator, ap length c.in-Some.ensures.steps)

pub loop-word-preserved : goal.loop-word-preserved
loop-word-preserved c =
    let inv = c.loop-word.invariant in
    let so_far = seen c.loop-word.yielded in
    let w = c.in-Some.word.now in
    let more = seen_push c.loop-word.yielded c.in-Some.word in
    record {
      can = tt;
      ends = tt;
      counted = c.in_ok-add.ensures.ok ∙ ap (λ n. add_one n w) inv.counted ∙ sym (add_all-push c.args.counts.now so_far w) ∙ ap (add_all c.args.counts.now) (sym more);
      order = ap (λ l. l ++ c.next.new.self) more ∙ append_assoc so_far (w ∷ []) c.next.new.self ∙ ap (λ l. so_far ++ l) (sym c.in-Some.ensures.steps) ∙ inv.order;
      count = omega (arith, inv.count, ap length more, length-append so_far (w ∷ []));
    }

pub overflow_add-count : goal.overflow_add-count
overflow_add-count c =
    let inv = c.loop-word.invariant in
    let so_far = seen c.loop-word.yielded in
    omega (arith, c.requires, inv.count, ap length inv.order, length-append so_far c.loop-word.word-iterator)
