use Rattle.std.proofs.Common.{◌∷◌, [], ◌∙◌, ap, sym, subst, arith, length}
use Rattle.std.proofs.lemmas.List.FromFn.{length-map-range_with_len}
use Rattle.cursor_word.specs.Layout.{start_at, word_count}
use Rattle.shared_seats.specs.Holding.{IsHeld, all_seats}
use Rattle.shared_seats.proofs.Starts.{starts_held}
use Rattle.shared_seats.proofs.queue.SharedQueue.make.Goals as goal

pub make-requires-clause-rule : goal.make-requires-clause-rule
make-requires-clause-rule g c =
    let t = g.P.Phase.table in let holds = g.P.Phase.Holds in
    subst (λ ws. IsHeld t holds g.M.Memory.Knows c.args.shape ws (all_seats _ g.M.Memory.none c.args.shape ∷ [])) (sym c.in_ok-start.ensures) (starts_held t holds g.M.Memory.Knows g.M.Memory.none c.lasts.ensures c.keeps.ensures c.args.shape c.blocks-blocks.ensures.limits)

pub deal-requires-clause-words : goal.deal-requires-clause-words
deal-requires-clause-words g c = let e = c.in_ok-words.ensures.words.0 ∙ ap length c.in_ok-start.ensures ∙ length-map-range_with_len (start_at c.args.shape) 0 (word_count c.args.shape) in (omega arith, c.in_ok-words.ensures.words.1)

pub invariant_of-result : goal.invariant_of-result
invariant_of-result g c = (c.in_ok-words.ensures.words.1, c.in_ok-words.ensures.words.0 ∙ ap length c.in_ok-start.ensures ∙ length-map-range_with_len (start_at c.args.shape) 0 (word_count c.args.shape))
