use Rattle.std.proofs.Common.{◌∙◌, map, sym}
use Rattle.std.proofs.lemmas.List.{length-map}
use Rattle.std.proofs.lemmas.List.FromFn.{length-range_with_len}
use Rattle.std.proofs.lemmas.List.Sorted.{length_permutation}
use Rattle.rail.specs.Outcome.{numbers_below}
use Rattle.call_steps.specs.Queue.{Seated}
use Rattle.retry_close.proofs.settled.close_into.Goals as goal

pub finish-requires-clause-all : goal.finish-requires-clause-all
finish-requires-clause-all g c = let n = c.args.queue.shape.seats in
    sym (length-map c.args.seats.items (λ (s : Seated _). s.number)) ∙ (sym (length_permutation (map (λ (s : Seated _). s.number) c.args.seats.items) (numbers_below n) c.requires.all) ∙ length-range_with_len 0 n)
