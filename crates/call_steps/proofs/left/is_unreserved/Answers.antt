use Rattle.std.proofs.Common.{ap, arith, sym, ◌∙◌}
use Rattle.std.specs.Prelude.{◌%◌, nat_le, slice_index}
use Rattle.cursor_word.specs.Cursor.{packed}
use Rattle.cursor_word.specs.Layout.{index_of, reserved}
use Rattle.cursor_word.proofs.Places.{block_of_place_to}
use Rattle.call_steps.proofs.LeftItems.{read_some}
use Rattle.call_steps.proofs.left.is_unreserved.Goals as goal

pub at_place-at-requires : goal.at_place-at-requires
at_place-at-requires c = let to = block_of_place_to c.args.shape.now c.args.place c.blocks-blocks.ensures.limits (omega (arith, c.requires.place)) in omega arith

pub pack-requires : goal.pack-requires
pack-requires c = let p = c.at_place-at.ensures.place in let s = c.blocks-blocks.ensures.limits.size_to in record { block_fits = p.block_fits; offset_fits = omega (arith, p.in_block) }

pub returns : goal.returns
returns c =
    let g = c.args.shape.now in let ws = c.args.stopped.now in let at = c.at_place-at.result in
    ap (λ n. nat_le n c.pack.result) (sym (read_some ws c.reserved.result c.word.result c.word.ensures.value))
    ∙ (ap (λ p. nat_le (slice_index ws c.reserved.result) p) c.pack.ensures.word
    ∙ (ap (λ i. nat_le (slice_index ws i) (packed at)) c.reserved.ensures.part
    ∙ ap (λ d. nat_le (slice_index ws (index_of g (reserved (d.block % g.blocks)))) (packed d)) c.at_place-at.ensures.cursor))
