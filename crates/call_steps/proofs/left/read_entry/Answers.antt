use Rattle.std.proofs.Common.{◌∙◌, arith, ◌≡◌, ℕ, subst}
use Rattle.std.proofs.lemmas.List.{length-set}
use mathlib.Core.Option.{some}
use lib.ListN.{get_elem?}
use Rattle.cursor_word.proofs.Places.{block_of_place_to}
use Rattle.call_steps.proofs.LeftItems.{entry_done, entry_more}
use Rattle.call_steps.proofs.left.read_entry.Goals as goal

pub loop-word-preserved : goal.loop-word-preserved
loop-word-preserved c =
    let i = c.loop-word.invariant in
    let most = c.width-width.ensures.limits.width_to in
    let wide = c.width-width.ensures.value in
    let below = c.loop-word-test.true in
    let long = i.0 in (
      length-set c.loop-word.words c.loop-word.word c.word.result ∙ i.0,
      entry_more c.loop-word.words c.args.stopped.now c.args.shape.now c.at_place-at.result c.loop-word.word c.word.result (omega arith) i.1
          (subst (λ (k : ℕ). get_elem? c.args.stopped.now k ≡ some c.word.result) c.entry_word.ensures.part c.word.ensures.value),
    )

pub returns : goal.returns
returns c = let e : c.loop-word.word ≡ c.width-width.result = let a = c.loop-word.auto.word-end in let b = c.loop-word-test.false in omega arith in
    c.new.ensures ∙ entry_done c.loop-word.words c.args.stopped.now c.args.shape.now c.at_place-at.result c.args.place c.loop-word.word c.width-width.result c.at_place-at.ensures.cursor e c.width-width.ensures.value c.loop-word.invariant.1

pub at_place-at-requires : goal.at_place-at-requires
at_place-at-requires c = let to = block_of_place_to c.args.shape.now c.args.place c.width-width.ensures.limits (omega (arith, c.requires.place)) in omega arith
