use Rattle.std.proofs.Common.{◌≡◌, ◌/◌, ◌*◌, ◌≤◌, ◌∙◌, ap, arith, length, subst, sym, List, ℕ}
use Rattle.generated_words.specs.Generated.{first_words}
use Rattle.generated_words.proofs.GeneratedText.{copied_more, small_text}
use Rattle.generated_words.proofs.generator.generate.Goals as goal

pub loop-preserved : goal.loop-preserved
loop-preserved c =
    let period = c.as_slice.ensures.value ∙ c.in_ok-push_words.ensures ∙ ap (first_words c.args.n) c.min.ensures in
    copied_more c.args.n c.loop.counter _ _ _ c.loop-test.true period c.loop.invariant c.in_ok-extend_from_slice.ensures.items

pub push_words-requires-2-clause-begun : goal.push_words-requires-2-clause-begun
push_words-requires-2-clause-begun c =
    let all : c.loop.counter * 1000 ≡ c.args.n / 1000 * 1000 = omega arith in
    c.loop.invariant ∙ ap (first_words c.args.n) all

pub returns-clause-small : goal.returns-clause-small
returns-clause-small c =
    let whole = c.from_bytes.ensures ∙ c.in_ok-push_words-2.ensures in
    subst (λ (text : List ℕ). length text ≤ 5 * c.args.n) (sym whole) (small_text c.args.n)
