use Rattle.generated_words.proofs.GeneratedText.{pushed_more}
use Rattle.generated_words.proofs.generator.push_words.Goals as goal

pub loop-i-preserved : goal.loop-i-preserved
loop-i-preserved c = pushed_more c.args.n c.loop-i.i _ _ c.loop-i.invariant c.in_ok-push_word.ensures
