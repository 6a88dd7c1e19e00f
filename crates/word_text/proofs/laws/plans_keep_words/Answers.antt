use Rattle.word_text.proofs.Cuts.{plan_inside, words_of_plan}
use Rattle.word_text.proofs.laws.plans_keep_words.Goals as goal

pub returns : goal.returns
returns c = record { inside = plan_inside; words = words_of_plan }
