use Rattle.generated_words.proofs.GeneratedText.{counted_words, words_of_generated}
use Rattle.generated_words.proofs.laws.generated_text_has_its_words.Goals as goal

pub returns : goal.returns
returns c = record { words = words_of_generated; counts = counted_words }
