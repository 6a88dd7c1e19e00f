use Rattle.command_words.proofs.UsesRows.{reads_behind_dashes}
use Rattle.command_words.proofs.laws.words_behind_dashes.Goals as goal

pub returns : goal.returns
returns c = reads_behind_dashes
