use Rattle.command_words.proofs.UsesRows.{reads_uses}
use Rattle.command_words.proofs.laws.uses_in_any_order.Goals as goal

pub returns : goal.returns
returns c = reads_uses
