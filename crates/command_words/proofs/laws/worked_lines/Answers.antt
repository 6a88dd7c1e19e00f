use Rattle.std.proofs.Common.{refl}
use Rattle.clap.proofs.OnLiterals.{clap_on_literals}
use Rattle.command_words.specs.Command.{read_line}
use Rattle.command_words.specs.Lines.{AreRight, worked_files, worked_options, worked_values, worked_words}
use Rattle.command_words.proofs.laws.worked_lines.Goals as goal

files : AreRight worked_files
unfolding clap_on_literals read_line
files = (refl, (refl, (refl, (refl, (refl, (refl, (refl, (refl, tt))))))))

pub returns-clause-files : goal.returns-clause-files
returns-clause-files c = files

options : AreRight worked_options
unfolding clap_on_literals read_line
options = (refl, (refl, (refl, (refl, (refl, (refl, (refl, (refl, (refl, (refl, (refl, (refl, (refl, (refl, tt))))))))))))))

pub returns-clause-options : goal.returns-clause-options
returns-clause-options c = options

words : AreRight worked_words
unfolding clap_on_literals read_line
words = (refl, (refl, (refl, (refl, (refl, (refl, (refl, (refl, (refl, (refl, (refl, (refl, (refl, (refl, (refl, (refl, tt))))))))))))))))

pub returns-clause-words : goal.returns-clause-words
returns-clause-words c = words

values : AreRight worked_values
unfolding clap_on_literals read_line
values = (refl, (refl, (refl, (refl, (refl, (refl, (refl, (refl, (refl, (refl, (refl, (refl, (refl, (refl, (refl, (refl, (refl, tt)))))))))))))))))

pub returns-clause-values : goal.returns-clause-values
returns-clause-values c = values
