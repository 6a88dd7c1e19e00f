use Rattle.std.proofs.Common.{◌≡◌, ◌∷◌, take, codes}
use Rattle.command_words.specs.Texts.{bytes_of, texts_of}
use Rattle.command_words.proofs.options.line_of.Given as goal

abbrev pub invariant-loop-word : goal.invariant-loop-word
invariant-loop-word l = texts_of l.line.items ≡ codes "bbq-profile" ∷ bytes_of (take l.word-index l.words)
